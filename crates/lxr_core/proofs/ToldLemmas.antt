-- A mutator that tells no names shows what one shows that does, with the replies of the history: it is that one, but for the names.
use Rattle.std.proofs.Common.{◌≡◌, ℕ, suc, ◌-◌, Bool, true, false, refl, sym, ap, ◌∙◌, inl, inr, List, [], ◌∷◌, length, map}
use Rattle.std.specs.Prelude.{Option, Some, None, ◌&&◌, ◌||◌, nat_lt, slice_get, slice_index_or}
use Rattle.std.specs.List.{count_by, list_any}
use Rattle.std.specs.Option.{option_map}
use Rattle.std.proofs.lemmas.List.{length-map}
use Rattle.std.proofs.lemmas.List.Sorted.{IsPermutation-refl}
use Rattle.std.proofs.lemmas.Option.{slice_get-map}
use Rattle.lxr_layout.specs.Objects.{line_count, word_count}
use Rattle.lxr_layout.specs.declared.Place.{Place}
use Rattle.lxr_layout.specs.declared.limits.Limits.{Limits}
use Rattle.lxr_graph.specs.declared.Op.TheVariants as op
use Rattle.lxr_graph.specs.declared.Reply.{Reply}
use Rattle.lxr_graph.specs.declared.Reply.TheVariants as reply
use Rattle.lxr_graph.specs.History.{Item, replies_of}
use Rattle.lxr_model_counting.proofs.BalanceLemmas.{count_mapped}
use Rattle.lxr_mutator.specs.declared.phases.MutEnd.{MutEnd}
use Rattle.lxr_mutator.specs.declared.phases.MutEnd.TheVariants as ends
use Rattle.lxr_mutator.specs.declared.phases.MutatorPhase.{MutatorPhase}
use Rattle.lxr_mutator.specs.declared.phases.MutatorPhase.TheVariants as phase
use Rattle.lxr_mutator.specs.Mutating.{Mutating, has_collected, is_collected, is_new, last_reply, nil, op_now}
use Rattle.lxr_mutator.specs.Naming.{all_told_as, blank, blank_end, looks_up, without_names}
use Rattle.lxr_mutator.specs.Operating.{index_of, shape_made}
use Rattle.lxr_mutator.proofs.NamelessLemmas.{so_without_names}
use Rattle.lxr_mutator.proofs.NamingLemmas.{blank_again}
use Rattle.lxr_core_invariant.specs.Events.{base_of, takes_reference}
use Rattle.lxr_core_invariant.specs.ThreadStates.{AtReference, AtValue, Makes, Stage, ThreadState, Through, Works}
use Rattle.lxr_core_sim_mutator.specs.Showing.{HasTold, IsMutatorOf, IsNew, IsNewOfLine, IsSteadyIn, reason_by, stage_in, thread_state_of, told_by, told_in}

-- ---- replies without names

-- an end without a name has none to lose
blank_end_twice : (e : Option MutEnd) → blank_end (blank_end e) ≡ blank_end e
blank_end_twice (Some (ends.OpDone r)) = ap (λ z. Some (ends.OpDone z)) (blank_again r)
blank_end_twice e = refl

-- it is through for the same reason
reason_blank : (e : Option MutEnd) → reason_by (blank_end e) ≡ reason_by e
reason_blank (Some (ends.OpDone r)) = refl
reason_blank e = refl

-- and an end that isn't an operation's is what it was
blank_ended : (e : Option MutEnd) → blank_end e ≡ Some ends.Ended → e ≡ Some ends.Ended
blank_ended (Some (ends.OpDone r)) same = absurd (cc)
blank_ended e same = same

blank_waits : (e : Option MutEnd) → blank_end e ≡ Some ends.NoRun → e ≡ Some ends.NoRun
blank_waits (Some (ends.OpDone r)) same = absurd (cc)
blank_waits e same = same

-- replies that tell of new objects tell so still
blank_new : (r : Reply) → is_new (blank r) ≡ is_new r
blank_new (reply.Loaded (Some n)) = refl
blank_new (reply.Loaded None) = refl
blank_new (reply.Swapped (Some n)) = refl
blank_new (reply.Swapped None) = refl
blank_new r = refl

-- so as many do
news_blank : (rs : List Reply) → count_by is_new (map blank rs) ≡ count_by is_new rs
news_blank rs = count_mapped blank is_new rs (map blank rs) (IsPermutation-refl (map blank rs)) ∙ (λ j. count_by (λ r. blank_new r j) rs)

-- and the last tells of `collect` where it did
blank_collected : (o : Option Reply) → is_collected (option_map blank o) ≡ is_collected o
blank_collected None = refl
blank_collected (Some (reply.Loaded (Some n))) = refl
blank_collected (Some (reply.Loaded None)) = refl
blank_collected (Some (reply.Swapped (Some n))) = refl
blank_collected (Some (reply.Swapped None)) = refl
blank_collected (Some r) = refl

-- ---- what is read of replies

-- the operation whose turn it is goes by how many there are
pub now_without : (m : Mutating) → op_now (without_names m) ≡ op_now m
now_without m = ap (λ n. slice_index_or m.operations n op.End) (length-map m.replies.items blank)

-- the last one tells of `collect` alike
last_without : (m : Mutating) → is_collected (last_reply (without_names m)) ≡ is_collected (last_reply m)
last_without m =
    ap (λ n. is_collected (slice_get (map blank m.replies.items) (n - 1))) (length-map m.replies.items blank)
    ∙ ap is_collected (slice_get-map blank m.replies.items (length m.replies.items - 1))
    ∙ blank_collected (slice_get m.replies.items (length m.replies.items - 1))

-- the stage goes by the operation and the reason of the end
stage_alike : (x y : Mutating) (p : MutatorPhase) → op_now x ≡ op_now y → reason_by x.end ≡ reason_by y.end → stage_in x p ≡ stage_in y p
stage_alike x y phase.Finished now reason = ap Through reason
stage_alike x y (phase.Reference base) now reason = ap (λ o. Works (AtReference base.0 (index_of o))) now
stage_alike x y (phase.Datum base refs) now reason = ap (λ o. Works (AtValue base.0 refs (index_of o))) now
stage_alike x y (phase.Putting base refs) now reason = ap (λ o. Works (AtValue base.0 refs (index_of o))) now
stage_alike x y (phase.Adding base refs) now reason = ap (λ o. Works (AtValue base.0 refs (index_of o))) now
stage_alike x y (phase.Wiping place next) now reason = ap (λ o. Works (Makes place.0 (shape_made o) (next - 1))) now
stage_alike x y (phase.Heading place) now reason = ap (λ o. Works (Makes place.0 (shape_made o) (word_count (shape_made o) - 1))) now
stage_alike x y p now reason = refl

-- and so does what the machine keeps of the operation
module _ (x y : Mutating) (now : op_now x ≡ op_now y) (registers : x.registers ≡ y.registers) (regions : x.regions ≡ y.regions) where
  new_still : IsNew x → IsNew y
  new_still is = (is.0, is.1, sym now ∙ is.2)

  line_still : IsNewOfLine x → IsNewOfLine y
  line_still is = (new_still is.0, ap (λ o. line_count (shape_made o)) (sym now) ∙ is.1)

  pub steady_still : (p : MutatorPhase) → (y.end ≡ Some ends.Ended → x.end ≡ Some ends.Ended) → (y.end ≡ Some ends.NoRun → x.end ≡ Some ends.NoRun) → IsSteadyIn x p → IsSteadyIn y p
  steady_still phase.Ready ended waits steady = (λ e. steady.0 (ended e), λ e. new_still (steady.1 (waits e)))
  steady_still phase.Finished ended waits steady = λ e. new_still (steady (waits e))
  steady_still (phase.Base base) ended waits steady = record {
    register_of = steady.register_of;
    index = steady.index;
    named = ap base_of (sym now) ∙ steady.named;
    held = steady.held ∙ ap (λ (places : List Place). slice_index_or places steady.register_of nil) registers;
    some = steady.some;
  }
  steady_still (phase.Reference base) ended waits steady = (steady.0, steady.1, steady.2, sym now ∙ steady.3)
  steady_still (phase.Referent place) ended waits steady = ap takes_reference (sym now) ∙ steady
  steady_still (phase.Datum base refs) ended waits steady = (steady.0, steady.1, sym now ∙ steady.2)
  steady_still (phase.Putting base refs) ended waits steady = (steady.0, steady.1, steady.2, sym now ∙ steady.3)
  steady_still (phase.Adding base refs) ended waits steady = (steady.0, steady.1, steady.2, sym now ∙ steady.3)
  steady_still (phase.Storing s) ended waits steady = record {
    dest = steady.dest;
    base = steady.base;
    index = steady.index;
    source = steady.source;
    now = sym now ∙ steady.now;
    unlogged = steady.unlogged ∙ ap (λ r. r.unlogged) regions;
    place = steady.place ∙ ap (λ (places : List Place). slice_index_or places steady.base nil) registers;
    index_is = steady.index_is;
    value = steady.value ∙ ap (λ (places : List Place). slice_index_or places steady.source nil) registers;
  }
  steady_still phase.DrawsRun ended waits steady = line_still steady
  steady_still (phase.RunNumber number) ended waits steady = line_still steady
  steady_still (phase.Run number) ended waits steady = line_still steady
  steady_still phase.DrawsBlock ended waits steady = new_still steady
  steady_still (phase.BlockNumber number) ended waits steady = new_still steady
  steady_still (phase.Block number) ended waits steady = new_still steady
  steady_still (phase.Wiping place next) ended waits steady = new_still steady
  steady_still (phase.Heading place) ended waits steady = new_still steady
  steady_still phase.Asking ended waits steady = elim steady [ inl pause ↦ inl (sym now ∙ pause) | inr collect ↦ inr (sym now ∙ collect) ]
  steady_still (phase.GivingUp why) ended waits steady = tt

-- a mutator of a space is one without names, and the other way round
pub of_without : (l : Limits) (m : Mutating) → IsMutatorOf l m → IsMutatorOf l (without_names m)
of_without l m is = record {
  sound = (so_without_names m).0 is.sound;
  regions = is.regions;
  width = is.width;
  steady = steady_still m (without_names m) (sym (now_without m)) refl refl m.phase (blank_ended m.end) (blank_waits m.end) is.steady;
}

pub of_with : (l : Limits) (m : Mutating) → IsMutatorOf l (without_names m) → IsMutatorOf l m
of_with l m is = record {
  sound = (so_without_names m).1 is.sound;
  regions = is.regions;
  width = is.width;
  steady = steady_still (without_names m) m (now_without m) refl refl m.phase (ap blank_end) (ap blank_end) is.steady;
}

-- ---- as if it told names

-- it tells names, and has these replies
abbrev with_replies : Mutating → List Reply → Mutating
with_replies m rs = record m { names = true; replies = record m.replies { items = rs } }

-- as if it told names it is that
told_is : (c : Bool) (h : List Item) (m : Mutating) → m.names ≡ c → told_by c h m ≡ with_replies m (told_by c h m).replies.items
told_is true h m e = ap (λ c. record m { names = c }) e
told_is false h m e = refl

-- but for names and replies it is what it was
pub told_with : (h : List Item) (m : Mutating) → told_in h m ≡ with_replies m (told_in h m).replies.items
told_with h m = told_is m.names h m refl

pub told_names : (h : List Item) (m : Mutating) → (told_in h m).names ≡ true
told_names h m = ap (λ x. x.names) (told_with h m)

pub told_thread : (h : List Item) (m : Mutating) → (told_in h m).thread ≡ m.thread
told_thread h m = ap (λ x. x.thread) (told_with h m)

-- it has as many replies
module _ (h : List Item) (m : Mutating) (told : HasTold h m) where
  pub told_length : length (told_in h m).replies.items ≡ length m.replies.items
  told_length = by_names m.names refl
    where
      by_names : (c : Bool) → m.names ≡ c → length (told_in h m).replies.items ≡ length m.replies.items
      by_names true e = ap (λ c. length (told_by c h m).replies.items) e
      by_names false e = sym (length-map (told_in h m).replies.items blank) ∙ ap (λ (x : Mutating). length x.replies.items) (told e).alike

  -- as many of them tell of new objects
  pub told_news : count_by is_new (told_in h m).replies.items ≡ count_by is_new m.replies.items
  told_news = by_names m.names refl
    where
      by_names : (c : Bool) → m.names ≡ c → count_by is_new (told_in h m).replies.items ≡ count_by is_new m.replies.items
      by_names true e = ap (λ c. count_by is_new (told_by c h m).replies.items) e
      by_names false e = sym (news_blank (told_in h m).replies.items) ∙ ap (λ (x : Mutating). count_by is_new x.replies.items) (told e).alike

  -- and it tells of `collect` alike
  pub told_collect : has_collected (told_in h m) ≡ has_collected m
  told_collect = by_names m.names refl
    where
      by_names : (c : Bool) → m.names ≡ c → has_collected (told_in h m) ≡ has_collected m
      by_names true e = ap (λ c. has_collected (told_by c h m)) e
      by_names false e = ap (λ c. nat_lt 0 (told_in h m).since && c) (sym (last_without (told_in h m))) ∙ ap has_collected (told e).alike

-- so it is of all
pub all_told_collect : (h : List Item) (ms : List Mutating) → ((i : ℕ) (m : Mutating) → slice_get ms i ≡ Some m → HasTold h m) → list_any has_collected (map (told_in h) ms) ≡ list_any has_collected ms
all_told_collect h [] told = refl
all_told_collect h (m ∷ ms) told =
    ap (λ c. c || list_any has_collected (map (told_in h) ms)) (told_collect h m (told 0 m refl)) ∙ ap (λ c. has_collected m || c) (all_told_collect h ms (λ i x e. told (suc i) x e))

-- where its replies are the history's they are those that it has, as it tells them
pub told_as_kept : (h : List Item) (m : Mutating) → HasTold h m → replies_of m.thread h ≡ (told_in h m).replies.items → all_told_as m.names (replies_of m.thread h) ≡ m.replies.items
told_as_kept h m told same = by_names m.names refl
  where
    by_names : (c : Bool) → m.names ≡ c → all_told_as m.names (replies_of m.thread h) ≡ m.replies.items
    by_names true e = ap (λ c. all_told_as c (replies_of m.thread h)) e ∙ same ∙ ap (λ c. (told_by c h m).replies.items) e
    by_names false e = ap (λ c. all_told_as c (replies_of m.thread h)) e ∙ ap (map blank) same ∙ ap (λ (x : Mutating). x.replies.items) (told e).alike

-- and the other way round
pub kept_as_told : (h : List Item) (m : Mutating) → all_told_as m.names (replies_of m.thread h) ≡ m.replies.items → replies_of m.thread h ≡ (told_in h m).replies.items
kept_as_told h m same = by_names m.names same
  where
    by_names : (c : Bool) → all_told_as c (replies_of m.thread h) ≡ m.replies.items → replies_of m.thread h ≡ (told_by c h m).replies.items
    by_names true e = e
    by_names false e = refl

-- who tells the replies of a history so, and looks no name up, has told
pub has_told : (h : List Item) (m : Mutating) → looks_up m.phase ≡ false → all_told_as m.names (replies_of m.thread h) ≡ m.replies.items → (m.names ≡ false → blank_end m.end ≡ m.end) → HasTold h m
has_told h m looks same unnamed e =
    let told : map blank (replies_of m.thread h) ≡ m.replies.items = ap (λ c. all_told_as c (replies_of m.thread h)) (sym e) ∙ same in
    record {
      alike = ap (λ c. without_names (told_by c h m)) e
          ∙ ap (λ rs. record m { names = false; replies = record m.replies { items = rs }; end = blank_end m.end }) told
          ∙ ap (λ end. record m { names = false; end = end }) (unnamed e)
          ∙ ap (λ c. record m { names = c }) (sym e);
      looks_none_up = looks;
    }

-- and its end has no name
pub told_end : (h : List Item) (m : Mutating) → HasTold h m → m.names ≡ false → blank_end m.end ≡ m.end
told_end h m told e = ap (λ (x : Mutating). blank_end x.end) (sym (told_with h m)) ∙ ap (λ (x : Mutating). x.end) (told e).alike

-- ---- what it shows

-- what a mutator shows in a history
abbrev pub shown_in : List Item → Mutating → ThreadState
shown_in h m = thread_state_of (told_in h m)

-- which is what it shows itself, but for the replies
abbrev pub told_state : List Item → Mutating → ThreadState
told_state h m = record (thread_state_of m) { replies = (told_in h m).replies.items }

pub shown_told : (h : List Item) (m : Mutating) → HasTold h m → shown_in h m ≡ told_state h m
shown_told h m told =
    ap thread_state_of (told_with h m)
    ∙ ap (λ (stage : Stage). record (told_state h m) { stage = stage })
    (stage_alike (with_replies m (told_in h m).replies.items) m m.phase (ap (λ n. slice_index_or m.operations n op.End) (told_length h m told)) refl)

-- so it is of all
pub all_shown_told : (h : List Item) (ms : List Mutating) → ((i : ℕ) (m : Mutating) → slice_get ms i ≡ Some m → HasTold h m) → map (shown_in h) ms ≡ map (told_state h) ms
all_shown_told h [] told = refl
all_shown_told h (m ∷ ms) told = ap (λ v. v ∷ map (shown_in h) ms) (shown_told h m (told 0 m refl)) ∙ ap (λ vs. told_state h m ∷ vs) (all_shown_told h ms (λ i x e. told (suc i) x e))

-- ---- histories that go on

-- a history that has the same replies of its thread shows the same
pub told_same : (c : Bool) (h k : List Item) (m : Mutating) → replies_of m.thread k ≡ replies_of m.thread h → told_by c k m ≡ told_by c h m
told_same true h k m same = refl
told_same false h k m same = ap (with_replies m) same

pub told_still : (h k : List Item) (m : Mutating) → replies_of m.thread k ≡ replies_of m.thread h → HasTold h m → HasTold k m
told_still h k m same told e = record { alike = ap without_names (told_same m.names h k m same) ∙ (told e).alike; looks_none_up = (told e).looks_none_up }

-- ---- who tells names, without them

-- whose replies are those of a history has told them without names, and shows the same
module _ (h : List Item) (m : Mutating) (same : replies_of m.thread h ≡ m.replies.items) where
  pub untold : looks_up m.phase ≡ false → HasTold h (without_names m)
  untold looks e = record {
    alike = ap (λ rs. record m { names = false; replies = record m.replies { items = map blank rs }; end = blank_end (blank_end m.end) }) same ∙ ap (λ end. record (without_names m) { end = end }) (blank_end_twice m.end);
    looks_none_up = looks;
  }

  pub untold_shown : shown_in h (without_names m) ≡ thread_state_of m
  untold_shown =
      ap (λ rs. thread_state_of (record m { names = true; replies = record m.replies { items = rs }; end = blank_end m.end })) same
      ∙ ap (λ (stage : Stage). record (thread_state_of m) { stage = stage }) (stage_alike (record m { names = true; end = blank_end m.end }) m m.phase refl (reason_blank m.end))
