-- A pause that the actors of an epoch want is wanted in the core's sense: a mutator that asked for one in the epoch has set the pause word.
use Rattle.std.proofs.Common.{◌≡◌, ◌≢◌, ℕ, suc, ◌+◌, ◌-◌, ◌<◌, refl, sym, ap, ◌∙◌, inl, inr, arith, Bool, true, false, List, [], ◌∷◌, ◌++◌, length, nat_eq, nat_lt, take}
use Rattle.std.specs.Prelude.{Option, Some, None, IsTrue, ◌||◌, ◌&&◌, ◌⊎◌, if◌then◌else◌, slice_get, option_map}
use Rattle.std.proofs.lemmas.Bool.{ltb-true}
use Rattle.std.proofs.lemmas.List.{take_all}
use Rattle.std.proofs.lemmas.Option.{slice_get_within, slice_get-map}
use Rattle.lxr_layout.specs.declared.TheConstants.{PAUSE_WORD}
use Rattle.lxr_layout.specs.declared.Name.{Name}
use Rattle.lxr_graph.specs.declared.Op.{Op}
use Rattle.lxr_graph.specs.declared.Op.TheVariants as op
use Rattle.lxr_graph.specs.declared.Reply.{Reply}
use Rattle.lxr_graph.specs.History.{Call, Item, replies_of}
use Rattle.lxr_graph.specs.State.{State, object_at, refs_of, values_of, register_at}
use Rattle.lxr_graph.specs.Step.{add_to, added, get_from, got, load_from, loaded, put_at, put_to, step, store_to, stored, swap_in, swapped}
use Rattle.lxr_image.specs.declared.space.Space.{Space}
use Rattle.lxr_image.specs.Tables.{Tables}
use Rattle.lxr_model.specs.Belongs.{asks_for_pause, calls_since_pause, has_asked}
use Rattle.lxr_model.specs.Moments.{moment}
use Rattle.lxr_mutator.proofs.AgendaLemmas.{last_at}
use Rattle.lxr_mutator.specs.declared.phases.MutEnd.{MutEnd}
use Rattle.lxr_mutator.specs.declared.phases.MutEnd.TheVariants as ends
use Rattle.lxr_mutator.specs.declared.phases.MutatorPhase.{MutatorPhase}
use Rattle.lxr_mutator.specs.declared.phases.MutatorPhase.TheVariants as phase
use Rattle.lxr_mutator.specs.Mutating.{Mutating, is_asked_pause, last_reply, rests_in, wants_pause}
use Rattle.lxr_mutator.specs.Mutators.{IsThrough}
use Rattle.lxr_mutator.proofs.NamingLemmas.{ends_told, told_asked}
use Rattle.lxr_core_invariant.specs.ThreadStates.{Stage, ThreadState, Rests, Through}
use Rattle.lxr_core_invariant.specs.EpochStates.{Beginning, EpochState, Extends, called, limits_of, same}
use Rattle.lxr_core_invariant.specs.Called.{AreReplies}
use Rattle.lxr_core_invariant.specs.Epoch.{IsEpoch, IsResting}
use Rattle.lxr_core_sim_mutator.specs.Showing.{HasTold, stage_in}
use Rattle.lxr_core.specs.declared.actors.AnyActor.{AnyActor}
use Rattle.lxr_core.specs.declared.actors.AnyActor.TheVariants as any
use Rattle.lxr_core.specs.Actors.{mutators_in}
use Rattle.lxr_core.specs.Closing as closing
use Rattle.lxr_core.specs.Closing.{MayClose}
use Rattle.lxr_core.specs.Executions.{Execution, epoch_state_of}
use Rattle.lxr_core.proofs.ClosingLemmas.{IsEnd, is_end}
use Rattle.lxr_core.proofs.CollectingLemmas.{take_one_more}
use Rattle.lxr_core.proofs.OrderLemmas.{mutator_at, mutator_from}
use Rattle.lxr_core.proofs.ToldLemmas.{told_as_kept, told_state}
use Rattle.lxr_stations.specs.Wanting.{HasAsked, IsHeldUp, IsPauseWanted}

-- ---- replies

-- only a `pause` or a `collect` is replied to as one is
module _ (s : State) (t : ℕ) where
  loads_other : (dest i : ℕ) (v : Option Name) → is_asked_pause (Some (load_from s t dest i v).1) ≡ false
  loads_other dest i None = refl
  loads_other dest i (Some n) = by_found (slice_get (refs_of (object_at s.graph n)) i)
    where
      by_found : (o : Option (Option Name)) → is_asked_pause (Some (loaded s t dest o).1) ≡ false
      by_found None = refl
      by_found (Some v) = refl

  stores_other : (i : ℕ) (v b : Option Name) → is_asked_pause (Some (store_to s i v b).1) ≡ false
  stores_other i v None = refl
  stores_other i v (Some n) = by_found (slice_get (refs_of (object_at s.graph n)) i)
    where
      by_found : (o : Option (Option Name)) → is_asked_pause (Some (stored s n i v o).1) ≡ false
      by_found None = refl
      by_found (Some old) = refl

  puts_other : (i v : ℕ) (b : Option Name) → is_asked_pause (Some (put_to s i v b).1) ≡ false
  puts_other i v None = refl
  puts_other i v (Some n) = by_found (slice_get (values_of (object_at s.graph n)) i)
    where
      by_found : (o : Option ℕ) → is_asked_pause (Some (put_at s n i v o).1) ≡ false
      by_found None = refl
      by_found (Some old) = refl

  gets_other : (i : ℕ) (b : Option Name) → is_asked_pause (Some (get_from s i b).1) ≡ false
  gets_other i None = refl
  gets_other i (Some n) = by_found (slice_get (values_of (object_at s.graph n)) i)
    where
      by_found : (o : Option ℕ) → is_asked_pause (Some (got o)) ≡ false
      by_found None = refl
      by_found (Some v) = refl

  swaps_other : (dest i : ℕ) (v b : Option Name) → is_asked_pause (Some (swap_in s t dest i v b).1) ≡ false
  swaps_other dest i v None = refl
  swaps_other dest i v (Some n) = by_found (slice_get (refs_of (object_at s.graph n)) i)
    where
      by_found : (o : Option (Option Name)) → is_asked_pause (Some (swapped s t dest n i v o).1) ≡ false
      by_found None = refl
      by_found (Some old) = refl

  adds_other : (i v : ℕ) (b : Option Name) → is_asked_pause (Some (add_to s i v b).1) ≡ false
  adds_other i v None = refl
  adds_other i v (Some n) = by_found (slice_get (values_of (object_at s.graph n)) i)
    where
      by_found : (o : Option ℕ) → is_asked_pause (Some (added s n i v o).1) ≡ false
      by_found None = refl
      by_found (Some old) = refl

  replied_so : (o : Op) → is_asked_pause (Some (step s t o).1) ≡ asks_for_pause o
  replied_so (op.Load dest base index) = loads_other dest index (register_at s t base)
  replied_so (op.Store base index source) = stores_other index (register_at s t source) (register_at s t base)
  replied_so (op.Put base index value) = puts_other index value (register_at s t base)
  replied_so (op.Get base index) = gets_other index (register_at s t base)
  replied_so (op.Swap dest base index source) = swaps_other dest index (register_at s t source) (register_at s t base)
  replied_so (op.Add base index value) = adds_other index value (register_at s t base)
  replied_so o = refl

-- ---- histories

-- one last item
same_last : {X : Type 0} (xs ys : List X) (x y : X) → xs ++ x ∷ [] ≡ ys ++ y ∷ [] → Some x ≡ Some y
same_last xs ys x y e = sym (last_at (xs ++ x ∷ []) xs x refl) ∙ last_at (xs ++ x ∷ []) ys y e

-- what stands at the last index is behind the others
behind_others : {X : Type 0} (all : List X) (x : X) → slice_get all (length all - 1) ≡ Some x → all ≡ take (length all - 1) all ++ x ∷ []
behind_others all x there =
    let inside = slice_get_within all (length all - 1) x there in
    sym (take_all (length all - 1 + 1) all (omega (arith, inside))) ∙ take_one_more all (length all - 1) x there

-- where the last reply of a thread is that of a `pause` or a `collect`, and came since a shorter history, the thread has asked
asked_since : (threads every t : ℕ) (first h : List Item) (rs : List Reply) (r : Reply) → Extends threads every first h → calls_since_pause t first < calls_since_pause t h → replies_of t h ≡ rs ++ r ∷ [] → is_asked_pause (Some r) ≡ true
    → IsTrue (has_asked t h)
asked_since threads every t first h rs r (same) later last asks = absurd (omega (arith, later))
asked_since threads every t first h rs r (called k u o q before is) later last asks = by_thread (nat_eq t u) refl (λ less ends. asked_since threads every t first k rs r before less ends asks)
  where
    or_right : (a c : Bool) → c ≡ true → (a || c) ≡ true
    or_right true c holds = refl
    or_right false c holds = holds

    by_thread : (c : Bool) → nat_eq t u ≡ c → (calls_since_pause t first < calls_since_pause t k → replies_of t k ≡ rs ++ r ∷ [] → IsTrue (has_asked t k)) → IsTrue (has_asked t (Call u o q ∷ k))
    by_thread true e rest =
        let own : replies_of t (Call u o q ∷ k) ≡ replies_of t k ++ q ∷ [] = ap (λ c. if c then (replies_of t k ++ q ∷ []) else replies_of t k) e in
        let reply_is : Some q ≡ Some r = same_last (replies_of t k) rs q r (sym own ∙ last) in
        let asked : asks_for_pause o ≡ true = sym (replied_so (moment threads k).state u o) ∙ ap (λ z. is_asked_pause (Some z)) is.reply ∙ ap is_asked_pause reply_is ∙ asks in
        ap (λ c. (c && asks_for_pause o) || has_asked t k) e ∙ ap (λ c. c || has_asked t k) asked
    by_thread false e rest =
        let as_many : calls_since_pause t (Call u o q ∷ k) ≡ calls_since_pause t k = ap (λ c. if c then suc (calls_since_pause t k) else calls_since_pause t k) e in
        let stay : replies_of t (Call u o q ∷ k) ≡ replies_of t k = ap (λ c. if c then (replies_of t k ++ q ∷ []) else replies_of t k) e in
        or_right (nat_eq t u && asks_for_pause o) (has_asked t k) (rest (omega (arith, as_many, later)) (sym stay ∙ last))

-- ---- mutators

-- two tests together
tell_both : (a c : Bool) → (a && c) ≡ true → (a ≡ true) × (c ≡ true)
tell_both true true e = (refl, refl)
tell_both true false e = absurd (cc)
tell_both false true e = absurd (cc)
tell_both false false e = absurd (cc)

-- there is such a reply
the_reply : (o : Option Reply) → is_asked_pause o ≡ true → (r : Reply) × (o ≡ Some r) × (is_asked_pause (Some r) ≡ true)
the_reply None e = absurd (cc)
the_reply (Some r) e = (r, refl, e)

-- the stage of a mutator that rests
stage_rests : (m : Mutating) (p : MutatorPhase) → rests_in p ≡ true → IsResting (stage_in m p)
stage_rests m phase.Ready rests = tt
stage_rests m phase.Finished rests = tt
stage_rests m p rests = absurd (cc)

-- then its replies are those of the history
replies_told : (b : Beginning) (s : EpochState) (v : ThreadState) (stage : Stage) → IsResting stage → AreReplies b s v stage → replies_of v.thread s.history ≡ v.replies
replies_told b s v Rests rests told = told
replies_told b s v (Through why) rests told = told
replies_told b s v stage rests told = absurd rests

-- a mutator that asked in the epoch has set the pause word
word_set : (b : Beginning) (s : EpochState) (i : ℕ) (m : Mutating) → IsEpoch b s → HasTold s.history m → slice_get s.thread_states i ≡ Some (told_state s.history m) → rests_in m.phase ≡ true → IsTrue (wants_pause m) → s.tables.cursors PAUSE_WORD ≡ 1
word_set b s i m is told shown rests wants =
    let v = told_state s.history m in
    let has = is.called.each i v shown in
    let (since, last) = tell_both (nat_lt 0 m.since) (is_asked_pause (last_reply m)) wants in
    let (r, there, asks) = the_reply (last_reply m) last in
    let some = ltb-true 0 m.since since in
    let counted = has.counted in
    let kept = told_as_kept s.history m told (replies_told b s v v.stage (stage_rests m m.phase rests) has.replies) in
    let last_one = ends_told m.names (replies_of m.thread s.history) (take (length m.replies.items - 1) m.replies.items) r (kept ∙ behind_others m.replies.items r there) in
    has.asked
    (asked_since (limits_of b).threads b.every m.thread b.history s.history last_one.front last_one.last is.extends (omega (arith, some, counted)) last_one.is
    (sym (told_asked m.names last_one.last) ∙ ap (λ q. is_asked_pause (Some q)) last_one.told ∙ asks))

-- it can be told whether it has ended
finished_or_not : (p : MutatorPhase) → rests_in p ≡ true → (p ≡ phase.Finished) ⊎ (p ≢ phase.Finished)
finished_or_not phase.Finished rests = inl refl
finished_or_not phase.Ready rests = inr (λ e. cc)
finished_or_not p rests = absurd (cc)

ended_or_not : (e : Option MutEnd) → (e ≡ Some ends.Ended) ⊎ (e ≢ Some ends.Ended)
ended_or_not (Some ends.Ended) = inl refl
ended_or_not (Some ends.NoRun) = inr (λ e. cc)
ended_or_not (Some ends.LogFull) = inr (λ e. cc)
ended_or_not (Some ends.Asked) = inr (λ e. cc)
ended_or_not (Some ends.Turns) = inr (λ e. cc)
ended_or_not (Some (ends.OpDone r)) = inr (λ e. cc)
ended_or_not None = inr (λ e. cc)

ended_surely : (m : Mutating) → rests_in m.phase ≡ true → ¬ ¬ IsThrough m → IsThrough m
ended_surely m rests surely = elim (finished_or_not m.phase rests) [
  | inr working ↦ absurd (surely (λ through. working through.0))
  | inl finished ↦ elim (ended_or_not m.end) [ inl ended ↦ (finished, ended) | inr not_yet ↦ absurd (surely (λ through. not_yet through.1)) ]
]

-- ---- the pause

-- where one actor wants a pause, it is wanted
module _ (b : Beginning) (execution : Execution) (space : Space) (actors : List AnyActor) (may : MayClose b execution space actors) where
  end : IsEnd b (epoch_state_of b execution may.holds.0) space actors
  end = is_end b execution may.holds.0 space actors may may.holds.1

  wanted_by : (i : ℕ) (a : AnyActor) → slice_get actors i ≡ Some a → IsHeldUp a ⊎ HasAsked a → closing.IsPauseWanted space (mutators_in actors)
  wanted_by i (any.Mutator m) at (inl held) = inr (inl (i, m, mutator_at actors i m end.order at, held))
  wanted_by i (any.Mutator m) at (inr asked) =
      let there = mutator_at actors i m end.order at in
      let s = epoch_state_of b execution may.holds.0 in
      let told = end.told i m there in
      let shown : slice_get s.thread_states i ≡ Some (told_state s.history m) =
      ap (λ z. slice_get z i) end.thread_states ∙ slice_get-map (told_state s.history) (mutators_in actors) i ∙ ap (option_map (told_state s.history)) there in
      inl (ap (λ (t : Tables). t.cursors PAUSE_WORD) end.tables ∙ word_set b s i m end.epoch told shown (may.resting i (any.Mutator m) at) asked)
  wanted_by i (any.Decrementer d) at (inl held) = absurd held
  wanted_by i (any.Decrementer d) at (inr asked) = absurd asked
  wanted_by i (any.Tracer d) at (inl held) = absurd held
  wanted_by i (any.Tracer d) at (inr asked) = absurd asked

  pub wanted_is : IsPauseWanted actors → closing.IsPauseWanted space (mutators_in actors)
  wanted_is (inl (i, a, at, wants)) = wanted_by i a at wants
  wanted_is (inr ended) = inr (inr (λ i m there.
      let at = mutator_from actors i m end.order there in
      ended_surely m (may.resting i (any.Mutator m) at) (ended i (any.Mutator m) at)))
