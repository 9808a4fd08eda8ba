-- What holds of a moment is what the decrements need, and what they leave.
use Rattle.std.proofs.Common.{◌≡◌, ℕ, ◌+◌, ◌*◌, ◌≤◌, refl, sym, ap, subst, ◌∙◌, inl, inr, arith, false, List, [], ◌∷◌, ◌++◌, IsTrue, length, length-append}
use Rattle.std.specs.Prelude.{not, count_by, filter, is_some, min, reverse, slice_get, sum_by}
use Rattle.std.proofs.lemmas.Bool.{false_from_ne_true}
use Rattle.std.proofs.lemmas.List.{length-reverse, reverse-append}
use Rattle.std.proofs.lemmas.List.Sums.{sum_by-cons, sum_by_push}
use Rattle.lxr_layout.specs.declared.TheConstants.{DECREMENT_COUNT, DECREMENT_CURSOR, GRANULES_IN_BLOCK, TRACING_WORD}
use Rattle.lxr_layout.specs.declared.Name.{Name}
use Rattle.lxr_layout.specs.declared.limits.Limits.{Limits}
use Rattle.lxr_base.specs.Roomy.{Roomy}
use Rattle.lxr_graph.specs.Listing.{NameList}
use Rattle.lxr_layout.specs.declared.Place.{Place}
use Rattle.lxr_graph.specs.Names.{has, without}
use Rattle.lxr_graph.specs.State.{Graph, object_at, refs_of}
use Rattle.lxr_graph.proofs.NameSets.{in_order-without, in_without, not_both, without_parts}
use Rattle.lxr_image.specs.declared.space.Space.{Space}
use Rattle.lxr_image.specs.Tables.{Tables}
use Rattle.lxr_image.specs.Spaces.{tables_of}
use Rattle.lxr_image.specs.Reads.{granule_of}
use Rattle.lxr_image.specs.Opened.{HasRoom}
use Rattle.lxr_model.specs.Dead.{Dead}
use Rattle.lxr_model.specs.Moments.{Moment}
use Rattle.lxr_model.specs.Reachable.{Refers}
use Rattle.lxr_model.specs.References.{references, references_from}
use Rattle.lxr_model.proofs.CountLemmas.{references_zero}
use Rattle.lxr_model.proofs.ReachableLemmas.{dead_apart, dead_parts}
use Rattle.lxr_model_counting.specs.Distinct.{has_field}
use Rattle.lxr_model_counting.specs.Following.{FollowsPause, IsLive}
use Rattle.lxr_model_counting.proofs.DistinctLemmas.{in_order_distinct, tested}
use Rattle.lxr_model_counting.proofs.LoweringLemmas.{without_none}
use Rattle.lxr_model_counting.proofs.DeathLemmas.{left_follows, live_not_dead}
use Rattle.lxr_invariant.specs.AbstractState.{leaving}
use Rattle.lxr_invariant.specs.Standing.{AreLogged, HasBits, IsUnwritten}
use Rattle.lxr_invariant.specs.Counting.{HasCounts, HasDecrements, IsUndecremented, count_at, entries_between, is_done, passing, undone, waiting_at}
use Rattle.lxr_invariant.specs.Lines.{HasBlocks, HasMarks}
use Rattle.lxr_invariant.specs.Quiescent.{HoldsMoment}
use Rattle.lxr_invariant.proofs.NameLemmas.{in_first}
use Rattle.lxr_invariant.proofs.EntryLemmas.{passing_few}
use Rattle.lxr_invariant.proofs.FrameLemmas.{AreAsMany, blocks_still, held_at_rest, imaged_left, none_undone, out_still, rest_left, unchosen_still}
use Rattle.lxr_invariant.proofs.UnusedLemmas.{unused_still}
use Rattle.lxr_pause_decrements.specs.Finishing.{CanFinish, Finishes, HandledAreTraced}
use Rattle.lxr_pause_decrements.specs.declared.slices.Slice.{Slice}
use Rattle.lxr_pause_decrements.specs.Slices.{CanFinishSome, Ends, FinishesSome, references_held}
use Rattle.lxr_pause_decrements.specs.SliceSteps.{IsSliced, LeavesBesideList, SlicedBy}
use Rattle.lxr_pause_decrements.specs.Cascade.{CascadeStage, Ground, IsAt, IsFinished, IsHandling, IsOpening, Leaves, drawn_count, drawn_from, kept, later, looking, with_lists}
use Rattle.lxr_pause_decrements.proofs.WipeLemmas.{loses_none, loses_same}
use Rattle.lxr_pause_decrements.proofs.GrayLemmas.{grays_end, grays_lost, grays_none, handled_first}
use Rattle.lxr_pause_decrements.proofs.CascadeLemmas.{append_nothing, has_reversed}
use Rattle.lxr_pause_decrements.proofs.HandlingLemmas.{all_handled}
use Rattle.lxr_pause_decrements.proofs.SliceLemmas.{beside, entry_waits_there}

-- ---- into the decrements

-- the stage at which the decrements begin
abbrev pub first_stage : Space → Moment → (Name → ℕ) → CascadeStage
first_stage s m at = record { moment = m; at = at; was = tables_of s; before = s.report.dead.items; gone = []; work = []; under = []; extra = λ o. 0; ungrayed = λ o. 0; unseen = λ o. 0 }

-- no reference of a dead object was stored to since the last pause
dead_unwritten : (m : Moment) (n : Name) (i : ℕ) → FollowsPause m → Dead m.last m.unreclaimed m.stuck n → has_field m.written (n, i) ≡ false
dead_unwritten m n i follows d = elim (tested (has_field m.written (n, i))) [
  | inl k ↦ absurd (dead_apart m.last m.unreclaimed m.stuck follows.kept follows.world n d (follows.written n i k).1)
  | inr k ↦ k
]

ground_of : (s : Space) (m : Moment) (at : Name → ℕ) → HoldsMoment s m at → Ground (tables_of s).heap s.limits.blocks m at
ground_of s m at is =
    let image = is.image.image in
    let follows = is.follows in
    record {
      distinct = in_order_distinct m.unreclaimed follows.unreclaimed;
      stands = λ n in_n.
          let a = image.stands n (in_first m.unreclaimed m.made n in_n) in
          let o = follows.objects n in_n in
          let last : length (refs_of (object_at m.last.graph n)) ≡ length o.0.refs = ap (λ z. length (refs_of z)) o.2 in
          let now : length o.1.refs ≡ length a.0.refs = ap (λ z. length (refs_of z)) (sym o.3 ∙ a.1) in
          (a.0, a.1, record { placed = a.2.placed; name = a.2.whole.name; shape = a.2.whole.shape; header = a.2.whole.header; fits = a.2.whole.in_heap }, last ∙ sym o.4.refs ∙ now);
      fields = λ n i r d e.
          let member = (dead_parts d).member in
          let a = image.stands n (in_first m.unreclaimed m.made n member) in
          a.2.refs i r (ap (λ z. slice_get (refs_of z) i) (sym a.1) ∙ follows.unwritten n i member (dead_unwritten m n i follows d) ∙ e);
      apart = λ x y a b in_x in_y. image.apart x y a b (in_first m.unreclaimed m.made x in_x) (in_first m.unreclaimed m.made y in_y);
      closed = follows.closed;
    }

-- what is handled may be reclaimed
pub opening : (s : Space) (m : Moment) (at : Name → ℕ) → CanFinish s m at → IsHandling s (first_stage s m at)
opening s m at can =
    let is = can.holds in
    let t : Tables = tables_of s in
    let all = without_none m.unreclaimed in
    let few = passing_few t.starts (GRANULES_IN_BLOCK * s.limits.blocks) in
    record {
      space = is.space;
      handling = record {
        remains = record {
          ground = ground_of s m at is;
          stuck = is.counts.stuck;
          below = is.counts.below;
          bits = subst (HasBits t m at) (sym all) is.bits;
          marks = subst (HasMarks t m.state.graph at) (sym all) is.marks;
          unused = is.unused.objects;
          lost_marks = loses_none t.marks at;
          tracing = is.blocks.tracing;
          decrements = is.decrements;
          once = tt;
          reported = append_nothing s.report.dead.items;
          fewer = omega arith;
          dead_room = let r = can.room in omega (arith, few, r);
        };
        exact = λ o in_o unstuck. is.counts.exact o in_o unstuck ∙ ap (λ us. references m.last (undone t at us) o + waiting_at t (at o)) (sym all);
        held = is.counts.held;
        dead = λ o h. absurd (cc);
        zero = λ o h. absurd (cc);
        done_dead = is.counts.dead;
        done_zero = is.counts.done;
        places = is.no_work;
        grays = grays_none m.trace t.grays m at;
        handled = handled_first m.trace t m at can.handled;
        between = λ o. refl;
        work_room = let r = is.room.work in omega (arith, r);
      };
    }

-- ---- out of the decrements

-- the space with other words and other names of the dead in its report
abbrev with_dead : Space → List ℕ → List Name → Space
with_dead s words dead = record s { words = words; report = record s.report { dead = record s.report.dead { items = dead } } }

room_stays : (s : Space) (words : List ℕ) (dead : List Name) → HasRoom s → HasRoom (with_dead s words dead)
room_stays s words dead is = record {
  registers = is.registers;
  deferred = is.deferred;
  logged = is.logged;
  work = is.work;
  report = record {
    promoted = is.report.promoted;
    dead = is.report.dead;
    stuck = is.report.stuck;
    swept = is.report.swept;
    told = is.report.told;
  };
}

-- which references were stored to doesn't hang on what is unreclaimed
unwritten_leaving : (m : Moment) (at : Name → ℕ) (vs us : List Name) (w : ℕ) → IsUnwritten m at us w → IsUnwritten (leaving m vs) at us w
unwritten_leaving m at vs us w (n, i, u) = (n, i, record { member = u.member; index = u.index; unwritten = u.unwritten; word = u.word })

leaving_unwritten : (m : Moment) (at : Name → ℕ) (vs us : List Name) (w : ℕ) → IsUnwritten (leaving m vs) at us w → IsUnwritten m at us w
leaving_unwritten m at vs us w (n, i, u) = (n, i, record { member = u.member; index = u.index; unwritten = u.unwritten; word = u.word })

bits_leaving : (t : Tables) (m : Moment) (at : Name → ℕ) (vs us : List Name) → HasBits t m at us → HasBits t (leaving m vs) at us
bits_leaving t m at vs us is = record {
  starts = is.starts;
  marks = is.marks;
  grays = is.grays;
  dones = is.dones;
  unlogged = λ w. (λ h. unwritten_leaving m at vs us w ((is.unlogged w).0 h), λ h. (is.unlogged w).1 (leaving_unwritten m at vs us w h));
}

-- the last stage
abbrev pub last_stage : Space → Moment → (Name → ℕ) → List Name → CascadeStage
last_stage s m at gone = later (first_stage s m at) gone [] (λ o. 0)

-- Some are gone, and the rest of the list waits, of which nothing is drawn.
pub record IsLeft (s after : Space) (m : Moment) (at : Name → ℕ) (gone : List Name) : Type 0 where
  pub opening : IsOpening after (last_stage s m at gone)
  pub drawn : (tables_of after).cursors DECREMENT_CURSOR ≡ 0

-- so it is where the decrements are finished
left_finished : (s after : Space) (m : Moment) (at : Name → ℕ) (gone : List Name) → IsFinished after (last_stage s m at gone) → IsLeft s after m at gone
left_finished s after m at gone fin = record { opening = fin.emptied.opening; drawn = fin.emptied.drawn }

pub undecremented_left : (s after : Space) (m : Moment) (at : Name → ℕ) (gone : List Name) → IsLeft s after m at gone
    → IsUndecremented (tables_of after) (leaving m (without m.unreclaimed gone)) at
undecremented_left s after m at gone left =
    let is = left.opening.stage.cascade in
    record {
      none_done = is.none_done;
      none_drawn = left.drawn;
      positive = λ n h z.
          let k = without_parts m.unreclaimed gone n h in
          elim (tested (has m.stuck n)) [
            | inl q ↦ let e = is.remains.stuck n k.0 q in omega (arith, e, z)
            | inr q ↦ not_both (has gone n) (is.seen n k.0 q (left.opening.unseen n) z) k.1
          ];
    }

-- the counts of what is left
exact_left : (s after : Space) (m : Moment) (at : Name → ℕ) (gone : List Name) → IsLeft s after m at gone → (n : Name)
    → IsTrue (has (without m.unreclaimed gone) n) → has m.stuck n ≡ false
    → count_at (tables_of after) at n ≡ references m.last (undone (tables_of after) at (without m.unreclaimed gone)) n + waiting_at (tables_of after) (at n)
exact_left s after m at gone left n h k =
    let u : Tables = tables_of after in
    let is = left.opening.stage.cascade in
    let e = is.lowered.exact n (without_parts m.unreclaimed gone n h).0 k in
    let q = ap (λ z. references m.last z n) (none_undone u at (without m.unreclaimed gone) is.none_done) in
    omega (arith, e, q)

counts_left : (s after : Space) (m : Moment) (at : Name → ℕ) (gone : List Name) → IsLeft s after m at gone → HasCounts (tables_of after) (leaving m (without m.unreclaimed gone)) at
counts_left s after m at gone left =
    let u : Tables = tables_of after in
    let is = left.opening.stage.cascade in
    let within : (n : Name) → IsTrue (has (without m.unreclaimed gone) n) → IsTrue (has m.unreclaimed n) = λ n h. (without_parts m.unreclaimed gone n h).0 in
    record {
      stuck = λ n h k. is.remains.stuck n (within n h) k;
      below = λ n h k. is.remains.below n (within n h) k;
      exact = exact_left s after m at gone left;
      held = λ n h k. held_at_rest u (leaving m (without m.unreclaimed gone)) at n (undecremented_left s after m at gone left) h (exact_left s after m at gone left n h k);
      done = λ n h k. not_both (is_done u at n) k (is.none_done (granule_of (at n)));
      dead = λ n h k. not_both (is_done u at n) k (is.none_done (granule_of (at n)));
    }

-- what waits isn't gone
waiting_left : (s after : Space) (m : Moment) (at : Name → ℕ) (gone : List Name) → IsLeft s after m at gone → HasDecrements after.limits (tables_of after) (leaving m (without m.unreclaimed gone)) at
waiting_left s after m at gone left =
    let u : Tables = tables_of after in
    let is = left.opening.stage.cascade in
    record {
      fits = is.remains.decrements.fits;
      places = λ k h.
          let x = is.remains.decrements.places k h in
          let drawn = left.drawn in
          let some = entry_waits_there u.decs (u.cursors DECREMENT_CURSOR) k (u.cursors DECREMENT_COUNT) (at x.0) (omega (arith, drawn)) h x.2 in
          let left_x : IsTrue (has gone x.0) → ⊥ = λ went.
          let parts = dead_parts (is.lowered.dead x.0 went) in
          let zero = is.lowered.zero x.0 went in
          let exact = is.lowered.exact x.0 x.1 parts.unstuck in
          omega (arith, zero, exact, some) in
          (x.0, in_without m.unreclaimed gone x.0 x.1 left_x, x.2);
    }

-- nothing but the words and the dead of the report has changed
done_space : (s after : Space) (m : Moment) (at : Name → ℕ) (gone : List Name) → HoldsMoment s m at → IsLeft s after m at gone → LeavesBesideList s after
    → after ≡ with_dead s after.words (s.report.dead.items ++ reverse gone)
done_space s after m at gone holds left leaves =
    let is = left.opening.stage.cascade in
    let items : after.work.items ≡ s.work.items = is.work ∙ sym holds.no_work in
    let work : after.work ≡ s.work = λ i. record { items = items i; room = leaves.work_room i } in
    let dead : after.report.dead ≡ record s.report.dead { items = s.report.dead.items ++ reverse gone } = λ i. record { items = is.remains.reported i; room = leaves.dead_room i; listed = leaves.dead_listed i } in
    leaves.rest ∙ ap {A = Roomy Place} (λ w. with_lists s after.words w after.report.dead) work ∙ ap {A = NameList} (λ d. with_lists s after.words s.work d) dead

pub holds_left : (s after : Space) (m : Moment) (at : Name → ℕ) (gone : List Name) → HoldsMoment s m at → IsLeft s after m at gone → FollowsPause (leaving m (without m.unreclaimed gone)) → LeavesBesideList s after
    → HoldsMoment after (leaving m (without m.unreclaimed gone)) at
holds_left s after m at gone b left follows leaves =
    let is = left.opening.stage.cascade in
    let stay = leaves.tables in
    let vs : List Name = without m.unreclaimed gone in
    let t : Tables = tables_of s in
    let u : Tables = tables_of after in
    let same = done_space s after m at gone b left leaves in
    let limits : after.limits ≡ s.limits = ap (λ z. z.limits) same in
    let within : (n : Name) → IsTrue (has vs n) → IsTrue (has m.unreclaimed n) = λ n h. (without_parts m.unreclaimed gone n h).0 in
    let logged : after.logged ≡ s.logged = ap (λ z. z.logged) same in
    record {
      space = left.opening.stage.space;
      room = subst HasRoom (sym same) (room_stays s after.words (s.report.dead.items ++ reverse gone) b.room);
      as_many = subst AreAsMany (sym same) b.as_many;
      follows = follows;
      image = imaged_left s after m at vs within stay.keeps.heap limits (ap (λ z. z.registers) same) (ap (λ z. z.deferred) same) b.image;
      bits = bits_leaving u m at vs vs is.remains.bits;
      logs = subst (λ l. AreLogged m at l.items) (sym logged) b.logs;
      few_logs = let f = b.few_logs in let l = ap (λ z. length z.items) logged in subst (λ z. length after.logged.items ≤ z.threads * z.log) (sym limits) (omega (arith, f, l));
      counts = counts_left s after m at gone left;
      decrements = waiting_left s after m at gone left;
      marks = is.remains.marks;
      lines = out_still t u m.state.graph at m.made stay.outs b.lines;
      unchosen = unchosen_still t u at m.made stay.states b.unchosen;
      unused = unused_still t u at m.unreclaimed vs stay.states stay.outs within b.unused;
      blocks = subst (λ l. HasBlocks u l m.trace) (sym limits) (blocks_still t u s.limits m.trace stay.states (stay.keeps.cursors TRACING_WORD (λ e. omega arith) (λ e. omega arith)) b.blocks);
      rest = rest_left s after m at vs within (ap (λ z. z.rest_next) same) (ap (λ z. z.rest_end) same) limits stay.outs stay.states b.rest;
      no_work = is.work;
    }

-- the order of the names that are taken out is nothing to what is left
without_reversed : (us gone : List Name) → without us gone ≡ without us (reverse gone)
without_reversed us gone =
    let same : (λ (n : Name). not (has gone n)) ≡ λ n. not (has (reverse gone) n) = λ i n. not (sym (has_reversed gone n) i) in
    ap (λ f. filter f us) same

-- each reclaimed object took its start bit with it
fewer_left : (s after : Space) (m : Moment) (at : Name → ℕ) (gone : List Name) → IsLeft s after m at gone → LeavesBesideList s after
    → length (reverse gone) + passing (tables_of after).starts (GRANULES_IN_BLOCK * s.limits.blocks) ≡ passing (tables_of s).starts (GRANULES_IN_BLOCK * s.limits.blocks)
fewer_left s after m at gone left leaves =
    let limits : after.limits ≡ s.limits = ap (λ z. z.limits) leaves.rest in
    let all : ℕ → Limits → ℕ = λ n l. n + passing (tables_of after).starts (GRANULES_IN_BLOCK * l.blocks) in
    subst (λ n. all n s.limits ≡ passing (tables_of s).starts (GRANULES_IN_BLOCK * s.limits.blocks)) (sym (length-reverse gone))
    (subst (λ l. all (length gone) l ≡ passing (tables_of s).starts (GRANULES_IN_BLOCK * l.blocks)) limits left.opening.stage.cascade.remains.fewer)

pub finishes : (s after : Space) (m : Moment) (at : Name → ℕ) (gone : List Name) → CanFinish s m at → IsFinished after (last_stage s m at gone) → Leaves s after → Finishes s after m at (reverse gone)
finishes s after m at gone can fin leaves =
    let same = without_reversed m.unreclaimed gone in
    let left = left_finished s after m at gone fin in
    let besides = beside s after leaves in
    let holds = holds_left s after m at gone can.holds left (left_follows m gone can.holds.follows fin.gone) besides in
    record {
      dead = λ n. let e = has_reversed gone n in (λ h. (fin.gone n).0 (sym e ∙ h), λ d. e ∙ (fin.gone n).1 d);
      once = fin.emptied.opening.stage.cascade.remains.once;
      holds = subst (λ z. HoldsMoment after (leaving m z) at) same holds;
      undecremented = subst (λ z. IsUndecremented (tables_of after) (leaving m z) at) same (undecremented_left s after m at gone left);
      empty = fin.emptied.waiting;
      fewer = fewer_left s after m at gone left besides;
      keeps = leaves.tables.keeps;
      marks = loses_same (tables_of s).marks (tables_of after).marks at gone (reverse gone) (has_reversed gone) fin.emptied.opening.stage.cascade.remains.lost_marks;
      grays = grays_end m.trace (tables_of s).grays (tables_of after).grays m at gone (reverse gone) [] (λ o. 0) (has_reversed gone) same refl (λ o. refl) fin.gone fin.emptied.opening.stage.cascade.grays;
      decs = leaves.tables.decs;
      states = leaves.tables.states;
      outs = leaves.tables.outs;
      space = done_space s after m at gone can.holds left besides;
    }

-- ---- some of the decrements

-- they may also be finished
pub can_finish : (s : Space) (m : Moment) (at : Name → ℕ) → CanFinishSome s m at → CanFinish s m at
can_finish s m at can = record { holds = can.holds; handled = subst (HandledAreTraced (tables_of s) m at) (sym can.untraced) tt; room = can.room }

-- where no decrementer has worked and no trace runs, all that is left to be done is to lower what waits in the list
pub sliced_opening : (s : Space) (m : Moment) (at : Name → ℕ) → CanFinishSome s m at → IsSliced s (first_stage s m at)
sliced_opening s m at can =
    let none = can.undecremented.none_done in
    let st : CascadeStage = first_stage s m at in
    let seeks = all_handled s st (opening s m at (can_finish s m at can)) none in
    let first : drawn_count (tables_of s) ≡ 0 = ap (λ k. min k ((tables_of s).cursors DECREMENT_COUNT)) can.undecremented.none_drawn ∙ omega arith in
    let none_seen : (o : Name) → references_from m.last.graph (reverse []) o + drawn_from (tables_of s) 0 (at o) ≡ 0 =
    λ o. let e = ap (λ k. entries_between (tables_of s).decs 0 k (at o)) first in omega (arith, e) in
    let unseen : (λ (o : Name). references_from m.last.graph (reverse []) o + drawn_from (tables_of s) 0 (at o)) ≡ λ o. 0 = λ i o. none_seen o i in
    record {
      opening = record {
        stage = subst (λ f. IsAt s (looking st f)) unseen seeks.stage;
        work = refl;
        under = refl;
        between = λ o. refl;
        extra = λ o. refl;
        unseen = λ o. refl;
      };
      drawn = can.undecremented.none_drawn;
      untraced = can.untraced;
    }

-- What is left referred to nothing that is gone: nothing that is gone has a count.
some_closed : (s after : Space) (m : Moment) (at : Name → ℕ) (gone : List Name) → FollowsPause m → IsLeft s after m at gone
    → (u n : Name) → IsTrue (has (without m.unreclaimed gone) u) → Refers m.last.graph u n → IsTrue (has (without m.unreclaimed gone) n)
some_closed s after m at gone follows left u n h refers =
    let lowered = left.opening.stage.cascade.lowered in
    let in_n = follows.closed u n (without_parts m.unreclaimed gone u h).0 refers in
    in_without m.unreclaimed gone n in_n (λ went.
    let exact = lowered.exact n in_n (dead_parts (lowered.dead n went)).unstuck in
    let zero = lowered.zero n went in
    (references_zero m.last (without m.unreclaimed gone) n (omega (arith, exact, zero))).1 u h refers)

-- where some of the dead go, the rest follows the last pause as all did
some_follow : (s after : Space) (m : Moment) (at : Name → ℕ) (gone : List Name) → FollowsPause m → IsLeft s after m at gone → FollowsPause (leaving m (without m.unreclaimed gone))
some_follow s after m at gone follows left =
    let dead : (n : Name) → IsTrue (has gone n) → Dead m.last m.unreclaimed m.stuck n = left.opening.stage.cascade.lowered.dead in
    let within : (n : Name) → IsTrue (has (without m.unreclaimed gone) n) → IsTrue (has m.unreclaimed n) = λ n h. (without_parts m.unreclaimed gone n h).0 in
    let stays : (n : Name) → IsLive m n → IsTrue (has m.unreclaimed n) → IsTrue (has (without m.unreclaimed gone) n) =
    λ n live h. in_without m.unreclaimed gone n h (λ went. live_not_dead m follows n live (dead n went)) in
    record {
      unreclaimed = in_order-without m.unreclaimed gone follows.unreclaimed;
      made = follows.made;
      apart = λ n h. false_from_ne_true (has (without m.unreclaimed gone) n) (λ k. not_both (has m.unreclaimed n) (within n k) (follows.apart n h));
      kept = λ n r. stays n (inl r) (follows.kept n r);
      closed = some_closed s after m at gone follows left;
      world = follows.world;
      stuck = λ n h. in_without m.unreclaimed gone n (follows.stuck n h) (λ k. not_both (has m.stuck n) h (dead_parts (dead n k)).unstuck);
      held = follows.held;
      referred = follows.referred;
      grows = follows.grows;
      objects = λ n h. follows.objects n (within n h);
      young = follows.young;
      unreached = λ n h. follows.unreached n (within n h);
      unwritten = λ n i h. follows.unwritten n i (within n h);
      written_once = follows.written_once;
      written = λ n i h. let w = follows.written n i h in (stays n (inl w.1) w.0, w.1, w.2);
      rows = follows.rows;
      registers = follows.registers;
      registers_were = follows.registers_were;
    }

-- the order of names is nothing to how many references their objects hold
held_reversed : (g : Graph) (ns : List Name) → references_held g (reverse ns) ≡ references_held g ns
held_reversed g [] = refl
held_reversed g (n ∷ ns) =
    let count : Name → ℕ = λ x. count_by is_some (refs_of (object_at g x)) in
    let last = ap (sum_by count) (reverse-append (n ∷ []) ns) in
    let more = sum_by_push count (reverse ns) n in
    let first = sum_by-cons count n ns in
    let rest = held_reversed g ns in
    omega (arith, last, more, first, rest)

-- how a slice ends, told of its stage
abbrev pub StageEnds : Slice → Space → CascadeStage → ℕ → ℕ → Type 0
StageEnds slice s st units lowered = Ends slice s (leaving st.moment (kept st)) st.at units lowered

pub finishes_some : (s after : Space) (m : Moment) (at : Name → ℕ) (units : ℕ) (slice : Slice) (gone : List Name) (lowered : ℕ) → CanFinishSome s m at
    → SlicedBy s after (first_stage s m at) gone lowered → LeavesBesideList s after → lowered ≤ units → StageEnds slice after (last_stage s m at gone) units lowered
    → FinishesSome s after m at units slice (reverse gone)
finishes_some s after m at units slice gone lowered can sliced leaves few ends =
    let same = without_reversed m.unreclaimed gone in
    let left : IsLeft s after m at gone = record { opening = sliced.sliced.opening; drawn = sliced.sliced.drawn } in
    let is = left.opening.stage.cascade in
    let holds = holds_left s after m at gone can.holds left (some_follow s after m at gone can.holds.follows left) leaves in
    record {
      dead = λ n h. is.lowered.dead n (sym (has_reversed gone n) ∙ h);
      once = is.remains.once;
      holds = subst (λ z. HoldsMoment after (leaving m z) at) same holds;
      undecremented = subst (λ z. IsUndecremented (tables_of after) (leaving m z) at) same (undecremented_left s after m at gone left);
      lowers = (
        lowered,
        record {
          few = few;
          waiting = let e = sliced.waiting in let k = held_reversed m.last.graph gone in omega (arith, e, k);
          entries = sliced.entries;
          ends = subst (λ z. Ends slice after (leaving m z) at units lowered) same ends;
        },
      );
      fewer = fewer_left s after m at gone left leaves;
      keeps = leaves.tables.keeps;
      marks = loses_same (tables_of s).marks (tables_of after).marks at gone (reverse gone) (has_reversed gone) is.remains.lost_marks;
      grays = loses_same (tables_of s).grays (tables_of after).grays at gone (reverse gone) (has_reversed gone) (grays_lost m.trace (tables_of s).grays (tables_of after).grays m at gone [] (λ o. 0) can.untraced is.grays);
      states = leaves.tables.states;
      outs = leaves.tables.outs;
      space = done_space s after m at gone can.holds left leaves;
    }

-- after a slice the next one may be done
pub can_go_on : (s after : Space) (m : Moment) (at : Name → ℕ) (units : ℕ) (slice : Slice) (gone : List Name) → CanFinishSome s m at → FinishesSome s after m at units slice gone
    → CanFinishSome after (leaving m (without m.unreclaimed gone)) at
can_go_on s after m at units slice gone can done =
    let before = can.room in
    let fewer = done.fewer in
    let long = ap (λ z. length z.report.dead.items) done.space ∙ length-append s.report.dead.items gone in
    let room = ap (λ z. z.report.dead.room) done.space in
    let limits = ap (λ z. z.limits) done.space in
    record {
      holds = done.holds;
      undecremented = done.undecremented;
      untraced = can.untraced;
      room = subst (λ l. length after.report.dead.items + passing (tables_of after).starts (GRANULES_IN_BLOCK * l.blocks) ≤ after.report.dead.room) (sym limits) (omega (arith, before, fewer, long, room));
    }
