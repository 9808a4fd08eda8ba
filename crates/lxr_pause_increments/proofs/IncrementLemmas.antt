-- A name that is known is raised: all that holds at a stage holds at the next one.
use Rattle.std.proofs.Common.{◌≡◌, ℕ, ◌+◌, ◌*◌, ◌<◌, ◌≤◌, refl, sym, ap, subst, ◌∙◌, inl, inr, arith, true, false, length}
use Rattle.std.specs.Prelude.{◌&&◌, not, IsTrue, map, min, reverse}
use Rattle.lxr_layout.specs.declared.Name.{Name}
use Rattle.lxr_layout.specs.declared.TheConstants.{DECREMENT_COUNT, DECREMENT_CURSOR, REGISTERS, REMEMBERED_CURSOR, STUCK, TRACING_WORD}
use Rattle.lxr_tables.specs.Counts.{raised_count}
use Rattle.lxr_graph.specs.Names.{has, same_name}
use Rattle.lxr_graph.proofs.NameSets.{same_names}
use Rattle.lxr_image.specs.declared.space.Space.{Space}
use Rattle.lxr_image.specs.Spaces.{tables_of}
use Rattle.lxr_image.specs.Reads.{granule_of}
use Rattle.lxr_blocks.specs.States.{KeepsState}
use Rattle.lxr_model.specs.Moments.{Moment}
use Rattle.lxr_model_counting.specs.Distinct.{IsDistinct}
use Rattle.lxr_model_counting.specs.Lowering.{once}
use Rattle.lxr_model_counting.specs.Raising.{IsGrowth}
use Rattle.lxr_model_counting.proofs.DistinctLemmas.{tested}
use Rattle.lxr_model_counting.proofs.LoweringLemmas.{once_other}
use Rattle.lxr_invariant.specs.AbstractState.{members}
use Rattle.lxr_invariant.specs.Standing.{AreLogged, HasBits, place_of}
use Rattle.lxr_invariant.specs.Counting.{count_at}
use Rattle.lxr_invariant.specs.Lines.{HasBlocks, HasMarks}
use Rattle.lxr_invariant.specs.Raised.{with_promoted}
use Rattle.lxr_invariant.proofs.BlockLemmas.{blocks_kept}
use Rattle.lxr_invariant.proofs.EntryLemmas.{changed_cases, changed_here, changed_other}
use Rattle.lxr_remset.specs.Remembering.{CanRemember}
use Rattle.lxr_pause_promote.proofs.FewerLemmas.{states_same}
use Rattle.lxr_pause_increments.specs.Increments.{HasCountsSoFar, HasRoomToRaise, IsIncrementing, RaisingLeaves, RaisingLeavesTables, IncrementStage, StaysRemembered, is_unpromoted, count_so_far, first_stage}
use Rattle.lxr_pause_increments.specs.Moving.{IsMoving}
use Rattle.lxr_pause_increments.specs.Promotion.{RaisesAt, stuck_with, with_raised}
use Rattle.lxr_pause_increments.proofs.TracedLemmas.{marks_same}
use Rattle.lxr_pause_increments.proofs.RangeLemmas.{raised_some}
use Rattle.lxr_pause_increments.proofs.FrameLemmas.{leaves_spread, room_stays, same_limits, space_stays}
use Rattle.lxr_pause_increments.proofs.MarkLemmas.{marks_raised}
use Rattle.lxr_pause_increments.proofs.BitLemmas.{bits_raised}
use Rattle.lxr_pause_increments.proofs.RaiseLemmas.{RaisesOnce, counts_then}
use Rattle.lxr_pause_increments.proofs.MovingLemmas.{differ_now, known_member, mark_apart_now, place_some}
use Rattle.lxr_pause_increments.proofs.FixedLemmas.{LeavesMoving, moving_left}
use Rattle.lxr_pause_increments.proofs.RememberedLemmas.{LeavesSet, stays_both, stays_left}
use Rattle.lxr_pause_increments.proofs.RoomLemmas.{granules, room_raised}
use Rattle.lxr_pause_increments.proofs.StageLemmas.{again_here, again_other, all_made, known_promoted, raised_again, stuck_known}

-- ---- what one count raised leaves as it was

pub raised_leaves : (a b : Space) (p : ℕ) (o : Name) → RaisesAt a b p o → RaisingLeaves a b
raised_leaves a b p o raised =
    leaves_spread a b b.words a.registers.items a.work.items a.report.promoted.items (stuck_with a.report.stuck.items ((tables_of a).counts (granule_of p)) o) a.rest_next a.rest_end raised.rest
    (subst (RaisingLeavesTables (tables_of a)) (sym raised.tables) unwritten)
  where
    unwritten : RaisingLeavesTables (tables_of a) (with_raised (tables_of a) (granule_of p))
    unwritten = record { runs = refl; frees = refl; cursors = λ k other. refl; starts = λ k h. h; marks = marks_same (tables_of a); grays = refl; decs = refl }

pub raised_still : (a b : Space) (p : ℕ) (o : Name) → RaisesAt a b p o → LeavesMoving a b
raised_still a b p o raised = record {
  limits = ap (λ s. s.limits) raised.rest;
  heap = ap (λ t. t.heap) raised.tables;
  outs = ap (λ t. t.outs) raised.tables;
  reuse = ap (λ t. t.reuse) raised.tables;
  states = ap (λ t. t.states) raised.tables;
  counts = λ k some none. elim (changed_cases (tables_of a).counts (granule_of p) (raised_count ((tables_of a).counts (granule_of p))) k) [
    | inl q ↦ raised_some ((tables_of a).counts (granule_of p)) (sym q.1 ∙ sym (ap (λ t. t.counts k) raised.tables) ∙ none)
    | inr q ↦ some (sym q.1 ∙ sym (ap (λ t. t.counts k) raised.tables) ∙ none)
  ];
  registers = ap (λ s. s.registers.items) raised.rest;
  deferred = ap (λ s. s.deferred.items) raised.rest;
  rest = (ap (λ s. s.rest_next) raised.rest, ap (λ s. s.rest_end) raised.rest);
}

pub raised_set : (a b : Space) (p : ℕ) (o : Name) → RaisesAt a b p o → LeavesSet a b
raised_set a b p o raised = record { limits = ap (λ s. s.limits) raised.rest; remembered = ap (λ t. t.remembered) raised.tables; cursor = ap (λ t. t.cursors REMEMBERED_CURSOR) raised.tables }

-- ---- all parts together

-- what a step leaves of the tables
pub record LeavesBlocks (a c : Space) : Type 0 where
  pub size : (tables_of c).size ≡ (tables_of a).size
  pub dones : (tables_of c).dones ≡ (tables_of a).dones
  pub states : (b : ℕ) → KeepsState (tables_of a) (tables_of c) b
  pub registers : length c.registers.items ≡ length a.registers.items

-- what is to be shown anew at the next stage
pub record RaisedOnce (c : Space) (m : Moment) (at : Name → ℕ) (st : IncrementStage) : Type 0 where
  pub moving : IsMoving c st.found m at st.now st.promoted
  pub growth : IsGrowth m.state m.unreclaimed m.made st.promoted
  pub once_promoted : IsDistinct st.promoted
  pub work_promoted : (n : Name) → IsTrue (has st.work n) → IsTrue (has st.promoted n)
  pub once_work : IsDistinct st.work
  pub bits : HasBits (tables_of c) m st.now (with_promoted m st.promoted)
  pub marks : HasMarks (tables_of c) m.state.graph st.now (with_promoted m st.promoted)
  pub counts : HasCountsSoFar c m st
  pub reported : c.report.promoted.items ≡ reverse st.promoted
  pub worklist : c.work.items ≡ map (place_of st.now) st.work
  pub lists : HasRoomToRaise c

pub incrementing_with : (a c : Space) (m : Moment) (at : Name → ℕ) (st after : IncrementStage) → RaisingLeaves a c → LeavesBlocks a c → StaysRemembered a c m st after → after.found ≡ st.found → IsIncrementing a m at st
    → RaisedOnce c m at after → IsIncrementing c m at after
incrementing_with a c m at st after leaves still stays found is raises = record {
  space = space_stays a c leaves still.size is.space;
  room = room_stays a c leaves is.room;
  as_many = (
    still.registers ∙ is.as_many.0 ∙ ap (λ l. REGISTERS * l.threads) (sym (same_limits a c leaves)),
    ap (λ (s : Space). length s.deferred.items) leaves.space ∙ is.as_many.1 ∙ ap (λ l. REGISTERS * l.threads) (sym (same_limits a c leaves)),
  );
  follows = is.follows;
  moving = raises.moving;
  growth = raises.growth;
  once_promoted = raises.once_promoted;
  work_promoted = raises.work_promoted;
  once_work = raises.once_work;
  bits = raises.bits;
  marks = raises.marks;
  counts = raises.counts;
  logs = subst (λ (s : Space). AreLogged m at s.logged.items) (sym leaves.space) is.logs;
  few_logs = subst (λ (s : Space). length s.logged.items ≤ s.limits.threads * s.limits.log) (sym leaves.space) is.few_logs;
  none_done = λ k. ap (λ f. f k) still.dones ∙ is.none_done k;
  blocks = subst (λ z. HasBlocks (tables_of c) z m.trace) (sym (same_limits a c leaves))
      (blocks_kept (tables_of a) (tables_of c) a.limits m.trace still.states (leaves.tables.cursors TRACING_WORD (λ e. omega (arith, e))) is.blocks);
  decrements = (leaves.tables.cursors DECREMENT_CURSOR (λ e. omega (arith, e)) ∙ is.decrements.0, leaves.tables.cursors DECREMENT_COUNT (λ e. omega (arith, e)) ∙ is.decrements.1);
  might_remember = subst (λ s. CanRemember m.trace (tables_of s)) (sym found) is.might_remember;
  remembered = subst (λ s. StaysRemembered s c m (first_stage at s) after) (sym found) (stays_both st.found a c m (first_stage at st.found) st after is.remembered stays);
  reported = raises.reported;
  worklist = raises.worklist;
  lists = raises.lists;
}

-- ---- a name that is known

pub again_stays : (a b : Space) (m : Moment) (st : IncrementStage) (o : Name) (p : ℕ) → RaisesAt a b p o → StaysRemembered a b m st (raised_again st o)
again_stays a b m st o p raised =
    stays_left a b m st (raised_again st o) (record { promoted = refl; now = refl }) (raised_set a b p o raised) (ap (λ t. t.reuse) raised.tables) (ap (λ t. t.states) raised.tables)

pub saturates : (n r q : ℕ) → n ≡ min r STUCK → q ≡ r + 1 → raised_count n ≡ min q STUCK
saturates n r q e f = omega arith

pub unraised_other : (m : Moment) (st : IncrementStage) (o n : Name) → ((n : Name) → IsTrue (has m.made n) → has st.promoted n ≡ false → st.added n ≡ 0) → IsTrue (has m.made n) → has st.promoted n ≡ false
    → same_name n o ≡ false → once n o + st.added n ≡ 0
unraised_other m st o n unraised made unpromoted ne = λ i. once_other n o ne i + unraised n made unpromoted i

module _ (a b : Space) (m : Moment) (at : Name → ℕ) (st : IncrementStage) (o : Name) (is : IsIncrementing a m at st) (known : IsTrue (has (with_promoted m st.promoted) o)) (raised : RaisesAt a b (st.now o) o) where
  within_members : (n : Name) → IsTrue (has (with_promoted m st.promoted) n) → IsTrue (has (members m) n)
  within_members = known_member m st.promoted (all_made a m at st is)

  again_once : RaisesOnce a b m st (raised_again st o) o (count_at (tables_of a) st.now o)
  again_once = record {
    member = known;
    joined = λ n ne. refl;
    known = λ e. known;
    count_was = λ h. refl;
    raised = ap (λ z. count_at z st.now o) raised.tables ∙ changed_here (tables_of a).counts (granule_of (st.now o)) (raised_count (count_at (tables_of a) st.now o)) (granule_of (st.now o)) refl;
    others = λ n in_n ne.
        ap (λ z. count_at z st.now n) raised.tables
        ∙ changed_other (tables_of a).counts (granule_of (st.now o)) (raised_count (count_at (tables_of a) st.now o)) (granule_of (st.now n))
        (differ_now a st.found m at st.now st.promoted is.moving n o (within_members n in_n) (within_members o known) ne);
    count_here = λ unstuck. saturates (count_at (tables_of a) st.now o) (count_so_far m st o) (count_so_far m (raised_again st o) o) (is.counts.exact o known unstuck) (again_here m st o);
    count_elsewhere = again_other m st o;
    unraised = λ n made unpromoted. elim (tested (same_name n o)) [
      | inl k ↦
          let known_n : IsTrue (has (with_promoted m st.promoted) n) = subst (λ z. IsTrue (has (with_promoted m st.promoted) z)) (sym (same_names n o k)) known in
          let no = known_promoted m st n is.follows known_n in
          let yes : is_unpromoted m st n ≡ true = (λ i. made i && not (unpromoted i)) in
          absurd (cc)
      | inr k ↦ unraised_other m st o n is.counts.unraised made unpromoted k
    ];
    names = ap (λ s. s.report.stuck.items) raised.rest;
  }

  known_granule : granule_of (st.now o) < granules a
  known_granule = (place_some a st.found m at st.now st.promoted is.moving o (st.now o) (within_members o known) (inr refl)).1

  again_is_raised : RaisedOnce b m at (raised_again st o)
  again_is_raised = record {
    moving = moving_left a b st.found m at st.now st.promoted (raised_still a b (st.now o) o raised) is.moving;
    growth = is.growth;
    once_promoted = is.once_promoted;
    work_promoted = is.work_promoted;
    once_work = is.once_work;
    bits = subst (λ z. HasBits z m st.now (with_promoted m st.promoted)) (sym raised.tables) (bits_raised (tables_of a) m st.now (with_promoted m st.promoted) (granule_of (st.now o)) is.bits);
    marks = subst (λ z. HasMarks z m.state.graph st.now (with_promoted m st.promoted)) (sym raised.tables)
        (marks_raised (tables_of a) st.now m.state.graph (with_promoted m st.promoted) o
        (λ n b k in_n has_b mark. mark_apart_now a st.found m at st.now st.promoted is.moving n o b k (within_members n in_n) (within_members o known) has_b mark) known is.marks);
    counts = counts_then a b m st (raised_again st o) o (count_at (tables_of a) st.now o) is.counts again_once (stuck_known m st.promoted is.follows);
    reported = ap (λ s. s.report.promoted.items) raised.rest ∙ is.reported;
    worklist = ap (λ s. s.work.items) raised.rest ∙ is.worklist;
    lists = room_raised a b (st.now o) o raised known_granule is.lists;
  }

  -- it is raised
  pub again_raised : IsIncrementing b m at (raised_again st o)
  again_raised = incrementing_with a b m at st (raised_again st o) (raised_leaves a b (st.now o) o raised) still (again_stays a b m st o (st.now o) raised) refl is again_is_raised
    where
      still : LeavesBlocks a b
      still = record {
        size = ap (λ t. t.size) raised.tables;
        dones = ap (λ t. t.dones) raised.tables;
        states = λ k. states_same (tables_of a) (tables_of b) k (ap (λ t. t.states) raised.tables);
        registers = ap (λ s. length s.registers.items) raised.rest;
      }
