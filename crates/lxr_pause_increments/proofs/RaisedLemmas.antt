-- The first stage of the increments, and what holds after the last.
use Rattle.std.proofs.Common.{◌≡◌, ℕ, zero, suc, ◌+◌, ◌/◌, ◌<◌, ◌≤◌, refl, sym, ap, subst, ◌∙◌, inl, inr, arith, true, false, cond, List, [], ◌∷◌, IsTrue, length}
use Rattle.std.specs.Prelude.{◌⊎◌, Some, None, count_by, map, take}
use Rattle.std.specs.List.Sorted.{IsPermutation}
use Rattle.std.proofs.Math.ListN.{length-map}
use Rattle.std.proofs.lemmas.Bool.{cases_lt}
use Rattle.std.proofs.lemmas.Bool.Decides.{eqb_tells}
use Rattle.std.proofs.lemmas.List.Sorted.{IsPermutation-reverse, sum_by-IsPermutation}
use Rattle.std.proofs.lemmas.Option.{get_or_from_slice_get, slice_get_within}
use Rattle.lxr_layout.specs.declared.limits.Limits.{Limits}
use Rattle.lxr_layout.specs.declared.Name.{Name}
use Rattle.lxr_layout.specs.declared.TheConstants.{DECREMENT_COUNT, DECREMENT_CURSOR, GRANULES_IN_BLOCK, GRANULES_IN_LINE, LINES_IN_BLOCK, REMEMBERED_CURSOR, STUCK, TRACING_WORD, WORDS_IN_LINE}
use Rattle.lxr_layout.specs.Runs.{word_of_entry}
use Rattle.lxr_graph.specs.Names.{has, without}
use Rattle.lxr_graph.specs.State.{Object, object_at, refs_of, world_name}
use Rattle.lxr_graph.proofs.NameSets.{has-union, not_both, union_cases, union_right}
use Rattle.lxr_image.specs.declared.space.Space.{Space}
use Rattle.lxr_image.specs.Tables.{Tables, tables_in}
use Rattle.lxr_image.specs.Reads.{granule_of}
use Rattle.lxr_image.specs.Spaces.{Turns, tables_of}
use Rattle.lxr_blocks.specs.declared.states.BlockState.TheVariants.{Chosen, Free}
use Rattle.lxr_blocks.specs.States.{KeepsState, state_in, state_of}
use Rattle.lxr_model.specs.References.{reference_slots, references, references_from}
use Rattle.lxr_model.specs.Moments.{Moment}
use Rattle.lxr_model.specs.Reports.{field_holds, newly_held}
use Rattle.lxr_model_counting.specs.Distinct.{IsDistinct, has_field}
use Rattle.lxr_model_counting.specs.Raising.{IsGrown}
use Rattle.lxr_model_counting.proofs.BalanceLemmas.{has_permuted, references_permuted}
use Rattle.lxr_model_counting.proofs.DistinctLemmas.{distinct_permuted, or_false, union_same}
use Rattle.lxr_model_counting.proofs.LoweringLemmas.{without_none}
use Rattle.lxr_model_counting.proofs.RaisingLemmas.{growth_is_promoted}
use Rattle.lxr_invariant.specs.Standing.{HasBits, place_of, word_of_field}
use Rattle.lxr_invariant.specs.Counting.{count_at, entries_between, undone, waiting_at}
use Rattle.lxr_invariant.specs.Copied.{CopiesLieOnFreeLines, CopiesPromoted, StayForWantOfLines}
use Rattle.lxr_invariant.specs.Keeping.{KeepsLists}
use Rattle.lxr_invariant.specs.Lines.{AvoidChosen, Covers, FreeAreUnused, HasMarks}
use Rattle.lxr_invariant.specs.Raised.{AreRaised, CountsAreRaised, IsRaised, count_found, count_raised, with_promoted}
use Rattle.lxr_invariant.specs.Tracing.{HasOverflowed, IsInChosen, IsRemembered}
use Rattle.lxr_invariant.proofs.BlockLemmas.{still_not}
use Rattle.lxr_invariant.proofs.EntryLemmas.{changed_cases}
use Rattle.lxr_invariant.proofs.FrameLemmas.{blocks_still, image_still, marks_still, none_undone}
use Rattle.lxr_invariant.proofs.NameLemmas.{in_second}
use Rattle.lxr_invariant.proofs.UnusedLemmas.{out_used}
use Rattle.lxr_remset.specs.Remembering.{AreEntries, EntersOnce, HasEntryOf, Remembers, with_remembered_of}
use Rattle.lxr_remset.proofs.OnceLemmas.{entered_alike, entered_as}
use Rattle.lxr_pause_promote.proofs.FewerLemmas.{states_same}
use Rattle.lxr_pause_increments.specs.Increments.{IsIncrementing, RaisingLeaves, IncrementStage, count_so_far, first_stage}
use Rattle.lxr_pause_increments.specs.Accounted.{HasRaisedRoots, IsFieldRaised, IsSettled, none_raised, references_at, roots_raise}
use Rattle.lxr_pause_increments.specs.Raising.{CanRaise, Raises, RaisesGrays, RaisesMarks}
use Rattle.lxr_pause_increments.specs.Traced.{with_old_grays}
use Rattle.lxr_pause_increments.proofs.TracedLemmas.{old_grays_from, only_old_grays}
use Rattle.lxr_pause_increments.proofs.BitLemmas.{bits_grayed}
use Rattle.lxr_pause_increments.proofs.SnapshotLemmas.{grays_raise, marks_raise, old_value_starts}
use Rattle.lxr_pause_increments.proofs.GrownLemmas.{grown}
use Rattle.lxr_pause_increments.proofs.EndsLemmas.{AllFixed, copies_end, deferred_end, image_ends, logs_end, moving_begins, onto_ends, registers_end, stay_ends}
use Rattle.lxr_pause_increments.proofs.MovingLemmas.{AreMade, unreclaimed_still}
use Rattle.lxr_pause_increments.proofs.RememberedLemmas.{overflowed_on, remembered_on, stays_none}
use Rattle.lxr_pause_increments.proofs.StageLemmas.{all_made}
use Rattle.lxr_blocks.specs.ClearingAll.{AreUnsetInFree}
use Rattle.lxr_blocks.specs.declared.clearing_all.Bits.TheVariants.{Outs}

-- ---- the first stage

-- a count is the references, where nothing is done and nothing waits
count_begins : (s : Space) (m : Moment) (at : Name → ℕ) (n : Name) → CanRaise s m at → IsTrue (has m.unreclaimed n) → has m.stuck n ≡ false
    → (count_at (tables_of s) at n ≡ references m.last m.unreclaimed n) × (count_at (tables_of s) at n < STUCK)
count_begins s m at n can member unstuck =
    let exact = can.holds.counts.exact n member unstuck in
    let all : references m.last (undone (tables_of s) at m.unreclaimed) n ≡ references m.last m.unreclaimed n = ap (λ us. references m.last us n) (none_undone (tables_of s) at m.unreclaimed can.undecremented.none_done) in
    let none : waiting_at (tables_of s) (at n) ≡ 0 = ap (λ k. entries_between (tables_of s).decs ((tables_of s).cursors DECREMENT_CURSOR) k (at n)) can.empty in
    (omega (arith, exact, all, none), can.holds.counts.below n member unstuck)

pub begun : (s : Space) (m : Moment) (at : Name → ℕ) → CanRaise s m at → IsSettled s m at (first_stage at s) none_raised
begun s m at can = record {
  accounted = record {
    incrementing = record {
      space = can.holds.space;
      room = can.holds.room;
      as_many = can.holds.as_many;
      follows = can.holds.follows;
      moving = moving_begins s m at can.holds can.undecremented;
      growth = tt;
      once_promoted = tt;
      work_promoted = λ n h. h;
      once_work = tt;
      bits = can.holds.bits;
      marks = can.holds.marks;
      counts = record {
        stuck = λ n h. can.holds.counts.stuck n (can.holds.follows.stuck n h) h;
        exact = λ n h unstuck. let k = count_begins s m at n can h unstuck in omega (arith, k.0, k.1);
        positive = can.undecremented.positive;
        unraised = λ n h e. refl;
        reported = λ n. (
          λ h. not_both (has s.report.stuck.items n) h (ap (λ ns. has ns n) can.none_stuck),
          λ full. let k = count_begins s m at n can full.member full.unstuck in let r = full.reaches in absurd (omega (arith, k.0, k.1, r)),
        );
        reported_once = subst IsDistinct (sym can.none_stuck) tt;
      };
      logs = can.holds.logs;
      few_logs = can.holds.few_logs;
      none_done = can.undecremented.none_done;
      blocks = can.holds.blocks;
      decrements = (can.undecremented.none_drawn, can.empty);
      might_remember = can.remembers;
      remembered = stays_none s m (first_stage at s);
      reported = can.none_promoted;
      worklist = can.holds.no_work;
      lists = record {
        promoted = let k = ap length can.none_promoted in omega (arith, k);
        work = let k = ap length can.holds.no_work in omega (arith, k);
        stuck = let k = ap length can.none_stuck in omega (arith, k);
      };
    };
    accounts = λ o. refl;
    few = record { cursor = omega arith; within = omega arith };
    entered = record { entered = []; are = tt; drawn = omega arith };
    raised = λ u i h. absurd (cc);
  };
  no_work = refl;
}

-- ---- the last stage

all_taken : {X : Type 0} (xs : List X) (n : ℕ) → n ≡ length xs → take n xs ≡ xs
all_taken [] zero e = refl
all_taken [] (suc n) e = absurd (omega arith)
all_taken (x ∷ xs) zero e = absurd (omega arith)
all_taken (x ∷ xs) (suc n) e = ap (λ z. x ∷ z) (all_taken xs n (omega arith))

-- all are raised as often as a pause says
sum_raised : (s : Space) (m : Moment) (at : Name → ℕ) (st : IncrementStage) → IsSettled s m at st (roots_raise m (length s.registers.items)) → (o : Name)
    → st.added o ≡ count_by (field_holds m.state.graph o) m.written + newly_held m.last.registers m.state.registers o + references_from m.state.graph st.promoted o
sum_raised s m at st is o =
    let incrementing = is.accounted.incrementing in
    let sum = is.accounted.accounts o in
    let now : length s.registers.items ≡ length m.state.registers = incrementing.moving.registers.as_many in
    let before : length s.registers.items ≡ length m.last.registers = let a = incrementing.as_many.0 in let b = incrementing.as_many.1 in let c = sym (length-map s.deferred.items (λ p. p.0)) ∙ ap length incrementing.moving.deferred ∙ length-map m.last.registers _ in omega (arith, a, b, c) in
    let registers : newly_held (take (length s.registers.items) m.last.registers) (take (length s.registers.items) m.state.registers) o ≡ newly_held m.last.registers m.state.registers o =
    ap (λ z. newly_held z (take (length s.registers.items) m.state.registers) o) (all_taken m.last.registers (length s.registers.items) before)
    ∙ ap (λ z. newly_held m.last.registers z o) (all_taken m.state.registers (length s.registers.items) now) in
    let promoted : references_from m.state.graph (without st.promoted st.work) o ≡ references_from m.state.graph st.promoted o =
    ap (λ z. references_from m.state.graph (without st.promoted z) o) is.no_work ∙ ap (λ z. references_from m.state.graph z o) (without_none st.promoted) in
    omega (arith, sum, registers, promoted)

-- what the report has, against the stage
pub record IsLast (m : Moment) (st : IncrementStage) (promoted : List Name) : Type 0 where
  pub same : (n : Name) → has promoted n ≡ has st.promoted n
  pub once : IsDistinct promoted
  pub all : with_promoted m promoted ≡ with_promoted m st.promoted
  pub counted : (n : Name) → count_raised m promoted n ≡ count_so_far m st n
  pub grown : IsGrown m.state m.unreclaimed m.made st.promoted

last_stage : (s : Space) (m : Moment) (at : Name → ℕ) (st : IncrementStage) → IsSettled s m at st (roots_raise m (length s.registers.items)) → IsLast m st s.report.promoted.items
last_stage s m at st is =
    let incrementing = is.accounted.incrementing in
    let order : IsPermutation st.promoted s.report.promoted.items = subst (IsPermutation st.promoted) (sym incrementing.reported) (IsPermutation-reverse st.promoted) in
    let same : (n : Name) → has s.report.promoted.items n ≡ has st.promoted n = λ n. sym (has_permuted st.promoted s.report.promoted.items n order) in
    record {
      same = same;
      once = distinct_permuted st.promoted s.report.promoted.items order incrementing.once_promoted;
      all = union_same s.report.promoted.items st.promoted m.unreclaimed incrementing.follows.unreclaimed same;
      counted = λ n.
          let sum = sum_raised s m at st is n in
          let found : count_found m s.report.promoted.items n ≡ count_found m st.promoted n = ap (λ b. cond b 0 (references m.last m.unreclaimed n)) (same n) in
          let promoted = references_permuted m.state.graph st.promoted s.report.promoted.items n order in
          omega (arith, sum, found, promoted);
      grown = grown m st incrementing.follows (sum_raised s m at st is) incrementing.counts.unraised;
    }

are_raised : (s : Space) (m : Moment) (at : Name → ℕ) (st : IncrementStage) → IsIncrementing s m at st → IsLast m st s.report.promoted.items → AreRaised m s.report.promoted.items s.report.stuck.items
are_raised s m at st incrementing last = record {
  promoted_are = λ n.
      let law = growth_is_promoted m.state m.unreclaimed m.made st.promoted incrementing.growth last.grown n in
      (λ h. law.0 (sym (last.same n) ∙ h), λ p. last.same n ∙ law.1 p);
  promoted_once = last.once;
  stuck_are = λ n. (
    λ h. let full = (incrementing.counts.reported n).0 h in record {
      member = ap (λ ns. has ns n) last.all ∙ full.member;
      unstuck = full.unstuck;
      reaches = let a = full.reaches in let b = last.counted n in omega (arith, a, b);
    },
    λ stuck. (incrementing.counts.reported n).1 (record {
      member = sym (ap (λ ns. has ns n) last.all) ∙ stuck.member;
      unstuck = stuck.unstuck;
      reaches = let a = stuck.reaches in let b = last.counted n in omega (arith, a, b);
    }),
  );
  stuck_once = incrementing.counts.reported_once;
}

counts_raised : (s : Space) (t : Tables) (m : Moment) (at : Name → ℕ) (st : IncrementStage) → t.counts ≡ (tables_of s).counts → IsIncrementing s m at st → IsLast m st s.report.promoted.items
    → CountsAreRaised t m st.now s.report.promoted.items s.report.stuck.items
counts_raised s t m at st e incrementing last = record {
  full = λ n member stuck. same n ∙ elim (union_cases s.report.stuck.items m.stuck n stuck) [
    | inl h ↦ let full = (incrementing.counts.reported n).0 h in let c = incrementing.counts.exact n full.member full.unstuck in let r = full.reaches in omega (arith, c, r)
    | inr h ↦ incrementing.counts.stuck n h
  ];
  exact = λ n member unstuck.
      let parts = or_false (has s.report.stuck.items n) (has m.stuck n) (sym (has-union s.report.stuck.items m.stuck n) ∙ unstuck) in
      let in_stage : IsTrue (has (with_promoted m st.promoted) n) = sym (ap (λ ns. has ns n) last.all) ∙ member in
      let c = incrementing.counts.exact n in_stage parts.1 in
      let few : count_so_far m st n < STUCK = below n in_stage parts.1 parts.0 in
      let k = last.counted n in
      same n ∙ (let z : count_at (tables_of s) st.now n ≡ count_raised m s.report.promoted.items n = omega (arith, c, few, k) in z);
}
  where
    same : (n : Name) → count_at t st.now n ≡ count_at (tables_of s) st.now n
    same n = ap (λ f. f (granule_of (st.now n))) e

    below : (n : Name) → IsTrue (has (with_promoted m st.promoted) n) → has m.stuck n ≡ false → has s.report.stuck.items n ≡ false → count_so_far m st n < STUCK
    below n member unstuck unreported = elim (cases_lt (count_so_far m st n) STUCK) [
      | inr h ↦ not_both (has s.report.stuck.items n) ((incrementing.counts.reported n).1 (record { member = member; unstuck = unstuck; reaches = h })) unreported
      | inl h ↦ h
    ]

-- the tables once old values are gray while a trace runs, and no line is out
abbrev pub with_ended : Space → Tables
with_ended s = record (tables_of s) { grays = (with_old_grays (tables_of s) s.logged.items).grays; outs = λ line. false }

pub ending : (s g b : Space) → Turns s g (with_old_grays (tables_of s) s.logged.items) → Turns g b (record (tables_of g) { outs = λ line. false }) → Turns s b (with_ended s)
ending s g b grays outs = record {
  tables = outs.tables ∙ ap {A = Tables} (λ t. record t { outs = λ line. false }) (grays.tables ∙ only_old_grays (tables_of s) s.logged.items);
  rest = outs.rest ∙ ap {A = Space} (λ x. record x { words = b.words }) grays.rest;
}

-- no line of a block that is Free is out at a stage, nor was any before
pub outs_used : (before s : Space) (m : Moment) (at : Name → ℕ) (st : IncrementStage) → CanRaise before m at → st.found ≡ before → IsIncrementing s m at st → AreUnsetInFree (tables_of s) Outs
outs_used before s m at st can found is line out free =
    let was = is.moving.free (line / LINES_IN_BLOCK) free in
    can.holds.unused.outs line (subst (λ x. IsTrue ((tables_of x).outs line)) found (was.1 line refl out)) (subst (λ x. state_in (tables_of x) (line / LINES_IN_BLOCK) ≡ Free) found was.0)

pub outs_grayed : (s g : Space) → Turns s g (with_old_grays (tables_of s) s.logged.items) → AreUnsetInFree (tables_of s) Outs → AreUnsetInFree (tables_of g) Outs
outs_grayed s g grays avoid line out free =
    let same : tables_of g ≡ record (tables_of s) { grays = (with_old_grays (tables_of s) s.logged.items).grays } = grays.tables ∙ only_old_grays (tables_of s) s.logged.items in
    avoid line (sym (ap (λ t. t.outs line) same) ∙ out) (sym (ap (λ t. state_of (t.states (line / LINES_IN_BLOCK))) same) ∙ free)

-- all registers are raised, and the worklist is empty
abbrev pub IsAtEnd : Space → Moment → (Name → ℕ) → IncrementStage → Type 0
IsAtEnd s m at st = HasRaisedRoots s m at st (length s.registers.items)

module _ (s : Space) (m : Moment) (at : Name → ℕ) (st : IncrementStage) (is : IsAtEnd s m at st) where
  incrementing : IsIncrementing s m at st
  incrementing = is.settled.accounted.incrementing

  pub last : IsLast m st s.report.promoted.items
  last = last_stage s m at st is.settled

  made : AreMade m st.promoted
  made = all_made s m at st incrementing

  -- all references of promoted objects are raised, and so all are fixed
  pub promoted_raised : (u : Name) (i : ℕ) → IsTrue (has st.promoted u) → i < length (references_at m u) → IsFieldRaised s m st u i
  promoted_raised u i h below = elim (is.settled.accounted.raised u i h (ap (λ z. has z u) is.settled.no_work) below) [ inl raised ↦ raised | inr none ↦ absurd none ]

  all_fixed : AllFixed s m st
  all_fixed = record {
    promoted = λ u i h below. (promoted_raised u i h below).fixed;
    written = λ u i h. (is.written u i h).fixed;
  }

  names : (n : Name) → has (with_promoted m s.report.promoted.items) n ≡ has (with_promoted m st.promoted) n
  names n = ap (λ ns. has ns n) last.all

  gray_starts : (k : ℕ) → IsTrue ((with_old_grays (tables_of s) s.logged.items).grays k) → IsTrue ((tables_of s).starts k)
  gray_starts k h = elim (old_grays_from (tables_of s) s.logged.items k h) [
    | inl g ↦ incrementing.bits.grays k g
    | inr old ↦ ap (tables_of s).starts old.3 ∙ old_value_starts s m at st incrementing old.0 old.1 old.2
  ]

  -- the counts of the last stage are those of a pause, old values are gray at objects that begin, and no line is out
  ended : (w : List ℕ) → tables_in s.limits w ≡ with_ended s → FreeAreUnused (tables_in s.limits w) st.now (with_promoted m s.report.promoted.items) → IsRaised (record s { words = w; rest_next = 0; rest_end = 0 }) m st.now s.report.promoted.items s.report.stuck.items
  ended w tables unused =
      let t : Tables = tables_in s.limits w in
      let counts : t.counts ≡ (tables_of s).counts = ap (λ x. x.counts) tables in
      record {
        space = record { limits = incrementing.space.limits; size = ap (λ x. x.size) tables ∙ incrementing.space.size };
        room = record { registers = incrementing.room.registers; deferred = incrementing.room.deferred; logged = incrementing.room.logged; work = incrementing.room.work; report = incrementing.room.report };
        as_many = incrementing.as_many;
        follows = incrementing.follows;
        raised = are_raised s m at st incrementing last;
        image = image_still (tables_of s) t s.limits.blocks st.now m.state.graph (with_promoted m st.promoted) (with_promoted m s.report.promoted.items) (ap (λ x. x.heap) tables) (λ n h. sym (names n) ∙ h)
            (image_ends s m at st incrementing.moving incrementing.follows made all_fixed);
        registers = registers_end s m at st incrementing.moving is.registers;
        deferred = deferred_end s st.found m at st.now st.promoted incrementing.moving incrementing.follows made;
        world = unreclaimed_still s st.found m at st.now st.promoted incrementing.moving made incrementing.follows.apart world_name (incrementing.follows.stuck world_name incrementing.follows.world) ∙ incrementing.moving.world;
        bits = bits_grayed (tables_of s) t m st.now (with_promoted m s.report.promoted.items) (ap (λ x. x.starts) tables) (ap (λ x. x.marks) tables) (ap (λ x. x.dones) tables) (ap (λ x. x.unlogged) tables)
            (λ k h. gray_starts k (sym (ap (λ x. x.grays k) tables) ∙ h)) (subst (HasBits (tables_of s) m st.now) (sym last.all) incrementing.bits);
        logs = logs_end s st.found m at st.now st.promoted s.logged.items incrementing.moving incrementing.follows made incrementing.logs;
        few_logs = incrementing.few_logs;
        counts = counts_raised s t m at st counts incrementing last;
        positive = λ n h e. incrementing.counts.positive n (sym (names n) ∙ h) (sym (ap (λ f. f (granule_of (st.now n))) counts) ∙ e);
        marks = marks_still (tables_of s) t m.state.graph st.now (with_promoted m s.report.promoted.items) counts (subst (HasMarks (tables_of s) m.state.graph st.now) (sym last.all) incrementing.marks);
        none_done = λ k. ap (λ x. x.dones k) tables ∙ incrementing.none_done k;
        none_out = λ line. ap (λ x. x.outs line) tables;
        unused = unused;
        blocks = blocks_still (tables_of s) t s.limits m.trace (ap (λ x. x.states) tables) (ap (λ x. x.cursors TRACING_WORD) tables) incrementing.blocks;
        decrements = (ap (λ x. x.cursors DECREMENT_CURSOR) tables ∙ incrementing.decrements.0, ap (λ x. x.cursors DECREMENT_COUNT) tables ∙ incrementing.decrements.1);
        no_rest = refl;
        no_work = incrementing.worklist ∙ ap (map (place_of st.now)) is.settled.no_work;
      }

  -- only references that were raised and lead into Chosen blocks are remembered
  only_end : (u : Tables) → u ≡ with_ended s → (k : ℕ) → (tables_of st.found).cursors REMEMBERED_CURSOR ≤ k → k < u.cursors REMEMBERED_CURSOR → k < st.found.limits.remember
      → HasEntryOf st.found.limits u m st.now (λ n i. IsTrue (has s.report.promoted.items n) ⊎ IsTrue (has_field m.written (n, i))) k
  only_end u tables k from high room =
      let stays = incrementing.remembered in
      let is = stays.since k from (subst (λ z. k < z) (ap (λ t. t.cursors REMEMBERED_CURSOR) tables) high) (subst (λ l. k < l.remember) (sym stays.limits) room) in
      subst (λ t. HasEntryOf st.found.limits t m st.now (λ n i. IsTrue (has s.report.promoted.items n) ⊎ IsTrue (has_field m.written (n, i))) k) (sym tables) (record {
        holder = is.holder;
        held = is.held;
        index = is.index;
        one = elim is.one.changes [ inl h ↦ inl (last.same is.holder ∙ h) | inr h ↦ inr h ];
        holds = is.holds;
        chosen = is.chosen;
        entry = subst (λ (l : Limits). (tables_of s).remembered k ≡ word_of_entry l.blocks ((tables_of s).reuse (word_of_field st.now is.holder is.index / WORDS_IN_LINE)) (place_of st.now is.holder) is.index) stays.limits is.entry;
      })

  -- all of them are, and what was remembered is
  remembers_end : (u : Tables) → u ≡ with_ended s → Remembers st.found.limits (tables_of st.found) u m at st.now (λ n i. IsTrue (has s.report.promoted.items n) ⊎ IsTrue (has_field m.written (n, i)))
  remembers_end u tables =
      let stays = incrementing.remembered in
      let limits : s.limits ≡ st.found.limits = stays.limits in
      let kept : (n : Name) → IsTrue (has m.unreclaimed n) → IsTrue (has (with_promoted m (first_stage at st.found).promoted) n) = λ n h. union_right [] m.unreclaimed n h in
      let ends : (n : Name) (i : ℕ) → IsRemembered s.limits (tables_of s) st.now n i → IsRemembered st.found.limits u st.now n i =
      λ n i h. subst (λ t. IsRemembered st.found.limits t st.now n i) (sym tables) (subst (λ l. IsRemembered l (with_ended s) st.now n i) limits h) in
      let full : HasOverflowed s.limits (tables_of s) → HasOverflowed st.found.limits u =
      λ h. subst (λ t. HasOverflowed st.found.limits t) (sym tables) (subst (λ l. HasOverflowed l (with_ended s)) limits h) in
      record {
        fields = λ n v i one held chosen.
            let within = slice_get_within (references_at m n) i (Some v) held in
            let raised : IsFieldRaised s m st n i = elim one [ inl h ↦ promoted_raised n i (sym (last.same n) ∙ h) within | inr h ↦ is.written n i h ] in
            elim (raised.entered v (get_or_from_slice_get (references_at m n) i (Some v) None held) (subst (λ t. IsInChosen t st.now v) tables chosen)) [ inl there ↦ inl (ends n i there) | inr h ↦ inr (full h) ];
        only = only_end u tables;
        kept = λ n i held h got there. ends n i (remembered_on st.found s m (first_stage at st.found) st stays n i (kept n h) (slice_get_within (references_at m n) i held got) there);
        full = λ h. full (overflowed_on st.found s m (first_stage at st.found) st stays h);
        entries = λ h. subst (λ t. AreEntries st.found.limits t) (sym tables) (subst (λ l. AreEntries l (with_ended s)) limits (stays.entries h));
        idle = λ none. let same = stays.idle none in (ap (λ t. t.remembered) tables ∙ same.0, ap (λ t. t.cursors REMEMBERED_CURSOR) tables ∙ same.1);
      }

  -- one number is drawn for each that is entered, and no other
  entered_end : (u : Tables) → u ≡ with_ended s → EntersOnce st.found.limits (tables_of st.found) u m st.now (λ n i. IsTrue (has s.report.promoted.items n) ⊎ IsTrue (has_field m.written (n, i)))
  entered_end u tables =
      let is = is.settled.accounted.entered in
      let from : ℕ = (tables_of st.found).cursors REMEMBERED_CURSOR in
      let cursor = ap (λ t. t.cursors REMEMBERED_CURSOR) tables in
      record {
        entered = is.entered;
        are = entered_alike s.limits st.found.limits (tables_of s) u m st.now (λ n i. IsTrue (has s.report.promoted.items n) ⊎ IsTrue (has_field m.written (n, i))) from is.entered (sym incrementing.remembered.limits)
            (ap (λ t. t.remembered) tables) (ap (λ t. t.reuse) tables) (ap (λ t. t.states) tables)
            (entered_as s.limits (tables_of s) m st.now _ from (λ n i. IsTrue (has s.report.promoted.items n) ⊎ IsTrue (has_field m.written (n, i))) is.entered
            (λ n i one. elim one.0.changes [ inl h ↦ inl (last.same n ∙ h) | inr h ↦ inr h ]) is.are);
        drawn = let drawn = is.drawn in omega (arith, cursor, drawn);
      }

  -- and no more are than there are such references
  few_end : (tables_of s).cursors REMEMBERED_CURSOR ≤ (tables_of st.found).cursors REMEMBERED_CURSOR + reference_slots m.state.graph s.report.promoted.items + length m.written
  few_end =
      let few = is.settled.accounted.few.cursor in
      let all : reference_slots m.state.graph (without st.promoted st.work) ≡ reference_slots m.state.graph st.promoted =
      ap (λ z. reference_slots m.state.graph (without st.promoted z)) is.settled.no_work ∙ ap (reference_slots m.state.graph) (without_none st.promoted) in
      let order : IsPermutation st.promoted s.report.promoted.items = subst (IsPermutation st.promoted) (sym incrementing.reported) (IsPermutation-reverse st.promoted) in
      let same = sum_by-IsPermutation (λ u. length (refs_of (object_at m.state.graph u))) st.promoted s.report.promoted.items order in
      omega (arith, few, all, same)

-- ---- what the increments leave

-- a block that is kept is, where states stay
states_kept : (t u v : Tables) (k : ℕ) → v.states ≡ u.states → KeepsState t u k → KeepsState t v k
states_kept t u v k e is = subst (λ f. KeepsState t (record u { states = f }) k) (sym e) is

-- so the increments raise
module _ (before s b : Space) (m : Moment) (at : Name → ℕ) (st : IncrementStage) (can : CanRaise before m at) (leaves : RaisingLeaves before s) (found : st.found ≡ before) (is : IsAtEnd s m at st) (turns : Turns s b (with_ended s)) where
  here : IsIncrementing s m at st
  here = is.settled.accounted.incrementing

  words : tables_in s.limits b.words ≡ with_ended s
  words = ap {A = Space} (λ x. tables_in x.limits b.words) (sym turns.rest) ∙ turns.tables

  abbrev after : Space
  after = record b { rest_next = 0; rest_end = 0 }

  same : record s { words = b.words; rest_next = 0; rest_end = 0 } ≡ after
  same = sym (ap {A = Space} (λ x. record x { rest_next = 0; rest_end = 0 }) turns.rest)

  blocks : s.limits.blocks ≡ before.limits.blocks
  blocks = ap {A = Space} (λ x. x.limits.blocks) leaves.space

  reported : s.report.promoted.items ≡ after.report.promoted.items
  reported = ap {A = Space} (λ x. x.report.promoted.items) same

  copies : CopiesPromoted (tables_of before) (tables_of b) m at st.now after.report.promoted.items
  copies = subst (CopiesPromoted (tables_of before) (tables_of b) m at st.now) reported (subst (λ x. CopiesPromoted (tables_of x) (tables_of b) m at st.now s.report.promoted.items) found
      (copies_end s st.found (tables_of b) m at st.now st.promoted s.report.promoted.items here.moving (last s m at st is).same (ap (λ t. t.heap) turns.tables) (ap (λ t. t.reuse) turns.tables)))

  stay : StayForWantOfLines (tables_of before) (tables_of b) before.limits.blocks m at st.now after.report.promoted.items (λ line. ⊥)
  stay = subst (λ ns. StayForWantOfLines (tables_of before) (tables_of b) before.limits.blocks m at st.now ns (λ line. ⊥)) reported
      (subst (λ z. StayForWantOfLines (tables_of before) (tables_of b) z m at st.now s.report.promoted.items (λ line. ⊥)) blocks
      (subst (λ x. StayForWantOfLines (tables_of x) (tables_of b) s.limits.blocks m at st.now s.report.promoted.items (λ line. ⊥)) found
      (stay_ends s st.found (tables_of b) m at st.now st.promoted s.report.promoted.items here.moving (last s m at st is).same (ap (λ t. t.counts) turns.tables) here.counts.positive here.marks)))

  onto : CopiesLieOnFreeLines before m at st.now after.report.promoted.items
  onto = subst (CopiesLieOnFreeLines before m at st.now) reported (subst (λ x. CopiesLieOnFreeLines x m at st.now s.report.promoted.items) found
      (onto_ends s st.found m at st.now st.promoted s.report.promoted.items here.moving (last s m at st is).same))

  keeps : KeepsLists (with_remembered_of (tables_of before) (tables_of b)) (tables_of b)
  keeps = record {
    heap = refl;
    reuse = refl;
    runs = ap (λ t. t.runs) turns.tables ∙ leaves.tables.runs;
    frees = ap (λ t. t.frees) turns.tables ∙ leaves.tables.frees;
    remembered = refl;
    cursors = λ k h j. elim (changed_cases (tables_of before).cursors REMEMBERED_CURSOR ((tables_of b).cursors REMEMBERED_CURSOR) k) [
      | inl q ↦ ap (tables_of b).cursors q.0 ∙ sym q.1
      | inr q ↦ ap (λ t. t.cursors k) turns.tables ∙ leaves.tables.cursors k q.0 ∙ sym q.1
    ];
  }

  remembers : Remembers before.limits (tables_of before) (tables_of b) m at st.now (λ n i. IsTrue (has after.report.promoted.items n) ⊎ IsTrue (has_field m.written (n, i)))
  remembers = subst (λ ns. Remembers before.limits (tables_of before) (tables_of b) m at st.now (λ n i. IsTrue (has ns n) ⊎ IsTrue (has_field m.written (n, i)))) reported
      (subst (λ x. Remembers x.limits (tables_of x) (tables_of b) m at st.now (λ n i. IsTrue (has s.report.promoted.items n) ⊎ IsTrue (has_field m.written (n, i)))) found (remembers_end s m at st is (tables_of b) turns.tables))

  entered : EntersOnce before.limits (tables_of before) (tables_of b) m st.now (λ n i. IsTrue (has after.report.promoted.items n) ⊎ IsTrue (has_field m.written (n, i)))
  entered = subst (λ ns. EntersOnce before.limits (tables_of before) (tables_of b) m st.now (λ n i. IsTrue (has ns n) ⊎ IsTrue (has_field m.written (n, i)))) reported
      (subst (λ x. EntersOnce x.limits (tables_of x) (tables_of b) m st.now (λ n i. IsTrue (has s.report.promoted.items n) ⊎ IsTrue (has_field m.written (n, i)))) found (entered_end s m at st is (tables_of b) turns.tables))

  bound : (tables_of b).cursors REMEMBERED_CURSOR ≤ (tables_of before).cursors REMEMBERED_CURSOR + reference_slots m.state.graph after.report.promoted.items + length m.written
  bound =
      let few = few_end s m at st is in
      let cursor = ap (λ t. t.cursors REMEMBERED_CURSOR) turns.tables in
      let began = ap {A = Space} (λ x. (tables_of x).cursors REMEMBERED_CURSOR) found in
      let slots = ap (reference_slots m.state.graph) reported in
      omega (arith, few, cursor, began, slots)

  states : (k : ℕ) → KeepsState (tables_of before) (tables_of b) k
  states k = states_kept (tables_of before) (tables_of s) (tables_of b) k (ap (λ t. t.states) turns.tables) (subst (λ x. KeepsState (tables_of x) (tables_of s) k) found (here.moving.states k))

  -- a block that is Free now was so as increments began, and no line is out
  free_now : (k : ℕ) → state_in (tables_in s.limits b.words) k ≡ Free → state_in (tables_of s) k ≡ Free
  free_now k is = sym (ap (λ t. state_of (t.states k)) words) ∙ is

  free_before : (k : ℕ) → state_in (tables_of s) k ≡ Free → state_in (tables_of before) k ≡ Free
  free_before k is = subst (λ x. state_in (tables_of x) k ≡ Free) found (here.moving.free k is).0

  -- promoted objects stand on lines that were out until then
  promoted_out : (n : Name) → IsTrue (has st.promoted n) → IsTrue ((tables_of s).outs (granule_of (st.now n) / GRANULES_IN_LINE))
  promoted_out n promoted =
      let x = here.moving.stands n (in_second m.unreclaimed m.made n (all_made s m at st here n promoted)) in
      (here.moving.outs (granule_of (st.now n) / GRANULES_IN_LINE)).1 (elim (eqb_tells (st.now n) (at n)) [
        | inl there ↦ inl (subst (λ z. IsTrue ((tables_of z).outs (granule_of (st.now n) / GRANULES_IN_LINE))) (sym found)
            (can.holds.lines n x.0 (granule_of (st.now n)) (all_made s m at st here n promoted) (first_granule_of (st.now n) there.1 x.0 x.1)))
        | inr moved ↦ inr (record {
          name = n;
          promoted_is = promoted;
          moved = moved.1;
          object = x.0;
          granule = granule_of (st.now n);
          covers = record { object = x.1; first = omega arith; behind = omega arith };
          line_is = refl;
        })
      ])
    where
      first_granule_of : (q : ℕ) → q ≡ at n → (o : Object) → object_at m.state.graph n ≡ Some o → Covers m.state.graph at n o (granule_of q)
      first_granule_of q e o has_o = record { object = has_o; first = omega (arith, e); behind = omega (arith, e) }

  unused : FreeAreUnused (tables_in s.limits b.words) st.now (with_promoted m s.report.promoted.items)
  unused = record {
    objects = λ n h free. elim (union_cases st.promoted m.unreclaimed n (sym (names s m at st is n) ∙ h)) [
      | inl promoted ↦ out_used (tables_of s) (granule_of (st.now n)) (outs_used before s m at st can found here) (promoted_out n promoted) (free_now _ free)
      | inr kept ↦ can.holds.unused.objects n kept
          (ap (λ p. state_in (tables_of before) (granule_of p / GRANULES_IN_BLOCK)) (sym (unreclaimed_still s st.found m at st.now st.promoted here.moving (all_made s m at st here) here.follows.apart n kept))
          ∙ free_before _ (free_now _ free))
    ];
    outs = λ line out. absurd (let no : false ≡ true = sym (ap (λ t. t.outs line) words) ∙ out in cc);
  }

  unchosen : AvoidChosen (tables_of b) st.now after.report.promoted.items
  unchosen n h =
      let promoted : IsTrue (has st.promoted n) = sym ((last s m at st is).same n) ∙ ap {A = Space} (λ x. has x.report.promoted.items n) same ∙ h in
      still_not (tables_of s) (tables_of b) (granule_of (st.now n) / GRANULES_IN_BLOCK) Chosen refl (states_same (tables_of s) (tables_of b) (granule_of (st.now n) / GRANULES_IN_BLOCK) (ap (λ t. t.states) turns.tables))
      (here.moving.unchosen n (all_made s m at st here n promoted))

  marks : RaisesMarks m.trace (tables_of before).marks (tables_of b).marks st.now after.report.promoted.items
  marks = subst (RaisesMarks m.trace (tables_of before).marks (tables_of b).marks st.now) reported (subst (λ f. RaisesMarks m.trace (tables_of before).marks f st.now s.report.promoted.items) (sym (ap (λ t. t.marks) turns.tables))
      (marks_raise (tables_of before) s m at st s.report.promoted.items can.holds.bits here leaves.tables (last s m at st is).same m.trace can.holds.blocks.tracing))

  grays : RaisesGrays m.trace (tables_of before).grays (tables_of b).grays before.logged.items
  grays = subst (λ f. RaisesGrays m.trace f (tables_of b).grays before.logged.items) leaves.tables.grays (subst (λ f. RaisesGrays m.trace (tables_of s).grays f before.logged.items) (sym (ap (λ t. t.grays) turns.tables))
      (subst (RaisesGrays m.trace (tables_of s).grays (with_old_grays (tables_of s) s.logged.items).grays) (ap {A = Space} (λ x. x.logged.items) leaves.space)
      (grays_raise (tables_of s) s.logged.items m.trace here.blocks.tracing)))

  -- nothing else of the space has changed
  rest : after ≡ record before {
    words = after.words;
    registers = record before.registers { items = after.registers.items };
    report = record before.report {
      promoted = record before.report.promoted { items = after.report.promoted.items };
      stuck = record before.report.stuck { items = after.report.stuck.items };
    };
    rest_next = 0;
    rest_end = 0;
  }
  rest = sym same
      ∙ ap {A = Space} (λ x. record x { words = b.words; rest_next = 0; rest_end = 0 }) leaves.space
      ∙ (λ i. record before {
        words = b.words;
        registers = record before.registers { items = (same i).registers.items };
        work = record before.work { items = (here.worklist ∙ ap (map (place_of st.now)) is.settled.no_work ∙ sym can.holds.no_work) i };
        report = record before.report {
          promoted = record before.report.promoted { items = (same i).report.promoted.items };
          stuck = record before.report.stuck { items = (same i).report.stuck.items };
        };
        rest_next = 0;
        rest_end = 0;
      })

  pub raises : Raises before after m at st.now
  raises = record {
    raised = subst (λ x. IsRaised x m st.now x.report.promoted.items x.report.stuck.items) same (ended s m at st is b.words words unused);
    copies = copies;
    onto = onto;
    stay = stay;
    keeps = keeps;
    remembers = remembers;
    entered = entered;
    bound = bound;
    states = states;
    unchosen = unchosen;
    marks = marks;
    grays = grays;
    decs = ap (λ t. t.decs) turns.tables ∙ leaves.tables.decs;
    space = rest;
  }
