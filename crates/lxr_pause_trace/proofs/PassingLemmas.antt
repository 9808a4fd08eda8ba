-- A reference is passed once what it holds is found, and where that stands in a Chosen block, the reference is remembered.
use Rattle.std.proofs.Common.{◌≡◌, ◌≢◌, ℕ, ◌+◌, ◌-◌, ◌*◌, ◌/◌, ◌^◌, ◌<◌, ◌≤◌, refl, sym, ap, subst, ◌∙◌, inl, inr, ◌⊎◌, arith, IsTrue, length}
use Rattle.std.specs.Prelude.{not, Some}
use Rattle.std.specs.List.{Contains}
use Rattle.lxr_layout.specs.declared.TheConstants.{GRANULES_IN_BLOCK, REMEMBERED_CURSOR}
use Rattle.lxr_layout.specs.declared.Place.{Place}
use Rattle.lxr_layout.specs.Places.{field_word}
use Rattle.lxr_layout.specs.Runs.{IsEntry}
use Rattle.lxr_image.specs.declared.space.Space.{Space}
use Rattle.lxr_image.specs.Spaces.{IsSpace, Turns, tables_of}
use Rattle.lxr_image.specs.Tables.{Tables}
use Rattle.lxr_image.specs.Reads.{field_at, granule_of}
use Rattle.lxr_blocks.specs.States.{state_in}
use Rattle.lxr_invariant.specs.Counting.{passing}
use Rattle.lxr_invariant.specs.Lines.{NoneChosen}
use Rattle.lxr_invariant.specs.Tracing.{HasOverflowed}
use Rattle.lxr_invariant.proofs.BlockLemmas.{none_counted}
use Rattle.lxr_invariant.proofs.FrameLemmas.{chosen_still}
use Rattle.lxr_remset.specs.Remembering.{IsField, is_in_chosen, line_of_field, remembering_chosen}
use Rattle.lxr_remset.proofs.ChosenLemmas.{chosen_told}
use Rattle.lxr_pause_trace.specs.Marking.{EntersOnly, Finds, HasAllLeft, IsEntered, IsFound, IsLeft, IsScanning, IsSeen, KeepsEntries, MarkingStage, WaitOnce, granules, slots_at, to_do, unmarked_slots, waiting_slots}
use Rattle.lxr_pause_trace.proofs.DrawnLemmas.{drawn_passed}
use Rattle.lxr_pause_trace.proofs.EnteringLemmas.{are_within, entries_kept, found_then, grays_stay, is_entered, kept_then, marks_stay, one_drawn, set_changes, states_stay, with_found_of}
use Rattle.lxr_pause_trace.proofs.LeftLemmas.{field_within, left_start, slots_small, started_place}
use Rattle.lxr_pause_trace.proofs.MarkingLemmas.{is_found, to_do_falls}
use Rattle.lxr_pause_trace.proofs.ScanLemmas.{SeenBut, due_place, found_scanning, later_next, scanned_due, scanned_holds, scanned_word, seen_next, slots_were, word_due}
use Rattle.lxr_pause_trace.proofs.SlotLemmas.{among_up_to, few_up_to, up_to}

module _ (before b : Space) (place i w : ℕ) (is : IsScanning before b place i) (within : i < slots_at (tables_of b) place) (holds : field_at (tables_of before) place i ≡ Some w) (some : 1 ≤ w) where
  abbrev t0 : Tables
  t0 = tables_of before

  abbrev t : Tables
  t = tables_of b

  abbrev slots : ℕ
  slots = slots_at t0 place

  limits_same : b.limits ≡ before.limits
  limits_same = ap (λ s. s.limits) is.stage.rest

  below_slots : i < slots
  below_slots = subst (λ n. i < n) (slots_were before b _ _ _ is.stage place) within

  -- ---- what may be remembered

  pub field_here : IsField b.limits (record { 0 = place }) i
  field_here =
      let small = slots_small t0 before.limits.blocks is.stage.traceable place in
      let below = below_slots in
      record {
        placed = (left_start t0 before.limits.blocks is.stage.traceable place is.waited.left).0;
        index = omega (arith, below, small);
        in_heap = scanned_word before b (record { 0 = place }) i is within;
      }

  pub held_inside : granule_of w < GRANULES_IN_BLOCK * b.limits.blocks
  held_inside = let here = (due_place before b _ _ _ is.stage w (scanned_due before b (record { 0 = place }) i w is holds some)).0 in omega (arith, here, some)

  -- ---- the cursor counts on

  all_left : HasAllLeft t0 (up_to (granules b))
  all_left p left =
      let x = left_start t0 before.limits.blocks is.stage.traceable p left in
      among_up_to (granules b) p x.0 (started_place b p is.stage.space x.0 (ap (λ z. z.starts (granule_of p)) is.stage.tables ∙ x.1)).0

  none_here : IsTrue (is_in_chosen t (record { 0 = w })) → NoneChosen t0 before.limits.blocks → ⊥
  none_here chosen none =
      let still : NoneChosen t before.limits.blocks = chosen_still t0 t before.limits.blocks (ap (λ z. z.states) is.stage.tables) ∙ none in
      let here = subst (λ l. granule_of w < GRANULES_IN_BLOCK * l.blocks) limits_same held_inside in
      none_counted t before.limits.blocks (granule_of w / GRANULES_IN_BLOCK) still (omega (arith, here)) (chosen_told (state_in t (granule_of w / GRANULES_IN_BLOCK)) chosen)

  pub cursor_far : IsTrue (is_in_chosen t (record { 0 = w })) → t.cursors REMEMBERED_CURSOR < 2 ^ 63
  cursor_far chosen = elim is.stage.far [
    | inl none ↦ absurd (none_here chosen none)
    | inr far ↦
        let bound = is.stage.bound (up_to (granules b)) all_left in
        let few = few_up_to t0 t0.marks (granules b) (slots_small t0 before.limits.blocks is.stage.traceable) in
        let blocks = is.stage.space.limits.blocks.1 in
        omega (arith, bound, few, blocks, far)
  ]

  -- ---- the reference is remembered

  module _ (found : IsFound t w) (c : Space) (turns : Turns b c (remembering_chosen b.limits (tables_of b) (record { 0 = place }) i (record { 0 = w }))) (space : IsSpace c) where
    abbrev u : Tables
    u = tables_of c

    marks_same : u.marks ≡ t.marks
    marks_same = ap (λ z. z.marks) turns.tables ∙ marks_stay b.limits t place i w

    grays_same : u.grays ≡ t.grays
    grays_same = ap (λ z. z.grays) turns.tables ∙ grays_stay b.limits t place i w

    states_same : u.states ≡ t.states
    states_same = ap (λ z. z.states) turns.tables ∙ states_stay b.limits t place i w

    work_same : c.work ≡ b.work
    work_same = ap (λ s. s.work) turns.rest

    granules_same : granules c ≡ granules b
    granules_same = ap (λ s. granules s) turns.rest

    marked : (k : ℕ) → u.marks k ≡ t.marks k
    marked k = ap (λ f. f k) marks_same

    grayed : (k : ℕ) → u.grays k ≡ t.grays k
    grayed k = ap (λ f. f k) grays_same

    pub as_much_to_do : to_do c ≡ to_do b
    as_much_to_do = λ k. passing (λ j. not (marks_same k j)) (granules_same k) + length (work_same k).items

    kept_now : KeepsEntries before.limits t u
    kept_now = subst (λ l. KeepsEntries l t u) limits_same
        (subst (KeepsEntries b.limits t) (sym turns.tables) (entries_kept b.limits t place i w is.stage.space.limits (are_within b) field_here held_inside))

    found_now : (q : ℕ) → IsFound t q → IsFound u q
    found_now q there = record { gray = grayed (granule_of q) ∙ there.gray; marked = marked (granule_of q) ∙ there.marked }

    was_chosen : (q : ℕ) → IsTrue (is_in_chosen u (record { 0 = q })) → IsTrue (is_in_chosen t (record { 0 = q }))
    was_chosen q chosen = ap (λ f. is_in_chosen (record t { states = f }) (record { 0 = q })) (sym states_same) ∙ chosen

    seen_now : (p j q : ℕ) → IsSeen before.limits t p j q → IsSeen before.limits u p j q
    seen_now p j q there = record {
      found = found_now q there.found;
      remembered = λ chosen. elim (there.remembered (was_chosen q chosen)) [ inl has ↦ inl (kept_now.entered p j has) | inr full ↦ inr (kept_now.full full) ];
    }

    -- this one is seen
    seen_here : IsSeen before.limits u place i w
    seen_here = record {
      found = found_now w found;
      remembered = subst (λ l. IsTrue (is_in_chosen u (record { 0 = w })) → IsEntered l u place i ⊎ HasOverflowed l u) limits_same (λ chosen.
          subst (λ z. IsEntered b.limits z place i ⊎ HasOverflowed b.limits z) (sym turns.tables)
          (is_entered b.limits t place i w is.stage.space.limits (are_within b) field_here held_inside (was_chosen w chosen)));
    }

    -- what was seen is, but for what is pending
    seen_so_far : SeenBut before c (λ p j. (p ≡ place) × (i ≤ j))
    seen_so_far p q j waits placed e = elim (is.stage.scanned p q j (record { left = waits.left; marked = sym (marked (granule_of p)) ∙ waits.marked }) placed e) [
      | inl there ↦ inl (subst (λ x. Contains x.items (record { 0 = p })) (sym work_same) there)
      | inr (inl ahead) ↦ inr (inl ahead)
      | inr (inr there) ↦ inr (inr (seen_now p j q there))
    ]

    -- an object that is scanned stands in the heap, and has at most 1,023 references, so each may have an entry
    fits : (p j q : ℕ) → IsLeft t0 p → field_at t0 p j ≡ Some q → IsEntry before.limits.blocks (t.reuse (line_of_field (record { 0 = p }) j)) (record { 0 = p }) j
    fits p j q left e =
        let x = left_start t0 before.limits.blocks is.stage.traceable p left in
        let below = field_within t0 p j q e in
        let few = slots_small t0 before.limits.blocks is.stage.traceable p in
        let inside = (started_place b p is.stage.space x.0 (ap (λ z. z.starts (granule_of p)) is.stage.tables ∙ x.1)).0 in
        let heap = is.stage.space.limits.blocks.1 in
        let same : b.limits.blocks ≡ before.limits.blocks = ap (λ l. l.blocks) limits_same in
        record { heap = omega (arith, heap, same); counter = (are_within b).reuse (line_of_field (record { 0 = p }) j); place = (x.0, omega (arith, inside, same)); index = omega (arith, below, few) }

    not_later : ¬ (Contains b.work.items (record { 0 = place }) ⊎ ((place ≡ place) × (i + 1 ≤ i)))
    not_later (inl c) = is.out c
    not_later (inr c) = let past = c.1 in omega (arith, past)

    -- a number that is drawn has the entry of this one
    drawn_then : EntersOnly before.limits t0 u (λ p j. Contains c.work.items (record { 0 = p }) ⊎ ((p ≡ place) × (i + 1 ≤ j)))
    drawn_then = subst (λ x. EntersOnly before.limits t0 u (λ p j. Contains x.items (record { 0 = p }) ⊎ ((p ≡ place) × (i + 1 ≤ j)))) (sym work_same)
        (subst (λ z. EntersOnly before.limits t0 z (λ p j. Contains b.work.items (record { 0 = p }) ⊎ ((p ≡ place) × (i + 1 ≤ j)))) (sym turns.tables)
        (subst (λ l. EntersOnly before.limits t0 (remembering_chosen l t (record { 0 = place }) i (record { 0 = w })) (λ p j. Contains b.work.items (record { 0 = p }) ⊎ ((p ≡ place) × (i + 1 ≤ j)))) (sym limits_same)
        (drawn_passed before.limits t0 t _ is.stage.drawn place i w _ is.waited some holds (inr (refl, omega arith)) not_later (later_next b place i) fits)))

    entered_stage : MarkingStage before c (granules c) (λ p j. (p ≡ place) × (i + 1 ≤ j)) (slots - (i + 1))
    entered_stage = record {
      space = space;
      traceable = is.stage.traceable;
      far = is.stage.far;
      so_far = record {
        marks_kept = λ k h. marked k ∙ is.stage.so_far.marks_kept k h;
        marks_left = λ p placed h. is.stage.so_far.marks_left p placed (sym (marked (granule_of p)) ∙ h);
        grays_kept = λ k h. grayed k ∙ is.stage.so_far.grays_kept k h;
        grays_due = λ p placed h. is.stage.so_far.grays_due p placed (sym (grayed (granule_of p)) ∙ h);
      };
      ended = λ k below h. marked k ∙ is.stage.ended k (subst (λ n. k < n) granules_same below) (sym (grayed k) ∙ h);
      waiting = λ p h. let waits = is.stage.waiting p (subst (λ x. Contains x.items p) work_same h) in record { left = waits.left; marked = marked (granule_of p.0) ∙ waits.marked };
      scanned = seen_next before c place i seen_so_far (λ q e _. let same : Some w ≡ Some q = sym holds ∙ e in let k : w ≡ q = cc in subst (IsSeen before.limits u place i) k seen_here);
      single = subst (λ x. WaitOnce x.items) (sym work_same) is.stage.single;
      kept = kept_then before.limits t0 t u (ap (λ z. z.states) is.stage.tables) is.stage.kept kept_now;
      drawn = drawn_then;
      bound = λ places all.
          let was = is.stage.bound places all in
          let below = below_slots in
          let drawn = subst (λ z. z.cursors REMEMBERED_CURSOR ≤ t.cursors REMEMBERED_CURSOR + 1) (sym turns.tables) (one_drawn b.limits t place i w) in
          let same = ap (λ f. unmarked_slots t0 f places) marks_same in
          let work = ap (λ x. waiting_slots t0 x.items) work_same in
          omega (arith, was, below, drawn, same, work);
      room = let same = as_much_to_do in let room = is.stage.room in let work = ap (λ x. x.room) work_same in omega (arith, same, room, work);
      tables = found_then t0 t u is.stage.tables (subst (λ z. z ≡ with_found_of t z) (sym turns.tables) (set_changes b.limits t place i w));
      rest = turns.rest ∙ ap {A = Space} (λ z. record z { words = c.words }) is.stage.rest ∙ (λ k. record before { words = c.words; work = record before.work { items = (sym work_same k).items } });
    }

    pub passed_entered : IsScanning before c place (i + 1)
    passed_entered = record {
      stage = entered_stage;
      waited = record { left = is.waited.left; marked = marked (granule_of place) ∙ is.waited.marked };
      out = λ h. is.out (subst (λ x. Contains x.items (record { 0 = place })) work_same h);
    }

-- ---- in the code's words

-- a reference of the object at a place was read, and what it holds is found
module _ (before a b : Space) (place : Place) (i k w : ℕ) (is : IsScanning before a place.0 i) (within : i < slots_at (tables_of a) place.0) (here : k ≡ field_word place.0 i) (word : w ≡ (tables_of a).heap k) (some : w ≢ 0)
    (finds : Finds a b (record { 0 = w })) where
  is_some : 1 ≤ w
  is_some = omega (arith, some)

  holds : field_at (tables_of before) place.0 i ≡ Some w
  holds = scanned_holds before a place i k w is within here word

  then : IsScanning before b place.0 i
  then = found_scanning before a b place i w is holds is_some finds

  within_then : i < slots_at (tables_of b) place.0
  within_then = let was = slots_were before a _ _ _ is.stage place.0 in let now = slots_were before b _ _ _ then.stage place.0 in omega (arith, within, was, now)

  pub may_remember : IsField b.limits place i
  may_remember = field_here before b place.0 i w then within_then holds is_some

  pub held_within : granule_of w < GRANULES_IN_BLOCK * b.limits.blocks
  held_within = held_inside before b place.0 i w then within_then holds is_some

  pub counts_on : IsTrue (is_in_chosen (tables_of b) (record { 0 = w })) → (tables_of b).cursors REMEMBERED_CURSOR < 2 ^ 63
  counts_on = cursor_far before b place.0 i w then within_then holds is_some

  module _ (c : Space) (turns : Turns b c (remembering_chosen b.limits (tables_of b) place i (record { 0 = w }))) (space : IsSpace c) where
    pub passed_over : IsScanning before c place.0 (i + 1)
    passed_over = passed_entered before b place.0 i w then within_then holds is_some (is_found a b (record { 0 = w }) finds) c turns space

    pub no_more_to_do : to_do c ≤ to_do a
    no_more_to_do =
        let same = as_much_to_do before b place.0 i w then within_then holds is_some (is_found a b (record { 0 = w }) finds) c turns space in
        let inside = due_place before a _ _ _ is.stage w (word_due before a place i k w is within here word some) in
        let falls = to_do_falls a b (record { 0 = w }) finds (let low = is_some in omega (arith, inside.0, low)) in
        omega (arith, same, falls)
