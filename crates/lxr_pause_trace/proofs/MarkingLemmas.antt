-- An object that is to be found and is found keeps the stage of a trace.
use Rattle.std.proofs.Common.{◌≡◌, ℕ, ◌+◌, ◌*◌, ◌<◌, ◌≤◌, refl, sym, ap, subst, ◌∙◌, inl, inr, ◌⊎◌, arith, Bool, true, false, cond, List, [], ◌∷◌, IsTrue, length, length-append}
use Rattle.std.specs.Prelude.{not, Some}
use Rattle.std.specs.List.{Contains}
use Rattle.std.proofs.lemmas.List.Elements.{Contains-append_left, Contains-push, Contains-push_cases}
use Rattle.lxr_layout.specs.declared.limits.Limits.{Limits}
use Rattle.lxr_layout.specs.declared.Place.{Place}
use Rattle.lxr_layout.specs.declared.TheConstants.{GRANULES_IN_BLOCK, REMEMBERED_CURSOR}
use Rattle.lxr_layout.specs.Spaces.{AreLimits, all_regions, region_begin}
use Rattle.lxr_base.specs.Roomy.{pushed}
use Rattle.lxr_image.specs.declared.space.Space.{Space}
use Rattle.lxr_image.specs.Spaces.{tables_of}
use Rattle.lxr_image.specs.Tables.{Tables, changed}
use Rattle.lxr_image.specs.Reads.{field_at, granule_of}
use Rattle.lxr_model_counting.proofs.DistinctLemmas.{tested}
use Rattle.lxr_invariant.specs.Counting.{passing}
use Rattle.lxr_invariant.proofs.EntryLemmas.{changed_cases, changed_here, passing_more, passing_one_more}
use Rattle.lxr_remset.specs.Remembering.{is_in_chosen}
use Rattle.lxr_pause_trace.specs.Marking.{EntersOnly, Finds, HasAllLeft, IsDue, IsFound, IsMarkedSoFar, IsSeen, IsWaiting, KeepsEntries, MarkingStage, WaitOnce, granules, to_do, unmarked_slots, waiting_slots}
use Rattle.lxr_pause_trace.proofs.DrawnLemmas.{drawn_alike, once_pushed}
use Rattle.lxr_pause_trace.proofs.EnteringLemmas.{found_alike, found_then, kept_alike, kept_then, with_found_of}
use Rattle.lxr_pause_trace.proofs.LeftLemmas.{due_left, left_start}
use Rattle.lxr_pause_trace.proofs.SlotLemmas.{fewer_unmarked, one_marked, waiting_pushed}

-- ---- one object

module _ (a b : Space) (place : Place) (finds : Finds a b place) where
  abbrev pub t : Tables
  t = tables_of a

  abbrev pub u : Tables
  u = tables_of b

  abbrev pub g : ℕ
  g = granule_of place.0

  marks_now : (k : ℕ) → u.marks k ≡ changed t.marks g true k
  marks_now k = ap (λ z. z.marks k) finds.tables

  grays_now : (k : ℕ) → u.grays k ≡ changed t.grays g true k
  grays_now k = ap (λ z. z.grays k) finds.tables

  set_grows : (f : ℕ → Bool) (k : ℕ) → IsTrue (f k) → IsTrue (changed f g true k)
  set_grows f k h = elim (changed_cases f g true k) [ inl q ↦ q.1 | inr q ↦ q.1 ∙ h ]

  pub marks_grow : (k : ℕ) → IsTrue (t.marks k) → IsTrue (u.marks k)
  marks_grow k h = marks_now k ∙ set_grows t.marks k h

  grays_grow : (k : ℕ) → IsTrue (t.grays k) → IsTrue (u.grays k)
  grays_grow k h = grays_now k ∙ set_grows t.grays k h

  pub is_found : IsFound u place.0
  is_found = record { gray = grays_now g ∙ changed_here t.grays g true g refl; marked = marks_now g ∙ changed_here t.marks g true g refl }

  pub found_grows : (q : ℕ) → IsFound t q → IsFound u q
  found_grows q is = record { gray = grays_grow (granule_of q) is.gray; marked = marks_grow (granule_of q) is.marked }

  -- the remembered set stays
  pub set_stays : (l : Limits) → KeepsEntries l t u
  set_stays l = kept_alike l t u (ap (λ z. z.remembered) finds.tables) (ap (λ z. z.cursors REMEMBERED_CURSOR) finds.tables) (ap (λ z. z.reuse) finds.tables)

  -- a reference that was seen is
  pub seen_grows : (l : Limits) (p i q : ℕ) → IsSeen l t p i q → IsSeen l u p i q
  seen_grows l p i q is = record {
    found = found_grows q is.found;
    remembered = λ chosen. elim (is.remembered (sym (ap (λ z. is_in_chosen z (record { 0 = q })) finds.tables) ∙ chosen)) [
      | inl there ↦ inl ((set_stays l).entered p i there)
      | inr full ↦ inr ((set_stays l).full full)
    ];
  }

  found_tables : u ≡ with_found_of t u
  found_tables = found_alike t u (finds.tables ∙ (λ i. record t { grays = λ k. sym (grays_now k) i; marks = λ k. sym (marks_now k) i }))

  -- a bit that is set was set, or is that of the granule
  set_cases : (f : ℕ → Bool) (k : ℕ) → IsTrue (changed f g true k) → IsTrue (f k) ⊎ (k ≡ g)
  set_cases f k h = elim (changed_cases f g true k) [ inl q ↦ inr q.0 | inr q ↦ inl (sym q.1 ∙ h) ]

  pub marks_cases : (k : ℕ) → IsTrue (u.marks k) → IsTrue (t.marks k) ⊎ (k ≡ g)
  marks_cases k h = set_cases t.marks k (sym (marks_now k) ∙ h)

  pub grays_cases : (k : ℕ) → IsTrue (u.grays k) → IsTrue (t.grays k) ⊎ (k ≡ g)
  grays_cases k h = set_cases t.grays k (sym (grays_now k) ∙ h)

  -- ---- the worklist

  pub work_marked : IsTrue (t.marks g) → b.work ≡ a.work
  work_marked h = finds.work ∙ ap (λ x. cond x a.work (pushed a.work place)) h

  pub work_unmarked : t.marks g ≡ false → b.work ≡ pushed a.work place
  work_unmarked h = finds.work ∙ ap (λ x. cond x a.work (pushed a.work place)) h

  pub work_room : b.work.room ≡ a.work.room
  work_room = elim (tested (t.marks g)) [ inl h ↦ ap (λ w. w.room) (work_marked h) | inr h ↦ ap (λ w. w.room) (work_unmarked h) ]

  pub work_grows : (p : Place) → Contains a.work.items p → Contains b.work.items p
  work_grows p h = elim (tested (t.marks g)) [
    | inl k ↦ subst (λ w. Contains w.items p) (sym (work_marked k)) h
    | inr k ↦ subst (λ w. Contains w.items p) (sym (work_unmarked k)) (Contains-append_left a.work.items (place ∷ []) p h)
  ]

  pub work_waits : t.marks g ≡ false → Contains b.work.items place
  work_waits h = subst (λ w. Contains w.items place) (sym (work_unmarked h)) (Contains-push a.work.items place)

  pub work_cases : (p : Place) → Contains b.work.items p → Contains a.work.items p ⊎ ((t.marks g ≡ false) × (place ≡ p))
  work_cases p h = elim (tested (t.marks g)) [
    | inl k ↦ inl (subst (λ w. Contains w.items p) (work_marked k) h)
    | inr k ↦ elim (Contains-push_cases a.work.items place p (subst (λ w. Contains w.items p) (work_unmarked k) h)) [ inl old ↦ inl old | inr new ↦ inr (k, new) ]
  ]

  -- a marked object waits only if it did
  pub still_waits : (p : ℕ) → IsTrue (t.marks (granule_of p)) → Contains b.work.items (record { 0 = p }) → Contains a.work.items (record { 0 = p })
  still_waits p marked h = elim (work_cases (record { 0 = p }) h) [
    | inl old ↦ old
    | inr new ↦ absurd (let unmarked = new.0 in let same : g ≡ granule_of p = ap (λ z. granule_of z.0) new.1 in cc)
  ]

  -- ---- what is left to do

  limits_stay : b.limits ≡ a.limits
  limits_stay = ap (λ s. s.limits) finds.rest

  not_falls : (x y : Bool) → (x ≡ true → y ≡ true) → not y ≡ true → not x ≡ true
  not_falls true y h e = absurd (let f = h refl in cc)
  not_falls false y h e = refl

  fewer : (k : ℕ) → not (u.marks k) ≡ true → not (t.marks k) ≡ true
  fewer k = not_falls (t.marks k) (u.marks k) (marks_grow k)

  -- what is found leaves no more to do
  pub to_do_falls : g < granules a → to_do b ≤ to_do a
  to_do_falls within =
      let n : passing (λ k. not (u.marks k)) (granules b) ≡ passing (λ k. not (u.marks k)) (granules a) = ap (λ l. passing (λ k. not (u.marks k)) (GRANULES_IN_BLOCK * l.blocks)) limits_stay in
      elim (tested (t.marks g)) [
        | inl h ↦
            let less = passing_more (λ k. not (u.marks k)) (λ k. not (t.marks k)) (granules a) fewer in
            let same : length b.work.items ≡ length a.work.items = ap (λ w. length w.items) (work_marked h) in
            omega (arith, n, less, same)
        | inr h ↦
            let less = passing_one_more (λ k. not (u.marks k)) (λ k. not (t.marks k)) g (granules a) fewer within (ap not is_found.marked) (ap not h) in
            let more : length b.work.items ≡ length a.work.items + 1 = ap (λ w. length w.items) (work_unmarked h) ∙ length-append a.work.items (place ∷ []) in
            omega (arith, n, less, more)
      ]

  -- ---- the stage

  module _ (before : Space) (end : ℕ) (pending : ℕ → ℕ → Type 0) (ahead : ℕ) (stage : MarkingStage before a end pending ahead) (due : IsDue (tables_of before) place.0) (within : g < granules a) where
    abbrev pub t0 : Tables
    t0 = tables_of before

    placed_at : (p : ℕ) → 1 ≤ p → granule_of p ≡ g → place.0 ≡ p
    placed_at p placed e = let here = due.placed in omega (arith, placed, here, e)

    so_far : IsMarkedSoFar t0 u
    so_far = record {
      marks_kept = λ k h. marks_grow k (stage.so_far.marks_kept k h);
      marks_left = λ p placed h. elim (marks_cases (granule_of p) h) [
        | inl old ↦ stage.so_far.marks_left p placed old
        | inr e ↦ elim (tested (t0.marks (granule_of p))) [
          | inl marked ↦ inl marked
          | inr unmarked ↦ inr (due_left t0 p (subst (IsDue t0) (placed_at p placed e) due) unmarked)
        ]
      ];
      grays_kept = λ k h. grays_grow k (stage.so_far.grays_kept k h);
      grays_due = λ p placed h. elim (grays_cases (granule_of p) h) [
        | inl old ↦ stage.so_far.grays_due p placed old
        | inr e ↦ subst (IsDue t0) (placed_at p placed e) due
      ];
    }

    -- an unmarked object was unmarked before
    was_unmarked : t.marks g ≡ false → t0.marks g ≡ false
    was_unmarked h = elim (tested (t0.marks g)) [ inl marked ↦ absurd (let now = stage.so_far.marks_kept g marked in cc) | inr unmarked ↦ unmarked ]

    waits : (p : Place) → Contains b.work.items p → IsWaiting t0 u p.0
    waits p h = elim (work_cases p h) [
      | inl old ↦ let w = stage.waiting p old in record { left = w.left; marked = marks_grow (granule_of p.0) w.marked }
      | inr new ↦ subst (λ z. IsWaiting t0 u z.0) new.1 (record { left = due_left t0 place.0 due (was_unmarked new.0); marked = is_found.marked })
    ]

    scans : (p q i : ℕ) → IsWaiting t0 u p → 1 ≤ q → field_at t0 p i ≡ Some q → Contains b.work.items (record { 0 = p }) ⊎ pending p i ⊎ IsSeen before.limits u p i q
    scans p q i w placed e =
        let here : 1 ≤ p = (left_start t0 before.limits.blocks stage.traceable p w.left).0 in
        elim (tested (t.marks (granule_of p))) [
          | inl old ↦ elim (stage.scanned p q i (record { left = w.left; marked = old }) placed e) [
            | inl c ↦ inl (work_grows (record { 0 = p }) c)
            | inr (inl c) ↦ inr (inl c)
            | inr (inr c) ↦ inr (inr (seen_grows before.limits p i q c))
          ]
          | inr new ↦ elim (marks_cases (granule_of p) w.marked) [
            | inl c ↦ absurd (cc)
            | inr c ↦
                let same : place.0 ≡ p = placed_at p here c in
                inl (subst (λ z. Contains b.work.items (record { 0 = z })) same (work_waits (ap t.marks (sym c) ∙ new)))
          ]
        ]

    -- what is found is one of the places where it is left to mark, and waits with its references
    more_waits : (places : List ℕ) → HasAllLeft t0 places
        → unmarked_slots t0 u.marks places + waiting_slots t0 b.work.items ≤ unmarked_slots t0 t.marks places + waiting_slots t0 a.work.items
    more_waits places all = elim (tested (t.marks g)) [
      | inl h ↦
          let fewer = fewer_unmarked t0 t.marks u.marks marks_grow places in
          let same = ap (λ w. waiting_slots t0 w.items) (work_marked h) in
          omega (arith, fewer, same)
      | inr h ↦
          let fewer = one_marked t0 t.marks u.marks marks_grow places place.0 (all place.0 (due_left t0 place.0 due (was_unmarked h))) h is_found.marked in
          let more = ap (λ w. waiting_slots t0 w.items) (work_unmarked h) ∙ waiting_pushed t0 a.work.items place in
          omega (arith, fewer, more)
    ]

    single : WaitOnce b.work.items
    single = elim (tested (t.marks g)) [
      | inl h ↦ subst (λ w. WaitOnce w.items) (sym (work_marked h)) stage.single
      | inr h ↦ subst (λ w. WaitOnce w.items) (sym (work_unmarked h)) (once_pushed a.work.items place stage.single (λ there. let marked = (stage.waiting place there).marked in absurd (cc)))
    ]

    drawn : EntersOnly before.limits t0 u (λ p i. Contains b.work.items (record { 0 = p }) ⊎ pending p i)
    drawn = drawn_alike before.limits t0 t _ stage.drawn u _ (ap (λ z. z.remembered) finds.tables) (ap (λ z. z.cursors REMEMBERED_CURSOR) finds.tables) (ap (λ z. z.reuse) finds.tables)
        (ap (λ z. z.states) finds.tables) marks_grow later
      where
        later : (p i : ℕ) → IsTrue (t.marks (granule_of p)) → Contains b.work.items (record { 0 = p }) ⊎ pending p i → Contains a.work.items (record { 0 = p }) ⊎ pending p i
        later p i marked (inl c) = inl (still_waits p marked c)
        later p i marked (inr c) = inr c

    work_then : b.work ≡ record before.work { items = b.work.items }
    work_then = let room : b.work.room ≡ before.work.room = work_room ∙ ap (λ s. s.work.room) stage.rest in λ i. record { items = b.work.items; room = room i }

    rest_then : b ≡ record before { words = b.words; work = record before.work { items = b.work.items } }
    rest_then = finds.rest ∙ ap {A = Space} (λ z. record z { words = b.words; work = b.work }) stage.rest ∙ (λ i. record before { words = b.words; work = work_then i })

    pub found_stage : MarkingStage before b end pending ahead
    found_stage = record {
      space = record {
        limits = subst AreLimits (sym limits_stay) stage.space.limits;
        size = ap (λ z. z.size) finds.tables ∙ stage.space.size ∙ ap (λ l. region_begin l all_regions) (sym limits_stay);
      };
      traceable = stage.traceable;
      far = stage.far;
      so_far = so_far;
      ended = λ k below h. elim (grays_cases k h) [ inl old ↦ marks_grow k (stage.ended k below old) | inr here ↦ ap u.marks here ∙ is_found.marked ];
      waiting = waits;
      scanned = scans;
      single = single;
      kept = kept_then before.limits t0 t u (ap (λ z. z.states) stage.tables) stage.kept (set_stays before.limits);
      drawn = drawn;
      bound = λ places all.
          let was = stage.bound places all in
          let drawn : u.cursors REMEMBERED_CURSOR ≡ t.cursors REMEMBERED_CURSOR = ap (λ z. z.cursors REMEMBERED_CURSOR) finds.tables in
          let more = more_waits places all in
          omega (arith, was, drawn, more);
      room = let falls = to_do_falls within in let room = stage.room in let same = work_room in omega (arith, falls, room, same);
      tables = found_then t0 t u stage.tables found_tables;
      rest = rest_then;
    }
