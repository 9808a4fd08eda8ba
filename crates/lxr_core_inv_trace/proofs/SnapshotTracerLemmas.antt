-- Steps of tracers: one that marks an object is at its first reference, and from each reference it goes on to the next, with what it read in
-- hand until that is gray.
use Rattle.std.proofs.Common.{◌≡◌, ℕ, ◌+◌, ◌<◌, ◌≤◌, refl, sym, ap, ◌∙◌, inl, inr, ◌⊎◌, arith, true, false, cond, List, IsTrue, length}
use Rattle.std.specs.Prelude.{nat_lt, Option, Some, None, slice_get, slice_set}
use Rattle.std.proofs.lemmas.Bool.Decides.{eqb_tells}
use Rattle.std.proofs.lemmas.Option.{slice_get_within}
use Rattle.lxr_layout.specs.declared.Name.{Name}
use Rattle.lxr_layout.specs.declared.Shape.{Shape}
use Rattle.lxr_layout.specs.declared.Header.TheVariants as header
use Rattle.lxr_layout.specs.Objects.{header_of}
use Rattle.lxr_layout.specs.Places.{field_word, first_word}
use Rattle.lxr_graph.specs.Names.{has}
use Rattle.lxr_graph.specs.State.{object_at, refs_of}
use Rattle.lxr_graph.proofs.NameSets.{not_both}
use Rattle.lxr_image.specs.Tables.{Tables}
use Rattle.lxr_image.specs.Reads.{granule_of}
use Rattle.lxr_model.specs.Moments.{Moment}
use Rattle.lxr_invariant.specs.Tracing.{IsGray}
use Rattle.lxr_invariant.proofs.EntryLemmas.{changed_cases, changed_here}
use Rattle.lxr_core_access.specs.Decrementers.{Decrementing}
use Rattle.lxr_core_access.specs.Tracers.{Attempts, Tracing, TracerGoes, IsTry, begins, goes_on, nothing, pocket, scanned_next, tracer_access, Rests, AsksGray, AsksObject, Marks, ReadsShape, Scans, AsksReferent, GraysReferent, AsksBlock, ReadsReuse, DrawsNumber, Enters, FindsNothing}
use Rattle.lxr_core_access.specs.Tracers as goes
use Rattle.lxr_core_invariant.specs.Counted.{references_at}
use Rattle.lxr_core_invariant.specs.Traced.{KnowsObjects}
use Rattle.lxr_core_invariant.specs.Covered.{IsInHand, grayed_by, scans_from}
use Rattle.lxr_core_invariant.proofs.ActingLemmas.{same_pair}
use Rattle.lxr_core_invariant.proofs.ShowingLemmas.{own_or_still, set_here}
use Rattle.lxr_core_inv_trace.proofs.SnapshotFindLemmas.{HelpersFind, HoldsNow}
use Rattle.lxr_core_inv_trace.proofs.SnapshotCoverLemmas.{GoesOn, IsHandled, IsUnscanned, KeepsCover, after_access, place_by_granule}

-- What has to be shown of a tracer's step, from d to e.
pub record TracerKeeps (t u : Tables) (m : Moment) (at : Name → ℕ) (d e : Tracing) : Type 0 where
  pub grays : (k : ℕ) → IsTrue (t.grays k) → IsTrue (u.grays k)
  pub marks : (k : ℕ) → IsTrue (t.marks k) → IsTrue (u.marks k)
  pub unlogged : u.unlogged ≡ t.unlogged
  pub dones : u.dones ≡ t.dones
  -- what it has in hand becomes gray, or stays in hand; what it marks it scans from the first reference on
  pub hand : (n : Name) → IsTrue (has m.unreclaimed n) → grayed_by d ≡ Some (at n) → IsGray u at n ⊎ (grayed_by e ≡ Some (at n))
  pub marked : (n : Name) → IsTrue (has m.unreclaimed n) → t.marks (granule_of (at n)) ≡ false → (u.marks (granule_of (at n)) ≡ false) ⊎ (scans_from e ≡ Some (at n, 0))
  -- it goes on at what it scans
  pub scanned : (n v : Name) (first i : ℕ) → IsTrue (has m.unreclaimed n) → HoldsNow m n i v → scans_from d ≡ Some (at n, first) → first ≤ i → GoesOn (scans_from e) (grayed_by e) (at n) i (at v)

-- so the snapshot stays covered
module _ (t u : Tables) (m : Moment) (at : Name → ℕ) (ds : List Decrementing) (ts : List Tracing) (number : ℕ) (d e : Tracing) (shows : slice_get ts number ≡ Some d) (keeps : TracerKeeps t u m at d e) where
  abbrev after : List Tracing
  after = slice_set ts number e

  own : slice_get after number ≡ Some e
  own = set_here ts number e d shows

  hand_on : (n : Name) → IsTrue (has m.unreclaimed n) → IsInHand ds ts (at n) → IsGray u at n ⊎ IsInHand ds after (at n)
  hand_on n h (inl by) = inr (inl by)
  hand_on n h (inr (j, x, shown, grays)) = elim (own_or_still ts number d e j x shows shown) [
    | inl same ↦ elim (keeps.hand n h (ap grayed_by (sym same) ∙ grays)) [ inl gray ↦ inl gray | inr still ↦ inr (inr (number, e, own, still)) ]
    | inr there ↦ inr (inr (j, x, there, grays))
  ]

  unscanned_on : (n v : Name) (i : ℕ) → IsTrue (has m.unreclaimed n) → HoldsNow m n i v → IsUnscanned t at ts n i → IsUnscanned u at after n i ⊎ IsInHand ds after (at v)
  unscanned_on n v i h holds (inl clear) = elim (keeps.marked n h clear) [
    | inl still ↦ inl (inl still)
    | inr from ↦ inl (inr (record { number = number; tracer = e; first = 0; shows = own; from = from; later = omega arith }))
  ]
  unscanned_on n v i h holds (inr later) = elim (own_or_still ts number d e later.number later.tracer shows later.shows) [
    | inl same ↦ elim (keeps.scanned n v later.first i h holds (ap scans_from (sym same) ∙ later.from) later.later) [
      | inl on ↦ inl (inr (record { number = number; tracer = e; first = on.0; shows = own; from = on.1; later = on.2 }))
      | inr hand ↦ inr (inr (number, e, own, hand))
    ]
    | inr there ↦ inl (inr (record { number = later.number; tracer = later.tracer; first = later.first; shows = there; from = later.from; later = later.later }))
  ]

  handled_on : (n v : Name) (i : ℕ) → IsHandled t at ds n v i → IsHandled u at ds n v i
  handled_on n v i (inl gray) = inl (keeps.grays (granule_of (at v)) gray)
  handled_on n v i (inr rest) = inr rest

  pub tracer_keeps_cover : KeepsCover m at t u ds ds ts after
  tracer_keeps_cover = record {
    grays = λ n h. keeps.grays (granule_of (at n)) h;
    marks = λ n h. keeps.marks (granule_of (at n)) h;
    unlogged = keeps.unlogged;
    hand = hand_on;
    unscanned = unscanned_on;
    unhandled = λ n v i h holds unhandled. inl (elim unhandled [ inl undone ↦ inl (ap (λ f. f (granule_of (at n))) keeps.dones ∙ undone) | inr later ↦ inr later ]);
    handled = λ n v i h held before done. handled_on n v i (before (sym (ap (λ f. f (granule_of (at n))) keeps.dones) ∙ done));
    seen = λ seen. seen;
  }

-- ---- the steps

-- the next reference is scanned, where there is one
next_scans : (place refs index i : ℕ) → index ≤ i → i < refs → scans_from (scanned_next place refs index) ≡ Some (place, index)
next_scans place refs index i low within =
    let less : index < refs = omega (arith, low, within) in
    let k : nat_lt index refs ≡ true = grind (arith, less) in
    ap (λ b. scans_from (cond b (Scans place refs index) Rests)) k

module _ (blocks remember : ℕ) (t : Tables) (was : Moment) (stood : Name → ℕ) (m : Moment) (at : Name → ℕ) (find : HelpersFind t was stood m at) where
  -- a tracer that was at no object's references, and had nothing in hand
  idle : (d e : Tracing) → scans_from d ≡ None → grayed_by d ≡ None → TracerKeeps t t m at d e
  idle d e from hand = record {
    grays = λ k h. h;
    marks = λ k h. h;
    unlogged = refl;
    dones = refl;
    hand = λ n h g. absurd (let none : None ≡ Some (at n) = sym hand ∙ g in cc);
    marked = λ n h clear. inl clear;
    scanned = λ n v first i h holds f low. absurd (let none : None ≡ Some (at n, first) = sym from ∙ f in cc);
  }

  -- it looks, and goes on
  looks : (d e : Tracing) → ((n : Name) → IsTrue (has m.unreclaimed n) → grayed_by d ≡ Some (at n) → IsGray t at n ⊎ (grayed_by e ≡ Some (at n)))
      → ((n v : Name) (first i : ℕ) → IsTrue (has m.unreclaimed n) → HoldsNow m n i v → scans_from d ≡ Some (at n, first) → first ≤ i → GoesOn (scans_from e) (grayed_by e) (at n) i (at v))
      → TracerKeeps t t m at d e
  looks d e hand scanned = record { grays = λ k h. h; marks = λ k h. h; unlogged = refl; dones = refl; hand = hand; marked = λ n h clear. inl clear; scanned = scanned }

  -- it draws a number of the remembered set, or writes an entry, and goes on
  remembers : (d e : Tracing) (remembered cursors : ℕ → ℕ) → grayed_by d ≡ None
      → ((n v : Name) (first i : ℕ) → IsTrue (has m.unreclaimed n) → HoldsNow m n i v → scans_from d ≡ Some (at n, first) → first ≤ i → GoesOn (scans_from e) (grayed_by e) (at n) i (at v))
      → TracerKeeps t (record t { remembered = remembered; cursors = cursors }) m at d e
  remembers d e remembered cursors hand scanned = record {
    grays = λ k h. h;
    marks = λ k h. h;
    unlogged = refl;
    dones = refl;
    hand = λ n h g. absurd (let none : None ≡ Some (at n) = sym hand ∙ g in cc);
    marked = λ n h clear. inl clear;
    scanned = scanned;
  }

  -- an object has as many references as its tracer knows, so that each of them is reached
  next_scanned : (place refs index : ℕ) → refs ≡ length (references_at was stood place) → (n v : Name) (first i : ℕ) → IsTrue (has m.unreclaimed n) → HoldsNow m n i v → ◌≡◌ {A = Option (ℕ × ℕ)} (Some (place, index)) (Some (at n, first)) → first ≤ i
      → GoesOn (scans_from (scanned_next place refs index)) (grayed_by (scanned_next place refs index)) (at n) i (at v)
  next_scanned place refs index known n v first i h holds from low =
      let same = same_pair place index (at n) first from in
      let here = same.0 in
      let number = same.1 in
      let many = known ∙ ap (λ p. length (references_at was stood p)) here ∙ find.refs n h in
      let within = slice_get_within (refs_of (object_at m.state.graph n)) i (Some v) holds in
      inl (index, next_scans place refs index i (omega (arith, number, low)) (omega (arith, many, within)) ∙ ap (λ p. Some (p, index)) here, omega (arith, number, low))

  -- what it marks it scans from the first reference on
  marks_keep : (place : ℕ) → KnowsObjects blocks t was stood (Marks place) → TracerKeeps t (after_access t (tracer_access blocks (Marks place))) m at (Marks place) (ReadsShape place)
  marks_keep place knows = record {
    grays = λ k h. h;
    marks = λ k h. elim (changed_cases t.marks (granule_of place) true k) [ inl q ↦ q.1 | inr q ↦ q.1 ∙ h ];
    unlogged = refl;
    dones = refl;
    hand = λ n h g. absurd (let none : None ≡ Some (at n) = g in cc);
    marked = λ n h clear. elim (changed_cases t.marks (granule_of place) true (granule_of (at n))) [
      | inl q ↦ inr (ap (λ p. Some (p, 0)) (place_by_granule place (at n) (find.some place knows.0) (find.placed n h) (sym q.0)))
      | inr q ↦ inl (q.1 ∙ clear)
    ];
    scanned = λ n v first i h holds f low. absurd (let none : None ≡ Some (at n, first) = f in cc);
  }

  -- a mark that was set is none that it sets
  marked_keeps : (place : ℕ) (e : Tracing) → t.marks (granule_of place) ≡ true → TracerKeeps t (after_access t (tracer_access blocks (Marks place))) m at (Marks place) e
  marked_keeps place e set = record {
    grays = λ k h. h;
    marks = λ k h. elim (changed_cases t.marks (granule_of place) true k) [ inl q ↦ q.1 | inr q ↦ q.1 ∙ h ];
    unlogged = refl;
    dones = refl;
    hand = λ n h g. absurd (let none : None ≡ Some (at n) = g in cc);
    marked = λ n h clear. elim (changed_cases t.marks (granule_of place) true (granule_of (at n))) [
      | inl q ↦ not_both (t.marks (granule_of (at n))) (ap t.marks q.0 ∙ set) clear
      | inr q ↦ inl (q.1 ∙ clear)
    ];
    scanned = λ n v first i h holds f low. absurd (let none : None ≡ Some (at n, first) = f in cc);
  }

  -- it reads how many references there are
  shape_keeps : (place : ℕ) (o : Name) (shape : Shape) → header_of (t.heap (first_word place)) ≡ header.Object o shape → TracerKeeps t t m at (ReadsShape place) (scanned_next place shape.refs 0)
  shape_keeps place o shape told = looks (ReadsShape place) (scanned_next place shape.refs 0) (λ n h g. absurd (let none : None ≡ Some (at n) = g in cc))
      (λ n v first i h holds from low.
      let here = (same_pair place 0 (at n) first from).0 in
      let many = find.told n o shape h (ap (λ p. header_of (t.heap (first_word p))) (sym here) ∙ told) in
      let within = slice_get_within (refs_of (object_at m.state.graph n)) i (Some v) holds in
      inl (0, next_scans place shape.refs 0 i (omega arith) (omega (arith, many, within)) ∙ ap (λ p. Some (p, 0)) here, omega arith))

  -- a reference that is nil holds nothing
  nil_keeps : (place refs index : ℕ) → KnowsObjects blocks t was stood (Scans place refs index) → t.heap (field_word place index) ≡ 0
      → TracerKeeps t t m at (Scans place refs index) (scanned_next place refs (index + 1))
  nil_keeps place refs index knows nil = looks (Scans place refs index) (scanned_next place refs (index + 1)) (λ n h g. absurd (let none : None ≡ Some (at n) = g in cc))
      (λ n v first i h holds from low.
      let same = same_pair place index (at n) first from in
      let here = same.0 in
      let number = same.1 in
      elim (eqb_tells index i) [
        | inl q ↦ absurd ((find.word n v i h holds).some (ap (λ p. t.heap (field_word p i)) (sym here) ∙ ap (λ k. t.heap (field_word place k)) (sym q.1) ∙ nil))
        | inr q ↦ let other = q.1 in next_scanned place refs (index + 1) knows.refs_are n v (index + 1) i h holds (ap (λ p. Some (p, index + 1)) here) (omega (arith, low, number, other))
      ])

  -- what a reference holds comes into hand
  reads_keep : (place refs index : ℕ) → TracerKeeps t t m at (Scans place refs index) (AsksReferent place refs index (t.heap (field_word place index)))
  reads_keep place refs index = looks (Scans place refs index) (AsksReferent place refs index (t.heap (field_word place index))) (λ n h g. absurd (let none : None ≡ Some (at n) = g in cc))
      (λ n v first i h holds from low.
      let same = same_pair place index (at n) first from in
      let here = same.0 in
      let number = same.1 in
      elim (eqb_tells index i) [
        | inl q ↦ inr (ap Some (ap (λ k. t.heap (field_word place k)) q.1 ∙ ap (λ p. t.heap (field_word p i)) here ∙ (find.word n v i h holds).is))
        | inr q ↦ let other = q.1 in inl (index + 1, ap (λ p. Some (p, index + 1)) here, omega (arith, low, number, other))
      ])

  -- what is unreclaimed has its start bit
  young_keeps : (place refs index referent : ℕ) → KnowsObjects blocks t was stood (AsksReferent place refs index referent) → t.starts (granule_of referent) ≡ false
      → TracerKeeps t t m at (AsksReferent place refs index referent) (scanned_next place refs (index + 1))
  young_keeps place refs index referent knows clear = looks (AsksReferent place refs index referent) (scanned_next place refs (index + 1))
      (λ n h g.
      let same : referent ≡ at n = cc in
      not_both (t.starts (granule_of (at n))) (find.started n h) (ap (λ p. t.starts (granule_of p)) (sym same) ∙ clear))
      (next_scanned place refs (index + 1) knows.0.refs_are)

  -- what is in hand is made gray
  grays_keep : (place refs index referent : ℕ) → TracerKeeps t (after_access t (tracer_access blocks (GraysReferent place refs index referent))) m at (GraysReferent place refs index referent) (AsksBlock place refs index referent)
  grays_keep place refs index referent = record {
    grays = λ k h. elim (changed_cases t.grays (granule_of referent) true k) [ inl q ↦ q.1 | inr q ↦ q.1 ∙ h ];
    marks = λ k h. h;
    unlogged = refl;
    dones = refl;
    hand = λ n h g. let same : referent ≡ at n = cc in inl (changed_here t.grays (granule_of referent) true (granule_of (at n)) (ap granule_of (sym same)));
    marked = λ n h clear. inl clear;
    scanned = λ n v first i h holds from low. inl (first, from, low);
  }

  -- each step, by where it leads
  pub tracer_step : (d e : Tracing) → KnowsObjects blocks t was stood d → TracerGoes blocks remember t d e → TracerKeeps t (after_access t (tracer_access blocks d)) m at d e
  tracer_step d e knows (goes.asks_gray place) = idle d e refl refl
  tracer_step d e knows (goes.is_white place next try) = idle d e refl refl
  tracer_step d e knows (goes.is_none place gray next clear try) = idle d e refl refl
  tracer_step d e knows (goes.is_object place set) = idle d e refl refl
  tracer_step d e knows (goes.marked_before place next set try) = marked_keeps place e set
  tracer_step d e knows (goes.marks place clear) = marks_keep place knows
  tracer_step d e knows (goes.reads_shape place n shape told) = shape_keeps place n shape told
  tracer_step d e knows (goes.scans_nil place refs index nil) = nil_keeps place refs index knows nil
  tracer_step d e knows (goes.scans place refs index some) = reads_keep place refs index
  tracer_step d e knows (goes.finds_young place refs index referent clear) = young_keeps place refs index referent knows clear
  tracer_step d e knows (goes.finds_object place refs index referent set) = looks d e (λ n h g. inr g) (λ n v first i h holds from low. inl (first, from, low))
  tracer_step d e knows (goes.grays place refs index referent) = grays_keep place refs index referent
  tracer_step d e knows (goes.is_other place refs index referent other) =
      looks d e (λ n h g. absurd (let none : None ≡ Some (at n) = g in cc)) (next_scanned place refs (index + 1) knows.0.refs_are)
  tracer_step d e knows (goes.is_chosen place refs index referent chosen) = looks d e (λ n h g. absurd (let none : None ≡ Some (at n) = g in cc)) (λ n v first i h holds from low. inl (first, from, low))
  tracer_step d e knows (goes.reads_reuse place refs index) = looks d e (λ n h g. absurd (let none : None ≡ Some (at n) = g in cc)) (λ n v first i h holds from low. inl (first, from, low))
  tracer_step d e knows (goes.is_full place refs index counter full) = remembers d e t.remembered _ refl (next_scanned place refs (index + 1) knows.refs_are)
  tracer_step d e knows (goes.has_room place refs index counter room) = remembers d e t.remembered _ refl (λ n v first i h holds from low. inl (first, from, low))
  tracer_step d e knows (goes.enters place refs index counter number) = remembers d e _ t.cursors refl (next_scanned place refs (index + 1) knows.refs_are)
  tracer_step d e knows (goes.finds_nothing) = idle d e refl refl

-- ---- how a unit begins

-- what is tried first is as good as between two units
begun : (t u : Tables) (m : Moment) (at : Name → ℕ) (d e : Tracing) → TracerKeeps t u m at d e → TracerKeeps t u m at Rests e
begun t u m at d e keeps = record {
  grays = keeps.grays;
  marks = keeps.marks;
  unlogged = keeps.unlogged;
  dones = keeps.dones;
  hand = λ n h g. absurd (let none : None ≡ Some (at n) = g in cc);
  marked = keeps.marked;
  scanned = λ n v first i h holds f low. absurd (let none : None ≡ Some (at n, first) = f in cc);
}

pub tracer_steps : (blocks remember : ℕ) (t : Tables) (was : Moment) (stood : Name → ℕ) (m : Moment) (at : Name → ℕ) → HelpersFind t was stood m at
    → (before about e : Tracing) → KnowsObjects blocks t was stood before → Attempts blocks before about → TracerGoes blocks remember t about e → TracerKeeps t (after_access t (tracer_access blocks about)) m at before e
tracer_steps blocks remember t was stood m at find before about e knows (begins d try) goes =
    begun t (after_access t (tracer_access blocks about)) m at about e (tracer_step blocks remember t was stood m at find about e (tried try) goes)
  where
    tried : {d : Tracing} → IsTry blocks d → KnowsObjects blocks t was stood d
    tried (pocket place some within) = (some, within)
    tried (nothing) = tt
tracer_steps blocks remember t was stood m at find before about e knows (goes_on d) goes = tracer_step blocks remember t was stood m at find about e knows goes
