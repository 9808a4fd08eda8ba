-- Each step of a tracer keeps what tracers know: case by case of where a step leads.
use Rattle.std.proofs.Common.{◌≡◌, ◌≢◌, ℕ, zero, suc, ◌+◌, ◌<◌, refl, sym, ap, subst, ◌∙◌, inl, inr, arith, Bool, true, false, cond, List, [], ◌∷◌, IsTrue}
use Rattle.std.specs.Prelude.{nat_lt, Option, Some, None, slice_get, slice_set}
use Rattle.lxr_layout.specs.declared.limits.Limits.{Limits}
use Rattle.lxr_layout.specs.declared.Header.TheVariants as header
use Rattle.lxr_layout.specs.declared.Name.{Name}
use Rattle.lxr_layout.specs.declared.Shape.{Shape}
use Rattle.lxr_layout.specs.declared.TheConstants.{REMEMBERED_CURSOR}
use Rattle.lxr_layout.specs.Objects.{header_of}
use Rattle.lxr_layout.specs.Places.{field_word, first_word}
use Rattle.lxr_layout.specs.Runs.{word_of_entry}
use Rattle.lxr_graph.proofs.NameSets.{not_both}
use Rattle.lxr_image.specs.Tables.{Tables, changed}
use Rattle.lxr_image.specs.Reads.{granule_of}
use Rattle.lxr_model.specs.Moments.{Moment}
use Rattle.lxr_invariant.proofs.EntryLemmas.{changed_cases, changed_here}
use Rattle.lxr_core_access.specs.declared.Access.{Access}
use Rattle.lxr_core_access.specs.declared.Access.TheVariants as access
use Rattle.lxr_core_access.specs.Accesses.{done_to}
use Rattle.lxr_core_access.specs.Tracers.{Attempts, Tracing, TracerGoes, IsTry, begins, goes_on, pocket, nothing, scanned_next, tracer_access, Rests, AsksGray, AsksObject, Marks, ReadsShape, Scans, AsksReferent, GraysReferent, AsksBlock, ReadsReuse, DrawsNumber, Enters, FindsNothing}
use Rattle.lxr_core_access.specs.Tracers as goes
use Rattle.lxr_core_invariant.specs.Counted.{IsInHeap}
use Rattle.lxr_core_invariant.specs.Traced.{AreScanned, IsScannedAt, KnowsObjects, scanned_by}
use Rattle.lxr_core_invariant.proofs.ShowingLemmas.{set_here}
use Rattle.lxr_core_inv_trace.proofs.ScansGroundLemmas.{IsGround}
use Rattle.lxr_core_inv_trace.proofs.ScansTurnLemmas.{KeepsBits, looked, moved, scans_still}

-- ---- tables after an access

-- the tables after an access, where there is one
abbrev pub after_access : Tables → Option Access → Tables
after_access t None = t
after_access t (Some access) = done_to t access

-- a bit that is set stays so when one is set
pub set_stays : (f : ℕ → Bool) (granule k : ℕ) → IsTrue (f k) → IsTrue (changed f granule true k)
set_stays f granule k set = elim (changed_cases f granule true k) [ inl q ↦ q.1 | inr q ↦ q.1 ∙ set ]

-- so no mark and no gray bit is cleared
pub mark_keeps : (t : Tables) (granule : ℕ) → KeepsBits t (done_to t (access.SetMark granule))
mark_keeps t granule = record { marks = set_stays t.marks granule; grays = λ k set. set }

pub gray_keeps : (t : Tables) (granule : ℕ) → KeepsBits t (done_to t (access.SetGray granule))
gray_keeps t granule = record { marks = λ k set. set; grays = set_stays t.grays granule }

-- a number of the remembered set that is drawn, and an entry that is written, change neither
pub draw_keeps : (t : Tables) → KeepsBits t (done_to t (access.Draw REMEMBERED_CURSOR))
draw_keeps t = record { marks = λ k set. set; grays = λ k set. set }

pub entry_keeps : (t : Tables) (number word : ℕ) → KeepsBits t (done_to t (access.PutRemembered number word))
entry_keeps t number word = record { marks = λ k set. set; grays = λ k set. set }

-- ---- what comes next

-- What comes once a reference is scanned, or a shape was read: the same object is scanned, if any, and this is known of it.
record IsNext (blocks : ℕ) (t : Tables) (m : Moment) (at : Name → ℕ) (place : ℕ) (e : Tracing) : Type 0 where
  scans : (p : ℕ) → scanned_by e ≡ Some p → Some place ≡ Some p
  own : KnowsObjects blocks t m at e

next_is : (blocks : ℕ) (t : Tables) (m : Moment) (at : Name → ℕ) (place refs next : ℕ) → (next < refs → IsScannedAt t m at place refs next) → IsNext blocks t m at place (scanned_next place refs next)
next_is blocks t m at place refs next knows = elim (nat_lt next refs) as (λ c. nat_lt next refs ≡ c → IsNext blocks t m at place (cond c (Scans place refs next) Rests)) [
  | true ↦ λ k. record { scans = λ p e. e; own = knows (let less : next < refs = grind (arith, k) in less) }
  | false ↦ λ k. record { scans = λ p e. absurd (cc); own = tt }
] refl

-- what is tried is scanned by none yet
try_scans : (blocks : ℕ) (e : Tracing) (place : ℕ) → IsTry blocks e → scanned_by e ≡ Some place → ⊥
try_scans blocks e place (pocket p some within) k = cc
try_scans blocks e place nothing k = cc

-- a place that is tried is one of the heap
try_knows : (blocks : ℕ) (t : Tables) (m : Moment) (at : Name → ℕ) (e : Tracing) → IsTry blocks e → KnowsObjects blocks t m at e
try_knows blocks t m at e (pocket place some within) = (some, within)
try_knows blocks t m at e nothing = tt

-- ---- what is scanned is marked

-- who scans an object has seen its mark set
scans_marked : (blocks : ℕ) (t : Tables) (m : Moment) (at : Name → ℕ) (f : Tracing) (place : ℕ) → KnowsObjects blocks t m at f → scanned_by f ≡ Some place → IsTrue (t.marks (granule_of place))
scans_marked blocks t m at (ReadsShape p) place knows by = let same : p ≡ place = cc in subst (λ q. IsTrue (t.marks (granule_of q))) same knows.1
scans_marked blocks t m at (Scans p refs index) place knows by = let same : p ≡ place = cc in subst (λ q. IsTrue (t.marks (granule_of q))) same knows.marked
scans_marked blocks t m at (AsksReferent p refs index referent) place knows by = let same : p ≡ place = cc in subst (λ q. IsTrue (t.marks (granule_of q))) same knows.0.marked
scans_marked blocks t m at (GraysReferent p refs index referent) place knows by = let same : p ≡ place = cc in subst (λ q. IsTrue (t.marks (granule_of q))) same knows.0.marked
scans_marked blocks t m at (AsksBlock p refs index referent) place knows by = let same : p ≡ place = cc in subst (λ q. IsTrue (t.marks (granule_of q))) same knows.0.marked
scans_marked blocks t m at (ReadsReuse p refs index) place knows by = let same : p ≡ place = cc in subst (λ q. IsTrue (t.marks (granule_of q))) same knows.marked
scans_marked blocks t m at (DrawsNumber p refs index counter) place knows by = let same : p ≡ place = cc in subst (λ q. IsTrue (t.marks (granule_of q))) same knows.marked
scans_marked blocks t m at (Enters p refs index counter number) place knows by = let same : p ≡ place = cc in subst (λ q. IsTrue (t.marks (granule_of q))) same knows.marked
scans_marked blocks t m at _ place knows by = absurd (cc)

-- ---- the steps

module _ (l : Limits) (t : Tables) (ts : List Tracing) (m : Moment) (at : Name → ℕ) (ground : IsGround l t m at) (was : AreScanned l.blocks t ts m at) (i : ℕ) where
  -- it only looks
  look : (d e : Tracing) → slice_get ts i ≡ Some d → ((place : ℕ) → scanned_by e ≡ Some place → scanned_by d ≡ Some place) → KnowsObjects l.blocks t m at e → AreScanned l.blocks t (slice_set ts i e) m at
  look d e shows scans own = looked l.blocks t ts m at i d e was shows scans own

  -- it tries another place
  tries : (d e : Tracing) → slice_get ts i ≡ Some d → IsTry l.blocks e → AreScanned l.blocks t (slice_set ts i e) m at
  tries d e shows try = look d e shows (λ place k. absurd (try_scans l.blocks e place try k)) (try_knows l.blocks t m at e try)

  -- it goes on with the object that it scans
  goes_next : (d : Tracing) (place refs next : ℕ) → slice_get ts i ≡ Some d → scanned_by d ≡ Some place → (next < refs → IsScannedAt t m at place refs next) → AreScanned l.blocks t (slice_set ts i (scanned_next place refs next)) m at
  goes_next d place refs next shows by knows =
      let is = next_is l.blocks t m at place refs next knows in
      look d (scanned_next place refs next) shows (λ p k. by ∙ is.scans p k) is.own

  -- the reference is done with
  passes : (d : Tracing) (place refs index : ℕ) → slice_get ts i ≡ Some d → scanned_by d ≡ Some place → IsScannedAt t m at place refs index → AreScanned l.blocks t (slice_set ts i (scanned_next place refs (index + 1))) m at
  passes d place refs index shows by knows = goes_next d place refs (index + 1) shows by (λ less. record { stands = knows.stands; marked = knows.marked; refs_are = knows.refs_are; within = less })

  -- it has marked an object that was unmarked, so that nobody else scans it
  marks_counted : (place : ℕ) → slice_get ts i ≡ Some (Marks place) → t.marks (granule_of place) ≡ false → AreScanned l.blocks (done_to t (access.SetMark (granule_of place))) (slice_set ts i (ReadsShape place)) m at
  marks_counted place shows clear =
      let u : Tables = done_to t (access.SetMark (granule_of place)) in
      let knows = was.knows i (Marks place) shows in
      moved l.blocks t u ts m at i (Marks place) (ReadsShape place) was shows (record {
        keeps = mark_keeps t (granule_of place);
        scanner = λ j f p there by_f by_e.
            let same : p ≡ place = cc in
            absurd (not_both (t.marks (granule_of place)) (subst (λ q. IsTrue (t.marks (granule_of q))) same (scans_marked l.blocks t m at f p (was.knows j f there) by_f)) clear);
        own = (knows.0, changed_here t.marks (granule_of place) true (granule_of place) refl);
      })

  -- the header of a marked object tells how many references it has
  shape_counted : (place : ℕ) (n : Name) (shape : Shape) → slice_get ts i ≡ Some (ReadsShape place) → header_of (t.heap (first_word place)) ≡ header.Object n shape
      → AreScanned l.blocks t (slice_set ts i (scanned_next place shape.refs 0)) m at
  shape_counted place n shape shows told =
      let knows = was.knows i (ReadsShape place) shows in
      let there = ground.object place knows.0 in
      let same : header.Object n shape ≡ header.Object there.name there.shape = sym told ∙ there.told in
      let shapes : shape ≡ there.shape = cc in
      goes_next (ReadsShape place) place shape.refs 0 shows refl (λ less. record { stands = knows.0; marked = knows.1; refs_are = ap (λ (z : Shape). z.refs) shapes ∙ there.refs; within = less })

  -- a reference that isn't nil is a place of the heap
  reads_place : (place refs index : ℕ) → IsScannedAt t m at place refs index → t.heap (field_word place index) ≢ 0 → IsInHeap l.blocks (t.heap (field_word place index))
  reads_place place refs index knows some =
      let there = ground.object place knows.stands in
      let as_many = knows.refs_are ∙ sym there.refs in
      let within = knows.within in
      elim (there.reads index (omega (arith, as_many, within))) [ inl nil ↦ absurd (some nil) | inr low ↦ low ]

  -- each step keeps what tracers know
  pub step_scanned : (remember : ℕ) (d e : Tracing) → slice_get ts i ≡ Some d → TracerGoes l.blocks remember t d e → AreScanned l.blocks (after_access t (tracer_access l.blocks d)) (slice_set ts i e) m at
  step_scanned remember d e shows (goes.asks_gray place) = look d e shows (λ p k. absurd (cc)) (was.knows i d shows, λ k. k)
  step_scanned remember d e shows (goes.is_white place next try) = tries d e shows try
  step_scanned remember d e shows (goes.is_none place gray next clear try) = tries d e shows try
  step_scanned remember d e shows (goes.is_object place set) = let knows = was.knows i d shows in look d e shows (λ p k. absurd (cc)) (ground.starts place knows.0.0 set, knows.1 refl)
  step_scanned remember d e shows (goes.marked_before place next set try) = scans_still l.blocks t _ (slice_set ts i e) m at (mark_keeps t (granule_of place)) (tries d e shows try)
  step_scanned remember d e shows (goes.marks place clear) = marks_counted place shows clear
  step_scanned remember d e shows (goes.reads_shape place n shape told) = shape_counted place n shape shows told
  step_scanned remember d e shows (goes.scans_nil place refs index nil) = passes d place refs index shows refl (was.knows i d shows)
  step_scanned remember d e shows (goes.scans place refs index some) = let knows = was.knows i d shows in look d e shows (λ p k. k) (knows, reads_place place refs index knows some)
  step_scanned remember d e shows (goes.finds_young place refs index referent clear) = passes d place refs index shows refl (was.knows i d shows).0
  step_scanned remember d e shows (goes.finds_object place refs index referent set) = let knows = was.knows i d shows in look d e shows (λ p k. k) (knows.0, ground.starts referent knows.1.0 set)
  step_scanned remember d e shows (goes.grays place refs index referent) = scans_still l.blocks t _ (slice_set ts i e) m at (gray_keeps t (granule_of referent)) (look d e shows (λ p k. k) (was.knows i d shows))
  step_scanned remember d e shows (goes.is_other place refs index referent other) = passes d place refs index shows refl (was.knows i d shows).0
  step_scanned remember d e shows (goes.is_chosen place refs index referent chosen) = look d e shows (λ p k. k) (was.knows i d shows).0
  step_scanned remember d e shows (goes.reads_reuse place refs index) = look d e shows (λ p k. k) (was.knows i d shows)
  step_scanned remember d e shows (goes.is_full place refs index counter full) = scans_still l.blocks t _ (slice_set ts i e) m at (draw_keeps t) (passes d place refs index shows refl (was.knows i d shows))
  step_scanned remember d e shows (goes.has_room place refs index counter room) = scans_still l.blocks t _ (slice_set ts i e) m at (draw_keeps t) (look d e shows (λ p k. k) (was.knows i d shows))
  step_scanned remember d e shows (goes.enters place refs index counter number) =
      scans_still l.blocks t _ (slice_set ts i e) m at (entry_keeps t number (word_of_entry l.blocks counter (record { 0 = place }) index)) (passes d place refs index shows refl (was.knows i d shows))
  step_scanned remember d e shows (goes.finds_nothing) = look d e shows (λ p k. absurd (cc)) tt

-- ---- how a unit begins

set_twice : {A : Type 0} (xs : List A) (i : ℕ) (x y : A) → slice_set (slice_set xs i x) i y ≡ slice_set xs i y
set_twice [] i x y = refl
set_twice (z ∷ xs) zero x y = refl
set_twice (z ∷ xs) (suc i) x y = ap (λ zs. z ∷ zs) (set_twice xs i x y)

-- the tracers, of which one is about to do a step
pub record IsAbout (blocks : ℕ) (t : Tables) (ts : List Tracing) (m : Moment) (at : Name → ℕ) (i : ℕ) (about : Tracing) : Type 0 where
  pub all : List Tracing
  pub scanned : AreScanned blocks t all m at
  pub shows : slice_get all i ≡ Some about
  pub after : (e : Tracing) → slice_set all i e ≡ slice_set ts i e

-- what is tried first is as good as between two units
pub is_about : (blocks : ℕ) (t : Tables) (ts : List Tracing) (m : Moment) (at : Name → ℕ) (i : ℕ) (before about : Tracing) → AreScanned blocks t ts m at → slice_get ts i ≡ Some before → Attempts blocks before about
    → IsAbout blocks t ts m at i about
is_about blocks t ts m at i before about was shows (begins d try) = record {
  all = slice_set ts i about;
  scanned = looked blocks t ts m at i before about was shows (λ place k. absurd (try_scans blocks about place try k)) (try_knows blocks t m at about try);
  shows = set_here ts i about before shows;
  after = λ e. set_twice ts i about e;
}
is_about blocks t ts m at i before about was shows (goes_on d) = record { all = ts; scanned = was; shows = shows; after = λ e. refl }
