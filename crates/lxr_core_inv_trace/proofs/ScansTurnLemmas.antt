-- One tracer makes a step: what has to be shown of its step alone, so that what all tracers know stays so. Bits that are set stay set.
use Rattle.std.proofs.Common.{◌≡◌, ℕ, sym, ap, subst, ◌∙◌, inl, inr, List, IsTrue}
use Rattle.std.specs.Prelude.{Some, slice_get, slice_set}
use Rattle.lxr_layout.specs.declared.Name.{Name}
use Rattle.lxr_image.specs.Tables.{Tables}
use Rattle.lxr_image.specs.Reads.{granule_of}
use Rattle.lxr_model.specs.Moments.{Moment}
use Rattle.lxr_core_access.specs.Tracers.{Tracing, Rests, AsksGray, AsksObject, Marks, ReadsShape, Scans, AsksReferent, GraysReferent, AsksBlock, ReadsReuse, DrawsNumber, Enters, FindsNothing}
use Rattle.lxr_core_invariant.specs.Traced.{AreScanned, IsScannedAt, KnowsObjects, scanned_by}
use Rattle.lxr_core_invariant.proofs.ShowingLemmas.{shown_cases}

-- marks and grays that are set stay so
pub record KeepsBits (t u : Tables) : Type 0 where
  pub marks : (k : ℕ) → IsTrue (t.marks k) → IsTrue (u.marks k)
  pub grays : (k : ℕ) → IsTrue (t.grays k) → IsTrue (u.grays k)

-- so what tracers have learned stays true
pub scanned_kept : (t u : Tables) (m : Moment) (at : Name → ℕ) (place refs index : ℕ) → KeepsBits t u → IsScannedAt t m at place refs index → IsScannedAt u m at place refs index
scanned_kept t u m at place refs index keeps is = record { stands = is.stands; marked = keeps.marks (granule_of place) is.marked; refs_are = is.refs_are; within = is.within }

pub known_kept : (blocks : ℕ) (t u : Tables) (m : Moment) (at : Name → ℕ) (d : Tracing) → KeepsBits t u → KnowsObjects blocks t m at d → KnowsObjects blocks u m at d
known_kept blocks t u m at Rests keeps is = is
known_kept blocks t u m at (AsksGray place) keeps is = is
known_kept blocks t u m at (AsksObject place gray) keeps is = (is.0, λ e. keeps.grays (granule_of place) (is.1 e))
known_kept blocks t u m at (Marks place) keeps is = (is.0, keeps.grays (granule_of place) is.1)
known_kept blocks t u m at (ReadsShape place) keeps is = (is.0, keeps.marks (granule_of place) is.1)
known_kept blocks t u m at (Scans place refs index) keeps is = scanned_kept t u m at place refs index keeps is
known_kept blocks t u m at (AsksReferent place refs index referent) keeps is = (scanned_kept t u m at place refs index keeps is.0, is.1)
known_kept blocks t u m at (GraysReferent place refs index referent) keeps is = (scanned_kept t u m at place refs index keeps is.0, is.1)
known_kept blocks t u m at (AsksBlock place refs index referent) keeps is = (scanned_kept t u m at place refs index keeps is.0, is.1)
known_kept blocks t u m at (ReadsReuse place refs index) keeps is = scanned_kept t u m at place refs index keeps is
known_kept blocks t u m at (DrawsNumber place refs index counter) keeps is = scanned_kept t u m at place refs index keeps is
known_kept blocks t u m at (Enters place refs index counter number) keeps is = scanned_kept t u m at place refs index keeps is
known_kept blocks t u m at FindsNothing keeps is = is

-- tables in which no bit is cleared
pub scans_still : (blocks : ℕ) (t u : Tables) (ts : List Tracing) (m : Moment) (at : Name → ℕ) → KeepsBits t u → AreScanned blocks t ts m at → AreScanned blocks u ts m at
scans_still blocks t u ts m at keeps is = record { knows = λ i d shows. known_kept blocks t u m at d keeps (is.knows i d shows); one_scanner = is.one_scanner }

-- ---- a step

-- The step of tracer i, from d to e, with the tables before and after it: what it knows then, and that no other scans what it scans.
pub record Moves (blocks : ℕ) (t u : Tables) (ts : List Tracing) (m : Moment) (at : Name → ℕ) (i : ℕ) (d e : Tracing) : Type 0 where
  pub keeps : KeepsBits t u
  pub scanner : (j : ℕ) (f : Tracing) (place : ℕ) → slice_get ts j ≡ Some f → scanned_by f ≡ Some place → scanned_by e ≡ Some place → j ≡ i
  pub own : KnowsObjects blocks u m at e

module _ (blocks : ℕ) (t u : Tables) (ts : List Tracing) (m : Moment) (at : Name → ℕ) (i : ℕ) (d e : Tracing) (was : AreScanned blocks t ts m at) (shows : slice_get ts i ≡ Some d)
    (moves : Moves blocks t u ts m at i d e) where
  abbrev after : List Tracing
  after = slice_set ts i e

  one_scanner : (j k : ℕ) (f g : Tracing) (place : ℕ) → slice_get after j ≡ Some f → slice_get after k ≡ Some g → scanned_by f ≡ Some place → scanned_by g ≡ Some place → j ≡ k
  one_scanner j k f g place at_j at_k by_f by_g = elim (shown_cases ts i d e j f shows at_j) [
    | inl p ↦ elim (shown_cases ts i d e k g shows at_k) [
      | inl q ↦ p.0 ∙ sym q.0
      | inr q ↦ absurd (q.0 (moves.scanner k g place q.1 by_g (ap scanned_by (sym p.1) ∙ by_f)))
    ]
    | inr p ↦ elim (shown_cases ts i d e k g shows at_k) [
      | inl q ↦ absurd (p.0 (moves.scanner j f place p.1 by_f (ap scanned_by (sym q.1) ∙ by_g)))
      | inr q ↦ was.one_scanner j k f g place p.1 q.1 by_f by_g
    ]
  ]

  knows : (j : ℕ) (f : Tracing) → slice_get after j ≡ Some f → KnowsObjects blocks u m at f
  knows j f there = elim (shown_cases ts i d e j f shows there) [
    | inl p ↦ subst (KnowsObjects blocks u m at) (sym p.1) moves.own
    | inr p ↦ known_kept blocks t u m at f moves.keeps (was.knows j f p.1)
  ]

  -- what is shown of the step keeps what all tracers know
  pub moved : AreScanned blocks u after m at
  moved = record { knows = knows; one_scanner = one_scanner }

-- A step that begins no scan: it knows what it knows, and scans what it scanned, if anything.
pub looked : (blocks : ℕ) (t : Tables) (ts : List Tracing) (m : Moment) (at : Name → ℕ) (i : ℕ) (d e : Tracing) → AreScanned blocks t ts m at → slice_get ts i ≡ Some d
    → ((place : ℕ) → scanned_by e ≡ Some place → scanned_by d ≡ Some place) → KnowsObjects blocks t m at e → AreScanned blocks t (slice_set ts i e) m at
looked blocks t ts m at i d e was shows scans own = moved blocks t t ts m at i d e was shows (record {
  keeps = record { marks = λ k set. set; grays = λ k set. set };
  scanner = λ j f place there by_f by_e. was.one_scanner j i f d place there shows by_f (scans place by_e);
  own = own;
})
