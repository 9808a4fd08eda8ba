-- What tracers know of the objects that they ask for and scan. It holds whether a trace runs or not. The state at the last pause, the
-- unreclaimed names and the places of their objects stay through an epoch, so they are those of its beginning.
use Rattle.std.specs.Prelude.{◌≡◌, ℕ, ◌<◌, ⊤, true, Option, Some, None, List, IsTrue, length, slice_get}
use Rattle.lxr_layout.specs.declared.Name.{Name}
use Rattle.lxr_image.specs.Tables.{Tables}
use Rattle.lxr_image.specs.Reads.{granule_of}
use Rattle.lxr_model.specs.Moments.{Moment}
use Rattle.lxr_core_access.specs.Tracers.{Tracing, AsksGray, AsksObject, Marks, ReadsShape, Scans, AsksReferent, GraysReferent, AsksBlock, ReadsReuse, DrawsNumber, Enters}
use Rattle.lxr_core_invariant.specs.EpochStates.{Beginning, EpochState, limits_of}
use Rattle.lxr_core_invariant.specs.Counted.{IsInHeap, StandsAt, references_at}

-- the place of the object that a tracer has marked, and scans
abbrev pub scanned_by : Tracing → Option ℕ
scanned_by (ReadsShape place) = Some place
scanned_by (Scans place refs index) = Some place
scanned_by (AsksReferent place refs index referent) = Some place
scanned_by (GraysReferent place refs index referent) = Some place
scanned_by (AsksBlock place refs index referent) = Some place
scanned_by (ReadsReuse place refs index) = Some place
scanned_by (DrawsNumber place refs index counter) = Some place
scanned_by (Enters place refs index counter number) = Some place
scanned_by _ = None

-- a marked object of so many references stands at a place, and this is the index of one of them
pub record IsScannedAt (t : Tables) (m : Moment) (at : Name → ℕ) (place refs index : ℕ) : Type 0 where
  pub stands : StandsAt m at place
  pub marked : IsTrue (t.marks (granule_of place))
  pub refs_are : refs ≡ length (references_at m at place)
  pub within : index < refs

-- what a tracer knows, by what it is about to do
abbrev pub KnowsObjects : ℕ → Tables → Moment → (Name → ℕ) → Tracing → Type 0
KnowsObjects blocks t m at (AsksGray place) = IsInHeap blocks place
KnowsObjects blocks t m at (AsksObject place gray) = IsInHeap blocks place × (gray ≡ true → IsTrue (t.grays (granule_of place)))
KnowsObjects blocks t m at (Marks place) = StandsAt m at place × IsTrue (t.grays (granule_of place))
KnowsObjects blocks t m at (ReadsShape place) = StandsAt m at place × IsTrue (t.marks (granule_of place))
KnowsObjects blocks t m at (Scans place refs index) = IsScannedAt t m at place refs index
KnowsObjects blocks t m at (AsksReferent place refs index referent) = IsScannedAt t m at place refs index × IsInHeap blocks referent
KnowsObjects blocks t m at (GraysReferent place refs index referent) = IsScannedAt t m at place refs index × StandsAt m at referent
KnowsObjects blocks t m at (AsksBlock place refs index referent) = IsScannedAt t m at place refs index × StandsAt m at referent
KnowsObjects blocks t m at (ReadsReuse place refs index) = IsScannedAt t m at place refs index
KnowsObjects blocks t m at (DrawsNumber place refs index counter) = IsScannedAt t m at place refs index
KnowsObjects blocks t m at (Enters place refs index counter number) = IsScannedAt t m at place refs index
KnowsObjects blocks t m at _ = ⊤

-- What tracers know, for the moment of the last pause and the places of its unreclaimed objects.
pub record AreScanned (blocks : ℕ) (t : Tables) (ts : List Tracing) (m : Moment) (at : Name → ℕ) : Type 0 where
  pub knows : (i : ℕ) (d : Tracing) → slice_get ts i ≡ Some d → KnowsObjects blocks t m at d
  -- a marked object has one scanner, or is scanned whole
  pub one_scanner : (i j : ℕ) (d e : Tracing) (place : ℕ) → slice_get ts i ≡ Some d → slice_get ts j ≡ Some e
      → scanned_by d ≡ Some place → scanned_by e ≡ Some place → i ≡ j

abbrev pub AreScannedIn : Beginning → EpochState → Type 0
AreScannedIn b s = AreScanned (limits_of b).blocks s.tables s.tracers b.abstract_state.moment b.abstract_state.at
