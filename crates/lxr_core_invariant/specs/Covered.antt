-- While a trace runs, its snapshot is covered: what it holds is found, or will be, whatever mutators store, decrementers reclaim and
-- tracers scan.
use Rattle.std.specs.Prelude.{◌≡◌, ℕ, ◌+◌, ◌≤◌, ◌⊎◌, ⊤, true, false, Option, Some, None, List, IsTrue, slice_get}
use Rattle.lxr_layout.specs.declared.Name.{Name}
use Rattle.lxr_layout.specs.declared.LogEntry.{LogEntry}
use Rattle.lxr_graph.specs.Names.{has}
use Rattle.lxr_graph.specs.State.{object_at, refs_of, world_name}
use Rattle.lxr_image.specs.Tables.{Tables}
use Rattle.lxr_image.specs.Reads.{granule_of}
use Rattle.lxr_model.specs.Reachable.{Holds, Reachable}
use Rattle.lxr_model.specs.Moments.{Moment, Trace}
use Rattle.lxr_invariant.specs.Counting.{is_done}
use Rattle.lxr_invariant.specs.Standing.{word_of_field}
use Rattle.lxr_invariant.specs.Tracing.{IsGray, IsMarked, IsOldValue}
use Rattle.lxr_core_access.specs.Decrementers.{Decrementing, Handling, Entry, References, ReadsHeader, AsksTracing, ReadsReference, MakesGray, AsksLowered, Lowers}
use Rattle.lxr_core_access.specs.Tracers.{Tracing, ReadsShape, Scans, AsksReferent, GraysReferent, AsksBlock, ReadsReuse, DrawsNumber, Enters}
use Rattle.lxr_core_invariant.specs.EpochStates.{Beginning, EpochState, moment_of}
use Rattle.lxr_core_invariant.specs.Logged.{logs_of}

-- ---- what is still to come

-- the object at a place is scanned from this reference on: those before it are read
abbrev pub scans_from : Tracing → Option (ℕ × ℕ)
scans_from (ReadsShape place) = Some (place, 0)
scans_from (Scans place refs index) = Some (place, index)
scans_from (AsksReferent place refs index referent) = Some (place, index + 1)
scans_from (GraysReferent place refs index referent) = Some (place, index + 1)
scans_from (AsksBlock place refs index referent) = Some (place, index + 1)
scans_from (ReadsReuse place refs index) = Some (place, index + 1)
scans_from (DrawsNumber place refs index counter) = Some (place, index + 1)
scans_from (Enters place refs index counter number) = Some (place, index + 1)
scans_from _ = None

-- the references of the dead object at a place are handled from this one on
abbrev pub handling_from : Handling → Option (ℕ × ℕ)
handling_from Entry = None
handling_from (References place refs next traced) = Some (place, next)

abbrev pub handles_from : Decrementing → Option (ℕ × ℕ)
handles_from (ReadsHeader place) = Some (place, 0)
handles_from (AsksTracing place refs) = Some (place, 0)
handles_from (ReadsReference place refs index traced) = Some (place, index)
handles_from (MakesGray place refs index referent) = Some (place, index + 1)
handles_from (AsksLowered referent handling) = handling_from handling
handles_from (Lowers referent handling) = handling_from handling
handles_from _ = None

-- reference i of the object at a place is still to be scanned, by a tracer that is at the object; to be handled, by a decrementer
pub record IsScannedLater (ts : List Tracing) (place i : ℕ) : Type 0 where
  pub number : ℕ
  pub tracer : Tracing
  pub first : ℕ
  pub shows : slice_get ts number ≡ Some tracer
  pub from : scans_from tracer ≡ Some (place, first)
  pub later : first ≤ i

pub record IsHandledLater (ds : List Decrementing) (place i : ℕ) : Type 0 where
  pub number : ℕ
  pub decrementer : Decrementing
  pub first : ℕ
  pub shows : slice_get ds number ≡ Some decrementer
  pub from : handles_from decrementer ≡ Some (place, first)
  pub later : first ≤ i

-- the place that a tracer has loaded, and will make gray; that a decrementer will
abbrev pub grayed_by : Tracing → Option ℕ
grayed_by (AsksReferent place refs index referent) = Some referent
grayed_by (GraysReferent place refs index referent) = Some referent
grayed_by _ = None

abbrev pub made_gray_by : Decrementing → Option ℕ
made_gray_by (MakesGray place refs index referent) = Some referent
made_gray_by _ = None

-- an actor has the object at a place in hand, and will make it gray
abbrev pub IsInHand : List Decrementing → List Tracing → ℕ → Type 0
IsInHand ds ts place =
    ((i : ℕ) × (d : Decrementing) × (slice_get ds i ≡ Some d) × (made_gray_by d ≡ Some place))
    ⊎ ((i : ℕ) × (d : Tracing) × (slice_get ts i ≡ Some d) × (grayed_by d ≡ Some place))

-- ---- the part

-- why an unreclaimed name is covered: it is gray, marked, an old value in a log, or in hand
abbrev pub IsFound : Tables → (Name → ℕ) → List LogEntry → List Decrementing → List Tracing → Name → Type 0
IsFound t at entries ds ts n = IsGray t at n ⊎ IsMarked t at n ⊎ IsOldValue entries (at n) ⊎ IsInHand ds ts (at n)

-- a name is covered: it was reclaimed at a pause, or is found
abbrev pub IsCoveredIn : Tables → Moment → (Name → ℕ) → List LogEntry → List Decrementing → List Tracing → Name → Type 0
IsCoveredIn t m at entries ds ts n = (has m.unreclaimed n ≡ false) ⊎ (IsTrue (has m.unreclaimed n) × IsFound t at entries ds ts n)

-- Reference i of u's object, which held v when the trace began, waits: u is unreclaimed, that reference is neither scanned nor handled, it
-- wasn't written since the last pause, and it holds v.
pub record WaitsIn (t : Tables) (m : Moment) (at : Name → ℕ) (ds : List Decrementing) (ts : List Tracing) (u : Name) (i : ℕ) (v : Name) : Type 0 where
  pub member : IsTrue (has m.unreclaimed u)
  pub unscanned : (t.marks (granule_of (at u)) ≡ false) ⊎ IsScannedLater ts (at u) i
  pub unhandled : (is_done t at u ≡ false) ⊎ IsHandledLater ds (at u) i
  pub unlogged : IsTrue (t.unlogged (word_of_field at u i))
  pub holds : slice_get (refs_of (object_at m.state.graph u)) i ≡ Some (Some v)

-- so far as it has looked at the tracing word, a decrementer knows that a trace runs
abbrev pub HandlesTraced : Handling → Type 0
HandlesTraced Entry = ⊤
HandlesTraced (References place refs next traced) = traced ≡ true

abbrev pub SeesTrace : Decrementing → Type 0
SeesTrace (ReadsReference place refs index traced) = traced ≡ true
SeesTrace (AsksLowered referent handling) = HandlesTraced handling
SeesTrace (Lowers referent handling) = HandlesTraced handling
SeesTrace _ = ⊤

-- the snapshot of a trace is covered
pub record IsCoveredBy (t : Tables) (m : Moment) (at : Name → ℕ) (entries : List LogEntry) (ds : List Decrementing) (ts : List Tracing) (trace : Trace) : Type 0 where
  pub world : IsCoveredIn t m at entries ds ts world_name
  pub registers : (n : Name) → Holds trace.state n → IsCoveredIn t m at entries ds ts n
  pub references : (u v : Name) (i : ℕ) → Reachable trace.state u → slice_get (refs_of (object_at trace.state.graph u)) i ≡ Some (Some v)
      → IsCoveredIn t m at entries ds ts v ⊎ WaitsIn t m at ds ts u i v
  -- what a dead object referred to at the last pause is gray, unless that reference is still to be handled or in hand
  pub handled : (u v : Name) (i : ℕ) → IsTrue (has m.unreclaimed u) → IsTrue (is_done t at u) → slice_get (refs_of (object_at m.last.graph u)) i ≡ Some (Some v)
      → IsGray t at v ⊎ IsHandledLater ds (at u) i ⊎ ((k : ℕ) × (refs : ℕ) × (slice_get ds k ≡ Some (MakesGray (at u) refs i (at v))))
  -- each decrementer has seen, or will see, that a trace runs
  pub seen : (k : ℕ) (d : Decrementing) → slice_get ds k ≡ Some d → SeesTrace d

abbrev pub IsCoveredByIn : Beginning → EpochState → Trace → Type 0
IsCoveredByIn b s trace = IsCoveredBy s.tables (moment_of b s) s.at (logs_of s.thread_states) s.decrementers s.tracers trace

-- the snapshot is covered, where a trace runs
abbrev pub IsCoveredWhile : Beginning → EpochState → Option Trace → Type 0
IsCoveredWhile b s None = ⊤
IsCoveredWhile b s (Some trace) = IsCoveredByIn b s trace

abbrev pub SnapshotIsCoveredIn : Beginning → EpochState → Type 0
SnapshotIsCoveredIn b s = IsCoveredWhile b s (moment_of b s).trace
