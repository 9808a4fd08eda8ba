-- What steps of decrementers and tracers do in an epoch, and what such steps leave to mutators.
use Rattle.std.specs.Prelude.{◌≡◌, ◌≢◌, ℕ, ◌⊎◌, Some, IsTrue, slice_get, slice_set}
use Rattle.lxr_layout.specs.declared.TheConstants.{DECREMENT_CURSOR, REMEMBERED_CURSOR}
use Rattle.lxr_image.specs.Tables.{Tables}
use Rattle.lxr_core_access.specs.declared.Access.{Access}
use Rattle.lxr_core_access.specs.Accesses.{MayBeDone, done_to}
use Rattle.lxr_core_access.specs.Decrementers.{Decrementing, DecrementerSteps}
use Rattle.lxr_core_access.specs.Tracers.{Tracing, TracerSteps}
use Rattle.lxr_core_invariant.specs.EpochStates.{Beginning, EpochState, limits_of}

-- A step of decrementer i may happen: it is about to do this, and this access leads to what it is about to do then.
pub record MayDecrement (b : Beginning) (s : EpochState) (i : ℕ) (access : Access) (after : Decrementing) : Type 0 where
  pub before : Decrementing
  pub shows : slice_get s.decrementers i ≡ Some before
  pub steps : DecrementerSteps (limits_of b).blocks s.tables before access after

-- what there is after it: neither mutators nor tracers nor the history are concerned
abbrev pub decremented : EpochState → ℕ → Access → Decrementing → EpochState
decremented s i access after = record s { tables = done_to s.tables access; decrementers = slice_set s.decrementers i after }

-- A step of tracer i may happen, likewise.
pub record MayTrace (b : Beginning) (s : EpochState) (i : ℕ) (access : Access) (after : Tracing) : Type 0 where
  pub before : Tracing
  pub shows : slice_get s.tracers i ≡ Some before
  pub steps : TracerSteps (limits_of b).blocks (limits_of b).remember s.tables before access after

-- what there is after it
abbrev pub traced : EpochState → ℕ → Access → Tracing → EpochState
traced s i access after = record s { tables = done_to s.tables access; tracers = slice_set s.tracers i after }

-- What a helper's step leaves of tables: it changes counts, marks, grays, dones, remembered entries, the cursor of decrements and that of
-- remembered entries alone, and counts and bits only where an unreclaimed object begins.
pub record LeavesTables (t u : Tables) : Type 0 where
  pub rest : u ≡ record t { counts = u.counts; marks = u.marks; grays = u.grays; dones = u.dones; remembered = u.remembered; cursors = u.cursors }
  pub cursors : (c : ℕ) → c ≢ DECREMENT_CURSOR → c ≢ REMEMBERED_CURSOR → u.cursors c ≡ t.cursors c
  pub counts : (k : ℕ) → (u.counts k ≡ t.counts k) ⊎ IsTrue (t.starts k)
  pub marks : (k : ℕ) → (u.marks k ≡ t.marks k) ⊎ IsTrue (t.starts k)
  pub grays : (k : ℕ) → (u.grays k ≡ t.grays k) ⊎ IsTrue (t.starts k)
  pub dones : (k : ℕ) → (u.dones k ≡ t.dones k) ⊎ IsTrue (t.starts k)

-- the access of a step may be done, and leaves this
pub record IsSound (b : Beginning) (s : EpochState) (access : Access) : Type 0 where
  pub may : MayBeDone (limits_of b) s.tables access
  pub leaves : LeavesTables s.tables (done_to s.tables access)

-- a decrementer's step changes no mark and no remembered entry, draws no number for one, and clears no gray and no done bit
pub record DecrementerLeaves (t u : Tables) : Type 0 where
  pub marks : u.marks ≡ t.marks
  pub remembered : u.remembered ≡ t.remembered
  pub drawn : u.cursors REMEMBERED_CURSOR ≡ t.cursors REMEMBERED_CURSOR
  pub grays : (k : ℕ) → IsTrue (t.grays k) → IsTrue (u.grays k)
  pub dones : (k : ℕ) → IsTrue (t.dones k) → IsTrue (u.dones k)

-- a tracer's step sets marks and grays, and changes remembered entries and their cursor: all else is as it was, and no bit is cleared
pub record TracerLeaves (t u : Tables) : Type 0 where
  pub rest : u ≡ record t { marks = u.marks; grays = u.grays; remembered = u.remembered; cursors = u.cursors }
  pub cursors : (c : ℕ) → c ≢ REMEMBERED_CURSOR → u.cursors c ≡ t.cursors c
  pub marks : (k : ℕ) → IsTrue (t.marks k) → IsTrue (u.marks k)
  pub grays : (k : ℕ) → IsTrue (t.grays k) → IsTrue (u.grays k)
