-- Unlogged bits and logs: for each reference of an unreclaimed object, either its unlogged bit is set, and it holds what it
-- held at the last pause, or exactly one log has exactly one entry for it, with what it held then.
use Rattle.std.specs.Prelude.{◌≡◌, ℕ, ◌<◌, ◌≤◌, ◌⊎◌, false, Some, List, length, slice_get, IsTrue}
use Rattle.std.specs.List.{flat_map}
use Rattle.lxr_layout.specs.declared.LogEntry.{LogEntry}
use Rattle.lxr_layout.specs.declared.Name.{Name}
use Rattle.lxr_graph.specs.Names.{has}
use Rattle.lxr_graph.specs.State.{object_at, refs_of}
use Rattle.lxr_model.specs.Moments.{Field, Moment}
use Rattle.lxr_model_counting.specs.Distinct.{AreDistinctFields, has_field}
use Rattle.lxr_invariant.specs.Standing.{AreLogged, HasBits, entry_of}
use Rattle.lxr_core_invariant.specs.ThreadStates.{ThreadState, Clears, Stores, Works}
use Rattle.lxr_core_invariant.specs.EpochStates.{Beginning, EpochState, limits_of, moment_of}

-- the moment as if these fields had been written since the last pause
abbrev pub with_cleared : Moment → List Field → Moment
with_cleared m fields = record m { written = fields }

-- the entries of all logs
abbrev pub logs_of : List ThreadState → List LogEntry
logs_of thread_states = flat_map (λ v. v.log.items) thread_states

-- some mutator is about to store to a reference, or to swap it
pub record IsBeingStored (s : EpochState) (n : Name) (index : ℕ) : Type 0 where
  pub number : ℕ
  pub thread_state : ThreadState
  pub shows : slice_get s.thread_states number ≡ Some thread_state
  pub stage : thread_state.stage ≡ Works (Stores (s.at n) index)

-- a mutator has room in its log for the entry that it is about to record; where the reference is an unreclaimed object's
-- and its bit is still set, that has what the reference held at the last pause
pub record MayRecord (m : Moment) (at : Name → ℕ) (cleared : List Field) (v : ThreadState) (e : LogEntry) : Type 0 where
  pub room : length v.log.items < v.log.room
  pub first : (n : Name) → IsTrue (has m.unreclaimed n) → e.place.0 ≡ at n → has_field cleared (n, e.index) ≡ false → e ≡ entry_of m at (n, e.index)

pub record AreBitsAndLogs (b : Beginning) (s : EpochState) : Type 0 where
  -- the cleared references, each once, are those of unreclaimed objects whose bits are clear, and the logs have their entries
  pub once : AreDistinctFields s.cleared
  pub fields : (n : Name) (i : ℕ) → IsTrue (has_field s.cleared (n, i))
      → IsTrue (has (moment_of b s).unreclaimed n) × (i < length (refs_of (object_at (moment_of b s).last.graph n)))
  pub bits : HasBits s.tables (with_cleared (moment_of b s) s.cleared) s.at (moment_of b s).unreclaimed
  pub logs : AreLogged (with_cleared (moment_of b s) s.cleared) s.at (logs_of s.thread_states)
  -- what was written is cleared; what is cleared was written, or is about to be
  pub written : (n : Name) (i : ℕ) → IsTrue (has_field (moment_of b s).written (n, i)) → IsTrue (has_field s.cleared (n, i))
  pub cleared : (n : Name) (i : ℕ) → IsTrue (has_field s.cleared (n, i)) → IsTrue (has_field (moment_of b s).written (n, i)) ⊎ IsBeingStored s n i
  -- a mutator that has loaded a reference, and one that is about to store or swap
  pub loaded : (i : ℕ) (v : ThreadState) (e : LogEntry) → slice_get s.thread_states i ≡ Some v → v.stage ≡ Works (Clears e) → MayRecord (moment_of b s) s.at s.cleared v e
  pub stores : (i : ℕ) (v : ThreadState) (place index : ℕ) (n : Name) → slice_get s.thread_states i ≡ Some v → v.stage ≡ Works (Stores place index)
      → IsTrue (has (moment_of b s).unreclaimed n) → place ≡ s.at n → IsTrue (has_field s.cleared (n, index))
  pub rooms : (i : ℕ) (v : ThreadState) → slice_get s.thread_states i ≡ Some v → (v.log.room ≡ (limits_of b).log) × (length v.log.items ≤ v.log.room)
