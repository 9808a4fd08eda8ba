-- From the end of an epoch to a safepoint before a pause, and what is known of the lines that were drawn.
use Rattle.std.specs.Prelude.{◌≡◌, ℕ, Some, List, IsTrue}
use Rattle.std.specs.List.{flat_map}
use Rattle.lxr_layout.specs.declared.Name.{Name}
use Rattle.lxr_layout.specs.declared.Place.{Place}
use Rattle.lxr_graph.specs.Names.{IsSetOf}
use Rattle.lxr_image.specs.declared.space.Space.{Space}
use Rattle.lxr_image.specs.Spaces.{tables_of}
use Rattle.lxr_blocks.specs.Lines.{is_free}
use Rattle.lxr_blocks.specs.States.{KeepsState}
use Rattle.lxr_model.specs.Moments.{Trace}
use Rattle.lxr_model.specs.Reachable.{Reachable}
use Rattle.lxr_invariant.specs.AbstractState.{AbstractState, members}
use Rattle.lxr_invariant.specs.Lines.{IsTakenBy}
use Rattle.lxr_invariant.specs.Tracing.{IsRememberedSoFar, MarksStayInside}
use Rattle.lxr_invariant.specs.Quiescent.{IsAtSafepoint}
use Rattle.lxr_core_invariant.specs.ThreadStates.{ThreadState}
use Rattle.lxr_core_invariant.specs.EpochStates.{Beginning, EpochState, limits_of, moment_of, opening_tables}
use Rattle.lxr_core_invariant.specs.Logged.{logs_of}
use Rattle.lxr_core_invariant.specs.Epoch.{IsEpoch}
use Rattle.lxr_core_invariant.specs.Laws.{CoversAtSafepoint, HasClosingCounts, HasClosingLogs}
use Rattle.lxr_core_close.specs.HandingOut.{DrawnIsOut, IsDrawn, MayHandOut}

-- the registers of all mutators, thread 1 first
abbrev pub registers_of : List ThreadState → List Place
registers_of thread_states = flat_map (λ v. v.registers) thread_states

-- what a space stands for once the calls of an epoch stand in the history
abbrev pub closed_state : Beginning → EpochState → AbstractState
closed_state b s = record b.abstract_state { moment = moment_of b s; at = s.at }

-- A space has taken what mutators hold: its tables are those of the epoch state, its registers theirs, and it has all their entries.
-- Of what the epoch began with, words, registers, entries and the tally alone have changed.
pub record HasCollected (b : Beginning) (s : EpochState) (now : Space) : Type 0 where
  pub tables : tables_of now ≡ s.tables
  pub registers : now.registers ≡ record { items = registers_of s.thread_states; width = b.space.registers.width }
  pub logged : now.logged ≡ record { items = logs_of s.thread_states; room = b.space.logged.room }
  pub rest : now ≡ record b.space { words = now.words; registers = now.registers; logged = now.logged; tally = now.tally }

-- What holds of the trace that runs, if one does: its snapshot is covered, marks stay inside it, and all is remembered so far.
pub record HasClosingTrace (b : Beginning) (s : EpochState) : Type 0 where
  pub covers : (trace : Trace) → (moment_of b s).trace ≡ Some trace → CoversAtSafepoint s.tables (moment_of b s) s.at (logs_of s.thread_states) trace
  pub inside : (trace : Trace) → (moment_of b s).trace ≡ Some trace → MarksStayInside s.tables (moment_of b s) s.at trace
  pub remembered : (trace : Trace) (snapshot : List Name) → (moment_of b s).trace ≡ Some trace → IsSetOf snapshot (Reachable trace.state)
      → IsRememberedSoFar (limits_of b) s.tables (moment_of b s) s.at trace snapshot

-- The epoch is closed: the space is at a safepoint before a pause, and each block has the state that it had, or neither that one nor its own is
-- Chosen or World.
pub record IsClosed (b : Beginning) (s : EpochState) (after : Space) : Type 0 where
  pub safepoint : IsAtSafepoint after (closed_state b s)
  pub states : (n : ℕ) → KeepsState (opening_tables b) (tables_of after) n

-- a line was free as the epoch opened, so that no object that stood in the heap then overlaps it
pub record WasFree (b : Beginning) (line : ℕ) : Type 0 where
  pub free : IsTrue (is_free (opening_tables b) line)
  pub untaken : ¬ IsTakenBy b.abstract_state.moment.state.graph b.abstract_state.at (members b.abstract_state.moment) line

-- Each line that was drawn was free as the epoch opened.
abbrev pub DrawnWasFree : Type 0
DrawnWasFree = (b : Beginning) (s : EpochState) (space : Space) (line : ℕ) → IsEpoch b s → tables_of space ≡ s.tables → IsDrawn b.space space line → WasFree b line

-- What was drawn in an epoch may be handed out once a space has taken what mutators hold.
abbrev pub DrawnMayBeHandedOut : Type 0
DrawnMayBeHandedOut = (b : Beginning) (s : EpochState) (now : Space) → IsEpoch b s → HasCollected b s now → MayHandOut b.space now

-- Once it is, the epoch is closed, where bits and logs are those of the references that were written, counts those of a
-- safepoint, and the trace that runs is covered.
abbrev pub ClosingReachesSafepoint : Type 0
ClosingReachesSafepoint = (b : Beginning) (s : EpochState) (now after : Space) → IsEpoch b s → HasClosingLogs b s → HasClosingCounts b s → HasClosingTrace b s
    → HasCollected b s now → DrawnIsOut b.space now after → IsClosed b s after
