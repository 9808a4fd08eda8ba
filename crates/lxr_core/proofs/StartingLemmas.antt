-- What mutators show as an epoch opens.
use Rattle.std.proofs.Common.{◌≡◌, ◌≢◌, ℕ, ◌+◌, ◌^◌, ◌<◌, ◌≤◌, List, [], length}
use Rattle.std.specs.Prelude.{All, Some, slice_get, take}
use Rattle.lxr_layout.specs.declared.TheConstants.{MOST_GRANULES, PAUSE_WORD}
use Rattle.lxr_graph.specs.declared.Op.TheVariants as op
use Rattle.lxr_graph.specs.History.{calls_of, replies_of}
use Rattle.lxr_graph.specs.Step.{IsWellFormed}
use Rattle.lxr_core_access.specs.Decrementers.{Decrementing}
use Rattle.lxr_core_access.specs.Decrementers as decrementing
use Rattle.lxr_core_access.specs.Tracers.{Tracing}
use Rattle.lxr_core_access.specs.Tracers as tracing
use Rattle.lxr_core_invariant.specs.Happening.{with_cursor}
use Rattle.lxr_alloc.specs.declared.TheConstants.{MOST_OPERATIONS}
use Rattle.lxr_alloc.specs.Spans.{empty_span}
use Rattle.lxr_core_invariant.specs.ThreadStates.{Stage, ThreadState, Rests, Through, Works, Intent, all_of}
use Rattle.lxr_core_invariant.specs.ThreadStates as why
use Rattle.lxr_core_invariant.specs.EpochStates.{Beginning, EpochState, limits_of, objects_before, opening_tables}
use Rattle.lxr_core_invariant.specs.Imaged.{HoldsRegisters}

-- it rests, with operations or the end left, or it has done its end
pub data StartsIn (v : ThreadState) : Stage → Type 0 where
  anew : length v.replies ≤ length v.operations → StartsIn v Rests
  over : length v.replies ≡ length v.operations + 1 → StartsIn v (Through why.Ended)

-- the mutator of a number shows this as an epoch opens
pub record Starts (b : Beginning) (i : ℕ) (v : ThreadState) : Type 0 where
  pub thread : v.thread ≡ i + 1
  pub formed : All IsWellFormed v.operations
  pub endless : All (λ o. o ≢ op.End) v.operations
  pub few : length v.operations ≤ MOST_OPERATIONS
  pub began : v.before ≡ objects_before v.thread b.history
  pub few_began : v.before ≤ MOST_GRANULES
  pub every : (v.every ≡ b.every) × (1 ≤ v.every)
  pub registers : HoldsRegisters b.abstract_state.moment.state b.abstract_state.at v
  pub log : v.log ≡ record { items = []; room = (limits_of b).log }
  pub spans : v.spans ≡ record { current = empty_span; overflow = empty_span }
  pub since : v.since ≡ 0
  pub calls : calls_of v.thread b.history ≡ take (length v.replies) (all_of v.operations)
  pub replies : replies_of v.thread b.history ≡ v.replies
  pub stage : StartsIn v v.stage

-- all mutators show this
pub record AllStart (b : Beginning) (thread_states : List ThreadState) : Type 0 where
  pub as_many : length thread_states ≡ (limits_of b).threads
  pub each : (i : ℕ) (v : ThreadState) → slice_get thread_states i ≡ Some v → Starts b i v

-- the epoch state that an epoch opens with: no pause is asked for
abbrev pub opening_epoch_state : Beginning → List ThreadState → List Decrementing → List Tracing → EpochState
opening_epoch_state b thread_states ds ts = record {
  tables = with_cursor (opening_tables b) PAUSE_WORD 0;
  thread_states = thread_states;
  decrementers = ds;
  tracers = ts;
  history = b.history;
  at = b.abstract_state.at;
  cleared = [];
}

-- all helpers are between two units, and decrementers are no more than a list has in memory
pub record AllRest (ds : List Decrementing) (ts : List Tracing) : Type 0 where
  pub few : length ds < 2 ^ 63
  pub each : (i : ℕ) (d : Decrementing) → slice_get ds i ≡ Some d → d ≡ decrementing.Rests
  pub tracers : (i : ℕ) (d : Tracing) → slice_get ts i ≡ Some d → d ≡ tracing.Rests

-- nobody works on anything
pub no_work : {P : Type 0} (v : ThreadState) (intent : Intent) → (stage : Stage) → StartsIn v stage → stage ≡ Works intent → P
no_work v intent stage (anew _) e = cc
no_work v intent stage (over _) e = cc
