-- An epoch as one fold over the events of a schedule: beside the words and the actors it gives the history and the map of
-- places.
use Rattle.std.specs.Prelude.{◌≡◌, ℕ, Option, Some, None, List, [], ◌∷◌, map, length, slice_get}
use Rattle.lxr_layout.specs.declared.Name.{Name}
use Rattle.lxr_layout.specs.Spaces.{all_regions, region_begin}
use Rattle.lxr_graph.specs.History.{Item}
use Rattle.lxr_image.specs.Settled.{KeepsOpenLines}
use Rattle.lxr_image.specs.Tables.{tables_in}
use Rattle.lxr_model.specs.Moments.{Field}
use Rattle.lxr_actor.specs.declared.Core.{Core}
use Rattle.lxr_actor.specs.declared.Event.{Event}
use Rattle.lxr_actor.specs.declared.Event.TheVariants.{Step, Give, Out, Order}
use Rattle.lxr_actor.specs.Run.{AlwaysFits, event, run, stepped}
use Rattle.lxr_mutator.specs.Mutating.{Mutating}
use Rattle.lxr_mutator.specs.Steps.{mutator_machine}
use Rattle.lxr_decrement.specs.Decrementing.{DecrementerState}
use Rattle.lxr_trace.specs.Tracing.{TracerState}
use Rattle.lxr_core_invariant.specs.EpochStates.{Beginning, EpochState, limits_of}
use Rattle.lxr_core_invariant.specs.Epoch.{IsEpoch}
use Rattle.lxr_core_invariant.specs.Laws.{HaveNotFallen}
use Rattle.lxr_core_sim_mutator.specs.Showing.{HasTold, IsMutatorOf, thread_state_of, told_in}
use Rattle.lxr_core_sim_mutator.specs.Stepping.{history_after, places_after}
use Rattle.lxr_core_sim_helpers.specs.DecrementerShowing.{IsDecrementerOf, decrementing_of}
use Rattle.lxr_core_sim_helpers.specs.TracerShowing.{IsTracerOf, tracing_of}
use Rattle.lxr_core.specs.declared.actors.AnyActor.{AnyActor}
use Rattle.lxr_core.specs.declared.actors.AnyActor.TheVariants as any
use Rattle.lxr_core.specs.Actors.{AreInOrder, any_machine, decrementers_in, mutators_in, tracers_in}

-- a core, with the history that led to it and the places of the objects that stand in it
pub record Execution : Type 0 where
  pub core : Core AnyActor
  pub history : List Item
  pub at : Name → ℕ

-- The epoch state of an execution, where these references' bits were cleared. Who tells no names shows the replies of the history.
abbrev pub epoch_state_of : Beginning → Execution → List Field → EpochState
epoch_state_of b execution cleared = record {
  tables = tables_in (limits_of b) execution.core.words;
  thread_states = map (λ m. thread_state_of (told_in execution.history m)) (mutators_in execution.core.actors);
  decrementers = map decrementing_of (decrementers_in execution.core.actors);
  tracers = map tracing_of (tracers_in execution.core.actors);
  history = execution.history;
  at = execution.at;
  cleared = cleared;
}

-- the history and the places after the next step of this actor: steps of helpers don't change them
abbrev pub after_step : Beginning → Execution → Option AnyActor → List Item × (Name → ℕ)
after_step b execution None = (execution.history, execution.at)
after_step b execution (Some (any.Mutator m)) =
    let m' = (stepped mutator_machine execution.core.words m).1 in
    (history_after b (epoch_state_of b execution []) m m', places_after b (epoch_state_of b execution []) m)
after_step b execution (Some (any.Decrementer d)) = (execution.history, execution.at)
after_step b execution (Some (any.Tracer d)) = (execution.history, execution.at)

-- the history and the places after an event: only steps of actors are told of
abbrev pub told_of : Beginning → Execution → Event → List Item × (Name → ℕ)
told_of b execution (Step number) = after_step b execution (slice_get execution.core.actors number)
told_of b execution (Give number place) = (execution.history, execution.at)
told_of b execution (Out number) = (execution.history, execution.at)
told_of b execution (Order number op) = (execution.history, execution.at)

-- the execution after an event
abbrev pub tell : Beginning → Execution → Event → Execution
tell b execution e = record { core = event any_machine execution.core e; history = (told_of b execution e).0; at = (told_of b execution e).1 }

-- the execution after a schedule of events
abbrev pub tell_all : Beginning → Execution → List Event → Execution
tell_all b execution [] = execution
tell_all b execution (e ∷ es) = tell_all b (tell b execution e) es

-- The invariant of the epoch holds of an execution, with some references whose bits were cleared.
pub record IsExecution (b : Beginning) (execution : Execution) (cleared : List Field) : Type 0 where
  pub epoch : IsEpoch b (epoch_state_of b execution cleared)
  pub size : length execution.core.words ≡ region_begin (limits_of b) all_regions
  pub order : AreInOrder execution.core.actors
  pub mutators : (i : ℕ) (m : Mutating) → slice_get (mutators_in execution.core.actors) i ≡ Some m → IsMutatorOf (limits_of b) m
  -- who tells no names replies as the history, without its names
  pub told : (i : ℕ) (m : Mutating) → slice_get (mutators_in execution.core.actors) i ≡ Some m → HasTold execution.history m
  pub decrementers : (i : ℕ) (d : DecrementerState) → slice_get (decrementers_in execution.core.actors) i ≡ Some d → IsDecrementerOf (limits_of b) d
  pub tracers : (i : ℕ) (d : TracerState) → slice_get (tracers_in execution.core.actors) i ≡ Some d → IsTracerOf (limits_of b) d

-- it holds with some references
abbrev pub HoldsExecution : Beginning → Execution → Type 0
HoldsExecution b execution = (cleared : List Field) × IsExecution b execution cleared

-- after a schedule of events it holds, the core is that of the fold over the schedule, no cursor has fallen, and at each moment on
-- the way the next step of each actor fits
pub record HoldsAfter (b : Beginning) (execution : Execution) (schedule : List Event) : Type 0 where
  pub holds : HoldsExecution b (tell_all b execution schedule)
  pub core : (tell_all b execution schedule).core ≡ run any_machine execution.core schedule
  pub risen : HaveNotFallen (tables_in (limits_of b) execution.core.words) (tables_in (limits_of b) (tell_all b execution schedule).core.words)
  pub fits : AlwaysFits any_machine execution.core

-- so it is of every execution for which the invariant holds, and every schedule
abbrev pub EpochInvariantHolds : Type 0
EpochInvariantHolds = (b : Beginning) (execution : Execution) (schedule : List Event) → HoldsExecution b execution → HoldsAfter b execution schedule

-- and each such schedule keeps what is known of lines
abbrev pub EpochKeepsLines : Type 0
EpochKeepsLines = (b : Beginning) (execution : Execution) → HoldsExecution b execution → (schedule : List Event)
    → KeepsOpenLines (tables_in (limits_of b) execution.core.words) (tables_in (limits_of b) (run any_machine execution.core schedule).words)
