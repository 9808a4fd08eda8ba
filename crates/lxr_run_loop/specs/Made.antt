-- The actors that a run begins with.
use Rattle.std.specs.Prelude.{◌≡◌, ℕ, ◌+◌, Some, List, replicate, slice_get}
use Rattle.lxr_layout.specs.declared.limits.Limits.{Limits}
use Rattle.lxr_model.specs.Belongs.{Script}
use Rattle.lxr_mutator.specs.Mutating.{Mutating}
use Rattle.lxr_mutator.specs.Mutators.{IsMutator, first}
use Rattle.lxr_decrement.specs.Decrementers.{first as first_decrementer}
use Rattle.lxr_trace.specs.Tracers.{first as first_tracer}
use Rattle.lxr_core.specs.declared.actors.AnyActor.{AnyActor}
use Rattle.lxr_core.specs.Actors.{in_order, mutators_in, script_of}

-- there is a mutator for each thread of a script, each as it is made
pub record MutatorsAreMade (limits : Limits) (every : ℕ) (operations : Script) (mutators : List Mutating) : Type 0 where
  pub script : script_of mutators ≡ operations
  pub each : (i : ℕ) (m : Mutating) → slice_get mutators i ≡ Some m → m ≡ first (i + 1) m.operations limits every
  pub sound : (i : ℕ) (m : Mutating) → slice_get mutators i ≡ Some m → IsMutator m

-- behind the mutators stand so many decrementers, and behind them so many tracers, each as it is made
pub record AreMade (limits : Limits) (every decrementers tracers : ℕ) (operations : Script) (actors : List AnyActor) : Type 0 where
  pub mutators : MutatorsAreMade limits every operations (mutators_in actors)
  pub helpers : actors ≡ in_order (mutators_in actors) (replicate decrementers (first_decrementer limits)) (replicate tracers (first_tracer limits))
