-- All kinds of actor as one machine.
use Rattle.std.specs.Prelude.{◌≡◌, ℕ, Bool, false, Option, Some, None, List, [], ◌∷◌, ◌++◌, map}
use Rattle.lxr_layout.specs.declared.Place.{Place}
use Rattle.lxr_graph.specs.declared.Op.{Op}
use Rattle.lxr_actor.specs.declared.Action.{Action}
use Rattle.lxr_actor.specs.Machine.{Machine}
use Rattle.lxr_mutator.specs.Mutating.{Mutating}
use Rattle.lxr_mutator.specs.Steps.{mutator_machine}
use Rattle.lxr_decrement.specs.Decrementing.{DecrementerState}
use Rattle.lxr_decrement.specs.Steps.{decrementer_machine}
use Rattle.lxr_trace.specs.Tracing.{TracerState}
use Rattle.lxr_trace.specs.Steps.{tracer_machine}
use Rattle.lxr_core.specs.declared.actors.AnyActor.{AnyActor}
use Rattle.lxr_core.specs.declared.actors.AnyActor.TheVariants as any

-- the mutators among actors, in their order
abbrev pub mutators_in : List AnyActor → List Mutating
mutators_in [] = []
mutators_in (any.Mutator m ∷ actors) = m ∷ mutators_in actors
mutators_in (any.Decrementer d ∷ actors) = mutators_in actors
mutators_in (any.Tracer d ∷ actors) = mutators_in actors

-- the decrementers among actors, in their order
abbrev pub decrementers_in : List AnyActor → List DecrementerState
decrementers_in [] = []
decrementers_in (any.Mutator m ∷ actors) = decrementers_in actors
decrementers_in (any.Decrementer d ∷ actors) = d ∷ decrementers_in actors
decrementers_in (any.Tracer d ∷ actors) = decrementers_in actors

-- the tracers among actors, in their order
abbrev pub tracers_in : List AnyActor → List TracerState
tracers_in [] = []
tracers_in (any.Mutator m ∷ actors) = tracers_in actors
tracers_in (any.Decrementer d ∷ actors) = tracers_in actors
tracers_in (any.Tracer d ∷ actors) = d ∷ tracers_in actors

-- the mutator, if it is one
abbrev pub mutator_of : AnyActor → Option Mutating
mutator_of (any.Mutator m) = Some m
mutator_of (any.Decrementer d) = None
mutator_of (any.Tracer d) = None

-- mutators come first, decrementers behind them, and tracers last
abbrev pub in_order : List Mutating → List DecrementerState → List TracerState → List AnyActor
in_order mutators decrementers tracers = map any.Mutator mutators ++ (map any.Decrementer decrementers ++ map any.Tracer tracers)

-- these actors stand so
abbrev pub AreInOrder : List AnyActor → Type 0
AreInOrder actors = actors ≡ in_order (mutators_in actors) (decrementers_in actors) (tracers_in actors)

-- ---- what an actor means: what the machine of its kind does

-- its next action, if it has one
abbrev pub action_of : AnyActor → Option Action
action_of (any.Mutator m) = mutator_machine.action m
action_of (any.Decrementer d) = decrementer_machine.action d
action_of (any.Tracer d) = tracer_machine.action d

-- the actor once it is told what the word was
abbrev pub actor_after : AnyActor → ℕ → AnyActor
actor_after (any.Mutator m) old = any.Mutator (mutator_machine.after m old)
actor_after (any.Decrementer d) old = any.Decrementer (decrementer_machine.after d old)
actor_after (any.Tracer d) old = any.Tracer (tracer_machine.after d old)

-- it rests between two units of work
abbrev pub actor_rests : AnyActor → Bool
actor_rests (any.Mutator m) = mutator_machine.rests m
actor_rests (any.Decrementer d) = decrementer_machine.rests d
actor_rests (any.Tracer d) = tracer_machine.rests d

-- a bound on the steps of its unit in progress or, at rest, of the next one
abbrev pub steps_left : AnyActor → ℕ
steps_left (any.Mutator m) = mutator_machine.left m
steps_left (any.Decrementer d) = decrementer_machine.left d
steps_left (any.Tracer d) = tracer_machine.left d

-- a mutator takes no offers, and has no place to spare
abbrev pub offered_to : AnyActor → Place → AnyActor × Bool
offered_to (any.Mutator m) place = (any.Mutator m, false)
offered_to (any.Decrementer d) place = (any.Decrementer (decrementer_machine.offered d place).0, (decrementer_machine.offered d place).1)
offered_to (any.Tracer d) place = (any.Tracer (tracer_machine.offered d place).0, (tracer_machine.offered d place).1)

-- the actor without a place that it can spare, and that place
abbrev pub spared_by : AnyActor → AnyActor × Option Place
spared_by (any.Mutator m) = (any.Mutator m, None)
spared_by (any.Decrementer d) = (any.Decrementer (decrementer_machine.spared d).0, (decrementer_machine.spared d).1)
spared_by (any.Tracer d) = (any.Tracer (tracer_machine.spared d).0, (tracer_machine.spared d).1)

-- the actor once it is ordered an operation, and whether it took it; a helper takes none
abbrev pub ordered_of : AnyActor → Op → AnyActor × Bool
ordered_of (any.Mutator m) o = (any.Mutator (mutator_machine.ordered m o).0, (mutator_machine.ordered m o).1)
ordered_of (any.Decrementer d) o = (any.Decrementer d, false)
ordered_of (any.Tracer d) o = (any.Tracer d, false)

-- the machine of an actor of any kind
abbrev pub any_machine : Machine AnyActor
any_machine = record {
  action = action_of;
  after = actor_after;
  rests = actor_rests;
  left = steps_left;
  offered = offered_to;
  spared = spared_by;
  ordered = ordered_of;
}

-- the operations of each thread
abbrev pub script_of : List Mutating → List (List Op)
script_of mutators = map (λ m. m.operations) mutators
