-- What a replay of an epoch does: a generator of numbers picks who makes each step, and units in progress are finished then.
use Rattle.std.specs.Prelude.{◌≡◌, ℕ, ◌+◌, ◌%◌, ◌<◌, Bool, true, false, ◌&&◌, ◌||◌, if◌then◌else◌, Some, is_some, List, [], ◌∷◌, ◌++◌, length, map, slice_get}
use Rattle.lxr_base.specs.Draws.{draw, step}
use Rattle.lxr_actor.specs.declared.Core.{Core}
use Rattle.lxr_actor.specs.declared.Event.{Event}
use Rattle.lxr_actor.specs.declared.Event.TheVariants.{Step}
use Rattle.lxr_actor.specs.Run.{AlwaysFits, core_of, event, run}
use Rattle.lxr_image.specs.declared.space.Space.{Space}
use Rattle.lxr_mutator.specs.Mutating.{Mutating}
use Rattle.lxr_mutator.specs.Mutators.{IsMutator}
use Rattle.lxr_sights.specs.Gates.{IsLetPass}
use Rattle.lxr_core_invariant.specs.EpochStates.{Beginning}
use Rattle.lxr_core.specs.declared.actors.AnyActor.{AnyActor}
use Rattle.lxr_core.specs.declared.actors.AnyActor.TheVariants as any
use Rattle.lxr_core.specs.Actors.{AreInOrder, any_machine, mutators_in}
use Rattle.lxr_core.specs.Executions.{HoldsExecution, Execution, tell_all}
use Rattle.lxr_core.specs.Closing.{AreFinished, AreResting, MayClose}

-- ---- who makes a step

-- it has a next action
abbrev pub acts : AnyActor → Bool
acts a = is_some (any_machine.action a)

-- draws may pick it: it has a next action; a tracer is drawn only while a trace runs
abbrev pub may_be_drawn : Bool → AnyActor → Bool
may_be_drawn tracing (any.Mutator m) = acts (any.Mutator m)
may_be_drawn tracing (any.Decrementer d) = acts (any.Decrementer d)
may_be_drawn tracing (any.Tracer d) = tracing && acts (any.Tracer d)

-- some of these mutators has one
abbrev pub some_act : List Mutating → Bool
some_act [] = false
some_act (m ∷ mutators) = acts (any.Mutator m) || some_act mutators

-- the numbers, from this one on, of those actors that may be drawn
abbrev pub unfinished_from : Bool → ℕ → List AnyActor → List ℕ
unfinished_from tracing number [] = []
unfinished_from tracing number (a ∷ actors) = if may_be_drawn tracing a then number ∷ unfinished_from tracing (number + 1) actors else unfinished_from tracing (number + 1) actors

-- the numbers of the actors that may be drawn, in order
abbrev pub unfinished : Bool → List AnyActor → List ℕ
unfinished tracing actors = unfinished_from tracing 0 actors

-- the generator, which has come to x, picks the actor of this number: among those that may be drawn it stands at the place,
-- from 0, that is the draw modulo how many these are
abbrev pub IsPicked : Bool → ℕ → List AnyActor → ℕ → Type 0
IsPicked tracing x actors number = slice_get (unfinished tracing actors) (draw x % length (unfinished tracing actors)) ≡ Some number

-- where the actor of this number is a mutator that is about to begin an operation, the gate has let that pass
abbrev pub LetsPass : (ℕ → ℕ → Type 0) → List AnyActor → ℕ → Type 0
LetsPass passed actors number = (m : Mutating) → slice_get actors number ≡ Some (any.Mutator m) → IsLetPass passed m

-- the first actor that doesn't rest has this number
pub record IsFirstBusy (actors : List AnyActor) (number : ℕ) : Type 0 where
  pub actor : AnyActor
  pub at : slice_get actors number ≡ Some actor
  pub busy : any_machine.rests actor ≡ false
  pub before : (i : ℕ) (a : AnyActor) → slice_get actors i ≡ Some a → i < number → any_machine.rests a ≡ true

-- ---- a replay

-- The draws from a generator's x, with tracers among the actors or without them: while some mutator has a next action, x makes a
-- step, and the actor that it picks then makes its next one. These are the numbers of those that were picked, and x comes to x'.
abbrev pub Draws : Bool → ℕ → Core AnyActor → List ℕ → ℕ → Type 0
Draws tracing x core [] x' = (some_act (mutators_in core.actors) ≡ false) × (x ≡ x')
Draws tracing x core (number ∷ numbers) x' =
    (some_act (mutators_in core.actors) ≡ true) × IsPicked tracing (step x) core.actors number × Draws tracing (step x) (event any_machine core (Step number)) numbers x'

-- Units that are in progress are finished, in order: while some actor doesn't rest, the first of these makes its next step.
abbrev pub Finishes : Core AnyActor → List ℕ → Type 0
Finishes core [] = AreResting core.actors
Finishes core (number ∷ numbers) = IsFirstBusy core.actors number × Finishes (event any_machine core (Step number)) numbers

-- The replay from a generator's x: its draws, by which x comes to x', and then the units that are in progress are finished.
pub record Replays (tracing : Bool) (x : ℕ) (core : Core AnyActor) (schedule : List ℕ) (x' : ℕ) : Type 0 where
  pub drawn : List ℕ
  pub finishing : List ℕ
  pub steps : schedule ≡ drawn ++ finishing
  pub draws : Draws tracing x core drawn x'
  pub finishes : Finishes (run any_machine core (map Step drawn)) finishing

-- whatever the schedule, each next step fits, and the actors are mutators, and helpers behind them
pub record CanBeReplayed (core : Core AnyActor) : Type 0 where
  pub fits : AlwaysFits any_machine core
  pub order : (schedule : List Event) → AreInOrder (run any_machine core schedule).actors
  pub mutators : (schedule : List Event) (i : ℕ) (m : Mutating) → slice_get (mutators_in (run any_machine core schedule).actors) i ≡ Some m → IsMutator m

-- ---- behind it

-- The execution has led to words and actors of a space of this beginning, and a schedule has gone on from there until all mutators
-- are through and all actors rest; of the space only the words have changed.
pub record HasGoneOn (b : Beginning) (execution : Execution) (schedule : List Event) (before after : Space) (actors actors' : List AnyActor) : Type 0 where
  pub holds : HoldsExecution b execution
  pub core : execution.core ≡ core_of before.words actors
  pub space_is : before ≡ record b.space { words = before.words }
  pub gone_on : core_of after.words actors' ≡ run any_machine (core_of before.words actors) schedule
  pub finished : AreFinished (mutators_in actors')
  pub resting : AreResting actors'
  pub rest : after ≡ record before { words = after.words }

-- then the epoch may be closed, with the execution that the schedule has told
abbrev pub SchedulesMayClose : Type 0
SchedulesMayClose = (b : Beginning) (execution : Execution) (schedule : List Event) (before after : Space) (actors actors' : List AnyActor)
    → HasGoneOn b execution schedule before after actors actors' → MayClose b (tell_all b execution schedule) after actors'
