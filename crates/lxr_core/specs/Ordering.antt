-- Orders while an epoch runs: a mutator that rests gets one more operation, if it has room for it.
use Rattle.std.specs.Prelude.{◌≡◌, ◌≢◌, ℕ, ◌+◌, ◌≤◌, ◌==◌, if◌then◌else◌, Bool, Some, List, [], ◌∷◌, ◌++◌, length, map, slice_get, slice_set}
use Rattle.std.specs.Option.{option_map_or}
use Rattle.lxr_graph.specs.declared.Op.{Op}
use Rattle.lxr_graph.specs.declared.Op.TheVariants as op
use Rattle.lxr_graph.specs.Step.{IsWellFormed}
use Rattle.lxr_model_laws.specs.ScriptLaws.{GoesOn}
use Rattle.lxr_actor.specs.declared.Core.{Core}
use Rattle.lxr_actor.specs.declared.Event.{Event}
use Rattle.lxr_actor.specs.declared.Event.TheVariants.{Step, Give, Out, Order}
use Rattle.lxr_actor.specs.Run.{event, of_event, run}
use Rattle.lxr_mutator.specs.Mutating.{Mutating}
use Rattle.lxr_mutator.specs.Mutators.{IsFull}
use Rattle.lxr_core_invariant.specs.ThreadStates.{Rests, ThreadState}
use Rattle.lxr_core_invariant.specs.EpochStates.{Beginning, EpochState}
use Rattle.lxr_alloc.specs.declared.TheConstants.{MOST_OPERATIONS}
use Rattle.lxr_core_invariant.specs.Epoch.{IsEpoch}
use Rattle.lxr_core.specs.declared.actors.AnyActor.{AnyActor}
use Rattle.lxr_core.specs.declared.actors.AnyActor.TheVariants as any
use Rattle.lxr_core.specs.Actors.{any_machine, mutators_in, script_of}

-- what it shows then: the operation stands behind those that it has
abbrev pub with_order : ThreadState → Op → ThreadState
with_order v o = record v { operations = v.operations ++ o ∷ [] }

-- It may be ordered an operation between two units, one that is well formed and no end, and while it has fewer than a thread may have.
pub record MayBeOrdered (v : ThreadState) (o : Op) : Type 0 where
  pub stage : v.stage ≡ Rests
  pub formed : IsWellFormed o
  pub endless : o ≢ op.End
  pub few : length v.operations + 1 ≤ MOST_OPERATIONS

-- the epoch's state once the mutator of a number, which showed this, was ordered an operation
abbrev pub after_order : EpochState → ℕ → ThreadState → Op → EpochState
after_order s i v o = record s { thread_states = slice_set s.thread_states i (with_order v o) }

-- An order keeps the invariant of the epoch. It makes no step: the tables, the history, the places of objects and the helpers are as they were.
abbrev pub OrdersKeepEpochs : Type 0
OrdersKeepEpochs = (b : Beginning) (s : EpochState) (i : ℕ) (v : ThreadState) (o : Op) → IsEpoch b s → slice_get s.thread_states i ≡ Some v → MayBeOrdered v o → IsEpoch b (after_order s i v o)

-- ---- what mutators were ordered

-- the operations of a mutator, and the room for its replies
abbrev pub ordered_in : Mutating → List Op × ℕ
ordered_in m = (m.operations, m.replies.room)

-- so for each of some mutators
abbrev pub orders_of : List Mutating → List (List Op × ℕ)
orders_of mutators = map ordered_in mutators

-- over each schedule threads keep what they were asked for, and are asked for more at most
abbrev pub ScriptsGoOn : Type 0
ScriptsGoOn = (core : Core AnyActor) (schedule : List Event) → GoesOn (script_of (mutators_in core.actors)) (script_of (mutators_in (run any_machine core schedule).actors))

-- the operations that an event orders of this actor and that it takes: one, or none
abbrev pub taken_by : AnyActor → Event → List Op
taken_by a (Order number o) = if (any_machine.ordered a o).1 then o ∷ [] else []
taken_by a (Step number) = []
taken_by a (Give number place) = []
taken_by a (Out number) = []

-- those that an event orders of the actor of a number, where there is one
abbrev pub taken_at : ℕ → List AnyActor → Event → List Op
taken_at i actors e = option_map_or (λ a. if of_event e == i then taken_by a e else []) (slice_get actors i) []

-- those that a schedule orders of the actor of a number and that it takes, in order
abbrev pub taken : ℕ → Core AnyActor → List Event → List Op
taken i core [] = []
taken i core (e ∷ es) = taken_at i core.actors e ++ taken i (event any_machine core e) es

-- a mutator that was asked for these operations is asked for these behind them, by the actors behind a schedule
pub record IsAskedBesides (actors : List AnyActor) (i : ℕ) (before more : List Op) : Type 0 where
  pub mutator : Mutating
  pub shows : slice_get actors i ≡ Some (any.Mutator mutator)
  pub asked : mutator.operations ≡ before ++ more

-- Over each schedule a mutator is asked for what it was ordered and took, behind what it was asked for, and for nothing else.
abbrev pub OrdersAreAsked : Type 0
OrdersAreAsked = (core : Core AnyActor) (schedule : List Event) (i : ℕ) (m : Mutating) → slice_get core.actors i ≡ Some (any.Mutator m)
    → IsAskedBesides (run any_machine core schedule).actors i m.operations (taken i core schedule)

-- ---- mutators of scripts

-- none of these has room for a further operation
abbrev pub AreFull : List Mutating → Type 0
AreFull mutators = (i : ℕ) (m : Mutating) → slice_get mutators i ≡ Some m → IsFull m

-- after a schedule the operations of each thread are what they were, and no mutator has room for others
pub record KeepsScript (core : Core AnyActor) (schedule : List Event) : Type 0 where
  pub script : script_of (mutators_in (run any_machine core schedule).actors) ≡ script_of (mutators_in core.actors)
  pub full : AreFull (mutators_in (run any_machine core schedule).actors)

-- so it is after every schedule, whatever orders are in it, where no mutator had room
abbrev pub ScriptsStay : Type 0
ScriptsStay = (core : Core AnyActor) (schedule : List Event) → AreFull (mutators_in core.actors) → KeepsScript core schedule

-- ---- mutators that tell names

-- each of these tells the names of what it loads and swaps out, or none does
abbrev pub TellNames : Bool → List Mutating → Type 0
TellNames names mutators = (i : ℕ) (m : Mutating) → slice_get mutators i ≡ Some m → m.names ≡ names
