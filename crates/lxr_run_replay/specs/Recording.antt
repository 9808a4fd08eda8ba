-- What a replay records: whose calls come to stand in the history, in order.
use Rattle.std.specs.Prelude.{◌≡◌, ℕ, ◌+◌, ◌-◌, ◌≤◌, ⊤, Option, Some, None, List, [], ◌∷◌, ◌++◌, length, slice_get, if◌then◌else◌, nat_lt}
use Rattle.lxr_base.specs.Roomy.{Roomy}
use Rattle.lxr_graph.specs.History.{calls_of}
use Rattle.lxr_graph.specs.Order.{order_of}
use Rattle.lxr_graph.specs.declared.Item.{Item}
use Rattle.lxr_graph.specs.declared.Item.TheVariants as item
use Rattle.lxr_actor.specs.declared.Core.{Core}
use Rattle.lxr_actor.specs.declared.Event.{Event}
use Rattle.lxr_actor.specs.declared.Event.TheVariants.{Step}
use Rattle.lxr_actor.specs.Run.{event, stepped}
use Rattle.lxr_mutator.specs.Mutating.{Mutating, placed_count}
use Rattle.lxr_mutator.specs.Mutators.{IsMutator}
use Rattle.lxr_mutator.specs.Steps.{mutator_machine}
use Rattle.lxr_core_invariant.specs.EpochStates.{Beginning}
use Rattle.lxr_core_sim_mutator.specs.Stepping.{stands_in}
use Rattle.lxr_core.specs.declared.actors.AnyActor.{AnyActor}
use Rattle.lxr_core.specs.declared.actors.AnyActor.TheVariants as any
use Rattle.lxr_core.specs.Actors.{any_machine, mutators_in}
use Rattle.lxr_core.specs.Executions.{Execution, HoldsExecution, tell_all}

-- These are the calls that a schedule from this core on brings into the history, in order: in whichever execution of an epoch has come to
-- the core, the history goes on by just these.
abbrev pub AreCallsOf : Core AnyActor → List Event → List Item → Type 0
AreCallsOf core schedule calls = (b : Beginning) (execution : Execution) → execution.core ≡ core → order_of (tell_all b execution schedule).history ≡ order_of execution.history ++ calls

-- ---- one step

-- the call that the next step of an actor brings into the history, if it brings one; helpers bring none
abbrev pub call_by : List ℕ → AnyActor → List Item
call_by words (any.Mutator m) = if stands_in m.phase m (stepped mutator_machine words m).1 then item.Call m.thread ∷ [] else []
call_by words (any.Decrementer d) = []
call_by words (any.Tracer d) = []

-- that of an actor, if there is one
abbrev pub call_if : List ℕ → Option AnyActor → List Item
call_if words None = []
call_if words (Some a) = call_by words a

-- that of the actor of a number
abbrev pub call_at : Core AnyActor → ℕ → List Item
call_at core number = call_if core.words (slice_get core.actors number)

-- those of actors of these numbers, one after another
abbrev pub calls_in : Core AnyActor → List ℕ → List Item
calls_in core [] = []
calls_in core (number ∷ numbers) = call_at core number ++ calls_in (event any_machine core (Step number)) numbers

-- ---- what is recorded

-- a record with these behind what it has; where nothing is recorded it stays so
abbrev pub recorded : Option (Roomy Item) → List Item → Option (Roomy Item)
recorded None more = None
recorded (Some l) more = Some (record l { items = l.items ++ more })

-- it has room for so many more
abbrev pub HasRoom : Option (Roomy Item) → ℕ → Type 0
HasRoom None n = ⊤
HasRoom (Some l) n = length l.items + n ≤ l.room

-- how many operations stand in the history that an actor's thread has done, its end among them; a helper has none
abbrev pub placed_by : AnyActor → ℕ
placed_by (any.Mutator m) = placed_count m
placed_by (any.Decrementer d) = 0
placed_by (any.Tracer d) = 0

-- what holds of each mutator holds of the actor, if it is one
abbrev pub IsSound : AnyActor → Type 0
IsSound (any.Mutator m) = IsMutator m
IsSound (any.Decrementer d) = ⊤
IsSound (any.Tracer d) = ⊤

-- the call of an actor that came to stand in the history since so many did, if one has come
abbrev pub calls_since : ℕ → AnyActor → List Item
calls_since before (any.Mutator m) = if nat_lt before (placed_count m) then item.Call m.thread ∷ [] else []
calls_since before (any.Decrementer d) = []
calls_since before (any.Tracer d) = []

-- how many operations of an actor's thread are yet to come into the history, its end among them; a helper has none
abbrev pub left_to_place : AnyActor → ℕ
left_to_place (any.Mutator m) = length m.operations + 1 - placed_count m
left_to_place (any.Decrementer d) = 0
left_to_place (any.Tracer d) = 0

-- how many of all threads
abbrev pub all_left : List AnyActor → ℕ
all_left [] = 0
all_left (a ∷ actors) = left_to_place a + all_left actors

-- ---- the history

-- in each execution of which the invariant of its epoch holds, as many operations of a mutator are placed as its thread has calls
abbrev pub PlacedAreCalls : Type 0
PlacedAreCalls = (b : Beginning) (execution : Execution) (i : ℕ) (m : Mutating) → HoldsExecution b execution → slice_get (mutators_in execution.core.actors) i ≡ Some m
    → placed_count m ≡ length (calls_of m.thread execution.history)
