-- How units of actors end, and what holds of an actor between two of them.
use Rattle.std.specs.Prelude.{◌≡◌, ℕ, Bool, true, false, Option, Some, None, List, IsSome, is_some, option_map, slice_get}
use Rattle.lxr_graph.specs.declared.Op.{Op}
use Rattle.lxr_mutator.specs.declared.phases.MutEnd.{MutEnd}
use Rattle.lxr_mutator.specs.declared.phases.MutEnd.TheVariants as ends
use Rattle.lxr_mutator.specs.Mutating.{op_now}
use Rattle.lxr_core.specs.declared.actors.AnyActor.{AnyActor}
use Rattle.lxr_core.specs.declared.actors.AnyActor.TheVariants as any
use Rattle.lxr_core.specs.Actors.{any_machine}
use Rattle.lxr_shared.specs.declared.turns.Turn.{Turn}
use Rattle.lxr_shared.specs.declared.turns.Turn.TheVariants as turn

-- the actor is a mutator, and this is the operation whose turn it is
abbrev pub IsNextOf : AnyActor → Op → Type 0
IsNextOf (any.Mutator m) o = o ≡ op_now m
IsNextOf a o = ⊥

-- the end of an actor's last unit: none before its first unit of the epoch
abbrev pub end_of : AnyActor → Option Turn
end_of (any.Mutator m) = option_map turn.Mutator m.end
end_of (any.Decrementer d) = option_map turn.Decrementer d.end
end_of (any.Tracer d) = option_map turn.Tracer d.end

-- a mutator's unit ended with its operation done, and that wasn't the last one that the thread may do in this epoch
abbrev pub is_op_done : Option MutEnd → Bool
is_op_done (Some (ends.OpDone r)) = true
is_op_done other = false

-- where it is a mutator, it has a further unit before it in this epoch exactly if its last one ended so
abbrev pub GoesOnByEnd : AnyActor → Type 0
GoesOnByEnd (any.Mutator m) = is_some (any_machine.action (any.Mutator m)) ≡ is_op_done m.end
GoesOnByEnd (any.Decrementer d) = Unit {0}
GoesOnByEnd (any.Tracer d) = Unit {0}

-- if the actor is finished for the epoch, it knows how its last unit ended
abbrev pub KnowsEnd : AnyActor → Type 0
KnowsEnd a = any_machine.action a ≡ None → IsSome (end_of a)

-- so it is with each of these actors
abbrev pub HaveEnds : List AnyActor → Type 0
HaveEnds actors = (i : ℕ) (a : AnyActor) → slice_get actors i ≡ Some a → KnowsEnd a

-- no unit of the actor is in progress
pub record IsBetweenUnits (a : AnyActor) : Type 0 where
  pub rests : any_machine.rests a ≡ true
  pub ended : KnowsEnd a
