-- When a pause is wanted, by the actors of an epoch.
use Rattle.std.specs.Prelude.{◌≡◌, ℕ, ◌⊎◌, Bool, true, false, not, ◌&&◌, ◌||◌, Option, Some, List, IsTrue, slice_get}
use Rattle.lxr_mutator.specs.declared.phases.MutEnd.{MutEnd}
use Rattle.lxr_mutator.specs.declared.phases.MutEnd.TheVariants as ends
use Rattle.lxr_mutator.specs.declared.phases.MutatorPhase.{MutatorPhase}
use Rattle.lxr_mutator.specs.declared.phases.MutatorPhase.TheVariants as phase
use Rattle.lxr_mutator.specs.Mutating.{wants_pause}
use Rattle.lxr_mutator.specs.Mutators.{IsThrough}
use Rattle.lxr_core.specs.declared.actors.AnyActor.{AnyActor}
use Rattle.lxr_core.specs.declared.actors.AnyActor.TheVariants as any
use Rattle.lxr_core.specs.Closing as closing
use Rattle.lxr_shared_passes.specs.Passing.{Passing}

-- it is a mutator that does nothing more before a pause: it lacks room, saw that a pause is asked for, or had its turn
abbrev pub IsHeldUp : AnyActor → Type 0
IsHeldUp (any.Mutator m) = closing.IsHeldUp m
IsHeldUp (any.Decrementer d) = ⊥
IsHeldUp (any.Tracer d) = ⊥

-- it is a mutator whose thread has done its end
abbrev pub HasEnded : AnyActor → Type 0
HasEnded (any.Mutator m) = IsThrough m
HasEnded (any.Decrementer d) = ⊥
HasEnded (any.Tracer d) = ⊥

-- it is a mutator whose last operation was a `pause` or a `collect` that it did in this epoch
abbrev pub HasAsked : AnyActor → Type 0
HasAsked (any.Mutator m) = IsTrue (wants_pause m)
HasAsked (any.Decrementer d) = ⊥
HasAsked (any.Tracer d) = ⊥

-- it is a mutator that has not ended
abbrev pub IsUnended : AnyActor → Type 0
IsUnended (any.Mutator m) = ¬ IsThrough m
IsUnended (any.Decrementer d) = ⊥
IsUnended (any.Tracer d) = ⊥

-- it is a mutator that is held up, or has asked for a pause in this epoch
abbrev pub Wants : AnyActor → Type 0
Wants a = IsHeldUp a ⊎ HasAsked a

-- some mutator is or has
abbrev pub SomeWants : List AnyActor → Type 0
SomeWants actors = (i : ℕ) × (a : AnyActor) × (slice_get actors i ≡ Some a) × Wants a

-- all mutators have ended
abbrev pub AllHaveEnded : List AnyActor → Type 0
AllHaveEnded actors = (i : ℕ) (a : AnyActor) → slice_get actors i ≡ Some a → ¬ IsUnended a

-- a pause is wanted by these actors
abbrev pub IsPauseWanted : List AnyActor → Type 0
IsPauseWanted actors = SomeWants actors ⊎ AllHaveEnded actors

-- ---- the same as tests

-- a mutator has no further step in this epoch
abbrev pub is_finished : MutatorPhase → Bool
is_finished phase.Finished = true
is_finished p = false

-- its last unit was its thread's end
abbrev pub is_ended : Option MutEnd → Bool
is_ended (Some ends.Ended) = true
is_ended e = false

-- an actor wants a pause
abbrev pub wants : AnyActor → Bool
wants (any.Mutator m) = (is_finished m.phase && not (is_ended m.end)) || wants_pause m
wants (any.Decrementer d) = false
wants (any.Tracer d) = false

-- it is a mutator that has not ended
abbrev pub is_unended : AnyActor → Bool
is_unended (any.Mutator m) = not (is_finished m.phase && is_ended m.end)
is_unended (any.Decrementer d) = false
is_unended (any.Tracer d) = false

-- so of the actor of a pass
abbrev pub pass_wants : Passing AnyActor → Bool
pass_wants p = wants p.actor

abbrev pub pass_is_unended : Passing AnyActor → Bool
pass_is_unended p = is_unended p.actor
