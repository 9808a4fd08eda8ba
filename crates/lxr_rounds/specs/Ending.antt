-- Which threads have ended, and which have called `collect`.
use Rattle.std.specs.Prelude.{◌≡◌, ⊤, Bool, false, Some}
use Rattle.lxr_mutator.specs.declared.phases.MutEnd.TheVariants as ends
use Rattle.lxr_mutator.specs.Mutating.{Mutating, has_collected}
use Rattle.lxr_core.specs.declared.actors.AnyActor.{AnyActor}
use Rattle.lxr_core.specs.declared.actors.AnyActor.TheVariants as any

-- its end is done
abbrev pub HasEnded : Mutating → Type 0
HasEnded m = m.end ≡ Some ends.Ended

-- the thread of an actor has ended; a helper has none that goes on
abbrev pub NoneGoesOn : AnyActor → Type 0
NoneGoesOn (any.Mutator m) = HasEnded m
NoneGoesOn (any.Decrementer d) = ⊤
NoneGoesOn (any.Tracer d) = ⊤

-- the thread of an actor has called `collect` in this epoch; a helper has none
abbrev pub actor_collected : AnyActor → Bool
actor_collected (any.Mutator m) = has_collected m
actor_collected (any.Decrementer d) = false
actor_collected (any.Tracer d) = false
