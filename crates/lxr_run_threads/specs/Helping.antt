-- How helpers share: what one gives behind its turn, and when one that has nothing to do looks for what others gave.
use Rattle.std.specs.Prelude.{ℕ, ◌≡◌, ◌+◌, ◌⊎◌, Bool, true, false, ◌&&◌, if◌then◌else◌, nat_lt, List, length, Option, Some, None}
use Rattle.lxr_layout.specs.declared.Place.{Place}
use Rattle.lxr_actor.specs.declared.Action.{Action}
use Rattle.lxr_core.specs.declared.actors.AnyActor.{AnyActor}
use Rattle.lxr_core.specs.declared.actors.AnyActor.TheVariants as any
use Rattle.lxr_core.specs.Actors.{any_machine}
use Rattle.lxr_shared_passes.specs.Passing.{Passing, Turned}
use Rattle.lxr_hints.specs.declared.hinter.TheConstants.{HINTS}
use Rattle.lxr_run_threads.specs.declared.helping.TheConstants.{ROUNDS_BETWEEN_LOOKS}

-- where a helper gives and takes: how many places it took in, and how many rounds go by before the helper looks for one
pub record Exchanging : Type 0 where
  pub pushes : ℕ
  pub wait : ℕ

-- a helper that found a place looks again as soon as it has nothing to do, and one that found none only some rounds later
abbrev pub wait_after : Bool → ℕ
wait_after true = 0
wait_after false = ROUNDS_BETWEEN_LOOKS

-- a further place is taken in behind so many
abbrev pub takes_in : ℕ → Bool
takes_in pushes = nat_lt pushes HINTS

-- the places of an actor's pocket
abbrev pub places_in : AnyActor → ℕ
places_in (any.Mutator m) = 0
places_in (any.Decrementer d) = length d.pocket.items
places_in (any.Tracer d) = length d.pocket.items

-- A helper with more than one place gives up one of them, where that is taken in behind so many; else nothing changes.
abbrev pub given : AnyActor → ℕ → AnyActor × ℕ
given a pushes = if nat_lt 1 (places_in a) && takes_in pushes then ((any_machine.spared a).0, pushes + 1) else (a, pushes)

-- A helper that has a further step takes nothing. One that has none is offered some place, and its exchange is asked again as soon as it has nothing to do; or it stays
-- as it is, and so many rounds go by before it asks again. Which place it is offered isn't said, nor that it is one that a helper gave.
abbrev pub TakesHint : Option Action → AnyActor → Exchanging → AnyActor → Exchanging → Type 0
TakesHint (Some act) a e b f = (b ≡ a) × (f ≡ e)
TakesHint None a e b f = (f.pushes ≡ e.pushes) × (((b ≡ a) × (f.wait ≡ wait_after false)) ⊎ ((place : Place) × (b ≡ (any_machine.offered a place).0) × (f.wait ≡ wait_after true)))

-- A helper with its exchange is offered some place where it has no further step, then makes its turn, and gives up a place behind it.
pub record Shares (p : Passing AnyActor) (e : Exchanging) (q : Passing AnyActor) (f : Exchanging) : Type 0 where
  pub offered : Passing AnyActor
  pub turned : Passing AnyActor
  pub between : Exchanging
  pub takes : TakesHint (any_machine.action p.actor) p.actor e offered.actor between
  pub turns : (olds : List ℕ) × Turned any_machine offered olds turned
  pub gives : (q.actor, f.pushes) ≡ given turned.actor between.pushes
