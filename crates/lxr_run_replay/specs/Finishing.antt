-- How far the finishing of units has come.
use Rattle.std.specs.Prelude.{◌≡◌, ℕ, ◌<◌, true, Some, List, [], ◌∷◌, length, map, slice_get}
use Rattle.lxr_actor.specs.declared.Core.{Core}
use Rattle.lxr_actor.specs.declared.Event.TheVariants.{Step}
use Rattle.lxr_actor.specs.Run.{event, run}
use Rattle.lxr_core.specs.declared.actors.AnyActor.{AnyActor}
use Rattle.lxr_core.specs.Actors.{any_machine, mutators_in}
use Rattle.lxr_run_replay.specs.Replaying.{IsFirstBusy}

-- the actors before the one of this number rest
abbrev pub RestBefore : ℕ → List AnyActor → Type 0
RestBefore number actors = (i : ℕ) (a : AnyActor) → slice_get actors i ≡ Some a → i < number → any_machine.rests a ≡ true

-- each of these steps is made by the first actor that doesn't rest
abbrev pub StepsOfFirst : Core AnyActor → List ℕ → Type 0
StepsOfFirst core [] = Unit {0}
StepsOfFirst core (number ∷ numbers) = IsFirstBusy core.actors number × StepsOfFirst (event any_machine core (Step number)) numbers

-- By such steps a core has become this one; the mutators and how many actors there are have stayed.
pub record IsFinishing (core core' : Core AnyActor) : Type 0 where
  pub schedule : List ℕ
  pub firsts : StepsOfFirst core schedule
  pub core_is : core' ≡ run any_machine core (map Step schedule)
  pub mutators : mutators_in core'.actors ≡ mutators_in core.actors
  pub as_many : length core'.actors ≡ length core.actors
