-- Each step of a decrementer's machine is a step of the epoch.
use Rattle.std.specs.Prelude.{ℕ, List}
use Rattle.lxr_decrement.specs.Decrementing.{DecrementerState}
use Rattle.lxr_decrement.specs.Steps.{decrementer_work}
use Rattle.lxr_core_invariant.specs.EpochStates.{Beginning, EpochState}
use Rattle.lxr_core_invariant.specs.Decremented.{MayDecrement}
use Rattle.lxr_core_sim_helpers.specs.DecrementerShowing.{decrementing_in}
use Rattle.lxr_core_sim_helpers.specs.HelperStepping as helper

-- The words and decrementer i are those of an epoch state of the epoch.
abbrev pub ShowsDecrementer : Beginning → EpochState → List ℕ → ℕ → DecrementerState → Type 0
ShowsDecrementer b s words i d = helper.ShowsHelper decrementer_work decrementing_in (λ (x : EpochState). x.decrementers) MayDecrement b s words i d

-- A step of its machine fits, and is an access that may happen to it.
abbrev pub DecrementerStepIs : Beginning → EpochState → List ℕ → ℕ → DecrementerState → Type 0
DecrementerStepIs b s words i d = helper.HelperStepIs decrementer_work decrementing_in (λ (x : EpochState). x.decrementers) MayDecrement b s words i d

abbrev pub DecrementerStepsAreEvents : Type 0
DecrementerStepsAreEvents = helper.HelperStepsAreEvents decrementer_work decrementing_in (λ (x : EpochState). x.decrementers) MayDecrement

-- Places that are offered or given up change neither what it is about to do nor what holds of it; so it is made, and begins anew.
abbrev pub HintsChangeNothing : Type 0
HintsChangeNothing = helper.HintsChangeNothing decrementer_work decrementing_in

abbrev pub FirstIsDecrementer : Type 0
FirstIsDecrementer = helper.FirstIsHelper decrementer_work decrementing_in
