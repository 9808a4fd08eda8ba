-- What contracts see of a decrementer.
use Rattle.std.specs.Prelude.{Bool, true, false}
use Rattle.lxr_helper.specs.declared.states.HelperState.{HelperState}
use Rattle.lxr_decrement.specs.declared.phases.DecEnd.{DecEnd}
use Rattle.lxr_decrement.specs.declared.phases.DecrementerPhase.{DecrementerPhase}
use Rattle.lxr_decrement.specs.declared.phases.DecrementerPhase.TheVariants as phase

-- its space's regions, its pocket, where its unit is, and how the last one ended
abbrev pub DecrementerState : Type 0
DecrementerState = HelperState DecrementerPhase DecEnd

-- no unit is in progress
abbrev pub rests_in : DecrementerPhase → Bool
rests_in phase.Resting = true
rests_in p = false
