-- What contracts see of a tracer.
use Rattle.std.specs.Prelude.{Bool, true, false}
use Rattle.lxr_helper.specs.declared.states.HelperState.{HelperState}
use Rattle.lxr_trace.specs.declared.phases.TraceEnd.{TraceEnd}
use Rattle.lxr_trace.specs.declared.phases.TracerPhase.{TracerPhase}
use Rattle.lxr_trace.specs.declared.phases.TracerPhase.TheVariants as phase

-- its space's regions, its pocket, where its unit is, and how the last one ended
abbrev pub TracerState : Type 0
TracerState = HelperState TracerPhase TraceEnd

-- no unit is in progress
abbrev pub rests_in : TracerPhase → Bool
rests_in phase.Resting = true
rests_in p = false
