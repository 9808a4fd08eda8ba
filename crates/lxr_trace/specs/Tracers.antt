-- What holds of each tracer, and what becomes of it between its steps.
use Rattle.lxr_layout.specs.declared.limits.Limits.{Limits}
use Rattle.lxr_helper.specs.Helpers as helper
use Rattle.lxr_trace.specs.Tracing.{TracerState}
use Rattle.lxr_trace.specs.Steps.{tracer_work}

-- what holds of each tracer
abbrev pub IsTracer : TracerState → Type 0
IsTracer t = helper.IsHelper tracer_work t

-- a tracer as it is made
abbrev pub first : Limits → TracerState
first limits = helper.first tracer_work limits

-- a new epoch begins
abbrev pub again : TracerState → TracerState
again t = helper.again tracer_work t
