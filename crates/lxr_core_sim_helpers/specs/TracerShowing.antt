-- What a tracer's machine shows of itself.
use Rattle.lxr_layout.specs.declared.limits.Limits.{Limits}
use Rattle.lxr_trace.specs.declared.phases.TracerPhase.{TracerPhase}
use Rattle.lxr_trace.specs.declared.phases.TracerPhase.TheVariants as phase
use Rattle.lxr_trace.specs.Tracing.{TracerState}
use Rattle.lxr_trace.specs.Steps.{tracer_work}
use Rattle.lxr_core_access.specs.Tracers.{Tracing, Rests, AsksGray, AsksObject, Marks, ReadsShape, Scans, AsksReferent, GraysReferent, AsksBlock, ReadsReuse, DrawsNumber, Enters, FindsNothing}
use Rattle.lxr_core_sim_helpers.specs.HelperStepping as helper

-- what it is about to do, by its phase; whether the remembered set had no room is told by how the unit ends alone
abbrev pub tracing_in : TracerPhase → Tracing
tracing_in phase.Resting = Rests
tracing_in (phase.AsksGray place) = AsksGray place.0
tracing_in (phase.AsksObject place gray) = AsksObject place.0 gray
tracing_in (phase.Marks place) = Marks place.0
tracing_in (phase.ReadsShape place) = ReadsShape place.0
tracing_in (phase.Scans scan) = Scans scan.place.0 scan.refs scan.index
tracing_in (phase.AsksReferent scan referent) = AsksReferent scan.place.0 scan.refs scan.index referent.0
tracing_in (phase.GraysReferent scan referent) = GraysReferent scan.place.0 scan.refs scan.index referent.0
tracing_in (phase.AsksBlock scan referent) = AsksBlock scan.place.0 scan.refs scan.index referent.0
tracing_in (phase.ReadsReuse scan) = ReadsReuse scan.place.0 scan.refs scan.index
tracing_in (phase.DrawsNumber scan counter) = DrawsNumber scan.place.0 scan.refs scan.index counter
tracing_in (phase.Enters scan counter number) = Enters scan.place.0 scan.refs scan.index counter number
tracing_in phase.FindsNothing = FindsNothing

-- what a tracer is about to do
abbrev pub tracing_of : TracerState → Tracing
tracing_of d = tracing_in d.phase

-- a tracer of a space of these limits
abbrev pub IsTracerOf : Limits → TracerState → Type 0
IsTracerOf l d = helper.IsHelperOf tracer_work tracing_in l d
