-- What hints leave: a place that is offered or given up changes the pocket alone.
use Rattle.lxr_trace.specs.Steps.{tracer_work}
use Rattle.lxr_trace.specs.Lawful.{tracer_lawful}
use Rattle.lxr_core_sim_helpers.specs.TracerShowing.{tracing_in}
use Rattle.lxr_core_sim_helpers.specs.TracerStepping.{TracerHintsChangeNothing}
use Rattle.lxr_core_sim_helpers.proofs.HelperLemmas as lemma

pub hints_stay : TracerHintsChangeNothing
hints_stay = lemma.hints_stay tracer_work tracing_in tracer_lawful
