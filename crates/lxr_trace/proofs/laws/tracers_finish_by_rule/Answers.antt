use Rattle.lxr_helper.proofs.HelperLemmas.{finished_by_rule}
use Rattle.lxr_trace.specs.Steps.{tracer_work}
use Rattle.lxr_trace.specs.Lawful.{tracer_lawful}
use Rattle.lxr_trace.proofs.laws.tracers_finish_by_rule.Goals as goal

pub returns : goal.returns
returns c = finished_by_rule tracer_work tracer_lawful
