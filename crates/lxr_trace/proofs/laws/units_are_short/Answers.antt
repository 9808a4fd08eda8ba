use Rattle.lxr_helper.proofs.HelperLemmas.{units_short}
use Rattle.lxr_trace.specs.Steps.{tracer_work}
use Rattle.lxr_trace.specs.Lawful.{tracer_lawful}
use Rattle.lxr_trace.proofs.laws.units_are_short.Goals as goal

pub returns : goal.returns
returns c = units_short tracer_work tracer_lawful
