-- What holds of a tracer holds of it from the first on.
use Rattle.lxr_helper.proofs.HelperLemmas as lemma
use Rattle.lxr_trace.specs.Laws.{StaysSo}
use Rattle.lxr_trace.specs.Lawful.{tracer_lawful}
use Rattle.lxr_trace.specs.Steps.{tracer_work}

pub stay_so : StaysSo
stay_so = lemma.stay_so tracer_work tracer_lawful
