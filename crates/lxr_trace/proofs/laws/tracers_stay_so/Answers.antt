use Rattle.lxr_trace.proofs.StayLemmas.{stay_so}
use Rattle.lxr_trace.proofs.laws.tracers_stay_so.Goals as goal

pub returns : goal.returns
returns c = stay_so
