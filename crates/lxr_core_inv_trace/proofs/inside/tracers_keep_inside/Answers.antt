use Rattle.lxr_core_inv_trace.proofs.InsideKeepingLemmas.{tracers_keep_inside}
use Rattle.lxr_core_inv_trace.proofs.inside.tracers_keep_inside.Goals as goal

pub returns : goal.returns
returns c = tracers_keep_inside
