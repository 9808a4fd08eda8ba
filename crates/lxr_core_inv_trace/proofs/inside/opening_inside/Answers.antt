use Rattle.lxr_core_inv_trace.proofs.InsideKeepingLemmas.{opening_inside}
use Rattle.lxr_core_inv_trace.proofs.inside.opening_inside.Goals as goal

pub returns : goal.returns
returns c = opening_inside
