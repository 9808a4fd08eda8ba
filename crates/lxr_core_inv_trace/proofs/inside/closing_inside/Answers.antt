use Rattle.lxr_core_inv_trace.proofs.InsideKeepingLemmas.{closing_inside}
use Rattle.lxr_core_inv_trace.proofs.inside.closing_inside.Goals as goal

pub returns : goal.returns
returns c = closing_inside
