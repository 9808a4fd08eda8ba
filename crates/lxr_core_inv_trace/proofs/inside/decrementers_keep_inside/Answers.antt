use Rattle.lxr_core_inv_trace.proofs.InsideKeepingLemmas.{decrementers_keep_inside}
use Rattle.lxr_core_inv_trace.proofs.inside.decrementers_keep_inside.Goals as goal

pub returns : goal.returns
returns c = decrementers_keep_inside
