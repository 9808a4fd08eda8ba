use Rattle.lxr_core_inv_trace.proofs.RememberedKeepingLemmas.{decrementers_keep_remembered}
use Rattle.lxr_core_inv_trace.proofs.remembered.decrementers_keep_remembered.Goals as goal

pub returns : goal.returns
returns c = decrementers_keep_remembered
