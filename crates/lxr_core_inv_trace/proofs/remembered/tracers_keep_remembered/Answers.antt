use Rattle.lxr_core_inv_trace.proofs.RememberedKeepingLemmas.{tracers_keep_remembered}
use Rattle.lxr_core_inv_trace.proofs.remembered.tracers_keep_remembered.Goals as goal

pub returns : goal.returns
returns c = tracers_keep_remembered
