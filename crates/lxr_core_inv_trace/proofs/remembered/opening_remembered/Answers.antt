use Rattle.lxr_core_inv_trace.proofs.RememberedSafepointLemmas.{opening_remembered}
use Rattle.lxr_core_inv_trace.proofs.remembered.opening_remembered.Goals as goal

pub returns : goal.returns
returns c = opening_remembered
