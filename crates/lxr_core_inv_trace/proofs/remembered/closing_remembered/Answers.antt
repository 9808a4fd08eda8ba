use Rattle.lxr_core_inv_trace.proofs.RememberedSafepointLemmas.{closing_remembered}
use Rattle.lxr_core_inv_trace.proofs.remembered.closing_remembered.Goals as goal

pub returns : goal.returns
returns c = closing_remembered
