use Rattle.lxr_core_inv_trace.proofs.RememberedKeepingLemmas.{remembered_is_kept}
use Rattle.lxr_core_inv_trace.proofs.remembered.remembered_is_kept.Goals as goal

pub returns : goal.returns
returns c = remembered_is_kept
