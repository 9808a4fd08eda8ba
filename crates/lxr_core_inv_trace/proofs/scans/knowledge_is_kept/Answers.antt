use Rattle.lxr_core_inv_trace.proofs.ScansKeepingLemmas.{knowledge_is_kept}
use Rattle.lxr_core_inv_trace.proofs.scans.knowledge_is_kept.Goals as goal

pub returns : goal.returns
returns c = knowledge_is_kept
