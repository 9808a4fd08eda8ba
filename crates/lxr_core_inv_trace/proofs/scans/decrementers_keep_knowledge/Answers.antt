use Rattle.lxr_core_inv_trace.proofs.ScansKeepingLemmas.{decrementers_keep_knowledge}
use Rattle.lxr_core_inv_trace.proofs.scans.decrementers_keep_knowledge.Goals as goal

pub returns : goal.returns
returns c = decrementers_keep_knowledge
