use Rattle.lxr_core_inv_trace.proofs.ScansKeepingLemmas.{opening_knowledge}
use Rattle.lxr_core_inv_trace.proofs.scans.opening_knowledge.Goals as goal

pub returns : goal.returns
returns c = opening_knowledge
