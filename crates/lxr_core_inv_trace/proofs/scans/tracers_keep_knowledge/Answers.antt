use Rattle.lxr_core_inv_trace.proofs.ScansKeepingLemmas.{tracers_keep_knowledge}
use Rattle.lxr_core_inv_trace.proofs.scans.tracers_keep_knowledge.Goals as goal

pub returns : goal.returns
returns c = tracers_keep_knowledge
