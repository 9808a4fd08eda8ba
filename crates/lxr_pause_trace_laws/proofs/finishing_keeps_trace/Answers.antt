use Rattle.lxr_pause_trace_laws.proofs.FinishingLemmas.{finishing_keeps}
use Rattle.lxr_pause_trace_laws.proofs.finishing_keeps_trace.Goals as goal

pub returns : goal.returns
returns c = finishing_keeps
