use Rattle.lxr_pause_trace_laws.proofs.CountingLemmas.{counting_keeps}
use Rattle.lxr_pause_trace_laws.proofs.counting_keeps_trace.Goals as goal

pub returns : goal.returns
returns c = counting_keeps
