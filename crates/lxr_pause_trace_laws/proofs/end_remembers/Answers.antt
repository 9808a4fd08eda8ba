use Rattle.lxr_pause_trace_laws.proofs.EndRememberedLemmas.{end_remembered}
use Rattle.lxr_pause_trace_laws.proofs.end_remembers.Goals as goal

pub returns : goal.returns
returns c = end_remembered
