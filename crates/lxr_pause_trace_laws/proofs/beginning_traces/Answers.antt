use Rattle.lxr_pause_trace_laws.proofs.BeginningLemmas.{beginning}
use Rattle.lxr_pause_trace_laws.proofs.beginning_traces.Goals as goal

pub returns : goal.returns
returns c = beginning
