use Rattle.lxr_pause_trace_laws.proofs.EndLemmas.{end_finds}
use Rattle.lxr_pause_trace_laws.proofs.end_finds_garbage.Goals as goal

pub returns : goal.returns
returns c = end_finds
