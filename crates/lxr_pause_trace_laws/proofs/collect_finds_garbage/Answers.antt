use Rattle.lxr_pause_trace_laws.proofs.EndLemmas.{collect_finds}
use Rattle.lxr_pause_trace_laws.proofs.collect_finds_garbage.Goals as goal

pub returns : goal.returns
returns c = collect_finds
