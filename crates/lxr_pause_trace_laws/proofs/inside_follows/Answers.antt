use Rattle.lxr_pause_trace_laws.proofs.HistoryLemmas.{follows}
use Rattle.lxr_pause_trace_laws.proofs.inside_follows.Goals as goal

pub returns : goal.returns
returns c = follows
