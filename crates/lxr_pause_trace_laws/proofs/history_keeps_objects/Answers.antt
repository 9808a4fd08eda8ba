use Rattle.lxr_pause_trace_laws.proofs.HistoryLemmas.{history_keeps}
use Rattle.lxr_pause_trace_laws.proofs.history_keeps_objects.Goals as goal

pub returns : goal.returns
returns c = history_keeps
