use Rattle.lxr_rounds_history.proofs.HistoryLemmas.{history_whole}
use Rattle.lxr_rounds_history.proofs.ended_histories_are_whole.Goals as goal

pub returns : goal.returns
returns c = history_whole
