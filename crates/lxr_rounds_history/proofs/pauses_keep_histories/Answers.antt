use Rattle.lxr_rounds_history.proofs.HistoryLemmas.{history_with_pause}
use Rattle.lxr_rounds_history.proofs.pauses_keep_histories.Goals as goal

pub returns : goal.returns
returns c = history_with_pause
