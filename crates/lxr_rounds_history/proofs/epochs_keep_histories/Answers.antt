use Rattle.lxr_rounds_history.proofs.HistoryLemmas.{history_extends}
use Rattle.lxr_rounds_history.proofs.epochs_keep_histories.Goals as goal

pub returns : goal.returns
returns c = history_extends
