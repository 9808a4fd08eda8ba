use Rattle.lxr_model.proofs.HistoryLemmas.{rows_threads}
use Rattle.lxr_model.proofs.history_laws.rows_are_threads.Goals as goal

pub returns : goal.returns
returns c = rows_threads
