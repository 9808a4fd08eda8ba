use Rattle.lxr_text_print.proofs.HistoryLemmas.{grows_by_calls}
use Rattle.lxr_text_print.proofs.laws.text_grows_by_calls.Goals as goal

pub returns : goal.returns
returns c = grows_by_calls
