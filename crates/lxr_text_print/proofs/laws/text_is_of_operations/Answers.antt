use Rattle.lxr_text_print.proofs.HistoryLemmas.{is_of_its_operations}
use Rattle.lxr_text_print.proofs.laws.text_is_of_operations.Goals as goal

pub returns : goal.returns
returns c = is_of_its_operations
