use Rattle.lxr_model.proofs.HistoryLemmas.{reclaimed_unreachable}
use Rattle.lxr_model.proofs.history_laws.reclaimed_are_unreachable.Goals as goal

pub returns : goal.returns
returns c = reclaimed_unreachable
