use Rattle.lxr_model.proofs.HistoryLemmas.{old_or_made}
use Rattle.lxr_model.proofs.history_laws.reachable_are_old_or_made.Goals as goal

pub returns : goal.returns
returns c = old_or_made
