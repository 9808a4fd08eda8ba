use Rattle.lxr_model.proofs.HistoryLemmas.{reachable_are_kept}
use Rattle.lxr_model.proofs.history_laws.reachable_are_kept.Goals as goal

pub returns : goal.returns
returns c = reachable_are_kept
