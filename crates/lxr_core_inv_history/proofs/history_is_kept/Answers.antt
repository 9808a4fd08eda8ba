use Rattle.lxr_core_inv_history.proofs.EventLemmas.{history_is_kept}
use Rattle.lxr_core_inv_history.proofs.history_is_kept.Goals as goal

pub returns : goal.returns
returns c = history_is_kept
