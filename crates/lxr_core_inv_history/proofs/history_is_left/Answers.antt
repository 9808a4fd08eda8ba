use Rattle.lxr_core_inv_history.proofs.LeftLemmas.{history_is_left}
use Rattle.lxr_core_inv_history.proofs.history_is_left.Goals as goal

pub returns : goal.returns
returns c = history_is_left
