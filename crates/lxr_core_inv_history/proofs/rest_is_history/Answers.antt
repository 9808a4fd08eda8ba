use Rattle.lxr_core_inv_history.proofs.ThroughLemmas.{rest_is_history}
use Rattle.lxr_core_inv_history.proofs.rest_is_history.Goals as goal

pub returns : goal.returns
returns c = rest_is_history
