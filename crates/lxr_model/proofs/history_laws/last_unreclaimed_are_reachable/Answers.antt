use Rattle.lxr_model.proofs.CollectLemmas.{last_reachable}
use Rattle.lxr_model.proofs.history_laws.last_unreclaimed_are_reachable.Goals as goal

pub returns : goal.returns
returns c = last_reachable
