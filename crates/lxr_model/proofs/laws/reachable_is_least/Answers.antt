use Rattle.lxr_model.proofs.ReachableLemmas.{reachable_within}
use Rattle.lxr_model.proofs.laws.reachable_is_least.Goals as goal

pub returns : goal.returns
returns c = reachable_within
