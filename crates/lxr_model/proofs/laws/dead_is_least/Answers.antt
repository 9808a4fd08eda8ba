use Rattle.lxr_model.proofs.ReachableLemmas.{dead_within}
use Rattle.lxr_model.proofs.laws.dead_is_least.Goals as goal

pub returns : goal.returns
returns c = dead_within
