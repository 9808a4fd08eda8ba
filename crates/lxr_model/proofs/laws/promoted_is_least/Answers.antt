use Rattle.lxr_model.proofs.ReachableLemmas.{promoted_within}
use Rattle.lxr_model.proofs.laws.promoted_is_least.Goals as goal

pub returns : goal.returns
returns c = promoted_within
