use Rattle.lxr_model.proofs.ReachableLemmas.{dead_apart}
use Rattle.lxr_model.proofs.laws.dead_are_unreachable.Goals as goal

pub returns : goal.returns
returns c = dead_apart
