use Rattle.lxr_model_decide.proofs.MissLemmas.{reachable_is_not_dead}
use Rattle.lxr_model_decide.proofs.near_misses.reachable_is_not_dead.Goals as goal

pub returns : goal.returns
returns c = reachable_is_not_dead
