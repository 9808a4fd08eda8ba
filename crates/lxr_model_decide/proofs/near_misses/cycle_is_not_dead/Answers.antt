use Rattle.lxr_model_decide.proofs.MissLemmas.{cycle_is_not_dead}
use Rattle.lxr_model_decide.proofs.near_misses.cycle_is_not_dead.Goals as goal

pub returns : goal.returns
returns c = cycle_is_not_dead
