use Rattle.lxr_model_counting.proofs.GarbageLemmas.{garbage_not_dead}
use Rattle.lxr_model_counting.proofs.garbage.garbage_is_not_dead.Goals as goal

pub returns : goal.returns
returns c = garbage_not_dead
