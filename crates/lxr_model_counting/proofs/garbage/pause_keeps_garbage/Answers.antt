use Rattle.lxr_model_counting.proofs.GarbageLemmas.{pause_keeps_garbage}
use Rattle.lxr_model_counting.proofs.garbage.pause_keeps_garbage.Goals as goal

pub returns : goal.returns
returns c = pause_keeps_garbage
