use Rattle.lxr_model_counting.proofs.GarbageLemmas.{call_keeps_garbage}
use Rattle.lxr_model_counting.proofs.garbage.call_keeps_garbage.Goals as goal

pub returns : goal.returns
returns c = call_keeps_garbage
