use Rattle.lxr_model_counting.proofs.GarbageLemmas.{sweeps_are_sound}
use Rattle.lxr_model_counting.proofs.garbage.sweeps_are_sound.Goals as goal

pub returns : goal.returns
returns c = sweeps_are_sound
