use Rattle.lxr_core_inv_counts.proofs.KeepingLemmas.{decrementers_are_sound}
use Rattle.lxr_core_inv_counts.proofs.decrementers_are_sound.Goals as goal

pub returns : goal.returns
returns c = decrementers_are_sound
