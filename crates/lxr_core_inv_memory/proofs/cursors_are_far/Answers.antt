use Rattle.lxr_core_inv_memory.proofs.ClosingLemmas.{cursors_are_far}
use Rattle.lxr_core_inv_memory.proofs.cursors_are_far.Goals as goal

pub returns : goal.returns
returns c = cursors_are_far
