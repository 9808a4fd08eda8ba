use Rattle.lxr_core_inv_memory.proofs.RaisingLemmas.{cursors_dont_fall}
use Rattle.lxr_core_inv_memory.proofs.cursors_dont_fall.Goals as goal

pub returns : goal.returns
returns c = cursors_dont_fall
