use Rattle.lxr_core_inv_memory.proofs.LeftLemmas.{drawn_memory_is_left}
use Rattle.lxr_core_inv_memory.proofs.drawn_memory_is_left.Goals as goal

pub returns : goal.returns
returns c = drawn_memory_is_left
