use Rattle.lxr_core_inv_memory.proofs.DrawnLemmas.{drawn_memory_is_kept}
use Rattle.lxr_core_inv_memory.proofs.drawn_memory_is_kept.Goals as goal

pub returns : goal.returns
returns c = drawn_memory_is_kept
