use Rattle.lxr_core_inv_heap.proofs.ImageLeftLemmas.{placed_is_left}
use Rattle.lxr_core_inv_heap.proofs.image.placed_is_left.Goals as goal

pub returns : goal.returns
returns c = placed_is_left
