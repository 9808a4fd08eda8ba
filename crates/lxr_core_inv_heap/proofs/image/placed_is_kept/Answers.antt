use Rattle.lxr_core_inv_heap.proofs.ImagePlacedLemmas.{placed_is_kept}
use Rattle.lxr_core_inv_heap.proofs.image.placed_is_kept.Goals as goal

pub returns : goal.returns
returns c = placed_is_kept
