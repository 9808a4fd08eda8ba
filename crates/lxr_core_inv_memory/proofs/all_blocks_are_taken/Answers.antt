use Rattle.lxr_core_inv_memory.proofs.ClosingLemmas.{all_blocks_are_taken}
use Rattle.lxr_core_inv_memory.proofs.all_blocks_are_taken.Goals as goal

pub returns : goal.returns
returns c = all_blocks_are_taken
