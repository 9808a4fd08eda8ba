use Rattle.lxr_blocks.proofs.KeptLemmas.{free_line_is_told}
use Rattle.lxr_blocks.proofs.laws.free_line_is_told.Goals as goal

pub returns : goal.returns
returns c = free_line_is_told
