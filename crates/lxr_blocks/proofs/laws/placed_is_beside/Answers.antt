use Rattle.lxr_blocks.proofs.BesideLemmas.{placed_is_beside}
use Rattle.lxr_blocks.proofs.laws.placed_is_beside.Goals as goal

pub returns : goal.returns
returns c = placed_is_beside
