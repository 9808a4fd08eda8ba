use Rattle.lxr_blocks.proofs.EdgeLemmas.{edges_of_mask}
use Rattle.lxr_blocks.proofs.masks.edges_of.Goals as goal

pub returns : goal.returns
returns c free is = edges_of_mask c.args.mask free is
