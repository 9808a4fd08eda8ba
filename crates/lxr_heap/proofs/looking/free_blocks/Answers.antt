use Rattle.std.proofs.Common.{◌∙◌}
use Rattle.lxr_image.specs.Spaces.{tables_of}
use Rattle.lxr_heap.proofs.LookingLemmas.{frees_are_listed}
use Rattle.lxr_heap.proofs.looking.free_blocks.Goals as goal

pub returns : goal.returns
returns c = c.free_blocks.ensures ∙ frees_are_listed (tables_of c.args.space.now) c.args.space.now.limits.blocks
