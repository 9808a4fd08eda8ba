use Rattle.lxr_image.specs.Spaces.{tables_of}
use Rattle.lxr_blocks.proofs.MaskLemmas.{longest_bound, longest_reached}
use Rattle.lxr_blocks.proofs.states.longest_in.Goals as goal

pub returns-clause-bound : goal.returns-clause-bound
returns-clause-bound c = longest_bound (tables_of c.args.space.now) c.args.space.now.limits.blocks c.args.block c.free_mask.result c.longest_of.result c.free_mask.ensures c.longest_of.ensures

pub returns-clause-reached : goal.returns-clause-reached
returns-clause-reached c =
    longest_reached (tables_of c.args.space.now) c.args.space.now.limits.blocks c.args.block c.free_mask.result c.longest_of.result c.requires.block c.free_mask.ensures c.longest_of.ensures
