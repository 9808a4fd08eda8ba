use Rattle.lxr_image.specs.Spaces.{tables_of}
use Rattle.lxr_core.specs.Filling.{HaveFilled}
use Rattle.lxr_core.proofs.filling.fill_pockets.Given as goal

abbrev pub invariant-loop-number : goal.invariant-loop-number
invariant-loop-number l = HaveFilled (tables_of l.space) l.space.limits.blocks l.from l.fn.actors l.actors l.number
