use Rattle.lxr_image.specs.Spaces.{tables_of}
use Rattle.lxr_evac_blocks.proofs.RankLemmas.{AreSummed}
use Rattle.lxr_evac_blocks.proofs.ranks.first_ranks.Given as goal

abbrev pub invariant-loop-lines : goal.invariant-loop-lines
invariant-loop-lines l = AreSummed (tables_of l.fn.space) l.fn.space.limits.blocks l.lines l.before l.ranks
