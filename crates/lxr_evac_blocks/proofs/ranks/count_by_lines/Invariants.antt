use Rattle.lxr_image.specs.Spaces.{tables_of}
use Rattle.lxr_evac_blocks.specs.Ranks.{AreNumbers}
use Rattle.lxr_evac_blocks.proofs.ranks.count_by_lines.Given as goal

abbrev pub invariant-loop-block : goal.invariant-loop-block
invariant-loop-block l = AreNumbers (tables_of l.space) (λ lines. 0) l.block l.counts
