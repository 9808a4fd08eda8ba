use Rattle.std.proofs.Common.{arith}
use Rattle.lxr_image.specs.Spaces.{tables_of}
use Rattle.lxr_evac_blocks.proofs.RankLemmas.{counts_few, none_counted_yet}
use Rattle.lxr_evac_blocks.proofs.ranks.count_by_lines.Goals as goal

pub loop-block-init : goal.loop-block-init
loop-block-init c = none_counted_yet (tables_of c.args.space.now)

pub number_block-requires-clause-few : goal.number_block-requires-clause-few
number_block-requires-clause-few c = λ lines small.
    let few = counts_few _ _ _ c.loop-block.invariant lines small in
    omega (arith, few)
