use Rattle.std.proofs.Common.{arith}
use Rattle.lxr_evac_blocks.proofs.RankLemmas.{all_summed, none_summed, sum_few, summed_next}
use Rattle.lxr_evac_blocks.proofs.ranks.first_ranks.Goals as goal

pub loop-lines-init : goal.loop-lines-init
loop-lines-init c = none_summed _ _ _ c.count_by_lines-ranks.ensures

pub overflow_add-before : goal.overflow_add-before
overflow_add-before c =
    let few = sum_few _ _ _ _ _ c.loop-lines.invariant (omega arith) in
    omega (arith, few)

pub loop-lines-preserved : goal.loop-lines-preserved
loop-lines-preserved c = summed_next _ _ _ _ _ c.loop-lines.invariant (omega arith)

pub returns : goal.returns
returns c = all_summed _ _ _ _ _ (omega arith) c.loop-lines.invariant
