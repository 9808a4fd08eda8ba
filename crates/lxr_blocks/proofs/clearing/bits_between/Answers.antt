use Rattle.std.proofs.Common.{◌-◌, ◌∙◌, arith}
use Rattle.lxr_blocks.proofs.ClearingLemmas.{later_fewer, range_mask}
use Rattle.lxr_blocks.proofs.clearing.bits_between.Goals as goal

pub overflow_sub-result : goal.overflow_sub-result
overflow_sub-result c =
    let fewer = later_fewer c.args.from c.args.end c.requires.0 c.requires.1 in
    let from = c.bits_from.ensures in let to = c.bits_from-2.ensures in omega arith

pub returns : goal.returns
returns c = (λ j. c.bits_from.ensures j - c.bits_from-2.ensures j) ∙ range_mask c.args.from c.args.end c.requires.0 c.requires.1
