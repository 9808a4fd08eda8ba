use Rattle.std.proofs.Common.{arith}
use Rattle.lxr_large_model.specs.History.{large_moment}
use Rattle.lxr_heap.proofs.CountLemmas.{kept_length}
use Rattle.lxr_heap.proofs.looking.live.Goals as goal

pub returns : goal.returns
returns c = λ h is.
    let x = c.args.heap.now in
    let kept = kept_length x.left x.made_before x.made (large_moment h) is.follows is.counts in
    let young = c.young.ensures h is in
    let made = is.counts.young in
    omega (arith, kept, young, made)
