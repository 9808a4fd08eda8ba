use Rattle.std.proofs.Common.{arith, length-set}
use Rattle.lxr_large_bodies.proofs.Runs.{takes_next}
use Rattle.lxr_large_bodies.proofs.blocks.take_run.Goals as goal

pub loop-block-preserved : goal.loop-block-preserved
loop-block-preserved c =
    let test = c.loop-block-test.true in
    let within = c.requires.within in
    let same = c.loop-block.invariant.as_many in
    takes_next c.args.taken.now c.loop-block.taken c.args.first c.loop-block.block (omega arith) (omega (arith, test, within, same)) (c.requires.free c.loop-block.block (omega arith) (omega (arith, test))) c.loop-block.invariant (length-set c.loop-block.taken c.loop-block.block _)
