use Rattle.lxr_large_bodies.proofs.Runs.{free_next, free_same}
use Rattle.lxr_large_bodies.proofs.blocks.free_count.Goals as goal
use Rattle.lxr_large_bodies.proofs.blocks.free_count.Goals.{then-not-taken-block, else-not-taken-block}

pub loop-block-preserved : goal.loop-block-preserved
loop-block-preserved c = elim c.if-not-taken-block.branch [
  | then-not-taken-block w ↦ rw w.free-is (free_next c.args.taken.now c.loop-block.free c.loop-block.block c.loop-block-test.true w.if-not-taken-block.true c.loop-block.invariant)
  | else-not-taken-block w ↦ rw w.free-is (free_same c.args.taken.now c.loop-block.free c.loop-block.block c.loop-block-test.true w.if-not-taken-block.false c.loop-block.invariant)
]
