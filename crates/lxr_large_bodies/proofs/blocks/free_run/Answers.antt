use Rattle.std.proofs.Common.{arith}
use Rattle.lxr_large_bodies.proofs.Runs.{searches_free, searches_taken}
use Rattle.lxr_large_bodies.proofs.blocks.free_run.Goals as goal
use Rattle.lxr_large_bodies.proofs.blocks.free_run.Goals.{then-taken-block, else-taken-block+else-free-blocks}

pub loop-block-preserved : goal.loop-block-preserved
loop-block-preserved c = elim c.if-taken-block.branch [
  | then-taken-block w ↦ rw w.free-is (searches_taken c.args.taken.now c.args.blocks c.loop-block.free c.loop-block.block w.if-taken-block.true c.requires.some c.loop-block.invariant)
  | else-taken-block+else-free-blocks w ↦
      let few = c.loop-block.invariant.few in
      rw w.free-is (searches_free c.args.taken.now c.args.blocks c.loop-block.free c.loop-block.block w.if-taken-block.false (let other = w.if-free-blocks.false in omega (arith, few, other)) c.loop-block.invariant)
]
