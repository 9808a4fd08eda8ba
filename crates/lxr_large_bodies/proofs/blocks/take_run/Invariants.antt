use Rattle.lxr_large_bodies.proofs.Runs.{TakesSoFar}
use Rattle.lxr_large_bodies.proofs.blocks.take_run.Given as goal

abbrev pub invariant-loop-block : goal.invariant-loop-block
invariant-loop-block l = TakesSoFar l.fn.taken l.taken l.from l.block
