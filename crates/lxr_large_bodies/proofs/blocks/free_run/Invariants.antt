use Rattle.lxr_large_bodies.proofs.Runs.{Searches}
use Rattle.lxr_large_bodies.proofs.blocks.free_run.Given as goal

abbrev pub invariant-loop-block : goal.invariant-loop-block
invariant-loop-block l = Searches l.taken l.blocks l.free l.block
