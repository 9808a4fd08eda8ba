use Rattle.std.proofs.Common.{◌≤◌, length}
use Rattle.lxr_run_threads.specs.Working.{HasPassed}
use Rattle.lxr_run_threads.proofs.RoundLemmas.{AreAfterTurns}
use Rattle.lxr_run_threads.proofs.workers.let_mutators_turn.Given as goal

abbrev pub invariant-loop-left : goal.invariant-loop-left
invariant-loop-left g l = record {
  few : l.left ≤ length l.passes;
  turns : AreAfterTurns l.table (HasPassed (g.G.Gate.passed l.gate)) l.fn.passes l.passes;
}

abbrev pub decreases-loop-left : goal.decreases-loop-left
decreases-loop-left g l = l.left
