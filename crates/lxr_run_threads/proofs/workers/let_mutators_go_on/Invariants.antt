use Rattle.lxr_run_threads.specs.Working.{HasPassed}
use Rattle.lxr_run_threads.proofs.RoundLemmas.{AreAfterTurns}
use Rattle.lxr_run_threads.proofs.workers.let_mutators_go_on.Given as goal

abbrev pub invariant-loop : goal.invariant-loop
invariant-loop g l = AreAfterTurns l.table (HasPassed (g.G.Gate.passed l.gate)) l.fn.passes l.passes
