use Rattle.lxr_run_threads.specs.Working.{HasPassed}
use Rattle.lxr_run_threads.proofs.RoundLemmas.{IsInRound}
use Rattle.lxr_run_threads.proofs.workers.make_round.Given as goal

abbrev pub invariant-loop-left : goal.invariant-loop-left
invariant-loop-left g l = IsInRound l.table (HasPassed (g.G.Gate.passed l.gate)) l.fn.passes l.left l.passes l.some_go_on

abbrev pub decreases-loop-left : goal.decreases-loop-left
decreases-loop-left g l = l.left
