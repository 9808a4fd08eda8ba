use Rattle.lxr_shared_passes.specs.Passing.{IsSamePass}
use Rattle.test_threads.specs.Serving.{IsServed}
use Rattle.test_threads.proofs.run.turns.Given as goal

abbrev pub invariant-loop-round : goal.invariant-loop-round
invariant-loop-round g l = IsSamePass l.fn.pass l.pass × IsServed g.A.Actor.machine l._round l.pass
