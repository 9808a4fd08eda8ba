use Rattle.std.proofs.Common.{◌≡◌, ◌+◌, false, All}
use Rattle.lxr_actor.specs.Run.{one_if}
use Rattle.lxr_shared_passes.specs.Passing.{Passing}
use Rattle.lxr_core.specs.declared.actors.AnyActor.{AnyActor}
use Rattle.lxr_run_threads.specs.Dealing.{numbers_of}
use Rattle.lxr_run_threads.specs.Working.{HasPassed, HasServed, IsPassOf, work_in}
use Rattle.lxr_run_threads.proofs.workers.work.Given as goal

abbrev pub invariant-loop-some_go_on : goal.invariant-loop-some_go_on
invariant-loop-some_go_on g l = record {
  each : All (IsPassOf l.table) l.passes.items;
  numbers : numbers_of l.passes.items ≡ numbers_of l.fn.passes.items;
  passed : All (HasPassed (g.G.Gate.passed l.gate)) l.fn.passes.items → All (HasPassed (g.G.Gate.passed l.gate)) l.passes.items;
  served : l.some_go_on ≡ false → All (λ (p : Passing AnyActor). HasServed p.actor) l.passes.items;
}

abbrev pub decreases-loop-some_go_on : goal.decreases-loop-some_go_on
decreases-loop-some_go_on g l = work_in l.passes.items + one_if l.some_go_on
