use Rattle.std.proofs.Common.{◌≡◌, ℕ, ◌+◌, ◌≤◌, true, false, cond}
use Rattle.lxr_core.specs.Actors.{mutators_in}
use Rattle.lxr_rounds_invariant.specs.LoopInvariant.{left_of}
use Rattle.lxr_run_loop.specs.Tasks.{RunTask}
use Rattle.lxr_run_loop.specs.Progress.{IsComplete, IsUnderWay}
use Rattle.lxr_run_loop.proofs.run.run_threads.Given as goal

abbrev pub invariant-loop-ended : goal.invariant-loop-ended
invariant-loop-ended g l =
    record {
      under_way : (task : RunTask) → task.options ≡ l.fn.options → IsUnderWay task l.fn.space (g.O.Sink.written l.fn.output) (g.W.Watch.seen l.fn.watch) l.fn.actors.items l.fn.course → l.ended ≡ false
          → IsUnderWay task l.space (g.O.Sink.written l.output) (g.W.Watch.seen l.watch) l.actors.items l.course;
      complete : (task : RunTask) → task.options ≡ l.fn.options → IsUnderWay task l.fn.space (g.O.Sink.written l.fn.output) (g.W.Watch.seen l.fn.watch) l.fn.actors.items l.fn.course → l.ended ≡ true
          → IsComplete task l.space (g.O.Sink.written l.output) (g.W.Watch.seen l.watch) l.actors.items l.course;
      faults : g.O.Sink.faults l.fn.output ≤ g.O.Sink.faults l.output;
    }

abbrev pub decreases-loop-ended : goal.decreases-loop-ended
decreases-loop-ended g l = left_of (mutators_in l.actors.items) + cond {A = ℕ} l.ended 0 1
