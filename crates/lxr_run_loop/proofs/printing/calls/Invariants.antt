use Rattle.std.proofs.Common.{◌≡◌, take}
use Rattle.std.specs.Prelude.{sum_by}
use Rattle.lxr_run_loop.specs.Summing.{calls_by}
use Rattle.lxr_run_loop.proofs.printing.calls.Given as goal

abbrev pub invariant-loop-number : goal.invariant-loop-number
invariant-loop-number l = l.count ≡ sum_by calls_by (take l.number l.actors)
