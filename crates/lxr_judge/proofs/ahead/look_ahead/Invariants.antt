use Rattle.std.proofs.Common.{take}
use Rattle.lxr_judge.specs.Ahead.{IsAhead}
use Rattle.lxr_judge.proofs.ahead.look_ahead.Given as goal

abbrev pub invariant-loop-before : goal.invariant-loop-before
invariant-loop-before l = IsAhead l.ahead (take l.before l.order.items)
