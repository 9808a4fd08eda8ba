use Rattle.std.proofs.Common.{◌-◌}
use Rattle.lxr_large_bodies.proofs.Sorted.{Halves}
use Rattle.lxr_large_bodies.proofs.entries.position.Given as goal

abbrev pub invariant-loop-from : goal.invariant-loop-from
invariant-loop-from l = Halves l.entries l.wanted l.from l.end

abbrev pub decreases-loop-from : goal.decreases-loop-from
decreases-loop-from l = l.end - l.from
