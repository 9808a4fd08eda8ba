use Rattle.lxr_core.specs.Starting.{HaveStarted}
use Rattle.lxr_core.proofs.opening.start_all.Given as goal

abbrev pub invariant-loop-number : goal.invariant-loop-number
invariant-loop-number l = HaveStarted l.registers.items l.fn.actors l.actors l.number
