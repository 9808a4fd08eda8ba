use Rattle.lxr_core.specs.Collecting.{HaveGiven}
use Rattle.lxr_core.proofs.closing.collect_all.Given as goal

abbrev pub invariant-loop-number : goal.invariant-loop-number
invariant-loop-number l = HaveGiven l.fn.space l.fn.actors l.space l.actors l.number
