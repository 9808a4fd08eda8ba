use Rattle.lxr_stand.specs.Turning.{GoesOn}
use Rattle.lxr_stand.proofs.hands.finish.Given as goal

abbrev pub invariant-loop : goal.invariant-loop
invariant-loop g l = record {
  fit : g.W.Turns.fits l.work l.value;
  goes_on : GoesOn (g.W.Turns.made l.work) l.fn.value l.value;
}

abbrev pub decreases-loop : goal.decreases-loop
decreases-loop g l = g.W.Turns.left l.work l.value
