use Rattle.std.proofs.Common.{subst}
use Rattle.lxr_stand.specs.Turning.GoesOn.{turned, untouched}
use Rattle.lxr_stand.proofs.hands.finish.Goals as goal

pub loop-init : goal.loop-init
loop-init g c = record { fit = c.requires; goes_on = untouched }

pub loop-preserved : goal.loop-preserved
loop-preserved g c = record {
  fit = c.turn.ensures.fits c.if-turn.false;
  goes_on = turned c.loop.invariant.goes_on (subst (g.W.Turns.made c.args.work.now c.loop.value c.turn.new.value) c.if-turn.false c.turn.ensures.made);
}
