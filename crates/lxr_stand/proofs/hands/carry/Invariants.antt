use Rattle.std.proofs.Common.{◌≡◌, ◌≤◌}
use Rattle.crossbeam_channel.specs.Claims.{view}
use Rattle.lxr_stand.specs.Relaying.{IsOnItsWay}
use Rattle.lxr_stand.proofs.hands.carry.Given as goal

abbrev pub invariant-loop-baton : goal.invariant-loop-baton
invariant-loop-baton g l = record {
  at : g.L.Channel.seats l.line l.pass;
  same : view l.pass ≡ view l.fn.pass;
  place : l.baton.place ≡ l.fn.baton.place;
  way : IsOnItsWay g.L.Channel.fits g.L.Channel.made g.L.Channel.values l.baton;
  paid : g.L.Channel.left l.baton.value ≤ (view l.pass).tokens;
}

abbrev pub decreases-loop-baton : goal.decreases-loop-baton
decreases-loop-baton g l = g.W.Turns.left l.work l.baton.value
