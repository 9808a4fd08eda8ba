use Rattle.std.proofs.Common.{◌≡◌, ◌-◌, []}
use Rattle.crossbeam_channel.specs.Claims.{view}
use Rattle.lxr_stand.specs.declared.rule.TheConstants.{PARTS}
use Rattle.lxr_stand.specs.Relaying.{most_taken}
use Rattle.lxr_stand.specs.Working.{IsKeeper}
use Rattle.lxr_stand.proofs.keeper.drain.Given as goal

abbrev pub invariant-loop-baton : goal.invariant-loop-baton
invariant-loop-baton g l = record {
  keeper : IsKeeper g.L.Channel.made g.L.Channel.values (g.L.Channel.seats l.line) [] l.keeper;
  parts : (view l.keeper.pass).parts ≡ PARTS;
}

abbrev pub decreases-loop-baton : goal.decreases-loop-baton
decreases-loop-baton g l = most_taken g.L.Channel.left g.L.Channel.values - (view l.keeper.pass).taken
