use Rattle.std.proofs.Common.{◌≡◌, ◌+◌, ◌<◌, All, [], vec_len}
use Rattle.crossbeam_channel.specs.Claims.{view}
use Rattle.lxr_stand.specs.Working.{IsHand, IsKeeper}
use Rattle.lxr_stand.proofs.keeper.gather.Given as goal

abbrev pub invariant-loop-hand : goal.invariant-loop-hand
invariant-loop-hand g l = record {
  keeper : IsKeeper g.L.Channel.made g.L.Channel.values (g.L.Channel.seats l.line) [] l.keeper;
  hands : All (IsHand g.L.Channel.made g.L.Channel.values (g.L.Channel.seats l.line)) l.hands.items;
  parts : (view l.keeper.pass).parts + vec_len l.hands ≡ (view l.fn.keeper.pass).parts + vec_len l.fn.hands;
  some : 0 < (view l.keeper.pass).parts;
}

abbrev pub decreases-loop-hand : goal.decreases-loop-hand
decreases-loop-hand g l = vec_len l.hands
