use Rattle.std.proofs.Common.{◌≡◌, ◌≤◌, All, vec_capacity, vec_len}
use Rattle.crossbeam_channel.specs.Claims.{view}
use Rattle.lxr_stand.specs.Relaying.{without_parts}
use Rattle.lxr_stand.specs.Working.{IsHand}
use Rattle.lxr_stand.proofs.keeper.deal_hands.Given as goal

abbrev pub invariant-loop : goal.invariant-loop
invariant-loop g l = record {
  many : vec_len l.hands ≡ l.counter;
  room : l.workers ≤ vec_capacity l.hands;
  hands : All (IsHand g.L.Channel.made g.L.Channel.values (g.L.Channel.seats l.line)) l.hands.items;
  at : g.L.Channel.seats l.line l.pass;
  rest : view l.pass ≡ without_parts l.counter (view l.fn.pass);
}
