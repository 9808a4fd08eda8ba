use Rattle.std.proofs.Common.{◌≡◌, ℕ, ◌≤◌, ◌++◌, List, vec_capacity, vec_len}
use Rattle.crossbeam_channel.specs.Claims.{view}
use Rattle.lxr_stand.specs.Relaying.{below, price, weigh}
use Rattle.lxr_stand.specs.Working.{IsKeeper}
use Rattle.lxr_stand.proofs.keeper.send_all.Given as goal

abbrev pub invariant-loop-value : goal.invariant-loop-value
invariant-loop-value g l = record {
  keeper : IsKeeper g.L.Channel.made g.L.Channel.values (g.L.Channel.seats l.line) (below (vec_len l.values)) l.keeper;
  begins : (sent : List g.row.T.Denot) × (l.values.items ++ sent ≡ g.L.Channel.values);
  paid : weigh (price g.L.Channel.left) l.values.items ≤ (view l.keeper.pass).tokens;
  out : (weight : ℕ → ℕ) → weigh weight (below (vec_len l.values)) ≤ weigh weight (view l.keeper.pass).out;
  parts : (view l.keeper.pass).parts ≡ (view l.fn.keeper.pass).parts;
  room : vec_capacity l.values ≡ vec_capacity l.fn.values;
}

abbrev pub decreases-loop-value : goal.decreases-loop-value
decreases-loop-value g l = vec_len l.values
