use Rattle.std.proofs.Common.{◌≡◌, ℕ, ◌+◌, All, List, [], vec_len}
use Rattle.crossbeam_channel.specs.Claims.{view}
use Rattle.lxr_stand.specs.Relaying.{IsFinished, places_weigh, weigh}
use Rattle.lxr_stand.specs.Working.{AreSlots}
use Rattle.lxr_stand.proofs.keeper.take_in.Given as goal

abbrev pub invariant-loop-baton : goal.invariant-loop-baton
invariant-loop-baton g l = record {
  at : g.L.Channel.seats l.line l.keeper.pass;
  parts : (view l.keeper.pass).parts ≡ (view l.fn.keeper.pass).parts + 1;
  kept : (out : List ℕ) × AreSlots g.L.Channel.made g.L.Channel.values [] out l.keeper.slots.items
      × ((weight : ℕ → ℕ) → weigh weight (view l.keeper.pass).out ≡ weigh weight out + places_weigh weight l.finished.items);
  finished : All (IsFinished g.L.Channel.made g.L.Channel.values) l.finished.items;
}

abbrev pub decreases-loop-baton : goal.decreases-loop-baton
decreases-loop-baton g l = vec_len l.finished
