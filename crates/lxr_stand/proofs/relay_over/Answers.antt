use Rattle.crossbeam_channel.specs.Claims.{view}
use Rattle.lxr_stand.proofs.KeeperLemmas.{listed}
use Rattle.lxr_stand.proofs.relay_over.Goals as goal

-- What stands in the slots at last is what was relayed.
pub returns : goal.returns
returns g c =
    let kept = c.drain.new.keeper in
    listed g.J.Race.made g.J.Race.values (view kept.pass).out kept.slots.items c.list.new.values.items c.drain.ensures.keeper.slots c.list.ensures
