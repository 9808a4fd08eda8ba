use Rattle.std.proofs.Common.{◌∙◌}
use Rattle.crossbeam_channel.specs.Claims.{view}
use Rattle.lxr_stand.proofs.HandLemmas.{taken_out, taken_parts}
use Rattle.lxr_stand.proofs.KeeperLemmas.{all_kept, kept_more, way_finished}
use Rattle.lxr_stand.proofs.keeper.drain.Goals as goal

pub loop-baton-preserved : goal.loop-baton-preserved
loop-baton-preserved g c =
    let b = c.in-Some.baton in
    let before = c.loop-baton.invariant in
    let v = view c.loop-baton.keeper.pass in
    let w = view c.take.new.pass in
    let took = c.in-Some.ensures.taken in
    let kept = c.finish_here.ensures in
    record {
      keeper = record {
        seated = c.take.ensures.at;
        slots = kept_more g.L.Channel.made g.L.Channel.values b.place v.out w.out c.loop-baton.keeper.slots.items c.finish_here.new.slots.items before.keeper.slots
            (record {
              value = kept.value;
              such = way_finished g.L.Channel.fits g.L.Channel.made g.L.Channel.left _ _ _ c.requires.race g.L.Channel.values b kept.value took.way kept.such;
              is = kept.is;
            })
            (taken_out g.L.Channel.fits g.L.Channel.made g.L.Channel.left g.L.Channel.values v b w took);
      };
      parts = taken_parts g.L.Channel.fits g.L.Channel.made g.L.Channel.left g.L.Channel.values v b w took ∙ before.parts;
    }

pub returns-clause-full : goal.returns-clause-full
returns-clause-full g c =
    let before = c.loop-baton.invariant in
    all_kept g.L.Channel.made g.L.Channel.values (view c.loop-baton.keeper.pass).out c.loop-baton.keeper.slots.items before.keeper.slots (λ h. c.in_default.ensures.all before.parts h)
