use Rattle.std.proofs.Common.{All, arith, sym, subst, ap, ◌∙◌}
use Rattle.std.proofs.lemmas.List.Elements.{All-push}
use Rattle.crossbeam_channel.specs.Claims.{view}
use Rattle.lxr_stand.specs.declared.rule.Holding.{Holding}
use Rattle.lxr_stand.specs.Relaying.{IsFinished, places_weigh, weigh}
use Rattle.lxr_stand.proofs.HandLemmas.{finished_more, taken_parts, taken_room}
use Rattle.lxr_stand.proofs.hands.serve.Goals as goal

pub push_reserved-requires : goal.push_reserved-requires
push_reserved-requires g c =
    let hand = c.loop-baton.hand in
    let few = taken_room g.L.Channel.fits g.L.Channel.made g.L.Channel.left g.L.Channel.values (view hand.pass) c.in-Some.baton (view c.take.new.pass) c.in-Some.ensures.taken hand.finished.items c.loop-baton.invariant.out in
    let many = hand.finished.ok.0 in
    let room = c.loop-baton.invariant.room in
    omega arith

pub loop-baton-preserved-in-Some-carry : goal.loop-baton-preserved-in-Some-carry
loop-baton-preserved-in-Some-carry g c =
    let P = IsFinished g.L.Channel.made g.L.Channel.values in
    let before = c.loop-baton.invariant in
    let hand = c.loop-baton.hand in
    let took = c.in-Some.ensures.taken in
    let pushed = c.push_reserved.ensures.items in
    let (place, finished, same) = c.in-Some-carry.ensures.finished in
    record {
      seated = c.carry.ensures.at;
      part =
          ap (λ (v : Holding). v.parts) same
          ∙ (taken_parts g.L.Channel.fits g.L.Channel.made g.L.Channel.left g.L.Channel.values (view hand.pass) c.in-Some.baton (view c.take.new.pass) took ∙ before.part);
      out = λ h.
          ap (λ (v : Holding). weigh h v.out) same
          ∙ (finished_more g.L.Channel.fits g.L.Channel.made g.L.Channel.left g.L.Channel.values (view hand.pass) c.in-Some.baton (view c.take.new.pass) took hand.finished.items c.in-Some-carry.done before.out place h
          ∙ ap (places_weigh h) (sym pushed));
      finished = subst (All P) (sym pushed) (All-push P hand.finished.items c.in-Some-carry.done before.finished finished);
      room = let room = before.room in let capacity = c.push_reserved.ensures.capacity in omega arith;
    }
