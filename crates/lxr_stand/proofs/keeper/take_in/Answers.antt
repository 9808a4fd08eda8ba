use Rattle.std.proofs.Common.{◌∷◌, Some, arith, refl, ap}
use Rattle.std.proofs.lemmas.List.Elements.{All-pop}
use Rattle.std.proofs.lemmas.Option.{slice_get_within}
use Rattle.crossbeam_channel.specs.Claims.{view}
use Rattle.lxr_stand.specs.declared.rule.Holding.{Holding}
use Rattle.lxr_stand.specs.Relaying.{IsFinished, places_weigh, weigh}
use Rattle.lxr_stand.proofs.KeeperLemmas.{kept_more}
use Rattle.lxr_stand.proofs.WeighLemmas.{weigh-append, weigh-push}
use Rattle.lxr_stand.proofs.keeper.take_in.Goals as goal

-- What is out with the pass is what was kept, and beside it the finished values that are still to be kept.

pub loop-baton-init : goal.loop-baton-init
loop-baton-init g c = record {
  at = c.join.ensures.at;
  parts = let is = ap (λ (u : Holding). u.parts) c.join.ensures.both in let one = c.requires.hand.part in omega arith;
  kept = (
    (view c.args.keeper.now.pass).out,
    c.requires.keeper.slots,
    λ h.
        let is = ap (λ (u : Holding). weigh h u.out) c.join.ensures.both in
        let both = weigh-append h (view c.args.keeper.now.pass).out (view c.args.hand.pass).out in
        let hand = c.requires.hand.out h in
        omega arith,
  );
  finished = c.requires.hand.finished;
}

pub keep-requires : goal.keep-requires
keep-requires g c =
    let (rest, last) = All-pop (IsFinished g.L.Channel.made g.L.Channel.values) c.loop-baton.finished.items c.pop.new.self.items (Some c.in-Some.baton) c.in-Some.ensures.items c.loop-baton.invariant.finished in
    let few = slice_get_within g.L.Channel.values c.in-Some.baton.place last.first last.was in
    let many = c.loop-baton.invariant.kept.1.many in
    omega arith

pub loop-baton-preserved : goal.loop-baton-preserved
loop-baton-preserved g c =
    let b = c.in-Some.baton in
    let before = c.loop-baton.invariant in
    let (rest, last) = All-pop (IsFinished g.L.Channel.made g.L.Channel.values) c.loop-baton.finished.items c.pop.new.self.items (Some b) c.in-Some.ensures.items before.finished in
    record {
      at = before.at;
      parts = before.parts;
      kept = (
        b.place ∷ before.kept.0,
        kept_more g.L.Channel.made g.L.Channel.values b.place before.kept.0 (b.place ∷ before.kept.0) c.loop-baton.keeper.slots.items c.keep.new.slots.items before.kept.1
            (record { value = b.value; such = last; is = c.keep.ensures }) (λ h. refl),
        λ h.
            let was = before.kept.2 h in
            let popped = ap (places_weigh h) c.in-Some.ensures.items in
            let push = weigh-push (λ x. h x.place) c.pop.new.self.items b in
            omega arith,
      );
      finished = rest;
    }
