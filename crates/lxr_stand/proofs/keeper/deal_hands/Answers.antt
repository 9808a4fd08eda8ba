use Rattle.std.proofs.Common.{◌+◌, All, arith, sym, subst, ap, ◌∙◌}
use Rattle.std.proofs.lemmas.List.Elements.{All-nil, All-push}
use Rattle.crossbeam_channel.specs.Claims.{view}
use Rattle.lxr_stand.specs.declared.hands.Hand.{Hand}
use Rattle.lxr_stand.specs.declared.rule.Holding.{Holding}
use Rattle.lxr_stand.specs.Relaying.{IsFinished, places_weigh, weigh, without_parts}
use Rattle.lxr_stand.specs.Working.{IsHand}
use Rattle.lxr_stand.proofs.HandLemmas.{parts_more}
use Rattle.lxr_stand.proofs.keeper.deal_hands.Goals as goal

pub loop-preserved : goal.loop-preserved
loop-preserved g c =
    let P = IsHand g.L.Channel.made g.L.Channel.values (g.L.Channel.seats c.args.line.now) in
    let Q = IsFinished g.L.Channel.made g.L.Channel.values in
    let before = c.loop.invariant in
    let none = c.in_ok-finished.ensures.items in
    let empty = c.part.ensures.empty in
    let hand : Hand g.row.T.Denot = record { pass = c.part.result; finished = c.in_ok-finished.finished } in
    let is : P hand = record {
      seated = c.part.ensures.other;
      part = ap (λ (v : Holding). v.parts) empty;
      out = λ h. ap (λ (v : Holding). weigh h v.out) empty ∙ ap (places_weigh h) (sym none);
      finished = subst (All Q) (sym none) (All-nil Q);
      room = let room = c.in_ok-finished.ensures.capacity in let few = c.requires.count in omega arith;
    } in
    record {
      many = c.push_reserved.ensures.len ∙ ap (λ n. n + 1) before.many;
      room = let room = before.room in let same = c.push_reserved.ensures.capacity in omega arith;
      hands = subst (All P) (sym c.push_reserved.ensures.items) (All-push P c.loop.hands.items hand before.hands is);
      at = c.part.ensures.at;
      rest = c.part.ensures.rest ∙ (ap (without_parts 1) before.rest ∙ parts_more (view c.args.pass.now) c.loop.counter);
    }
