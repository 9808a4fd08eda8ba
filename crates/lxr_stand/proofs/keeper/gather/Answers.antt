use Rattle.std.proofs.Common.{Some, arith}
use Rattle.std.proofs.lemmas.List.Elements.{All-pop}
use Rattle.lxr_stand.specs.Working.{IsHand}
use Rattle.lxr_stand.proofs.keeper.gather.Goals as goal

pub loop-hand-preserved : goal.loop-hand-preserved
loop-hand-preserved g c =
    let before = c.loop-hand.invariant in
    let (rest, last) = All-pop (IsHand g.L.Channel.made g.L.Channel.values (g.L.Channel.seats c.args.line.now)) c.loop-hand.hands.items c.pop.new.self.items (Some c.in-Some.hand) c.in-Some.ensures.items before.hands in
    record {
      keeper = c.take_in.ensures.keeper;
      hands = rest;
      parts = let more = c.take_in.ensures.parts in let all = before.parts in let fewer = c.in-Some.ensures.len in omega arith;
      some = let more = c.take_in.ensures.parts in omega arith;
    }
