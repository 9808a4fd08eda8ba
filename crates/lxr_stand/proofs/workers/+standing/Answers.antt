use Rattle.std.proofs.Common.{All, subst}
use Rattle.std.proofs.lemmas.List.Elements.{All-head, All-rest}
use Rattle.lxr_stand.specs.Working.{IsHand}
use Rattle.lxr_stand.proofs.workers.+standing.Goals as goal

-- The first hand and the others are all of them.

pub let_serve-serve-requires-clause-hand : goal.let_serve-serve-requires-clause-hand
let_serve-serve-requires-clause-hand g t c κs within =
    let P = IsHand g.L.Channel.made g.L.Channel.values (g.L.Channel.seats c.args.line.now) in
    All-head P c.in-Some.hand.now c.in-Some.others.now (subst (All P) c.in-Some.ensures.cases.0 c.requires.hands)

pub let_serve-let_both_serve-requires-clause-hand : goal.let_serve-let_both_serve-requires-clause-hand
let_serve-let_both_serve-requires-clause-hand g t c κs within =
    let P = IsHand g.L.Channel.made g.L.Channel.values (g.L.Channel.seats c.args.line.now) in
    All-head P c.in-Some.hand.now c.in-Some.others.now (subst (All P) c.in-Some.ensures.cases.0 c.requires.hands)

pub let_serve-let_both_serve-requires-clause-hands : goal.let_serve-let_both_serve-requires-clause-hands
let_serve-let_both_serve-requires-clause-hands g t c κs within =
    All-rest (IsHand g.L.Channel.made g.L.Channel.values (g.L.Channel.seats c.args.line.now)) c.in-Some.hand.now c.in-Some.others.now c.args.hands.now c.in-Some.ensures.cases.0 c.requires.hands
