use Rattle.std.proofs.Common.{ℕ, arith, sym, subst, ap, ◌∙◌}
use Rattle.crossbeam_channel.specs.Claims.{view}
use Rattle.lxr_stand.specs.declared.rule.Baton.{Baton}
use Rattle.lxr_stand.specs.declared.rule.Holding.{Holding}
use Rattle.lxr_stand.specs.Relaying.{IsIn, IsOnItsWay}
use Rattle.lxr_stand.specs.Working.{HasLetGo}
use Rattle.lxr_stand.proofs.HandLemmas.{let_go, turned_paid, way_turned}
use Rattle.lxr_stand.proofs.hands.carry.Goals as goal

pub send-requires-clause-way : goal.send-requires-clause-way
send-requires-clause-way g c =
    let before = c.loop-baton.invariant in
    way_turned g.L.Channel.fits g.L.Channel.made g.L.Channel.left _ _ _ c.requires.race g.L.Channel.values c.loop-baton.baton before.way c.turn.new.value
    (subst (g.W.Turns.made c.args.work.now c.loop-baton.baton.value c.turn.new.value) c.if-turn.false c.turn.ensures.made) (c.turn.ensures.fits c.if-turn.false)

pub send-requires-clause-paid : goal.send-requires-clause-paid
send-requires-clause-paid g c =
    let before = c.loop-baton.invariant in
    turned_paid g.L.Channel.fits g.L.Channel.made g.L.Channel.left _ _ _ c.requires.race g.L.Channel.values c.loop-baton.baton before.way c.turn.new.value _ (c.turn.ensures.left c.if-turn.false) before.paid

pub returns-in-Ok-clause-sent : goal.returns-in-Ok-clause-sent
returns-in-Ok-clause-sent g c =
    let before = c.loop-baton.invariant in
    let now = view c.send.new.pass in
    let out = subst (λ (x : ℕ × Holding). IsIn x.0 x.1.out) (λ i. (sym before.place i, sym before.same i)) c.requires.out in
    let gone = let_go g.L.Channel.left (view c.loop-baton.pass) now (record { place = c.loop-baton.baton.place; value = c.turn.new.value }) out c.in-Ok.ensures.sent in
    subst (λ (x : ℕ × Holding). HasLetGo x.0 x.1 now) (λ i. (before.place i, before.same i)) gone

pub loop-baton-preserved : goal.loop-baton-preserved
loop-baton-preserved g c =
    let before = c.loop-baton.invariant in
    let (back, same) = c.in-Err.ensures.sent in
    let turn = subst (g.W.Turns.made c.args.work.now c.loop-baton.baton.value c.turn.new.value) c.if-turn.false c.turn.ensures.made in
    let way = way_turned g.L.Channel.fits g.L.Channel.made g.L.Channel.left _ _ _ c.requires.race g.L.Channel.values c.loop-baton.baton before.way c.turn.new.value turn (c.turn.ensures.fits c.if-turn.false) in
    let enough = turned_paid g.L.Channel.fits g.L.Channel.made g.L.Channel.left _ _ _ c.requires.race g.L.Channel.values c.loop-baton.baton before.way c.turn.new.value _ (c.turn.ensures.left c.if-turn.false) before.paid in
    record {
      at = c.send.ensures.at;
      same = same ∙ before.same;
      place = ap (λ (b : Baton g.row.T.Denot). b.place) back ∙ before.place;
      way = subst (IsOnItsWay g.L.Channel.fits g.L.Channel.made g.L.Channel.values) (sym back) way;
      paid =
          let left = ap (λ (b : Baton g.row.T.Denot). g.L.Channel.left b.value) back in
          let tokens = ap (λ (v : Holding). v.tokens) same in
          omega arith;
    }
