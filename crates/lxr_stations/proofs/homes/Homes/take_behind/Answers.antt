use Rattle.std.proofs.Common.{rules, ◌≡◌, ◌∙◌, Some, subst, sym}
use Rattle.lxr_stations.specs.Homes.{GoesOnFrom}
use Rattle.lxr_stations.specs.Stations.{Stationed}
use Rattle.lxr_stations.proofs.HomeLemmas.{homed_is, taken_again, takes_again}
use Rattle.lxr_stations.proofs.homes.Homes.take_behind.Goals as goal

pub swap-requires : goal.swap-requires
swap-requires c =
    let seat = c.homecoming.inside.seat in
    let (s, is, told, homes) = homed_is seat.table_id seat.me.0 c.args.homecoming c.homecoming.view_is c.homecoming.invariant.1 in
    let (table, fits) = c.requires.homecoming s is in
    (homes ∙ table, search rules, takes_again c.args.self.now.table.shared.key _ seat.id c.args.number seat.me s.pass (λ k. (told k, c.homecoming.invariant.0 k)) fits)

pub receive-requires : goal.receive-requires
receive-requires c =
    let seat = c.homecoming.inside.seat in
    let (s, is, told, homes) = homed_is seat.table_id seat.me.0 c.args.homecoming c.homecoming.view_is c.homecoming.invariant.1 in
    let (table, fits) = c.requires.homecoming s is in
    let t = c.swap.ensures.2 c.if-swap-ne-THERE.false in
    (c.requires.number, c.swap.ensures.0 ∙ homes ∙ table, t.pass, t.place, t.tells)

pub returns-clause-pass : goal.returns-clause-pass
returns-clause-pass c =
    let seat = c.homecoming.inside.seat in
    let (s, is, told, homes) = homed_is seat.table_id seat.me.0 c.args.homecoming c.homecoming.view_is c.homecoming.invariant.1 in
    let (table, fits) = c.requires.homecoming s is in
    (taken_again c.args.self.now.table.shared.key seat.me.0 c.args.number c.swap.new.seat.me s.pass c.receive.result.0 told fits (c.swap.ensures.2 c.if-swap-ne-THERE.false) c.receive.ensures.pass).0

pub returns-clause-goes_on : goal.returns-clause-goes_on
returns-clause-goes_on c = λ r of.
    let seat = c.homecoming.inside.seat in
    let (s, is, told, homes) = homed_is seat.table_id seat.me.0 c.args.homecoming c.homecoming.view_is c.homecoming.invariant.1 in
    let (table, fits) = c.requires.homecoming s is in
    let same : s ≡ r = one_station s r (sym is ∙ of) in
    subst (λ (x : Stationed). GoesOnFrom x.pass c.receive.result.0) same
    (taken_again c.args.self.now.table.shared.key seat.me.0 c.args.number c.swap.new.seat.me s.pass c.receive.result.0 told fits (c.swap.ensures.2 c.if-swap-ne-THERE.false) c.receive.ensures.pass).1
  where
    one_station : (s r : Stationed) → Some s ≡ Some r → s ≡ r
    one_station s r e = cc
