use Rattle.std.proofs.Common.{◌∙◌, inl, inr, Some, ap, subst, sym}
use Rattle.lxr_stations.specs.declared.station.Arrival.TheVariants as arrival
use Rattle.lxr_stations.specs.Arriving.{HasComeHome, IsHandedIn}
use Rattle.lxr_stations.specs.Homes.{IsAbsent, IsPassAt}
use Rattle.lxr_stations.specs.Stations.{table_of}
use Rattle.lxr_stations.proofs.live.take_pass.Goals as goal

pub take_behind-requires-clause-homecoming : goal.take_behind-requires-clause-homecoming
take_behind-requires-clause-homecoming c = λ s is.
    let at : HasComeHome c.args.arrivals.now c.args.number s = c.in-Some-Home.ensures.some ∙ ap (λ x. Some (Some x)) (c.in-Some-Home.field-0-is ∙ ap arrival.Home is) in
    c.requires.handed c.args.number s (inr at)

pub returns-in-Some-Out-clause-pass : goal.returns-in-Some-Out-clause-pass
returns-in-Some-Out-clause-pass c =
    let at : IsHandedIn c.args.arrivals.now c.args.number c.in-Some-Out.station = c.in-Some-Out.ensures.some ∙ ap (λ x. Some (Some x)) c.in-Some-Out.field-0-is in
    subst (IsPassAt (table_of c.args.shared.now) c.args.number) (sym c.into_pass.ensures.pass) (c.requires.handed c.args.number c.in-Some-Out.station (inl at)).pass

pub returns-in-Some-Out-clause-absence : goal.returns-in-Some-Out-clause-absence
returns-in-Some-Out-clause-absence c =
    let station = c.in-Some-Out.station in
    let away = c.into_pass.result.1 in
    let at : IsHandedIn c.args.arrivals.now c.args.number station = c.in-Some-Out.ensures.some ∙ ap (λ x. Some (Some x)) c.in-Some-Out.field-0-is in
    let of = c.requires.handed c.args.number station (inl at) in
    subst (λ p. IsAbsent c.args.shared.now.homes c.args.number p away) (sym c.into_pass.ensures.pass)
    (subst (λ n. IsAbsent c.args.shared.now.homes n station.pass away) of.pass.number_is (subst (λ h. IsAbsent h station.pass.number station.pass away) of.homes c.into_pass.ensures.absence))
