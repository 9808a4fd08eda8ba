use Rattle.std.proofs.Common.{subst, sym}
use Rattle.lxr_stations.specs.Homes.{IsPassAt}
use Rattle.lxr_stations.specs.Stations.{IsStationOf}
use Rattle.lxr_stations.proofs.shared.Shared.take_behind.Goals as goal

pub take_behind-requires-clause-homecoming : goal.take_behind-requires-clause-homecoming
take_behind-requires-clause-homecoming c = λ s is.
    let of = subst (λ x. IsStationOf x c.args.number s) (sym c.self.view_is) (c.requires.homecoming s is) in
    (of.homes, subst (λ e. IsPassAt e c.args.number s.pass) (sym c.self.invariant.0) of.pass)
