use Rattle.std.proofs.Common.{subst}
use Rattle.std.specs.Arc.{arc_value}
use Rattle.lxr_stations.specs.Stations.{Stationed, StaysPassOf, table_of}
use Rattle.lxr_stations.proofs.StayingLemmas.{absent_on, station_stays, turned_from, turned_stays}
use Rattle.lxr_stations.proofs.station.Station.unit_of.Goals as goal

pub returns-clause-stays : goal.returns-clause-stays
returns-clause-stays c =
    let unit = c.carry_out_at.ensures.unit in
    let homes = (arc_value c.self.inside.shared).homes in
    let before : Stationed = record { pass = c.self.inside.pass; homes = homes } in
    let after : Stationed = record { pass = c.carry_out_at.new.self; homes = homes } in
    subst (λ s. StaysPassOf s after) c.self.view_is (station_stays before c.carry_out_at.new.self (turned_stays c.self.inside.pass unit.0 c.carry_out_at.new.self unit.2))

pub invariant_of-self : goal.invariant_of-self
invariant_of-self c =
    let unit = c.carry_out_at.ensures.unit in
    let shared = arc_value c.self.inside.shared in
    record {
      pass = turned_stays c.self.inside.pass unit.0 c.carry_out_at.new.self unit.2 (table_of shared) c.self.inside.absence.number c.self.invariant.pass;
      absent = absent_on shared.homes c.self.inside.absence.number c.self.inside.pass c.carry_out_at.new.self c.self.inside.absence (turned_from c.self.inside.pass unit.0 c.carry_out_at.new.self unit.2) c.self.invariant.absent;
    }
