use Rattle.std.proofs.Common.{◌≡◌}
use Rattle.lxr_stations.specs.Stations.{StaysPassOf}
use Rattle.lxr_stations.proofs.UnitLemmas.{HelpsOn}
use Rattle.lxr_stations.proofs.station.Station.help.Given as goal

abbrev pub invariant-loop : goal.invariant-loop
invariant-loop l = HelpsOn l.counter l.initial.self.pass l.self.pass × (l.self.homes ≡ l.initial.self.homes) × StaysPassOf l.initial.self l.self
