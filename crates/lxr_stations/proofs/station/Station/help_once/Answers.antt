use Rattle.std.proofs.Common.{◌∙◌, ap}
use Rattle.lxr_stations.specs.Stations.{found_work}
use Rattle.lxr_stations.proofs.station.Station.help_once.Goals as goal

pub returns-clause-found : goal.returns-clause-found
returns-clause-found c = c.found_work.ensures ∙ ap found_work c.turn.ensures.end
