use Rattle.lxr_c.proofs.passes.lxr_station_close.Goals as goal

pub returns : goal.returns
returns c = (c.close_station.result.0, c.close_station.ensures.closed, c.number.ensures)
