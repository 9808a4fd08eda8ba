use Rattle.lxr_c.proofs.passes.lxr_station_come_home.Goals as goal

pub returns : goal.returns
returns c = (c.come_home.result, c.come_home.ensures, c.number.ensures)
