use Rattle.lxr_c.proofs.passes.lxr_station_ask_pause.Goals as goal

pub returns : goal.returns
returns c = (c.operate.result, c.operate.ensures, c.number.ensures)
