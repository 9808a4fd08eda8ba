use Rattle.lxr_c.proofs.passes.lxr_station_help.Goals as goal

pub returns : goal.returns
returns c = (c.help.result, c.help.ensures, c.tell_test.ensures.0, c.tell_test.ensures.1)
