use Rattle.lxr_c.proofs.passes.lxr_station_wants_pause.Goals as goal

pub returns : goal.returns
returns c = (c.wants_pause.result, c.wants_pause.ensures, c.tell_test.ensures.0, c.tell_test.ensures.1)
