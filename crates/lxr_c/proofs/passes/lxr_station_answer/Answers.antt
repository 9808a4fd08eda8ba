use Rattle.lxr_c.proofs.passes.lxr_station_answer.Goals as goal

pub returns : goal.returns
returns c = (c.answer.result, c.answer.ensures, c.tell.ensures.0, c.tell.ensures.1)
