use Rattle.lxr_c.proofs.lxr_set_pace.Goals as goal

pub returns : goal.returns
returns c = (c.set_pace.result, c.set_pace.ensures, c.number.ensures)
