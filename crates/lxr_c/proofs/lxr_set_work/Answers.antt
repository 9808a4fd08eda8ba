use Rattle.lxr_c.proofs.lxr_set_work.Goals as goal

pub returns : goal.returns
returns c = (c.set_work.result, c.set_work.ensures, c.number.ensures)
