use Rattle.lxr_c.proofs.lxr_open.Goals as goal

pub returns : goal.returns
returns c = (c.open.result, c.open.ensures, c.number.ensures)
