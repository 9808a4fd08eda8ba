use Rattle.lxr_c.proofs.lxr_close.Goals as goal

pub returns : goal.returns
returns c = (c.close.result, c.close.ensures, c.number.ensures)
