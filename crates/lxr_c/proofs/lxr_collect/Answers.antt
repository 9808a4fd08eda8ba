use Rattle.lxr_c.proofs.lxr_collect.Goals as goal

pub returns : goal.returns
returns c = (c.pause.result, c.pause.ensures, c.number.ensures)
