use Rattle.lxr_c.proofs.lxr_set_grow.Goals as goal

pub returns : goal.returns
returns c = (c.set_grow.result, c.set_grow.ensures, c.number.ensures)
