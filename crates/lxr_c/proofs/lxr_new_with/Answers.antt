use Rattle.lxr_c.proofs.lxr_new_with.Goals as goal

pub returns : goal.returns
returns c = (c.new_with.result, c.new_with.ensures, c.answered.ensures)
