use Rattle.lxr_c.proofs.passes.lxr_passes_resume.Goals as goal

pub returns : goal.returns
returns c = (c.resume.result, c.resume.ensures, c.number.ensures)
