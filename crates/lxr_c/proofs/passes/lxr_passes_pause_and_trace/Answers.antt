use Rattle.lxr_c.proofs.passes.lxr_passes_pause_and_trace.Goals as goal

pub returns : goal.returns
returns c = (c.pause.result, c.pause.ensures, c.number.ensures)
