use Rattle.lxr_c.proofs.passes.lxr_passes_close.Goals as goal

pub returns : goal.returns
returns c = (c.close_heap.result, c.close_heap.ensures, c.number.ensures)
