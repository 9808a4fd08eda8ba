use Rattle.lxr_c.proofs.passes.lxr_passes_open.Goals as goal

pub returns : goal.returns
returns c = (c.open_heap.result, c.open_heap.ensures, c.number.ensures)
