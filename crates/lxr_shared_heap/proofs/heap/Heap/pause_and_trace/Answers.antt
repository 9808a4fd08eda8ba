use Rattle.std.proofs.Common.{true}
use Rattle.lxr_shared_heap.proofs.HeapLemmas.{pauses_alone}
use Rattle.lxr_shared_heap.proofs.heap.Heap.pause_and_trace.Goals as goal

pub returns : goal.returns
returns c = pauses_alone true _ c.pause_by.result _ _ c.pause_by.ensures
