use Rattle.std.proofs.Common.{false}
use Rattle.lxr_shared_heap.proofs.HeapLemmas.{pauses_alone}
use Rattle.lxr_shared_heap.proofs.heap.Heap.pause_watched.Goals as goal

pub returns : goal.returns
returns w c = pauses_alone false _ c.pause_by.result _ _ c.pause_by.ensures
