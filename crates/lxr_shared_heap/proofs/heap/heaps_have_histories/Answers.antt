use Rattle.lxr_shared_heap.proofs.HeapLemmas.{heaps_have_histories as histories}
use Rattle.lxr_shared_heap.proofs.heap.heaps_have_histories.Goals as goal

pub returns : goal.returns
returns c = histories
