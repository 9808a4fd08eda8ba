use Rattle.std.proofs.Common.{[]}
use Rattle.lxr_heap.proofs.LargeHeap.open.Goals as goal

pub invariant_of-result : goal.invariant_of-result
invariant_of-result c = ([], c.in_ok-heap.ensures.holds)
