use Rattle.lxr_heap.proofs.LargeHeap.trim_next.Goals as goal

pub invariant_of-self : goal.invariant_of-self
invariant_of-self c = let (h, is) = c.self.invariant in (h, c.trim_next.ensures.holds h is)
