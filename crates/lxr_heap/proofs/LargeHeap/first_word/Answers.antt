use Rattle.std.proofs.Common.{arith}
use Rattle.lxr_heap.proofs.LargeHeap.first_word.Goals as goal

pub lend_heap-requires-clause-space : goal.lend_heap-requires-clause-space
lend_heap-requires-clause-space c = let (h, is) = c.self.invariant in is.stands.0.safepoint.holds.space

pub lend_heap-requires-clause-at : goal.lend_heap-requires-clause-at
lend_heap-requires-clause-at c = let (h, is) = c.self.invariant in let some = is.stands.0.safepoint.holds.space.limits.blocks.0 in omega (arith, some)
