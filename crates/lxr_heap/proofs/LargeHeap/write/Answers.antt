use Rattle.std.proofs.Common.{subst, List}
use Rattle.lxr_large_model.specs.History.{LargeItem}
use Rattle.lxr_heap.specs.Bulk.{WritesWords, with_written}
use Rattle.lxr_heap.specs.Holding.{IsHeapOf}
use Rattle.lxr_heap.proofs.LargeHeap.write.Goals as goal

pub invariant_of-self : goal.invariant_of-self
invariant_of-self c = let (h, is) = c.self.invariant in (with_written c.write.result h c.args.base c.args.index c.args.from.now, (c.write.ensures h is).holds)

pub returns : goal.returns
returns c = subst (λ x. (h : List LargeItem) → IsHeapOf x h → WritesWords x c.write.new.heap h c.args.base c.args.index c.args.from.now c.write.result) c.self.view_is c.write.ensures
