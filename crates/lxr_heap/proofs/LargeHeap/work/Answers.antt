use Rattle.std.proofs.Common.{subst, List}
use Rattle.lxr_large_model.specs.History.{LargeItem}
use Rattle.lxr_heap.specs.Holding.{IsHeapOf}
use Rattle.lxr_heap.specs.Working.{WorksHeap}
use Rattle.lxr_heap.proofs.LargeHeap.work.Goals as goal

pub invariant_of-self : goal.invariant_of-self
invariant_of-self c = let (h, is) = c.self.invariant in (h, (c.work.ensures h is).holds)

pub returns : goal.returns
returns c = subst (λ x. (h : List LargeItem) → IsHeapOf x h → WorksHeap x c.work.new.heap h c.args.units c.work.result) c.self.view_is c.work.ensures
