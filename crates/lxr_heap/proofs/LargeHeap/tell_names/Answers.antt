use Rattle.std.proofs.Common.{subst, List}
use Rattle.lxr_large_model.specs.History.{LargeItem}
use Rattle.lxr_heap.specs.Holding.{IsHeapOf}
use Rattle.lxr_heap.specs.Telling.{TellsNames}
use Rattle.lxr_heap.proofs.LargeHeap.tell_names.Goals as goal

pub invariant_of-self : goal.invariant_of-self
invariant_of-self c = let (h, is) = c.self.invariant in (h, (c.list_names.ensures h is).holds)

pub returns : goal.returns
returns c = subst (λ x. (h : List LargeItem) → IsHeapOf x h → TellsNames x c.list_names.new.heap h) c.self.view_is c.list_names.ensures
