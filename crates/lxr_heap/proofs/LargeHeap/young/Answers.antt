use Rattle.std.proofs.Common.{◌≡◌, subst, List, length}
use Rattle.lxr_large_model.specs.History.{LargeItem, large_moment}
use Rattle.lxr_heap.specs.Holding.{IsHeapOf}
use Rattle.lxr_heap.proofs.LargeHeap.young.Goals as goal

pub returns : goal.returns
returns c = subst (λ x. (h : List LargeItem) → IsHeapOf x h → c.young.result ≡ length (large_moment h).made) c.self.view_is c.young.ensures
