use Rattle.std.proofs.Common.{◌≡◌, subst, List, length}
use Rattle.lxr_large_model.specs.Full.{kept_names}
use Rattle.lxr_large_model.specs.History.{LargeItem, large_moment}
use Rattle.lxr_heap.specs.Holding.{IsHeapOf}
use Rattle.lxr_heap.proofs.LargeHeap.live.Goals as goal

pub returns : goal.returns
returns c = subst (λ x. (h : List LargeItem) → IsHeapOf x h → c.live.result ≡ length (kept_names (large_moment h))) c.self.view_is c.live.ensures
