use Rattle.std.proofs.Common.{◌≡◌, subst, List}
use Rattle.lxr_graph.specs.State.{register_at}
use Rattle.lxr_large_model.specs.History.{LargeItem, large_state}
use Rattle.lxr_heap.specs.Holding.{IsHeapOf}
use Rattle.lxr_heap.specs.Looking.{shape_held}
use Rattle.lxr_heap.proofs.LargeHeap.shape.Goals as goal

pub returns : goal.returns
returns c = subst (λ x. (h : List LargeItem) → IsHeapOf x h → c.shape.result ≡ shape_held (large_state h) (register_at (large_state h).small 1 c.args.base)) c.self.view_is c.shape.ensures
