use Rattle.std.proofs.Common.{◌≡◌, subst, List}
use Rattle.std.specs.Prelude.{◌↔◌, IsTrue, None}
use Rattle.lxr_graph.specs.State.{register_at}
use Rattle.lxr_large_model.specs.History.{LargeItem, large_state}
use Rattle.lxr_heap.specs.Holding.{IsHeapOf}
use Rattle.lxr_heap.proofs.LargeHeap.is_nil.Goals as goal

pub returns : goal.returns
returns c = subst (λ x. (h : List LargeItem) → IsHeapOf x h → IsTrue c.is_nil.result ↔ (register_at (large_state h).small 1 c.args.register ≡ None)) c.self.view_is c.is_nil.ensures
