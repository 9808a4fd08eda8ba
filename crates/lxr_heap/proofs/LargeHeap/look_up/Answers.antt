use Rattle.std.proofs.Common.{◌≡◌, subst, List}
use Rattle.std.specs.Prelude.{option_map}
use Rattle.lxr_large_model.specs.History.{LargeItem, large_state}
use Rattle.lxr_heap.specs.Holding.{IsHeapOf}
use Rattle.lxr_heap.specs.Known.{shape_at}
use Rattle.lxr_heap.proofs.LargeHeap.look_up.Goals as goal

pub returns-clause-shape : goal.returns-clause-shape
returns-clause-shape c = subst (λ x. (h : List LargeItem) → IsHeapOf x h → option_map (λ object. object.base.shape) c.find.result ≡ shape_at (large_state h).small c.args.register) c.self.view_is c.find.ensures.shape
