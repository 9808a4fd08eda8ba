use Rattle.std.proofs.Common.{Bool, List, subst}
use Rattle.lxr_large_model.specs.History.{LargeItem}
use Rattle.lxr_heap.specs.Holding.{IsHeapOf}
use Rattle.lxr_c_heap.specs.Hosting.{Pauses}
use Rattle.lxr_c_heap.proofs.host.HostHeap.pause_due.Goals as goal

pub returns : goal.returns
returns c = subst (λ (b : Bool). (h : List LargeItem) → IsHeapOf c.args.self.now.heap h → Pauses c.args.self.now c.pause.new.self h b) c.exceeds_room-collect.ensures c.pause.ensures
