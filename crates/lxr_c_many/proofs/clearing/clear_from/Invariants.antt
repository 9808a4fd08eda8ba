use Rattle.std.proofs.Common.{◌≡◌, ◌-◌, List}
use Rattle.lxr_large_model.specs.History.{LargeItem}
use Rattle.lxr_heap.specs.Holding.{IsHeapOf}
use Rattle.lxr_c_heap.specs.Hosting.{IsServing, registers_in}
use Rattle.lxr_c_many.specs.Clearing.{nils}
use Rattle.lxr_c_many.specs.Following.{Follows}
use Rattle.lxr_c_many.proofs.clearing.clear_from.Given as goal

abbrev pub invariant-loop-register : goal.invariant-loop-register
invariant-loop-register l = record {
  serving : IsServing l.heap;
  registers : registers_in l.heap ≡ registers_in l.initial.heap;
  follows : (h : List LargeItem) → IsHeapOf l.initial.heap.heap h → Follows l.initial.heap h l.heap (nils l.first (l.register - l.first));
}
