use Rattle.std.proofs.Common.{◌≡◌, List, length}
use Rattle.lxr_direct.specs.Known.{IsKnown}
use Rattle.lxr_large_model.specs.History.{LargeItem}
use Rattle.lxr_heap.specs.Holding.{IsHeapOf}
use Rattle.lxr_c_heap.specs.Hosting.{IsServing, registers_in}
use Rattle.lxr_c_many.specs.Steps.{MayBeStored}
use Rattle.lxr_c_many.proofs.StoringLemmas.{Stored}
use Rattle.lxr_c_many.proofs.references.store_all.Given as goal

abbrev pub invariant-loop-i : goal.invariant-loop-i
invariant-loop-i l = record {
  serving : IsServing l.heap;
  registers : registers_in l.heap ≡ registers_in l.initial.heap;
  known : IsKnown l.heap.heap.space 1 l.object;
  stored : (h : List LargeItem) → IsHeapOf l.initial.heap.heap h → MayBeStored l.initial.heap.heap h l.object.register l.first (length l.sources) → Stored l.initial.heap h l.object.register l.first l.sources l.i l.heap;
}
