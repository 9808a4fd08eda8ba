use Rattle.std.proofs.Common.{◌≡◌, List, take}
use Rattle.lxr_direct.specs.Known.{IsKnown}
use Rattle.lxr_large_model.specs.History.{LargeItem}
use Rattle.lxr_heap.specs.Holding.{IsHeapOf}
use Rattle.lxr_c_heap.specs.Hosting.{IsServing, registers_in}
use Rattle.lxr_c_many.specs.Fields.{put_of}
use Rattle.lxr_c_many.specs.Following.{Follows, newest_first}
use Rattle.lxr_c_many.proofs.words.write_all.Given as goal

abbrev pub invariant-loop-i : goal.invariant-loop-i
invariant-loop-i l = record {
  serving : IsServing l.heap;
  registers : registers_in l.heap ≡ registers_in l.initial.heap;
  known : IsKnown l.heap.heap.space 1 l.object;
  follows : (h : List LargeItem) → IsHeapOf l.initial.heap.heap h → Follows l.initial.heap h l.heap (newest_first (put_of l.object.register) l.first (take l.i l.words));
}
