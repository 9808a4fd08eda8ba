use Rattle.std.proofs.Common.{List, length, ◌+◌}
use Rattle.lxr_large_model.specs.History.{LargeItem, large_state}
use Rattle.lxr_heap.specs.Holding.{IsHeapOf}
use Rattle.lxr_c_many.specs.Steps.{HasWords}
use Rattle.lxr_c_many.proofs.WordLemmas.{Read}
use Rattle.lxr_c_many.proofs.words.read_all.Given as goal

abbrev pub invariant-loop-i : goal.invariant-loop-i
invariant-loop-i l = (h : List LargeItem) → IsHeapOf l.heap h → HasWords (large_state h) l.object.register (l.first + length l.initial.words) → Read (large_state h) l.object.register l.first l.initial.words l.i l.words
