-- What making the words of a Free block 0 does to a heap.
use Rattle.std.specs.Prelude.{◌≡◌, ℕ, List, Option}
use Rattle.lxr_large_model.specs.History.{LargeItem}
use Rattle.lxr_placing.specs.Trimming.{ZeroesNext}
use Rattle.lxr_heap.specs.declared.heap.Heap.{Heap}
use Rattle.lxr_heap.specs.Holding.{IsHeapOf}

-- The words of the first Free block from one on are 0, and nothing else has changed: the heap is that of each history that it was of. No history has
-- it.
pub record TrimsHeap (from : ℕ) (before after : Heap) (block : Option ℕ) : Type 0 where
  pub zeroes : ZeroesNext from before.space after.space block
  pub rest : after ≡ record before { space = record before.space { words = after.space.words } }
  pub holds : (h : List LargeItem) → IsHeapOf before h → IsHeapOf after h
