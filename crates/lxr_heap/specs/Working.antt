-- What doing some of a pause's decrements before it does to a heap.
use Rattle.std.specs.Prelude.{◌≡◌, ℕ, List, ◌++◌}
use Rattle.lxr_layout.specs.declared.Name.{Name}
use Rattle.lxr_image.specs.Spaces.{tables_of}
use Rattle.lxr_invariant.specs.Keeping.{KeepsListsAndCounters}
use Rattle.lxr_pause_decrements.specs.declared.slices.Slice.{Slice}
use Rattle.lxr_pause_decrements.specs.Slices.{LowersSome}
use Rattle.lxr_one_pause.specs.Settling.{survived}
use Rattle.lxr_large_model.specs.History.{LargeItem, large_moment}
use Rattle.lxr_heap.specs.declared.heap.Heap.{Heap}
use Rattle.lxr_heap.specs.Holding.{IsHeapOf, StandAt}

-- Some of the decrements were done, where objects stood at these places: so many, by which these more are gone, after those that were, and all
-- others stand where they stood.
pub record WorksAt (before after : Heap) (h : List LargeItem) (at : Name → ℕ) (units : ℕ) (result : Slice) : Type 0 where
  pub gone : List Name
  pub more : after.gone ≡ record before.gone { items = before.gone.items ++ gone }
  pub lowered : ℕ
  pub lowers : LowersSome before.space after.space (survived (large_moment h) before.gone.items) at units result gone lowered
  pub stands : StandAt after h at

-- Some of the decrements that wait were done, and for the history nothing has happened: the heap is that of the same one. The lines that are out
-- stay, and so do the words of objects, lists and counters. Of the heap the words of its tables have changed and what is gone, and nothing else:
-- the last pause's report stays, with what was told in it, and so do registers, bodies and all numbers.
pub record WorksHeap (before after : Heap) (h : List LargeItem) (units : ℕ) (result : Slice) : Type 0 where
  pub holds : IsHeapOf after h
  pub works : (at : Name → ℕ) → StandAt before h at → WorksAt before after h at units result
  pub keeps : KeepsListsAndCounters (tables_of before.space) (tables_of after.space)
  pub outs : (tables_of after.space).outs ≡ (tables_of before.space).outs
  pub heap : after ≡ record before { space = record before.space { words = after.space.words }; gone = after.gone }
