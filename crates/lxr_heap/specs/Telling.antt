-- What telling the counts of its objects, or the names of its last report, leaves of a heap.
use Rattle.std.specs.Prelude.{◌≡◌, ◌≤◌, ℕ, List, map}
use Rattle.lxr_layout.specs.declared.Name.{Name}
use Rattle.lxr_graph.specs.History.{HasToldCounts, HasToldNames}
use Rattle.lxr_graph.specs.Names.{without}
use Rattle.lxr_graph.specs.Telling.{with_names_told}
use Rattle.lxr_image.specs.Spaces.{tables_of}
use Rattle.lxr_model.specs.Reports.{count_entry}
use Rattle.lxr_invariant.specs.Quiescent.{HoldsMoment}
use Rattle.lxr_pause_queue.specs.Entries.{standing_entry, with_told}
use Rattle.lxr_one_pause.specs.Settling.{survived}
use Rattle.lxr_large_model.specs.Full.{IsFresh}
use Rattle.lxr_large_model.specs.History.{LargeItem, large_moment}
use Rattle.lxr_large_model.specs.Renewing.{counted_name}
use Rattle.lxr_heap.specs.declared.heap.Heap.{Heap}
use Rattle.lxr_heap.specs.Holding.{IsHeapOf}

-- The world and what the last pause left were told, without what is gone since, in the order of names, each with what the table of counts says of
-- it where it stands: the heap is that of the same history, and nothing but what is told has changed. Where a pause is fresh nothing is gone, and
-- these are its references, or none where it is stuck, and the counts that the pause reported, unless names were renewed since; else references
-- that were stored since aren't counted, and decrements may wait.
pub record TellsHeap (before after : Heap) (h : List LargeItem) : Type 0 where
  pub holds : IsHeapOf after h
  pub names : map counted_name after.space.report.told.items ≡ without (large_moment h).unreclaimed before.gone.items
  pub entries : (at : Name → ℕ) → HoldsMoment before.space (survived (large_moment h) before.gone.items) at
      → after.space.report.told.items ≡ map (standing_entry (tables_of before.space) at) (without (large_moment h).unreclaimed before.gone.items)
  pub counts : IsFresh h
      → after.space.report.told.items ≡ map (count_entry (large_moment h).state (large_moment h).unreclaimed (large_moment h).stuck) (large_moment h).unreclaimed
  pub told : IsFresh h → 1 ≤ before.space.pauses → HasToldCounts after.space.report
  pub heap : after ≡ record before { space = with_told before.space after.space.report.told.items }

-- The names of the last report can be read: the heap is that of the same history, and nothing else has changed.
pub record TellsNames (before after : Heap) (h : List LargeItem) : Type 0 where
  pub holds : IsHeapOf after h
  pub told : HasToldNames after.space.report
  pub heap : after ≡ record before { space = record before.space { report = with_names_told before.space.report } }
