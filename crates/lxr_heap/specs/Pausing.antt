-- What a pause does to a heap.
use Rattle.std.specs.Prelude.{◌≡◌, Bool, List, [], ◌∷◌, if◌then◌else◌}
use Rattle.lxr_layout.specs.declared.Name.{Name}
use Rattle.lxr_graph.specs.declared.report.Kind.{Kind}
use Rattle.lxr_graph.specs.declared.report.Kind.TheVariants as kind
use Rattle.lxr_graph.specs.History.{report_of}
use Rattle.lxr_graph.specs.Listing.{NameList, in_order, with_names}
use Rattle.lxr_large_model.specs.History.{LargeItem, Paused, large_moment}
use Rattle.lxr_heap.specs.declared.heap.Heap.{Heap}
use Rattle.lxr_heap.specs.Holding.{IsHeapOf, StayInBlocks, StayInPlace, terms_of}

-- the kind of a pause: it collects where that is asked for, and else it counts alone
abbrev pub kind_asked : Bool → Kind
kind_asked collect = if collect then kind.Collect else kind.Plain

-- names of the dead with these that were gone before, in order, in the same room
abbrev pub with_gone : NameList → List Name → NameList
with_gone dead gone = in_order (with_names dead gone)

-- A pause was made: it is of the kind that was asked for, and the heap is that of the history with it, which is legal, so its report is that of
-- the moment, also of what was gone before it, and exactly the bodies of what is left are held, each in the blocks that it had. What was
-- unreclaimed at the pause before and still is stands where it stood: no trace chose blocks, so none is evacuated, and what was made since is all
-- that a pause moves. Nothing is gone after it, and the log has as many entries as before.
pub record PausesHeap (before after : Heap) (h : List LargeItem) (collect : Bool) : Type 0 where
  pub kind : after.space.report.kind ≡ kind_asked collect
  pub holds : IsHeapOf after (Paused (report_of after.space.report) ∷ h)
  pub made : after.made ≡ before.made
  pub gone : after.gone.items ≡ []
  pub placed : StayInPlace before after h (Paused (report_of after.space.report) ∷ h) (large_moment h).unreclaimed
  pub stay : StayInBlocks before.bodies.bodies after.bodies.bodies
  pub terms : terms_of after ≡ terms_of before
  pub log : after.space.limits.log ≡ before.space.limits.log
