-- What renewing its names does to a heap.
use Rattle.std.specs.Prelude.{◌≡◌, ℕ, ◌^◌, ◌≤◌, List, ◌∷◌, IsTrue, length, map}
use Rattle.lxr_layout.specs.declared.Name.{Name}
use Rattle.lxr_graph.specs.Names.{has}
use Rattle.lxr_graph.specs.Renewing.{renewed_name}
use Rattle.lxr_graph.specs.State.{world_name}
use Rattle.lxr_model.specs.Reports.{count_entry}
use Rattle.lxr_large_model.specs.History.{LargeItem, Renewed, large_moment}
use Rattle.lxr_large_model.specs.Renewing.{counted_name}
use Rattle.lxr_large_bodies.specs.Bodies.{renamed}
use Rattle.lxr_heap.specs.declared.heap.Heap.{Heap}
use Rattle.lxr_heap.specs.Holding.{IsHeapOf, StandAt, terms_of}

-- Names were renewed: the heap is that of the history with the renewal, which is legal, so the names are those of all that is left, and the graph is
-- the old one under new names; each object stands where it stood. As many objects were made as are left, pauses are counted from 0 again, and each
-- body has its words in its blocks. What is told of counts lists the world and all that was left, under the old names, each with its references, or
-- none where it is stuck. The log has as many entries as before.
pub record RenewsHeap (before after : Heap) (h : List LargeItem) : Type 0 where
  pub names : List Name
  pub holds : IsHeapOf after (Renewed names ∷ h)
  pub made : after.made ≡ length names
  pub few : after.made ≤ 2 ^ 27
  pub pauses : after.space.pauses ≡ 0
  pub gone : after.gone ≡ before.gone
  pub placed : (at : Name → ℕ) → StandAt before h at
      → (at' : Name → ℕ) × StandAt after (Renewed names ∷ h) at' × ((n : Name) → IsTrue (has (large_moment h).unreclaimed n) → at' (renewed_name names n) ≡ at n)
  pub bodies : after.bodies ≡ record before.bodies { bodies = map (renamed names) before.bodies.bodies }
  pub terms : terms_of after ≡ terms_of before
  pub log : after.space.limits.log ≡ before.space.limits.log
  pub told : map counted_name after.space.report.told.items ≡ world_name ∷ names
  pub counts : after.space.report.told.items ≡ map (count_entry (large_moment h).state (large_moment h).unreclaimed (large_moment h).stuck) (large_moment h).unreclaimed
