-- What has to hold before operations in a row, so that each is done.
use Rattle.std.specs.Prelude.{◌≡◌, ℕ, ◌+◌, ◌≤◌, false, Some, List, length}
use Rattle.lxr_layout.specs.declared.Name.{Name}
use Rattle.lxr_graph.specs.Names.{has}
use Rattle.lxr_graph.specs.State.{object_at, refs_of, register_at, values_of}
use Rattle.lxr_large_model.specs.History.{LargeItem, large_moment, large_state}
use Rattle.lxr_large_model.specs.State.{LargeState}
use Rattle.lxr_heap.specs.declared.heap.Heap.{Heap}
use Rattle.lxr_c_heap.specs.declared.host.HostHeap.{HostHeap}
use Rattle.lxr_c_heap.specs.Hosting.{IsHostOf, PausesWhere, Settles}
use Rattle.lxr_c_many.specs.Recording.{LogIsShort, to_record}

-- what a register holds has so many data words
pub record HasWords (s : LargeState) (base most : ℕ) : Type 0 where
  pub name : Name
  pub held : register_at s.small 1 base ≡ Some name
  pub within : most ≤ length (values_of (object_at s.small.graph name))

-- what a register holds has so many references
pub record HasReferences (s : LargeState) (base most : ℕ) : Type 0 where
  pub name : Name
  pub held : register_at s.small 1 base ≡ Some name
  pub within : most ≤ length (refs_of (object_at s.small.graph name))

-- so many references from an index on may be stored to: they are there, and the heap's log has room for what these stores record
pub record MayBeStored (x : Heap) (h : List LargeItem) (base first count : ℕ) : Type 0 where
  pub there : HasReferences (large_state h) base (first + count)
  pub room : length (large_moment h).written + to_record (large_moment h) (register_at (large_moment h).state 1 base) first count ≤ x.space.limits.log

-- a register holds an object that was made since the last pause, with so many references and so many data words
pub record HoldsYoung (h : List LargeItem) (base refs values : ℕ) : Type 0 where
  pub references : HasReferences (large_state h) base refs
  pub data_words : HasWords (large_state h) base values
  pub young : has (large_moment h).unreclaimed references.name ≡ false

-- Before so many references of what a register holds are stored to, the heap settles, and a plain pause is made exactly where the log has no room
-- for what the stores record. Then they may be stored to.
pub record PausesForStores (base first count : ℕ) (x y : HostHeap) (h : List LargeItem) : Type 0 where
  pub settled : HostHeap
  pub settled_history : List LargeItem
  pub settles : Settles x h settled settled_history
  pub history : List LargeItem
  pub pauses : PausesWhere (LogIsShort settled.heap settled_history base first count) false settled settled_history y history
  pub holds : IsHostOf y history
  pub ready : MayBeStored y.heap history base first count
