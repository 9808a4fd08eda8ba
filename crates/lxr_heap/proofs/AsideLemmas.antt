-- What keeps a store from being done at once, of a space and of its heap.
use Rattle.std.proofs.Common.{ℕ, inl, inr, List}
use Rattle.std.specs.Prelude.{◌⊎◌}
use Rattle.lxr_graph.specs.declared.Op.TheVariants as op
use Rattle.lxr_one_pause.specs.Settling.{survived}
use Rattle.lxr_direct.specs.Operating.{IsToRecord}
use Rattle.lxr_direct.specs.Trying as direct
use Rattle.lxr_large_model.specs.History.{LargeItem, large_moment}
use Rattle.lxr_heap.specs.declared.heap.Heap.{Heap}
use Rattle.lxr_heap.specs.Holding.{IsHeapOf, abstract_of}
use Rattle.lxr_heap.specs.Trying.{StaysAside}
use Rattle.lxr_heap.proofs.EarlyLemmas.{recorded_alike}
use Rattle.lxr_heap.proofs.LookingLemmas.{small_reply}

pub aside_heap : (x : Heap) (h : List LargeItem) (is : IsHeapOf x h) (base i source : ℕ) → direct.Misses x.space (abstract_of x h is.at) 1 (op.Store base i source) ⊎ IsToRecord (survived (large_moment h) x.gone.items) 1 base i → StaysAside h base i source
aside_heap x h is base i source (inl (r, such, done)) = inl (r, such, small_reply x h is (op.Store base i source) r done.reply)
aside_heap x h is base i source (inr to) = inr ((recorded_alike (large_moment h) x.gone.items is.follows is.gone 1 base i).0 to)
