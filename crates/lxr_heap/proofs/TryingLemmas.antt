-- What an attempt at an operation on a field leaves.
use Rattle.std.proofs.Common.{◌≡◌, refl, sym, subst, Bool, true, false, List, ◌∷◌}
use Rattle.std.specs.Prelude.{IsTrue}
use Rattle.lxr_graph.specs.declared.Op.{Op}
use Rattle.lxr_large_model.specs.declared.LargeOp.TheVariants as large_op
use Rattle.lxr_large_model.specs.declared.LargeReply.TheVariants as large_reply
use Rattle.lxr_large_model.specs.History.{LargeItem, Called}
use Rattle.lxr_heap.specs.declared.heap.Heap.{Heap}
use Rattle.lxr_heap.specs.Holding.{IsHeapOf}
use Rattle.lxr_heap.specs.Trying.{Does}

-- a heap of some history
pub tried_holds : (x y : Heap) (h : List LargeItem) (o : Op) (done : Bool) → IsHeapOf x h → (IsTrue done → Does x y o) → (done ≡ false → y ≡ x) → (k : List LargeItem) × IsHeapOf y k
tried_holds x y h o true is does same = let (r, such, each) = does refl in (Called (large_op.Small o) (large_reply.Small r) ∷ h, (each h is).holds)
tried_holds x y h o false is does same = (h, subst (λ z. IsHeapOf z h) (sym (same refl)) is)
