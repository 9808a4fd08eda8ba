-- The heap behind a call is that of the history that is told.
use Rattle.std.proofs.Common.{sym, subst, inl, inr, List, ◌∷◌}
use Rattle.lxr_large_model.specs.declared.LargeOp.{LargeOp}
use Rattle.lxr_large_model.specs.declared.LargeReply.{LargeReply}
use Rattle.lxr_large_model.specs.History.{LargeItem, Called}
use Rattle.lxr_c_heap.specs.declared.host.TheConstants.{ENDS}
use Rattle.lxr_c_heap.specs.declared.host.HostHeap.{HostHeap}
use Rattle.lxr_c_heap.specs.Hosting.{Acts, IsHostOf, Makes, PausesFor, Stores}
use Rattle.lxr_c_heap.proofs.PacingLemmas.{paused_host, replied_host}
use Rattle.lxr_c_heap.proofs.RoomLemmas.{settled_holds, turned_holds}

-- behind the pause that an operation needs
pub needed_host : (o : LargeOp) (x y : HostHeap) (h k : List LargeItem) → IsHostOf x h → PausesFor o x h y k → IsHostOf y k
needed_host o x y h k is (inl (collect, needs, paused, same)) = subst (IsHostOf y) (sym same) (paused_host x y h collect is paused)
needed_host o x y h k is (inr (none, left, same)) = subst (IsHostOf y) (sym same) (subst (λ (z : HostHeap). IsHostOf z h) (sym left) is)

pub acts_host : (x y : HostHeap) (h : List LargeItem) (o : LargeOp) (r : LargeReply) → IsHostOf x h → (acts : Acts x y h o r) → IsHostOf y (Called o r ∷ acts.history)
acts_host x y h o r is acts = replied_host acts.middle y acts.history o r (needed_host o x acts.middle h acts.history is acts.pauses) acts.replies

-- behind a store
pub stores_host : (x y : HostHeap) (h : List LargeItem) (o : LargeOp) (r : LargeReply) → IsHostOf x h → (stores : Stores x y h o r) → IsHostOf y (Called o r ∷ stores.acts.history)
stores_host x y h o r is stores = acts_host stores.settled y stores.history o r (settled_holds ENDS x stores.settled h stores.history is stores.settles) stores.acts

-- before the operation that makes an object
pub making_host : (x y : HostHeap) (h : List LargeItem) (o : LargeOp) (r : LargeReply) → IsHostOf x h → (makes : Makes x y h o r) → IsHostOf makes.acts.middle makes.acts.history
making_host x y h o r is makes =
    needed_host o makes.paused makes.acts.middle makes.turns.history makes.acts.history
    (turned_holds makes.settled makes.paused makes.settled_history (settled_holds ENDS x makes.settled h makes.settled_history is makes.settles) makes.turns) makes.acts.pauses

-- and behind it
pub makes_host : (x y : HostHeap) (h : List LargeItem) (o : LargeOp) (r : LargeReply) → IsHostOf x h → (makes : Makes x y h o r) → IsHostOf y (Called o r ∷ makes.acts.history)
makes_host x y h o r is makes = replied_host makes.acts.middle y makes.acts.history o r (making_host x y h o r is makes) makes.acts.replies
