-- Registers that become nil one after another.
use Rattle.std.proofs.Common.{◌≡◌, ℕ, suc, ◌+◌, ◌-◌, ◌≤◌, refl, sym, subst, arith, List, ◌++◌}
use Rattle.lxr_graph.specs.declared.Op.TheVariants as op
use Rattle.lxr_graph.specs.declared.Reply.TheVariants as reply
use Rattle.lxr_large_model.specs.declared.LargeOp.TheVariants as large_op
use Rattle.lxr_large_model.specs.declared.LargeReply.TheVariants as large_reply
use Rattle.lxr_large_model.specs.History.{LargeItem}
use Rattle.lxr_c_heap.specs.declared.host.HostHeap.{HostHeap}
use Rattle.lxr_c_heap.specs.Hosting.{Replies}
use Rattle.lxr_c_many.specs.Clearing.{nils}
use Rattle.lxr_c_many.specs.Following.{Follows}

-- none has yet
pub cleared_none : (x : HostHeap) (h : List LargeItem) (first : ℕ) → Follows x h x (nils first (first - first))
cleared_none x h first = let none : first - first ≡ 0 = omega arith in subst (λ n. Follows x h x (nils first n)) (sym none) refl

-- one more has
pub cleared_more : (x y z : HostHeap) (h : List LargeItem) (first register dest : ℕ) → first ≤ register → dest ≡ register → Follows x h y (nils first (register - first))
    → Replies y z (nils first (register - first) ++ h) (large_op.Small (op.Nil dest)) (large_reply.Small reply.Cleared) → Follows x h z (nils first (register + 1 - first))
cleared_more x y z h first register dest behind same before replies =
    let next : register + 1 - first ≡ suc (register - first) = omega (arith, behind) in
    let this : dest ≡ first + (register - first) = omega (arith, behind, same) in
    subst (λ n. Follows x h z (nils first n)) (sym next)
    (y, before, subst (λ n. Replies y z (nils first (register - first) ++ h) (large_op.Small (op.Nil n)) (large_reply.Small reply.Cleared)) this replies)
