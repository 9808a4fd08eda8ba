-- One operation of several, of which it is known what it is replied.
use Rattle.std.proofs.Common.{◌≡◌, ℕ, ◌+◌, ◌∙◌, sym, ap, subst, arith, List}
use mathlib.Core.Logic.{∥∥₁_elim, ∥∥₁_prop}
use Rattle.std.specs.Coded.{le_prop}
use Rattle.lxr_graph.specs.declared.Op.TheVariants as op
use Rattle.lxr_graph.specs.declared.Reply.TheVariants as reply
use Rattle.lxr_large_model.specs.declared.LargeOp.{LargeOp}
use Rattle.lxr_large_model.specs.declared.LargeOp.TheVariants as large_op
use Rattle.lxr_large_model.specs.declared.LargeReply.{LargeReply}
use Rattle.lxr_large_model.specs.declared.LargeReply.TheVariants as large_reply
use Rattle.lxr_large_model.specs.History.{LargeItem}
use Rattle.lxr_heap.specs.Acting.{IsReplied, made_by}
use Rattle.lxr_heap.specs.declared.heap.Heap.{Heap}
use Rattle.lxr_heap.specs.Holding.{IsHeapOf}
use Rattle.lxr_heap.proofs.NumberLemmas.{called_pauses}
use Rattle.lxr_c_heap.specs.declared.host.HostHeap.{HostHeap}
use Rattle.lxr_c_heap.specs.Hosting.{IsHostOf, IsServing, Replies}
use Rattle.lxr_c_heap.specs.Pacing.{bytes_by}
use Rattle.lxr_c_heap.proofs.PacingLemmas.{replied_host}

-- what was replied to a nil is told by the history
pub nil_done : (x y : HostHeap) (h : List LargeItem) (dest : ℕ) (r : LargeReply) → Replies x y h (large_op.Small (op.Nil dest)) r → Replies x y h (large_op.Small (op.Nil dest)) (large_reply.Small reply.Cleared)
nil_done x y h dest r replies =
    let told : large_reply.Small reply.Cleared ≡ r = replies.heap.holds.legal.1.reply in
    subst (Replies x y h (large_op.Small (op.Nil dest))) (sym told) replies

-- what makes no object takes no bytes
pub no_bytes : (x : HostHeap) (heap : Heap) → record x { heap = heap } ≡ record x { heap = heap; bytes = x.bytes + 0 }
no_bytes x heap = ap (λ n. record x { heap = heap; bytes = n }) (let same : x.bytes ≡ x.bytes + 0 = omega arith in same)

-- and so neither an object nor a pause
pub replied_serves : (x : HostHeap) (heap : Heap) (o : LargeOp) (r : List LargeItem → LargeReply) → ((h : List LargeItem) → (made_by x.heap.made (r h) ≡ x.heap.made) × (bytes_by o (r h) ≡ 0)) → IsServing x
    → ((h : List LargeItem) → IsHeapOf x.heap h → IsReplied x.heap heap h o (r h)) → IsServing (record x { heap = heap })
replied_serves x heap o r none room replied = record {
  holds = ∥∥₁_elim room.holds ∥∥₁_prop (λ of. ∣ (_, replied_host x (record x { heap = heap }) of.0 o (r of.0) of.1 (replies of.0 of.1)) ∣₁);
  made = ∥∥₁_elim room.holds le_prop (λ of. let same = same_made of.0 of.1 in let few = room.made in omega (arith, same, few));
  paused = ∥∥₁_elim room.holds le_prop (λ of.
      let same = called_pauses x.heap heap of.0 o (r of.0) of.1.heap (replied of.0 of.1.heap).holds in
      let few = room.paused in
      omega (arith, same, few));
  bytes = ∥∥₁_elim room.holds le_prop (λ of. let same = same_made of.0 of.1 in let few = room.bytes in omega (arith, same, few));
  timed = room.timed;
}
  where
    same_made : (h : List LargeItem) → IsHostOf x h → heap.made ≡ x.heap.made
    same_made h is = (replied h is.heap).made ∙ (none h).0

    replies : (h : List LargeItem) → IsHostOf x h → Replies x (record x { heap = heap }) h o (r h)
    replies h is = record { heap = replied h is.heap; rest = no_bytes x heap ∙ ap (λ n. record x { heap = heap; bytes = x.bytes + n }) (sym (none h).1) }
