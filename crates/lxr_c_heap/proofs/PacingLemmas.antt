-- The bytes of new objects: what one object takes at most, and what calls, pauses and renewals leave of those that were made since a pause.
use Rattle.std.proofs.Common.{◌≡◌, ℕ, ◌+◌, ◌*◌, ◌≤◌, ◌⊎◌, ◌∙◌, refl, sym, ap, subst, inl, inr, arith, Bool, List, [], ◌∷◌, Option}
use Rattle.lxr_layout.specs.declared.Shape.{Shape}
use Rattle.lxr_layout.specs.Objects.{FitsShape, word_count}
use Rattle.lxr_graph.specs.declared.Op.TheVariants as op
use Rattle.lxr_graph.specs.declared.Reply.{Reply}
use Rattle.lxr_graph.specs.declared.Reply.TheVariants as reply
use Rattle.lxr_large_model.specs.declared.LargeOp.{LargeOp}
use Rattle.lxr_large_model.specs.declared.LargeOp.TheVariants as large_op
use Rattle.lxr_large_model.specs.declared.LargeReply.{LargeReply}
use Rattle.lxr_large_model.specs.declared.LargeReply.TheVariants as large_reply
use Rattle.lxr_large_model.specs.Full.{LargeTerms}
use Rattle.lxr_large_model.specs.History.{LargeItem, Called}
use Rattle.lxr_heap.specs.declared.bulk.BodyReply.{BodyReply}
use Rattle.lxr_heap.specs.declared.bulk.BodyReply.TheVariants as body_reply
use Rattle.lxr_heap.specs.Acting.{IsCallable, made_by}
use Rattle.lxr_heap.specs.Bulk.{with_puts, with_written}
use Rattle.lxr_heap.specs.Holding.{made_with}
use Rattle.lxr_c_base.specs.Requests.{IsQuiet}
use Rattle.lxr_c_heap.specs.declared.host.HostHeap.{HostHeap}
use Rattle.lxr_pause_decrements.specs.declared.slices.Slice.{Slice}
use Rattle.lxr_layout.specs.declared.TheConstants.{LEAST_REGISTERS}
use Rattle.lxr_c_heap.specs.Hosting.{IsHostOf, Pauses, Renews, Replies, all_registers_in, behind_pause, registers_in}
use Rattle.lxr_c_heap.specs.Working.{Works, WorksWhere}
use Rattle.lxr_heap.specs.declared.heap.Heap.{Heap}
use Rattle.lxr_c_heap.specs.Pacing.{bytes_by, bytes_made}

-- ---- an object

shape_few : (shape : Shape) → FitsShape shape → 8 * word_count shape ≤ 8388608
shape_few shape fits = let refs = fits.0 in let values = fits.1 in omega (arith, refs, values)

none_few : 0 ≤ 8388608
none_few = omega arith

-- no object takes 8 MB
pub bytes_few : (o : LargeOp) (r : LargeReply) → IsCallable o → bytes_by o r ≤ 8388608
bytes_few (large_op.Small (op.New dest shape)) (large_reply.Small (reply.New n)) may = shape_few shape may.1.0.1
bytes_few (large_op.Big dest blocks) (large_reply.Big n) may = let some = may.1.2 in omega (arith, some)
bytes_few o r may = none_few

-- an operation takes no bytes, or makes an object
none_or_one : (o : LargeOp) (r : LargeReply) (made : ℕ) → (bytes_by o r ≡ 0) ⊎ (made_by made r ≡ made + 1)
none_or_one (large_op.Small (op.New dest shape)) (large_reply.Small (reply.New n)) made = inr refl
none_or_one (large_op.Big dest blocks) (large_reply.Big n) made = inr refl
none_or_one o r made = inl refl

small_grows : (r : Reply) (made : ℕ) → made ≤ made_with made r
small_grows (reply.New n) made = omega arith
small_grows r made = omega arith

grows : (r : LargeReply) (made : ℕ) → made ≤ made_by made r
grows (large_reply.Small r) made = small_grows r made
grows (large_reply.Big n) made = omega arith
grows r made = omega arith

-- so what objects take stays below 8 MB for each that was made
pub bytes_bound : (o : LargeOp) (r : LargeReply) (made : ℕ) → IsCallable o → 8388608 * made + bytes_by o r ≤ 8388608 * made_by made r
bytes_bound o r made may = elim (none_or_one o r made) [
  | inl none ↦ let more = grows r made in omega (arith, none, more)
  | inr one ↦ let few = bytes_few o r may in omega (arith, one, few)
]

-- an operation that makes no object takes none
pub quiet_bytes : (registers : ℕ) (o : LargeOp) (r : LargeReply) → IsQuiet registers o → bytes_by o r ≡ 0
quiet_bytes registers (large_op.Small (op.New dest shape)) r is = absurd is
quiet_bytes registers (large_op.Big dest blocks) r is = absurd is
quiet_bytes registers o r is = refl

-- ---- histories

-- where as many registers are named, and there are as many, those that are named are there
pub still_named : (x y : HostHeap) → registers_in y ≡ registers_in x → all_registers_in y ≡ all_registers_in x → (LEAST_REGISTERS ≤ registers_in x) × (registers_in x ≤ all_registers_in x)
    → (LEAST_REGISTERS ≤ registers_in y) × (registers_in y ≤ all_registers_in y)
still_named x y named all (some, few) = (omega (arith, named, some), omega (arith, named, all, few))

pub paused_host : (x y : HostHeap) (h : List LargeItem) (collect : Bool) → IsHostOf x h → Pauses x y h collect → IsHostOf y (behind_pause y h)
paused_host x y h collect is paused = record {
  heap = paused.heap.holds;
  bytes = ap (λ (z : HostHeap). z.bytes) paused.rest;
  named = still_named x y (ap registers_in paused.rest) (ap (λ (t : LargeTerms). t.registers) paused.heap.terms) is.named;
}

pub renewed_host : (x y : HostHeap) (h k : List LargeItem) → IsHostOf x h → Renews x y h k → IsHostOf y k
renewed_host x y h k is renewed = subst (IsHostOf y) (sym renewed.history) (record {
  heap = renewed.heap.holds;
  bytes = ap (λ (z : HostHeap). z.bytes) renewed.rest ∙ is.bytes;
  named = still_named x y (ap registers_in renewed.rest) (ap (λ (t : LargeTerms). t.registers) renewed.heap.terms) is.named;
})

pub replied_host : (x y : HostHeap) (h : List LargeItem) (o : LargeOp) (r : LargeReply) → IsHostOf x h → Replies x y h o r → IsHostOf y (Called o r ∷ h)
replied_host x y h o r is replies = record {
  heap = replies.heap.holds;
  bytes = ap (λ (z : HostHeap). z.bytes) replies.rest ∙ ap (λ n. n + bytes_by o r) is.bytes;
  named = still_named x y (ap registers_in replies.rest) (ap (λ (t : LargeTerms). t.registers) replies.heap.terms) is.named;
}

-- for the history nothing happens in a slice
pub worked_host : (x y : HostHeap) (h : List LargeItem) (units : ℕ) (next : Option ℕ) (slice : Slice) → IsHostOf x h → Works x y h units next slice → IsHostOf y h
worked_host x y h units next slice is works = record {
  heap = works.heap.holds;
  bytes = ap (λ (z : HostHeap). z.bytes) works.rest ∙ is.bytes;
  named = still_named x y (ap registers_in works.rest) (ap (λ (z : Heap). z.space.limits.registers) works.heap.heap) is.named;
}

pub sliced_host : (x y : HostHeap) (h : List LargeItem) → IsHostOf x h → WorksWhere x h y → IsHostOf y h
sliced_host x y h is (inl (due, slice, works)) = worked_host x y h _ _ slice is works
sliced_host x y h is (inr (none, left)) = subst (λ (z : HostHeap). IsHostOf z h) (sym left) is

-- words that are put take no bytes
puts_bytes : (h : List LargeItem) (base i : ℕ) (words : List ℕ) → bytes_made (with_puts h base i words) ≡ bytes_made h
puts_bytes h base i [] = refl
puts_bytes h base i (w ∷ words) =
    let rest = puts_bytes (Called (large_op.BigPut base i w) large_reply.Put ∷ h) base (i + 1) words in
    omega (arith, rest)

pub written_bytes : (r : BodyReply) (h : List LargeItem) (base i : ℕ) (words : List ℕ) → bytes_made (with_written r h base i words) ≡ bytes_made h
written_bytes body_reply.Done h base i words = puts_bytes h base i words
written_bytes body_reply.Bad h base i words = refl
written_bytes body_reply.Range h base i words = refl
