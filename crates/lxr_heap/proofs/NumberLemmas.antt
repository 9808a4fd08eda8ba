-- What one call or one pause adds to the numbers of a heap.
use Rattle.std.proofs.Common.{◌≡◌, ℕ, ◌+◌, ◌<◌, ◌≤◌, ◌∙◌, refl, sym, ap, inl, inr, arith, Bool, List, ◌∷◌, length, ◌⊎◌, Option, Some, None}
use Rattle.lxr_layout.specs.declared.Name.{Name}
use Rattle.lxr_graph.specs.declared.Op.TheVariants as op
use Rattle.lxr_graph.specs.declared.Reply.{Reply}
use Rattle.lxr_graph.specs.declared.Reply.TheVariants as reply
use Rattle.lxr_graph.specs.History.{report_of}
use Rattle.lxr_graph.specs.State.{State, next_name, register_at, row_of}
use Rattle.lxr_graph.specs.Step.{fresh, make, step}
use Rattle.lxr_large_model.specs.declared.LargeOp.{LargeOp}
use Rattle.lxr_large_model.specs.declared.LargeOp.TheVariants as large_op
use Rattle.lxr_large_model.specs.declared.LargeReply.{LargeReply}
use Rattle.lxr_large_model.specs.declared.LargeReply.TheVariants as large_reply
use Rattle.lxr_large_model.specs.History.{LargeItem, Called, Paused, large_moment, large_state}
use Rattle.lxr_large_model.specs.State.{LargeState, body_of, handle}
use Rattle.lxr_large_model.specs.Step.{large_after, large_step, put_at, put_to, word_in}
use Rattle.lxr_large_model.proofs.HistoryLemmas.{same_number}
use Rattle.lxr_heap.specs.declared.heap.Heap.{Heap}
use Rattle.lxr_heap.specs.Acting.{IsCallable}
use Rattle.lxr_heap.specs.Holding.{IsHeapOf, abstract_of, made_with}
use Rattle.lxr_heap.specs.Pausing.{PausesHeap}
use Rattle.lxr_heap.proofs.HeapLemmas.{one_thread}
use Rattle.lxr_heap.proofs.MomentLemmas.{two_rows}
use Rattle.lxr_heap.proofs.RowLemmas.{make_counts, step_counts}

-- ---- pauses

-- a heap has made as many pauses as its history has
pub pauses_are : (x : Heap) (h : List LargeItem) → IsHeapOf x h → x.space.pauses ≡ (large_moment h).number
pauses_are x h is = is.stands.0.safepoint.numbers.pauses

-- a call makes none
pub called_pauses : (x y : Heap) (h : List LargeItem) (o : LargeOp) (r : LargeReply) → IsHeapOf x h → IsHeapOf y (Called o r ∷ h) → y.space.pauses ≡ x.space.pauses
called_pauses x y h o r is then = pauses_are y (Called o r ∷ h) then ∙ same_number o r h ∙ sym (pauses_are x h is)

-- and a pause is one more
pub paused_pauses : (x y : Heap) (h : List LargeItem) (collect : Bool) → IsHeapOf x h → PausesHeap x y h collect → y.space.pauses ≡ x.space.pauses + 1
paused_pauses x y h collect is then =
    pauses_are y (Paused (report_of y.space.report) ∷ h) then.holds ∙ then.holds.legal.1.reports.1.number ∙ ap (λ n. n + 1) (sym (pauses_are x h is))

-- ---- what was made

told_row : (before after : ℕ) (r : Reply) → after ≡ made_with before r → after ≤ before + 1
told_row before after (reply.New n) is = omega (arith, is)
told_row before after r is = omega (arith, is)

-- a call leaves the state, or steps
left_or_stepped : (s : LargeState) (o : LargeOp) (r : LargeReply) → (large_after s o r ≡ s) ⊎ (large_after s o r ≡ (large_step s o).0)
left_or_stepped s (large_op.Small (op.New dest shape)) (large_reply.Small reply.Full) = inl refl
left_or_stepped s (large_op.Big dest blocks) large_reply.Full = inl refl
left_or_stepped s o r = inr refl

-- a word that is put leaves the graph
put_leaves : (s : LargeState) (i value : ℕ) (v : Option Name) → (put_to s i value v).0.small ≡ s.small
put_leaves s i value None = refl
put_leaves s i value (Some n) = at_word (word_in (body_of s.large n) i)
  where
    at_word : (found : Option ℕ) → (put_at s n i value found).0.small ≡ s.small
    at_word None = refl
    at_word (Some old) = refl

-- a step makes one object at most
step_makes : (s : LargeState) (o : LargeOp) → 1 < length s.small.graph → IsCallable o → length (row_of (large_step s o).0.small.graph 1) ≤ length (row_of s.small.graph 1) + 1
step_makes s (large_op.Small o) rows may = told_row _ _ (step s.small 1 o).1 (step_counts s.small o rows may.1.1).length
step_makes s (large_op.Big dest blocks) rows may =
    told_row _ _ (make s.small 1 dest (fresh handle) (next_name s.small.graph 1)).1 (make_counts s.small dest handle rows).length
step_makes s (large_op.BigPut base index value) rows may =
    let same = ap (λ (z : State). length (row_of z.graph 1)) (put_leaves s index value (register_at s.small 1 base)) in
    omega (arith, same)
step_makes s (large_op.BigGet base index) rows may = omega arith

-- so does a call
call_makes : (s : LargeState) (o : LargeOp) (r : LargeReply) → 1 < length s.small.graph → IsCallable o → length (row_of (large_after s o r).small.graph 1) ≤ length (row_of s.small.graph 1) + 1
call_makes s o r rows may = elim (left_or_stepped s o r) [
  | inl left ↦ let same = ap (λ (z : LargeState). length (row_of z.small.graph 1)) left in omega (arith, same)
  | inr stepped ↦
      let same = ap (λ (z : LargeState). length (row_of z.small.graph 1)) stepped in
      let one = step_makes s o rows may in
      omega (arith, same, one)
]

-- a heap has made as many objects as the thread's row has
made_are : (x : Heap) (h : List LargeItem) → IsHeapOf x h → length (row_of (large_state h).small.graph 1) ≡ x.made
made_are x h is = let serial = ap (λ (n : Name). n.serial) is.next in omega (arith, serial)

-- a call makes one at most
pub called_makes : (x y : Heap) (h : List LargeItem) (o : LargeOp) (r : LargeReply) → IsHeapOf x h → IsHeapOf y (Called o r ∷ h) → IsCallable o → y.made ≤ x.made + 1
called_makes x y h o r is then may =
    let two = two_rows x.space (abstract_of x h is.at) is.stands.0 (one_thread x h is) in
    let same = ap (λ (z : State). length z.graph) is.state in
    let rows : 1 < length (large_state h).small.graph = omega (arith, two, same) in
    let more = call_makes (large_state h) o r rows may in
    let before = made_are x h is in
    let after = made_are y (Called o r ∷ h) then in
    omega (arith, more, before, after)
