-- What an operation on a field comes to where it may find no such field.
use Rattle.std.specs.Prelude.{ℕ, ◌⊎◌, ⊤, List}
use Rattle.lxr_graph.specs.declared.Op.{Op}
use Rattle.lxr_graph.specs.declared.Op.TheVariants as op
use Rattle.lxr_graph.specs.declared.Reply.{Reply}
use Rattle.lxr_graph.specs.declared.Reply.TheVariants as reply
use Rattle.lxr_direct.specs.Operating.{IsToRecord}
use Rattle.lxr_direct.specs.Trying.{IsMissing}
use Rattle.lxr_large_model.specs.declared.LargeOp.TheVariants as large_op
use Rattle.lxr_large_model.specs.declared.LargeReply.TheVariants as large_reply
use Rattle.lxr_large_model.specs.History.{LargeItem, large_moment, large_state}
use Rattle.lxr_large_model.specs.Step.{IsLargeReply}
use Rattle.lxr_heap.specs.declared.heap.Heap.{Heap}
use Rattle.lxr_heap.specs.Acting.{IsReplied}
use Rattle.lxr_heap.specs.Holding.{IsHeapOf}

-- a reply that a field was loaded, written or stored to, or that a register became nil
abbrev pub IsDoing : Reply → Type 0
IsDoing (reply.Loaded held) = ⊤
IsDoing reply.Put = ⊤
IsDoing reply.Stored = ⊤
IsDoing reply.Cleared = ⊤
IsDoing r = ⊥

-- an operation on a field or a register was done, with one reply whatever history the heap is of
abbrev pub Does : Heap → Heap → Op → Type 0
Does before after o = (r : Reply) × IsDoing r × ((h : List LargeItem) → IsHeapOf before h → IsReplied before after h (large_op.Small o) (large_reply.Small r))

-- the reply of a step is that there is no such field
abbrev pub Misses : List LargeItem → Op → Type 0
Misses h o = (r : Reply) × IsMissing r × IsLargeReply (large_state h) (large_op.Small o) (large_reply.Small r)

-- a store isn't done at once: the reply of a step is that there is no such reference, or what the reference holds has to be recorded
abbrev pub StaysAside : List LargeItem → ℕ → ℕ → ℕ → Type 0
StaysAside h base i source = Misses h (op.Store base i source) ⊎ IsToRecord (large_moment h) 1 base i
