-- What stands against an operation on a field that was tried.
use Rattle.std.specs.Prelude.{ℕ, ◌⊎◌, ⊤, None, Some, List, Ok, Err}
use Rattle.lxr_graph.specs.declared.Op.TheVariants as op
use Rattle.lxr_graph.specs.declared.Reply.TheVariants as reply
use Rattle.lxr_large_model.specs.declared.LargeOp.TheVariants as large_op
use Rattle.lxr_large_model.specs.declared.LargeReply.TheVariants as large_reply
use Rattle.lxr_large_model.specs.History.{LargeItem, large_state}
use Rattle.lxr_large_model.specs.Step.{IsLargeReply}
use Rattle.lxr_heap.specs.Holding.{IsHeapOf}
use Rattle.lxr_heap.specs.Trying as heap
use Rattle.lxr_c_base.specs.Requests.{Request}
use Rattle.lxr_c_heap.specs.declared.host.TheConstants.{ENDS}
use Rattle.lxr_c_heap.specs.Hosting.{IsAtEnd, IsHostOf}
use Rattle.lxr_c_heap.specs.Keeping.{Kept}

-- there is no heap, or the numbers of the request don't fit, or the reply of a step is that there is no such field
abbrev pub Misses : Kept → Request → Type 0
Misses None request = ⊤
Misses (Some x) (Err e) = ⊤
Misses (Some x) (Ok (large_op.Small o)) = (h : List LargeItem) → IsHostOf x h → heap.Misses h o
Misses (Some x) (Ok o) = ⊥

-- there is a heap, the numbers of the request fit, and the reply of a step tells this word
abbrev pub Finds : Kept → Request → ℕ → Type 0
Finds None request word = ⊥
Finds (Some x) (Err e) word = ⊥
Finds (Some x) (Ok o) word = (h : List LargeItem) → IsHeapOf x.heap h → IsLargeReply (large_state h) o (large_reply.Small (reply.Got word))

-- A store isn't done at once: there is no heap, or the numbers of the request don't fit, or the heap is at an end, or its store isn't done at once.
abbrev pub StaysAside : Kept → Request → Type 0
StaysAside None request = ⊤
StaysAside (Some x) (Err e) = ⊤
StaysAside (Some x) (Ok (large_op.Small (op.Store base i source))) = IsAtEnd ENDS x ⊎ ((h : List LargeItem) → IsHostOf x h → heap.StaysAside h base i source)
StaysAside (Some x) (Ok o) = ⊥
