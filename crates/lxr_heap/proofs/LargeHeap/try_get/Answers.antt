use Rattle.std.proofs.Common.{subst, List}
use Rattle.std.specs.Prelude.{IfNone, IfSome}
use Rattle.lxr_graph.specs.declared.Op.TheVariants as op
use Rattle.lxr_graph.specs.declared.Reply.TheVariants as reply
use Rattle.lxr_large_model.specs.declared.LargeOp.TheVariants as large_op
use Rattle.lxr_large_model.specs.declared.LargeReply.TheVariants as large_reply
use Rattle.lxr_large_model.specs.History.{LargeItem, large_state}
use Rattle.lxr_large_model.specs.Step.{IsLargeReply}
use Rattle.lxr_heap.specs.Holding.{IsHeapOf}
use Rattle.lxr_heap.specs.Trying.{Misses}
use Rattle.lxr_heap.proofs.LargeHeap.try_get.Goals as goal

pub returns-clause-got : goal.returns-clause-got
returns-clause-got c =
    subst (λ x. IfSome c.get.result (λ word. (h : List LargeItem) → IsHeapOf x h → IsLargeReply (large_state h) (large_op.Small (op.Get c.args.base c.args.index)) (large_reply.Small (reply.Got word)))) c.self.view_is c.get.ensures.got

pub returns-clause-misses : goal.returns-clause-misses
returns-clause-misses c = subst (λ x. IfNone c.get.result ((h : List LargeItem) → IsHeapOf x h → Misses h (op.Get c.args.base c.args.index))) c.self.view_is c.get.ensures.misses
