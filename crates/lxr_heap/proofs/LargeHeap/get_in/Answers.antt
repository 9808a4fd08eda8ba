use Rattle.std.proofs.Common.{subst, List}
use Rattle.lxr_graph.specs.declared.Op.TheVariants as op
use Rattle.lxr_graph.specs.declared.Reply.TheVariants as reply
use Rattle.lxr_large_model.specs.declared.LargeOp.TheVariants as large_op
use Rattle.lxr_large_model.specs.declared.LargeReply.TheVariants as large_reply
use Rattle.lxr_large_model.specs.History.{LargeItem, large_state}
use Rattle.lxr_large_model.specs.Step.{IsLargeReply}
use Rattle.lxr_heap.specs.Holding.{IsHeapOf}
use Rattle.lxr_heap.proofs.LargeHeap.get_in.Goals as goal

pub returns : goal.returns
returns c = subst (λ x. (h : List LargeItem) → IsHeapOf x h → IsLargeReply (large_state h) (large_op.Small (op.Get c.args.object.register c.args.index)) (large_reply.Small (reply.Got c.read_word.result))) c.self.view_is c.read_word.ensures
