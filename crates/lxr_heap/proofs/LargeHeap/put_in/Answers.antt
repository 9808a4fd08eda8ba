use Rattle.std.proofs.Common.{subst, List}
use Rattle.lxr_graph.specs.declared.Op.TheVariants as op
use Rattle.lxr_graph.specs.declared.Reply.TheVariants as reply
use Rattle.lxr_large_model.specs.declared.LargeOp.TheVariants as large_op
use Rattle.lxr_large_model.specs.declared.LargeReply.TheVariants as large_reply
use Rattle.lxr_large_model.specs.History.{LargeItem}
use Rattle.lxr_heap.specs.Acting.{IsReplied}
use Rattle.lxr_heap.specs.Holding.{IsHeapOf}
use Rattle.lxr_heap.proofs.LargeHeap.put_in.Goals as goal

pub invariant_of-self : goal.invariant_of-self
invariant_of-self c = let (h, is) = c.self.invariant in (_, (c.write_word.ensures.replied h is).holds)

pub returns-clause-replied : goal.returns-clause-replied
returns-clause-replied c = subst (λ x. (h : List LargeItem) → IsHeapOf x h → IsReplied x c.write_word.new.heap h (large_op.Small (op.Put c.args.object.register c.args.index c.args.value)) (large_reply.Small reply.Put)) c.self.view_is c.write_word.ensures.replied
