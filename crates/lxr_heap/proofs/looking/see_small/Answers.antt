use Rattle.std.proofs.Common.{◌+◌, sym, subst}
use Rattle.lxr_graph.specs.declared.Op.{Op}
use Rattle.lxr_graph.specs.declared.Op.TheVariants as op
use Rattle.lxr_graph.specs.declared.Reply.TheVariants as reply
use Rattle.lxr_large_model.specs.declared.LargeOp.TheVariants as large_op
use Rattle.lxr_large_model.specs.declared.LargeReply.TheVariants as large_reply
use Rattle.lxr_large_model.specs.History.{large_state}
use Rattle.lxr_large_model.specs.Step.{IsLargeReply}
use Rattle.lxr_heap.specs.Holding.{abstract_of}
use Rattle.lxr_heap.proofs.HeapLemmas.{may_operate}
use Rattle.lxr_heap.proofs.LookingLemmas.{small_reply}
use Rattle.lxr_heap.proofs.looking.see_small.Goals as goal

pub get-requires : goal.get-requires
get-requires c = let (h, is) = c.requires.holds in record { state = (abstract_of c.args.heap.now h is.at, c.args.heap.now.made + 1, may_operate c.args.heap.now h is) }

pub same-requires : goal.same-requires
same-requires c = let (h, is) = c.requires.holds in record { state = (abstract_of c.args.heap.now h is.at, c.args.heap.now.made + 1, may_operate c.args.heap.now h is) }

pub returns-in-Get : goal.returns-in-Get
returns-in-Get c = λ h is.
    let x = c.args.heap.now in
    subst (λ (o : Op). IsLargeReply (large_state h) (large_op.Small o) (large_reply.Small c.get.result)) (sym c.in-Get.is)
    (small_reply x h is (op.Get c.in-Get.base c.in-Get.index) c.get.result (c.get.ensures (abstract_of x h is.at) (x.made + 1) (may_operate x h is)).reply)

pub returns-in-Same : goal.returns-in-Same
returns-in-Same c = λ h is.
    let x = c.args.heap.now in
    subst (λ (o : Op). IsLargeReply (large_state h) (large_op.Small o) (large_reply.Small (reply.Same c.same.result))) (sym c.in-Same.is)
    (small_reply x h is (op.Same c.in-Same.left c.in-Same.right) (reply.Same c.same.result) (c.same.ensures (abstract_of x h is.at) (x.made + 1) (may_operate x h is)).reply)
