use Rattle.std.proofs.Common.{subst, List}
use Rattle.lxr_graph.specs.declared.Op.TheVariants as op
use Rattle.lxr_large_model.specs.declared.LargeOp.TheVariants as large_op
use Rattle.lxr_large_model.specs.History.{LargeItem}
use Rattle.lxr_heap.specs.Acting.{Acts}
use Rattle.lxr_heap.specs.Holding.{IsHeapOf}
use Rattle.lxr_heap.specs.Known.{acted_if}
use Rattle.lxr_heap.proofs.ActingLemmas.{still_holds}
use Rattle.lxr_heap.proofs.LargeHeap.store_to.Goals as goal

pub invariant_of-self : goal.invariant_of-self
invariant_of-self c =
    let (h, is) = c.self.invariant in
    still_holds c.self.inside.heap c.store_reference.new.heap h (large_op.Small (op.Store c.args.object.register c.args.index c.args.source)) (acted_if c.store_reference.result) is (c.store_reference.ensures.acts h is)

pub returns-clause-acts : goal.returns-clause-acts
returns-clause-acts c =
    subst (λ x. (h : List LargeItem) → IsHeapOf x h → Acts x c.store_reference.new.heap h (large_op.Small (op.Store c.args.object.register c.args.index c.args.source)) (acted_if c.store_reference.result)) c.self.view_is c.store_reference.ensures.acts
