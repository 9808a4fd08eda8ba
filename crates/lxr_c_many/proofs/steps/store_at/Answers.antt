use Rattle.std.proofs.Common.{arith, refl, subst}
use mathlib.Core.Logic.{∥∥₁_elim}
use Rattle.lxr_graph.specs.declared.Op.TheVariants as op
use Rattle.lxr_graph.specs.declared.Reply.TheVariants as reply
use Rattle.lxr_large_model.specs.declared.LargeOp.TheVariants as large_op
use Rattle.lxr_large_model.specs.declared.LargeReply.TheVariants as large_reply
use Rattle.lxr_heap.specs.Acting.{Acts as HeapActs}
use Rattle.lxr_heap.specs.Known.{acted_if}
use Rattle.lxr_c_heap.proofs.RegisterLemmas.{named_few}
use Rattle.lxr_c_many.proofs.StepLemmas.{no_bytes, replied_serves}
use Rattle.lxr_c_many.proofs.steps.store_at.Goals as goal

pub store_to-requires-clause-register : goal.store_to-requires-clause-register
store_to-requires-clause-register c =
    let few = named_few c.args.heap.now c.requires.serving.holds in
    let named = c.requires.registers.0 in
    omega (arith, few, named)

pub store_to-requires-clause-source : goal.store_to-requires-clause-source
store_to-requires-clause-source c =
    let few = named_few c.args.heap.now c.requires.serving.holds in
    let named = c.requires.registers.1 in
    omega (arith, few, named)

pub unreachable-requires : goal.unreachable-requires
unreachable-requires c = ∥∥₁_elim c.requires.ready (λ x y. absurd x) (λ of.
    let (h, wants) = of in
    wants.logs (subst (λ b. HeapActs c.args.heap.now.heap c.store_to.new.self h (large_op.Small (op.Store c.args.object.register c.args.index c.args.source)) (acted_if b)) c.if-not-store_to.true (c.store_to.ensures.acts h wants.holds)).0)

pub returns-clause-stored : goal.returns-clause-stored
returns-clause-stored c = λ h is. record {
  heap = subst (λ b. HeapActs c.args.heap.now.heap c.store_to.new.self h (large_op.Small (op.Store c.args.object.register c.args.index c.args.source)) (acted_if b)) c.if-not-store_to.false (c.store_to.ensures.acts h is);
  rest = no_bytes c.args.heap.now c.store_to.new.self;
}

pub returns-clause-registers : goal.returns-clause-registers
returns-clause-registers c = refl

pub returns-clause-serving : goal.returns-clause-serving
returns-clause-serving c =
    replied_serves c.args.heap.now c.store_to.new.self (large_op.Small (op.Store c.args.object.register c.args.index c.args.source)) (λ h. large_reply.Small reply.Stored) (λ h. (refl, refl)) c.requires.serving
    (λ h is. subst (λ b. HeapActs c.args.heap.now.heap c.store_to.new.self h (large_op.Small (op.Store c.args.object.register c.args.index c.args.source)) (acted_if b)) c.if-not-store_to.false (c.store_to.ensures.acts h is))
