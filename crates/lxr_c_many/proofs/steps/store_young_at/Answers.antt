use Rattle.std.proofs.Common.{arith, refl}
use Rattle.lxr_graph.specs.declared.Op.TheVariants as op
use Rattle.lxr_graph.specs.declared.Reply.TheVariants as reply
use Rattle.lxr_large_model.specs.declared.LargeOp.TheVariants as large_op
use Rattle.lxr_large_model.specs.declared.LargeReply.TheVariants as large_reply
use Rattle.lxr_c_heap.proofs.RegisterLemmas.{named_few}
use Rattle.lxr_c_many.proofs.StepLemmas.{no_bytes, replied_serves}
use Rattle.lxr_c_many.proofs.steps.store_young_at.Goals as goal

pub store_young-requires-clause-register : goal.store_young-requires-clause-register
store_young-requires-clause-register c =
    let few = named_few c.args.heap.now c.requires.serving.holds in
    let named = c.requires.registers.0 in
    omega (arith, few, named)

pub store_young-requires-clause-source : goal.store_young-requires-clause-source
store_young-requires-clause-source c =
    let few = named_few c.args.heap.now c.requires.serving.holds in
    let named = c.requires.registers.1 in
    omega (arith, few, named)

pub returns-clause-stored : goal.returns-clause-stored
returns-clause-stored c = λ h is. record { heap = c.store_young.ensures.replied h is; rest = no_bytes c.args.heap.now c.store_young.new.self }

pub returns-clause-registers : goal.returns-clause-registers
returns-clause-registers c = refl

pub returns-clause-serving : goal.returns-clause-serving
returns-clause-serving c =
    replied_serves c.args.heap.now c.store_young.new.self (large_op.Small (op.Store c.args.object.register c.args.index c.args.source)) (λ h. large_reply.Small (reply.Stored)) (λ h. (refl, refl)) c.requires.serving c.store_young.ensures.replied
