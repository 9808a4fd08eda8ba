use Rattle.std.proofs.Common.{arith, refl}
use Rattle.lxr_graph.specs.declared.Op.TheVariants as op
use Rattle.lxr_graph.specs.declared.Reply.TheVariants as reply
use Rattle.lxr_large_model.specs.declared.LargeOp.TheVariants as large_op
use Rattle.lxr_large_model.specs.declared.LargeReply.TheVariants as large_reply
use Rattle.lxr_c_heap.proofs.RegisterLemmas.{named_few}
use Rattle.lxr_c_many.proofs.StepLemmas.{no_bytes, replied_serves}
use Rattle.lxr_c_many.proofs.steps.put_at.Goals as goal

pub put_in-requires-clause-register : goal.put_in-requires-clause-register
put_in-requires-clause-register c =
    let few = named_few c.args.heap.now c.requires.serving.holds in
    let named = c.requires.base in
    omega (arith, few, named)

pub returns-clause-put : goal.returns-clause-put
returns-clause-put c = λ h is. record { heap = c.put_in.ensures.replied h is; rest = no_bytes c.args.heap.now c.put_in.new.self }

pub returns-clause-registers : goal.returns-clause-registers
returns-clause-registers c = refl

pub returns-clause-serving : goal.returns-clause-serving
returns-clause-serving c =
    replied_serves c.args.heap.now c.put_in.new.self (large_op.Small (op.Put c.args.object.register c.args.index c.args.value)) (λ h. large_reply.Small (reply.Put)) (λ h. (refl, refl)) c.requires.serving c.put_in.ensures.replied
