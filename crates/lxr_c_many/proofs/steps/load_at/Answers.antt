use Rattle.std.proofs.Common.{arith, refl}
use Rattle.lxr_graph.specs.declared.Op.TheVariants as op
use Rattle.lxr_graph.specs.declared.Reply.TheVariants as reply
use Rattle.lxr_large_model.specs.declared.LargeOp.TheVariants as large_op
use Rattle.lxr_large_model.specs.declared.LargeReply.TheVariants as large_reply
use Rattle.lxr_large_model.specs.History.{large_state}
use Rattle.lxr_c_many.specs.Fields.{reference_at}
use Rattle.lxr_c_heap.proofs.RegisterLemmas.{named_few}
use Rattle.lxr_c_many.proofs.StepLemmas.{no_bytes, replied_serves}
use Rattle.lxr_c_many.proofs.steps.load_at.Goals as goal

pub load_from-requires-clause-dest : goal.load_from-requires-clause-dest
load_from-requires-clause-dest c =
    let few = named_few c.args.heap.now c.requires.serving.holds in
    let named = c.requires.registers.0 in
    omega (arith, few, named)

pub load_from-requires-clause-register : goal.load_from-requires-clause-register
load_from-requires-clause-register c =
    let few = named_few c.args.heap.now c.requires.serving.holds in
    let named = c.requires.registers.1 in
    omega (arith, few, named)

pub returns-clause-loaded : goal.returns-clause-loaded
returns-clause-loaded c = λ h is. record { heap = c.load_from.ensures.replied h is; rest = no_bytes c.args.heap.now c.load_from.new.self }

pub returns-clause-registers : goal.returns-clause-registers
returns-clause-registers c = refl

pub returns-clause-serving : goal.returns-clause-serving
returns-clause-serving c =
    replied_serves c.args.heap.now c.load_from.new.self (large_op.Small (op.Load c.args.dest c.args.object.register c.args.index)) (λ h. large_reply.Small (reply.Loaded (reference_at (large_state h) c.args.object.register c.args.index))) (λ h. (refl, refl)) c.requires.serving c.load_from.ensures.replied
