use Rattle.lxr_graph.specs.declared.Op.TheVariants as op
use Rattle.lxr_large_model.specs.declared.LargeOp.TheVariants as large_op
use Rattle.lxr_c_heap.specs.Hosting.{all_registers_in, registers_in}
use Rattle.lxr_c_heap.proofs.OperationLemmas.{quiet_more}
use Rattle.lxr_c_heap.proofs.RegisterLemmas.{known, named_few, replied_keeps}
use Rattle.lxr_c_many.proofs.StepLemmas.{nil_done}
use Rattle.lxr_c_many.proofs.steps.nil_at.Goals as goal

pub reply-requires-clause-op : goal.reply-requires-clause-op
reply-requires-clause-op c =
    let x = c.args.heap.now in
    quiet_more (registers_in x) (all_registers_in x) (large_op.Small (op.Nil c.args.dest)) (named_few x c.requires.serving.holds) (c.requires.dest, tt)

pub returns-clause-cleared : goal.returns-clause-cleared
returns-clause-cleared c = λ h is. nil_done c.args.heap.now c.reply.new.self h c.args.dest c.reply.result (c.reply.ensures.replies h is)

pub returns-clause-registers : goal.returns-clause-registers
returns-clause-registers c = known c.args.heap.now _ _ c.requires.serving.holds (λ h is. replied_keeps c.args.heap.now c.reply.new.self h _ c.reply.result (c.reply.ensures.replies h is.heap))
