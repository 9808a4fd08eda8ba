use Rattle.std.proofs.Common.{sym, subst, [], ◌∷◌}
use Rattle.lxr_graph.specs.declared.Op.TheVariants as op
use Rattle.lxr_large_model.specs.declared.LargeOp.TheVariants as large_op
use Rattle.lxr_c_arrays.specs.Operations.{load_of}
use Rattle.lxr_c_arrays.specs.Running.{InTurn}
use Rattle.lxr_c_arrays.proofs.StepLemmas.{replied_in_turn, replied_same}
use Rattle.lxr_c_arrays.proofs.steps.load_aside.Goals as goal

pub returns-clause-runs : goal.returns-clause-runs
returns-clause-runs c =
    subst (InTurn c.args.heap.now (load_of c.args.dest c.args.base c.args.index ∷ []) c.reply.new.self) (sym c.code_of.ensures)
    (replied_in_turn c.args.heap.now c.reply.new.self (large_op.Small (op.Load c.args.dest c.args.base c.args.index)) c.reply.result c.reply.ensures.replies)

pub returns-clause-same : goal.returns-clause-same
returns-clause-same c = replied_same c.args.heap.now c.reply.new.self (large_op.Small (op.Load c.args.dest c.args.base c.args.index)) c.reply.result c.requires.serving.holds c.reply.ensures.replies
