use Rattle.std.proofs.Common.{subst, [], ◌∷◌}
use Rattle.lxr_graph.specs.declared.Op.TheVariants as op
use Rattle.lxr_large_model.specs.declared.LargeOp.TheVariants as large_op
use Rattle.lxr_c_arrays.specs.Operations.{nil_of}
use Rattle.lxr_c_arrays.specs.Running.{Runs}
use Rattle.lxr_c_arrays.proofs.StepLemmas.{nil_done, replied_in_turn, replied_same}
use Rattle.lxr_c_arrays.proofs.steps.nil.Goals as goal

pub returns-clause-runs : goal.returns-clause-runs
returns-clause-runs c = λ h is.
    let x = c.args.heap.now in
    let y = c.reply.new.self in
    let (k, ran) = replied_in_turn x y (large_op.Small (op.Nil c.args.dest)) c.reply.result c.reply.ensures.replies h is in
    (k, subst (Runs x h (nil_of c.args.dest ∷ []) y k) (nil_done x y h c.args.dest c.reply.result (c.reply.ensures.replies h is.heap)) ran)

pub returns-clause-same : goal.returns-clause-same
returns-clause-same c = replied_same c.args.heap.now c.reply.new.self (large_op.Small (op.Nil c.args.dest)) c.reply.result c.requires.serving.holds c.reply.ensures.replies
