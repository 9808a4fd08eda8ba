use Rattle.std.proofs.Common.{sym, subst, [], ◌∷◌}
use Rattle.lxr_graph.specs.declared.Op.TheVariants as op
use Rattle.lxr_large_model.specs.declared.LargeOp.TheVariants as large_op
use Rattle.lxr_c_arrays.specs.Operations.{new_of}
use Rattle.lxr_c_arrays.specs.Running.{InTurn}
use Rattle.lxr_c_arrays.proofs.StepLemmas.{made_in_turn, made_same}
use Rattle.lxr_c_arrays.proofs.steps.make.Goals as goal

pub returns-clause-runs : goal.returns-clause-runs
returns-clause-runs c =
    subst (InTurn c.args.heap.now (new_of c.args.dest c.args.shape.refs c.args.shape.values ∷ []) c.make.new.self) (sym c.code_of.ensures)
    (made_in_turn c.args.heap.now c.make.new.self (large_op.Small (op.New c.args.dest c.args.shape)) c.make.result c.make.ensures.makes)

pub returns-clause-same : goal.returns-clause-same
returns-clause-same c = made_same c.args.heap.now c.make.new.self (large_op.Small (op.New c.args.dest c.args.shape)) c.make.result c.requires.serving.holds c.make.ensures.makes
