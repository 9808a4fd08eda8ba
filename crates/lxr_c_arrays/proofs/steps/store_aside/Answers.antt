use Rattle.std.proofs.Common.{sym, subst, [], ◌∷◌}
use Rattle.lxr_graph.specs.declared.Op.TheVariants as op
use Rattle.lxr_large_model.specs.declared.LargeOp.TheVariants as large_op
use Rattle.lxr_c_arrays.specs.Operations.{store_of}
use Rattle.lxr_c_arrays.specs.Running.{InTurn}
use Rattle.lxr_c_arrays.proofs.StepLemmas.{stored_in_turn, stored_same}
use Rattle.lxr_c_arrays.proofs.steps.store_aside.Goals as goal

pub returns-clause-runs : goal.returns-clause-runs
returns-clause-runs c =
    subst (InTurn c.args.heap.now (store_of c.args.base c.args.index c.args.source ∷ []) c.store.new.self) (sym c.code_of.ensures)
    (stored_in_turn c.args.heap.now c.store.new.self (large_op.Small (op.Store c.args.base c.args.index c.args.source)) c.store.result c.store.ensures.stores)

pub returns-clause-same : goal.returns-clause-same
returns-clause-same c = stored_same c.args.heap.now c.store.new.self (large_op.Small (op.Store c.args.base c.args.index c.args.source)) c.store.result c.requires.serving.holds c.store.ensures.stores
