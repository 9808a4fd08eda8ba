use Rattle.std.proofs.Common.{subst, [], ◌∷◌}
use Rattle.lxr_c_arrays.specs.Operations.{store_of}
use Rattle.lxr_c_arrays.specs.Running.{InTurn}
use Rattle.lxr_c_arrays.proofs.RunLemmas.{same_on}
use Rattle.lxr_c_arrays.proofs.steps.store.Goals as goal

pub returns-then-try_store-clause-runs : goal.returns-then-try_store-clause-runs
returns-then-try_store-clause-runs c = c.try_store.ensures.runs c.if-try_store.true

pub returns-clause-runs : goal.returns-clause-runs
returns-clause-runs c = subst (λ x. InTurn x (store_of c.args.base c.args.index c.args.source ∷ []) c.store_aside.new.heap c.store_aside.result) (c.try_store.ensures.unchanged c.if-try_store.false) c.store_aside.ensures.runs

pub returns-clause-same : goal.returns-clause-same
returns-clause-same c = same_on c.args.heap.now c.try_store.new.heap c.store_aside.new.heap c.try_store.ensures.same c.store_aside.ensures.same
