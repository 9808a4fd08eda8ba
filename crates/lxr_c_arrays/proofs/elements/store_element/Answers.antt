use Rattle.std.proofs.Common.{◌∷◌, [], subst}
use Rattle.lxr_c_arrays.specs.Operations.{store_of}
use Rattle.lxr_c_arrays.specs.Sides.{entering, holder, index_at}
use Rattle.lxr_c_arrays.specs.Running.{InTurn}
use Rattle.lxr_c_arrays.proofs.RunLemmas.{same_on, turn_on, turn_stop}
use Rattle.lxr_c_arrays.proofs.elements.store_element.Goals as goal

pub returns-in-Done-clause-runs : goal.returns-in-Done-clause-runs
returns-in-Done-clause-runs c =
    let first = entering c.args.side c.args.enters c.args.index in
    turn_on c.args.heap.now c.enter_if.new.heap c.store.new.heap first (store_of (holder c.args.side) (index_at c.args.side c.args.index) c.args.source ∷ []) c.store.result (subst (λ q. InTurn c.args.heap.now first c.enter_if.new.heap q) c.in-Done.is c.enter_if.ensures.runs)
    (subst (λ b. InTurn c.enter_if.new.heap (store_of b (index_at c.args.side c.args.index) c.args.source ∷ []) c.store.new.heap c.store.result) c.holder.ensures
    (subst (λ i. InTurn c.enter_if.new.heap (store_of c.holder.result i c.args.source ∷ []) c.store.new.heap c.store.result) c.index_at.ensures c.store.ensures.runs))

pub returns-in-Done-clause-same : goal.returns-in-Done-clause-same
returns-in-Done-clause-same c = same_on c.args.heap.now c.enter_if.new.heap c.store.new.heap c.enter_if.ensures.same c.store.ensures.same

pub returns-in_default-clause-runs : goal.returns-in_default-clause-runs
returns-in_default-clause-runs c = turn_stop c.args.heap.now c.enter_if.new.heap (entering c.args.side c.args.enters c.args.index) (store_of (holder c.args.side) (index_at c.args.side c.args.index) c.args.source ∷ []) c.enter_if.result c.enter_if.ensures.runs c.in_default.not-Done
