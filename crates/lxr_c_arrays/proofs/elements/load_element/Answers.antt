use Rattle.std.proofs.Common.{◌∷◌, [], subst}
use Rattle.lxr_c_arrays.specs.Operations.{load_of}
use Rattle.lxr_c_arrays.specs.Sides.{enter_steps, holder, index_at}
use Rattle.lxr_c_arrays.specs.Running.{InTurn}
use Rattle.lxr_c_arrays.proofs.RunLemmas.{same_on, turn_on, turn_stop}
use Rattle.lxr_c_arrays.proofs.elements.load_element.Goals as goal

pub returns-in-Done-clause-runs : goal.returns-in-Done-clause-runs
returns-in-Done-clause-runs c =
    let first = enter_steps c.args.side c.args.index in
    turn_on c.args.heap.now c.enter.new.heap c.load.new.heap first (load_of c.args.dest (holder c.args.side) (index_at c.args.side c.args.index) ∷ []) c.load.result (subst (λ q. InTurn c.args.heap.now first c.enter.new.heap q) c.in-Done.is c.enter.ensures.runs)
    (subst (λ b. InTurn c.enter.new.heap (load_of c.args.dest b (index_at c.args.side c.args.index) ∷ []) c.load.new.heap c.load.result) c.holder.ensures
    (subst (λ i. InTurn c.enter.new.heap (load_of c.args.dest c.holder.result i ∷ []) c.load.new.heap c.load.result) c.index_at.ensures c.load.ensures.runs))

pub returns-in-Done-clause-same : goal.returns-in-Done-clause-same
returns-in-Done-clause-same c = same_on c.args.heap.now c.enter.new.heap c.load.new.heap c.enter.ensures.same c.load.ensures.same

pub returns-in_default-clause-runs : goal.returns-in_default-clause-runs
returns-in_default-clause-runs c = turn_stop c.args.heap.now c.enter.new.heap (enter_steps c.args.side c.args.index) (load_of c.args.dest (holder c.args.side) (index_at c.args.side c.args.index) ∷ []) c.enter.result c.enter.ensures.runs c.in_default.not-Done
