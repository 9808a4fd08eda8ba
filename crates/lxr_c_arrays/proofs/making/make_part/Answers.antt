use Rattle.std.proofs.Common.{◌++◌, ◌∷◌, [], subst}
use Rattle.lxr_c_arrays.specs.Operations.{new_of, store_of}
use Rattle.lxr_c_arrays.specs.Running.{InTurn}
use Rattle.lxr_c_arrays.proofs.RunLemmas.{same_on, turn_on, turn_stop}
use Rattle.lxr_c_arrays.proofs.making.make_part.Goals as goal

pub returns-in-Done-clause-runs : goal.returns-in-Done-clause-runs
returns-in-Done-clause-runs c =
    let first = new_of c.args.own.second c.part_length.result 0 ∷ [] in
    subst (λ n. InTurn c.args.heap.now ((new_of c.args.own.second n 0 ∷ []) ++ (store_of c.args.own.first c.args.n c.args.own.second ∷ [])) c.store.new.heap c.store.result) c.part_length.ensures.length
    (turn_on c.args.heap.now c.make.new.heap c.store.new.heap first (store_of c.args.own.first c.args.n c.args.own.second ∷ []) c.store.result (subst (λ q. InTurn c.args.heap.now first c.make.new.heap q) c.in-Done.is c.make.ensures.runs) c.store.ensures.runs)

pub returns-in-Done-clause-same : goal.returns-in-Done-clause-same
returns-in-Done-clause-same c = same_on c.args.heap.now c.make.new.heap c.store.new.heap c.make.ensures.same c.store.ensures.same

pub returns-in_default-clause-runs : goal.returns-in_default-clause-runs
returns-in_default-clause-runs c =
    subst (λ n. InTurn c.args.heap.now ((new_of c.args.own.second n 0 ∷ []) ++ (store_of c.args.own.first c.args.n c.args.own.second ∷ [])) c.make.new.heap c.make.result) c.part_length.ensures.length
    (turn_stop c.args.heap.now c.make.new.heap (new_of c.args.own.second c.part_length.result 0 ∷ []) (store_of c.args.own.first c.args.n c.args.own.second ∷ []) c.make.result c.make.ensures.runs c.in_default.not-Done)
