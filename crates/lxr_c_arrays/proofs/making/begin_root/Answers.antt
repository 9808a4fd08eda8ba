use Rattle.std.proofs.Common.{◌++◌, ◌∷◌, [], subst}
use Rattle.lxr_c_arrays.specs.Operations.{new_of, put_of}
use Rattle.lxr_c_arrays.specs.Running.{InTurn}
use Rattle.lxr_c_arrays.proofs.RunLemmas.{same_on, turn_on, turn_stop}
use Rattle.lxr_c_arrays.proofs.making.begin_root.Goals as goal

pub returns-in-Done-clause-runs : goal.returns-in-Done-clause-runs
returns-in-Done-clause-runs c =
    let first = new_of c.args.own.first c.parts_of.result 1 ∷ [] in
    subst (λ n. InTurn c.args.heap.now ((new_of c.args.own.first n 1 ∷ []) ++ (put_of c.args.own.first 0 c.args.elements ∷ [])) c.put.new.heap c.put.result) c.parts_of.ensures.parts
    (turn_on c.args.heap.now c.make.new.heap c.put.new.heap first (put_of c.args.own.first 0 c.args.elements ∷ []) c.put.result (subst (λ q. InTurn c.args.heap.now first c.make.new.heap q) c.in-Done.is c.make.ensures.runs)
    (subst (λ v. InTurn c.make.new.heap (put_of c.args.own.first 0 v ∷ []) c.put.new.heap c.put.result) c.from.ensures c.put.ensures.runs))

pub returns-in-Done-clause-same : goal.returns-in-Done-clause-same
returns-in-Done-clause-same c = same_on c.args.heap.now c.make.new.heap c.put.new.heap c.make.ensures.same c.put.ensures.same

pub returns-in_default-clause-runs : goal.returns-in_default-clause-runs
returns-in_default-clause-runs c =
    subst (λ n. InTurn c.args.heap.now ((new_of c.args.own.first n 1 ∷ []) ++ (put_of c.args.own.first 0 c.args.elements ∷ [])) c.make.new.heap c.make.result) c.parts_of.ensures.parts
    (turn_stop c.args.heap.now c.make.new.heap (new_of c.args.own.first c.parts_of.result 1 ∷ []) (put_of c.args.own.first 0 c.args.elements ∷ []) c.make.result c.make.ensures.runs c.in_default.not-Done)
