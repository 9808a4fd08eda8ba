use Rattle.std.proofs.Common.{◌∷◌, [], subst}
use Rattle.lxr_c_arrays.specs.Operations.{load_of}
use Rattle.lxr_c_arrays.specs.Sides.{last_in}
use Rattle.lxr_c_arrays.specs.Running.{InTurn}
use Rattle.lxr_c_arrays.proofs.RunLemmas.{same_on, turn_on, turn_stop}
use Rattle.lxr_c_arrays.proofs.checking.check_part.Goals as goal

pub returns-in-Done-clause-runs : goal.returns-in-Done-clause-runs
returns-in-Done-clause-runs c =
    let first = load_of c.args.at.part c.args.at.root c.args.part ∷ [] in
    subst (λ n. InTurn c.args.heap.now (load_of c.args.at.part c.args.at.root c.args.part ∷ load_of c.args.at.part c.args.at.part n ∷ []) c.load-in-Done.new.heap c.load-in-Done.result) c.last_in.ensures
    (turn_on c.args.heap.now c.load.new.heap c.load-in-Done.new.heap first (load_of c.args.at.part c.args.at.part c.last_in.result ∷ []) c.load-in-Done.result (subst (λ q. InTurn c.args.heap.now first c.load.new.heap q) c.in-Done.is c.load.ensures.runs)
    c.load-in-Done.ensures.runs)

pub returns-in-Done-clause-same : goal.returns-in-Done-clause-same
returns-in-Done-clause-same c = same_on c.args.heap.now c.load.new.heap c.load-in-Done.new.heap c.load.ensures.same c.load-in-Done.ensures.same

pub returns-in_default-clause-runs : goal.returns-in_default-clause-runs
returns-in_default-clause-runs c = turn_stop c.args.heap.now c.load.new.heap (load_of c.args.at.part c.args.at.root c.args.part ∷ []) (load_of c.args.at.part c.args.at.part (last_in c.args.part c.args.end) ∷ []) c.load.result c.load.ensures.runs c.in_default.not-Done
