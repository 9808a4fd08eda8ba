use Rattle.std.proofs.Common.{◌∷◌, [], subst}
use Rattle.lxr_c_arrays.specs.Operations.{new_of, put_of}
use Rattle.lxr_c_arrays.specs.Plans.{part_steps, parts_of}
use Rattle.lxr_c_arrays.specs.Running.{in_turn}
use Rattle.lxr_c_arrays.specs.Running.{InTurn}
use Rattle.lxr_c_arrays.proofs.RunLemmas.{same_on, turn_on, turn_stop}
use Rattle.lxr_c_arrays.proofs.making.make_root.Goals as goal

pub returns-in-Done-clause-runs : goal.returns-in-Done-clause-runs
returns-in-Done-clause-runs c =
    let first = new_of c.args.own.first (parts_of c.args.elements) 1 ∷ put_of c.args.own.first 0 c.args.elements ∷ [] in
    turn_on c.args.heap.now c.begin_root.new.heap c.make_parts.new.heap first (in_turn (part_steps c.args.own c.args.elements) (parts_of c.args.elements)) c.make_parts.result (subst (λ q. InTurn c.args.heap.now first c.begin_root.new.heap q) c.in-Done.is c.begin_root.ensures.runs) c.make_parts.ensures.runs

pub returns-in-Done-clause-same : goal.returns-in-Done-clause-same
returns-in-Done-clause-same c = same_on c.args.heap.now c.begin_root.new.heap c.make_parts.new.heap c.begin_root.ensures.same c.make_parts.ensures.same

pub returns-in_default-clause-runs : goal.returns-in_default-clause-runs
returns-in_default-clause-runs c = turn_stop c.args.heap.now c.begin_root.new.heap (new_of c.args.own.first (parts_of c.args.elements) 1 ∷ put_of c.args.own.first 0 c.args.elements ∷ []) (in_turn (part_steps c.args.own c.args.elements) (parts_of c.args.elements)) c.begin_root.result c.begin_root.ensures.runs c.in_default.not-Done
