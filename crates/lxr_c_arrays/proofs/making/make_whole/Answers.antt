use Rattle.std.proofs.Common.{◌∷◌, [], subst}
use Rattle.lxr_c_arrays.specs.Operations.{move_of}
use Rattle.lxr_c_arrays.specs.Plans.{root_steps}
use Rattle.lxr_c_arrays.specs.Running.{InTurn}
use Rattle.lxr_c_arrays.proofs.RunLemmas.{same_on, turn_on, turn_stop}
use Rattle.lxr_c_arrays.proofs.making.make_whole.Goals as goal

pub returns-in-Done-clause-runs : goal.returns-in-Done-clause-runs
returns-in-Done-clause-runs c =
    let first = root_steps c.args.own c.args.wanted.length in
    turn_on c.args.heap.now c.make_root.new.heap c.copy.new.heap first (move_of c.args.wanted.dest c.args.own.first ∷ []) c.copy.result (subst (λ q. InTurn c.args.heap.now first c.make_root.new.heap q) c.in-Done.is c.make_root.ensures.runs) c.copy.ensures.runs

pub returns-in-Done-clause-same : goal.returns-in-Done-clause-same
returns-in-Done-clause-same c = same_on c.args.heap.now c.make_root.new.heap c.copy.new.heap c.make_root.ensures.same c.copy.ensures.same

pub returns-in_default-clause-runs : goal.returns-in_default-clause-runs
returns-in_default-clause-runs c = turn_stop c.args.heap.now c.make_root.new.heap (root_steps c.args.own c.args.wanted.length) (move_of c.args.wanted.dest c.args.own.first ∷ []) c.make_root.result c.make_root.ensures.runs c.in_default.not-Done
