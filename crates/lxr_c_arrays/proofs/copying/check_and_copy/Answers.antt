use Rattle.std.proofs.Common.{subst}
use Rattle.lxr_c_arrays.specs.Plans.{check_copy, copy_steps}
use Rattle.lxr_c_arrays.specs.Running.{in_turn}
use Rattle.lxr_c_arrays.specs.Running.{InTurn}
use Rattle.lxr_c_arrays.proofs.RunLemmas.{same_on, turn_on, turn_stop}
use Rattle.lxr_c_arrays.proofs.copying.check_and_copy.Goals as goal

pub returns-in-Done-clause-runs : goal.returns-in-Done-clause-runs
returns-in-Done-clause-runs c =
    let first = check_copy c.args.copying in
    turn_on c.args.heap.now c.check_both.new.heap c.copy_all.new.heap first (in_turn (copy_steps c.args.copying) c.args.copying.count) c.copy_all.result (subst (λ q. InTurn c.args.heap.now first c.check_both.new.heap q) c.in-Done.is c.check_both.ensures.runs) c.copy_all.ensures.runs

pub returns-in-Done-clause-same : goal.returns-in-Done-clause-same
returns-in-Done-clause-same c = same_on c.args.heap.now c.check_both.new.heap c.copy_all.new.heap c.check_both.ensures.same c.copy_all.ensures.same

pub returns-in_default-clause-runs : goal.returns-in_default-clause-runs
returns-in_default-clause-runs c = turn_stop c.args.heap.now c.check_both.new.heap (check_copy c.args.copying) (in_turn (copy_steps c.args.copying) c.args.copying.count) c.check_both.result c.check_both.ensures.runs c.in_default.not-Done
