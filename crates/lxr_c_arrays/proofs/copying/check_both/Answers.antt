use Rattle.std.proofs.Common.{subst}
use Rattle.lxr_c_arrays.specs.Sides.{checks}
use Rattle.lxr_c_arrays.specs.Running.{InTurn}
use Rattle.lxr_c_arrays.proofs.RunLemmas.{same_on, turn_on, turn_stop}
use Rattle.lxr_c_arrays.proofs.copying.check_both.Goals as goal

pub returns-in-Done-clause-runs : goal.returns-in-Done-clause-runs
returns-in-Done-clause-runs c =
    let first = checks c.args.copying.to c.args.copying.at c.args.copying.count in
    turn_on c.args.heap.now c.check.new.heap c.check-in-Done.new.heap first (checks c.args.copying.from c.args.copying.first c.args.copying.count) c.check-in-Done.result (subst (λ q. InTurn c.args.heap.now first c.check.new.heap q) c.in-Done.is c.check.ensures.runs) c.check-in-Done.ensures.runs

pub returns-in-Done-clause-same : goal.returns-in-Done-clause-same
returns-in-Done-clause-same c = same_on c.args.heap.now c.check.new.heap c.check-in-Done.new.heap c.check.ensures.same c.check-in-Done.ensures.same

pub returns-in_default-clause-runs : goal.returns-in_default-clause-runs
returns-in_default-clause-runs c = turn_stop c.args.heap.now c.check.new.heap (checks c.args.copying.to c.args.copying.at c.args.copying.count) (checks c.args.copying.from c.args.copying.first c.args.copying.count) c.check.result c.check.ensures.runs c.in_default.not-Done
