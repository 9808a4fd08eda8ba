use Rattle.std.proofs.Common.{subst}
use Rattle.lxr_c_arrays.specs.Plans.{fill_steps}
use Rattle.lxr_c_arrays.specs.Running.{in_turn}
use Rattle.lxr_c_arrays.specs.Sides.{checks}
use Rattle.lxr_c_arrays.specs.Running.{InTurn}
use Rattle.lxr_c_arrays.proofs.RunLemmas.{same_on, turn_on, turn_stop}
use Rattle.lxr_c_arrays.proofs.filling.check_and_fill.Goals as goal

pub returns-in-Done-clause-runs : goal.returns-in-Done-clause-runs
returns-in-Done-clause-runs c =
    let first = checks c.args.side c.args.first c.args.count in
    turn_on c.args.heap.now c.check.new.heap c.fill_all.new.heap first (in_turn (fill_steps c.args.side c.args.first c.args.source) c.args.count) c.fill_all.result (subst (λ q. InTurn c.args.heap.now first c.check.new.heap q) c.in-Done.is c.check.ensures.runs) c.fill_all.ensures.runs

pub returns-in-Done-clause-same : goal.returns-in-Done-clause-same
returns-in-Done-clause-same c = same_on c.args.heap.now c.check.new.heap c.fill_all.new.heap c.check.ensures.same c.fill_all.ensures.same

pub returns-in_default-clause-runs : goal.returns-in_default-clause-runs
returns-in_default-clause-runs c = turn_stop c.args.heap.now c.check.new.heap (checks c.args.side c.args.first c.args.count) (in_turn (fill_steps c.args.side c.args.first c.args.source) c.args.count) c.check.result c.check.ensures.runs c.in_default.not-Done
