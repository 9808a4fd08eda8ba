use Rattle.std.proofs.Common.{◌+◌, subst}
use Rattle.std.specs.Prelude.{nat_lt}
use Rattle.lxr_c_arrays.specs.Plans.{copy_step, enters}
use Rattle.lxr_c_arrays.specs.Running.{InTurn}
use Rattle.lxr_c_arrays.specs.Sides.{load_steps, store_steps}
use Rattle.lxr_c_arrays.proofs.RunLemmas.{same_on, turn_on, turn_stop}
use Rattle.lxr_c_arrays.proofs.copying.copy_round.Goals as goal

pub returns-in-Done-clause-runs : goal.returns-in-Done-clause-runs
returns-in-Done-clause-runs c =
    let k = c.args.copying in
    let round = c.round_of-round.result in
    let first = load_steps k.from k.element (k.first + round) in
    subst (λ r. InTurn c.args.heap.now (copy_step k (k.first + r) (k.at + r) (enters (nat_lt k.first k.at) c.args.n (k.at + r))) c.store_element.new.heap c.store_element.result) c.round_of-round.ensures.round
    (subst (λ b. InTurn c.args.heap.now (copy_step k (k.first + round) (k.at + round) b) c.store_element.new.heap c.store_element.result) c.enters-enters.ensures
    (turn_on c.args.heap.now c.load_element.new.heap c.store_element.new.heap first (store_steps k.to c.enters-enters.result (k.at + round) k.element) c.store_element.result
    (subst (λ q. InTurn c.args.heap.now first c.load_element.new.heap q) c.in-Done.is c.load_element.ensures.runs) c.store_element.ensures.runs))

pub returns-in-Done-clause-same : goal.returns-in-Done-clause-same
returns-in-Done-clause-same c = same_on c.args.heap.now c.load_element.new.heap c.store_element.new.heap c.load_element.ensures.same c.store_element.ensures.same

pub returns-in_default-clause-runs : goal.returns-in_default-clause-runs
returns-in_default-clause-runs c =
    let k = c.args.copying in
    let round = c.round_of-round.result in
    subst (λ r. InTurn c.args.heap.now (copy_step k (k.first + r) (k.at + r) (enters (nat_lt k.first k.at) c.args.n (k.at + r))) c.load_element.new.heap c.load_element.result) c.round_of-round.ensures.round
    (turn_stop c.args.heap.now c.load_element.new.heap (load_steps k.from k.element (k.first + round)) (store_steps k.to (enters (nat_lt k.first k.at) c.args.n (k.at + round)) (k.at + round) k.element) c.load_element.result
    c.load_element.ensures.runs c.in_default.not-Done)
