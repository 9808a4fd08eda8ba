use Rattle.std.proofs.Common.{◌+◌, subst}
use Rattle.lxr_c_arrays.specs.Running.{InTurn}
use Rattle.lxr_c_arrays.specs.Sides.{store_steps}
use Rattle.lxr_c_arrays.proofs.filling.fill_one.Goals as goal

pub returns-clause-runs : goal.returns-clause-runs
returns-clause-runs c =
    subst (λ b. InTurn c.args.heap.now (store_steps c.args.side b (c.args.first + c.args.n) c.args.source) c.store_element.new.heap c.store_element.result) c.enters-enters.ensures c.store_element.ensures.runs
