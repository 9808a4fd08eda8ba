use Rattle.std.proofs.Common.{subst, sym}
use Rattle.lxr_c_base.specs.declared.codes.Code.TheVariants as code
use Rattle.lxr_c_arrays.specs.Running.{InTurn}
use Rattle.lxr_c_arrays.specs.Sides.{entering}
use Rattle.lxr_c_arrays.proofs.RunLemmas.{turn_none}
use Rattle.lxr_c_arrays.proofs.elements.enter_if.Goals as goal

pub returns-else-enters-clause-runs : goal.returns-else-enters-clause-runs
returns-else-enters-clause-runs c = subst (λ b. InTurn c.args.heap.now (entering c.args.side b c.args.index) c.args.heap.now code.Done) (sym c.if-enters.false) (turn_none c.args.heap.now)
