use Rattle.std.proofs.Common.{subst, sym}
use Rattle.lxr_c_base.specs.declared.codes.Code.TheVariants as code
use Rattle.lxr_c_heap.specs.Hosting.{all_registers_in}
use Rattle.lxr_c_arrays.specs.Running.{InTurn}
use Rattle.lxr_c_arrays.specs.Sides.{IsSide, enter_steps}
use Rattle.lxr_c_arrays.proofs.RunLemmas.{same_none, turn_none}
use Rattle.lxr_c_arrays.proofs.elements.enter.Goals as goal

pub returns-in-Whole-clause-runs : goal.returns-in-Whole-clause-runs
returns-in-Whole-clause-runs c = subst (λ s. InTurn c.args.heap.now (enter_steps s c.args.index) c.args.heap.now code.Done) (sym c.in-Whole.is) (turn_none c.args.heap.now)

pub returns-in-Whole-clause-same : goal.returns-in-Whole-clause-same
returns-in-Whole-clause-same c = same_none c.args.heap.now

pub load-requires-clause-registers : goal.load-requires-clause-registers
load-requires-clause-registers c = let there = subst (IsSide (all_registers_in c.args.heap.now)) c.in-Parts.is c.requires.side in (there.1, there.0)

pub returns-in-Parts-clause-runs : goal.returns-in-Parts-clause-runs
returns-in-Parts-clause-runs c = subst (λ s. InTurn c.args.heap.now (enter_steps s c.args.index) c.load.new.heap c.load.result) (sym c.in-Parts.is) c.load.ensures.runs
