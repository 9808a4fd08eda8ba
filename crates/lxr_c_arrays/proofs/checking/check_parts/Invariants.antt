use Rattle.lxr_c_base.specs.declared.codes.Code.TheVariants as code
use Rattle.lxr_c_heap.specs.Hosting.{IsServing}
use Rattle.lxr_c_arrays.specs.Sides.{check_steps}
use Rattle.lxr_c_arrays.specs.Running.{InTurn, SameRegisters, in_turn}
use Rattle.lxr_c_arrays.proofs.checking.check_parts.Given as goal

abbrev pub invariant-loop-n : goal.invariant-loop-n
invariant-loop-n l = record {
  serving : IsServing l.heap;
  same : SameRegisters l.initial.heap l.heap;
  runs : InTurn l.initial.heap (in_turn (check_steps l.at.root l.at.part l.first l.end) l.n) l.heap code.Done;
}
