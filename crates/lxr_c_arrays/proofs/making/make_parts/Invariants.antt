use Rattle.lxr_c_base.specs.declared.codes.Code.TheVariants as code
use Rattle.lxr_c_heap.specs.Hosting.{IsServing}
use Rattle.lxr_c_arrays.specs.Plans.{part_steps}
use Rattle.lxr_c_arrays.specs.Running.{InTurn, SameRegisters, in_turn}
use Rattle.lxr_c_arrays.proofs.making.make_parts.Given as goal

abbrev pub invariant-loop-n : goal.invariant-loop-n
invariant-loop-n l = record {
  serving : IsServing l.heap;
  same : SameRegisters l.initial.heap l.heap;
  runs : InTurn l.initial.heap (in_turn (part_steps l.own l.elements) l.n) l.heap code.Done;
}
