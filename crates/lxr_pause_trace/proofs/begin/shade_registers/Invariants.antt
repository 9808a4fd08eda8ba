use Rattle.std.proofs.Common.{◌-◌, ◌≤◌, length}
use Rattle.lxr_pause_trace.specs.Marking.{ShadesRegisters}
use Rattle.lxr_pause_trace.proofs.begin.shade_registers.Given as goal

abbrev pub invariant-loop-register : goal.invariant-loop-register
invariant-loop-register l = record {
  shades : ShadesRegisters l.fn.space l.space l.register;
  within : l.register ≤ length l.fn.space.registers.items;
}

abbrev pub decreases-loop-register : goal.decreases-loop-register
decreases-loop-register l = length l.fn.space.registers.items - l.register
