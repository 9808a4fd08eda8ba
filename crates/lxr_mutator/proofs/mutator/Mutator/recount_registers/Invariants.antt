use Rattle.std.proofs.Common.{◌≡◌, ◌≤◌}
use Rattle.lxr_layout.specs.declared.TheConstants.{REGISTERS}
use Rattle.lxr_layout.specs.Registers.{AreNil}
use Rattle.lxr_mutator.proofs.mutator.Mutator.recount_registers.Given as goal

abbrev pub invariant-loop-in_use : goal.invariant-loop-in_use
invariant-loop-in_use l = record {
  same : l.self-inside ≡ l.initial.self-inside;
  fewer : l.in_use ≤ l.self-inside.in_use;
  others : AreNil l.self-inside.registers.items l.in_use REGISTERS;
}

abbrev pub decreases-loop-in_use : goal.decreases-loop-in_use
decreases-loop-in_use l = l.in_use
