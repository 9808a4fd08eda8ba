use Rattle.std.proofs.Common.{◌≡◌, ◌≤◌, ◌+◌, slice_index_or}
use Rattle.lxr_layout.specs.declared.TheConstants.{REGISTERS}
use Rattle.lxr_layout.specs.Registers.{AreNil}
use Rattle.lxr_image.proofs.registers.RegisterFile.recount.Given as goal

abbrev pub invariant-loop-in_use : goal.invariant-loop-in_use
invariant-loop-in_use l = record {
  same : l.self-inside ≡ l.initial.self-inside;
  fewer : l.in_use ≤ slice_index_or l.self-inside.in_use.items l.thread 0;
  others : AreNil l.self-inside.places.items (l.first + l.in_use) (l.first + REGISTERS);
}

abbrev pub decreases-loop-in_use : goal.decreases-loop-in_use
decreases-loop-in_use l = l.in_use
