use Rattle.std.proofs.Common.{◌≤◌, ◌-◌, length}
use Rattle.lxr_image.specs.Registers.{AreSame}
use Rattle.lxr_image.proofs.registers.RegisterFile.next_changed.Given as goal

abbrev pub invariant-loop-at : goal.invariant-loop-at
invariant-loop-at l = record {
  from : l.from ≤ l.at;
  within : l.at ≤ length l.self.items;
  passed : AreSame l.self.items l.others.items l.from l.at;
}

abbrev pub decreases-loop-at : goal.decreases-loop-at
decreases-loop-at l = length l.self.items - l.at
