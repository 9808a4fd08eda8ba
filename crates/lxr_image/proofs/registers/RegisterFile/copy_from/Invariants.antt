use Rattle.std.proofs.Common.{◌≡◌, ◌*◌, ◌++◌, take, drop}
use Rattle.lxr_layout.specs.declared.TheConstants.{REGISTERS}
use Rattle.lxr_image.proofs.registers.RegisterFile.copy_from.Given as goal

abbrev pub invariant-loop-thread : goal.invariant-loop-thread
invariant-loop-thread l = record {
  items : l.self.items ≡ take (REGISTERS * l.thread) l.others.items ++ drop (REGISTERS * l.thread) l.fn.self.items;
  width : l.self.width ≡ l.fn.self.width;
}
