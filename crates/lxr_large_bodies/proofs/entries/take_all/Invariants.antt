use Rattle.std.proofs.Common.{◌≡◌, length, take}
use Rattle.lxr_large_bodies.specs.Blocks.{AreTaken}
use Rattle.lxr_large_bodies.proofs.entries.take_all.Given as goal

abbrev pub invariant-loop-entry : goal.invariant-loop-entry
invariant-loop-entry l = record {
  as_many : length l.taken ≡ length l.fn.taken;
  taken : AreTaken l.taken (take l.entry-index l.entries);
}
