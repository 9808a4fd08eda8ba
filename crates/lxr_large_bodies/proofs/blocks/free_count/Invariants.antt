use Rattle.std.proofs.Common.{◌≡◌, ◌+◌, take}
use Rattle.lxr_large_bodies.specs.Blocks.{taken_count}
use Rattle.lxr_large_bodies.proofs.blocks.free_count.Given as goal

abbrev pub invariant-loop-block : goal.invariant-loop-block
invariant-loop-block l = l.free + taken_count (take l.block l.taken) ≡ l.block
