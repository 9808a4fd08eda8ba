use Rattle.std.proofs.Common.{◌≡◌}
use Rattle.std.specs.Prelude.{◌↔◌}
use Rattle.lxr_image.specs.Spaces.{tables_of}
use Rattle.lxr_blocks.specs.States.{AreFreeBlocks}
use Rattle.lxr_blocks.proofs.in_use.are_free.Given as goal

abbrev pub invariant-loop-block : goal.invariant-loop-block
invariant-loop-block l = (l.states ≡ 0) ↔ AreFreeBlocks (tables_of l.space) l.first l.block
