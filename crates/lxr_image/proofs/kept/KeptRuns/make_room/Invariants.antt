use Rattle.std.proofs.Common.{◌≡◌}
use Rattle.lxr_image.proofs.kept.KeptRuns.make_room.Given as goal

abbrev pub invariant-loop-at : goal.invariant-loop-at
invariant-loop-at l = record {
  same : l.self-inside.of_block.items ≡ l.initial.self-inside.of_block.items;
  wanting : l.self-inside.wanting ≡ l.initial.self-inside.wanting;
}
