use Rattle.std.proofs.Common.{◌≡◌, [], ◌≤◌, replicate}
use Rattle.std.specs.Vec.{vec_capacity, vec_len}
use Rattle.lxr_image.proofs.kept.KeptRuns.new.Given as goal

abbrev pub invariant-loop : goal.invariant-loop
invariant-loop l = record {
  none : l.of_block.items ≡ replicate l.counter [];
  many : vec_len l.of_block ≡ l.counter;
  room : l.blocks ≤ vec_capacity l.of_block;
}
