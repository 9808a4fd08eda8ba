use Rattle.std.proofs.Common.{ℕ, ◌-◌, ◌<◌, ◌≤◌, length}
use Rattle.std.specs.Prelude.{slice_index}
use Rattle.lxr_image.proofs.heights.Heights.next.Given as goal

abbrev pub invariant-loop-block : goal.invariant-loop-block
invariant-loop-block l = (l.from ≤ l.block) × (l.block ≤ length l.self) × ((b : ℕ) → l.from ≤ b → b < l.block → slice_index l.self b < l.least)

abbrev pub decreases-loop-block : goal.decreases-loop-block
decreases-loop-block l = length l.self - l.block
