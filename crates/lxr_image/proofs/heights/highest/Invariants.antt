use Rattle.std.proofs.Common.{◌≡◌, ℕ, ◌<◌, ◌≤◌, ◌⊎◌}
use Rattle.std.specs.Prelude.{slice_index}
use Rattle.lxr_image.proofs.heights.highest.Given as goal

abbrev pub invariant-loop-height : goal.invariant-loop-height
invariant-loop-height l = ((i : ℕ) → i < l.height-index → slice_index l.heights i ≤ l.highest) × ((l.highest ≡ 0) ⊎ ((i : ℕ) × (i < l.height-index) × (slice_index l.heights i ≡ l.highest)))
