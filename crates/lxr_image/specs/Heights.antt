-- A number for each block, and for each 64 blocks the highest of theirs.
use Rattle.std.specs.Prelude.{◌≡◌, ℕ, ◌*◌, ◌/◌, ◌<◌, ◌≤◌, ◌==◌, List, count_by, length, slice_index}
use Rattle.lxr_image.specs.declared.heights.TheConstants.{FULL, GROUP}

-- how many of these numbers are that of a block with all its lines in one run
abbrev pub full_among : List ℕ → ℕ
full_among heights = count_by (λ height. height == FULL) heights

-- Each block has a group. The number of a group is at least that of each of its blocks, and some block of the group has it.
pub record AreHighest (blocks groups : List ℕ) : Type 0 where
  pub many : length blocks ≤ GROUP * length groups
  pub bounds : (b : ℕ) → slice_index blocks b ≤ slice_index groups (b / GROUP)
  pub reached : (group : ℕ) → group < length groups → (b : ℕ) × (b < length blocks) × (b / GROUP ≡ group) × (slice_index blocks b ≡ slice_index groups group)
