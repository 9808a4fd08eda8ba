-- How the blocks that may be chosen in a larger heap are ranked by how many of their lines aren't free.
use Rattle.std.specs.Prelude.{◌≡◌, ℕ, ◌+◌, ◌≤◌, ◌&&◌, nat_eq, nat_lt, if◌then◌else◌, List, length, slice_index, slice_set}
use Rattle.lxr_image.specs.Tables.{Tables}
use Rattle.lxr_invariant.specs.Counting.{passing}
use Rattle.lxr_evac_blocks.specs.Choosing.{may_choose, taken_count}

-- of how many of the first n blocks that may be chosen fewer lines aren't free than so many
abbrev pub fewer_taken : Tables → ℕ → ℕ → ℕ
fewer_taken t lines n = passing (λ a. may_choose t a && nat_lt (taken_count t a) lines) n

-- and of how many exactly so many
abbrev pub as_many_taken : Tables → ℕ → ℕ → ℕ
as_many_taken t lines n = passing (λ a. may_choose t a && nat_eq (taken_count t a) lines) n

-- For each number of lines, 0 to 32, the number of the next block that may be chosen of which so many aren't free, where those before block n have
-- theirs: they are numbered in order, from a first number on.
pub record AreNumbers (t : Tables) (first : ℕ → ℕ) (n : ℕ) (next : List ℕ) : Type 0 where
  pub size : length next ≡ 33
  pub numbers : (lines : ℕ) → lines ≤ 32 → slice_index next lines ≡ first lines + as_many_taken t lines n

-- the numbers once a block has its own: the next one of which as many lines aren't free has the number after it
abbrev pub numbers_after : Tables → ℕ → List ℕ → List ℕ
numbers_after t b next = if may_choose t b then (slice_set next (taken_count t b) (slice_index next (taken_count t b) + 1)) else next
