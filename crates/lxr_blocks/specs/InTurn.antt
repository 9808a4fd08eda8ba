-- Runs that are listed in turn, so many at a listing: block after block from where the last listing ended, round the heap.
use Rattle.std.specs.Prelude.{◌≡◌, ℕ, zero, suc, ◌+◌, ◌-◌, ◌*◌, ◌<◌, ◌≤◌, List, length, nat_lt, if◌then◌else◌}
use Rattle.lxr_image.specs.declared.space.Space.{Space}
use Rattle.lxr_image.specs.Tables.{Tables}
use Rattle.lxr_image.specs.Spaces.{tables_of}
use Rattle.lxr_blocks.specs.Listing.{TurnsWithRest, block_runs, joined, listed_frees, with_lists}

-- the block that stands so many places after one, round a heap of so many blocks
abbrev pub round_from : ℕ → ℕ → ℕ → ℕ
round_from blocks from places = if nat_lt (from + places) blocks then (from + places) else (from + places - blocks)

-- what so many blocks have, block after block from one on and round the heap
abbrev pub joined_from : (ℕ → List ℕ) → ℕ → ℕ → ℕ → List ℕ
joined_from f blocks from many = joined (λ i. f (round_from blocks from i)) many

-- the words of the runs that are listed of so many blocks, from one on and round the heap
abbrev pub runs_from : Tables → ℕ → ℕ → ℕ → List ℕ
runs_from t blocks from many = joined_from (block_runs t) blocks from many

-- The tables have the runs of so many blocks from one on and round the heap, no block twice and no more runs than the most, and the numbers of all
-- Free blocks in order, and nothing is drawn of them yet. Where a block isn't passed, it would not be sure that its runs, up to 64, had found room.
-- Nothing is left of the lines that were placed on last, and nothing else has changed.
pub record ListsInTurn (from most many : ℕ) (before after : Space) : Type 0 where
  pub lists : TurnsWithRest before after (with_lists (tables_of before) (runs_from (tables_of before) before.limits.blocks from many) (listed_frees (tables_of before) before.limits.blocks)) 0 0
  pub once : many ≤ before.limits.blocks
  pub few : length (runs_from (tables_of before) before.limits.blocks from many) ≤ most
  pub full : many < before.limits.blocks → most < length (runs_from (tables_of before) before.limits.blocks from many) + 64

-- ---- listings one after another

-- one listing of a heap whose blocks have these runs: it passes so many blocks from one on, and the next listing begins where it ends
pub record IsTurn (blocks most : ℕ) (runs : ℕ → List ℕ) (from many next : ℕ) : Type 0 where
  pub begins : from < blocks
  pub once : many ≤ blocks
  pub full : many < blocks → most < length (joined_from runs blocks from many) + 64
  pub goes_on : next ≡ round_from blocks from many

-- a block is among so many from one on and round the heap
pub record IsPassed (blocks from many b : ℕ) : Type 0 where
  pub places : ℕ
  pub within : places < many
  pub block : round_from blocks from places ≡ b

-- the sum over the first so many
unfoldable pub total : (ℕ → ℕ) → ℕ → ℕ
total f zero = 0
total f (suc n) = total f n + f n

-- No run is left out for ever. Of listings in turn, where in none of them a block has more runs than is said of it, so many that the runs of all blocks
-- by that number are fewer than they may list (but for 63 of each listing, since a block is listed whole) pass each block: what it has then is listed.
abbrev pub NoRunIsLeftOut : Type 0
NoRunIsLeftOut = (blocks most listings : ℕ) (runs : ℕ → ℕ → List ℕ) (from many has : ℕ → ℕ)
    → ((k : ℕ) → k < listings → IsTurn blocks most (runs k) (from k) (many k) (from (k + 1)))
    → ((k b : ℕ) → k < listings → b < blocks → length (runs k b) ≤ has b)
    → total has blocks < listings * (most - 63)
    → (b : ℕ) → b < blocks → (k : ℕ) × (k < listings) × IsPassed blocks (from k) (many k) b
