-- The words of the run table and of the remembered set.
use Rattle.std.specs.Prelude.{ℕ, ◌+◌, ◌-◌, ◌*◌, ◌%◌, ◌^◌, ◌<◌, ◌≤◌, nat_le, if◌then◌else◌}
use Rattle.lxr_layout.specs.declared.runs.Run.{Run}
use Rattle.lxr_layout.specs.declared.Place.{Place}
use Rattle.lxr_layout.specs.declared.TheConstants.{GRANULES_IN_BLOCK, MOST_BLOCKS, MOST_BLOCKS_OF_SMALL}

-- a run that has a word: its block is one of the largest heap, its line and its number of lines are bytes
pub record IsRun (r : Run) : Type 0 where
  pub block : r.block < MOST_BLOCKS
  pub line : r.line < 256
  pub lines : r.lines < 256

-- number of lines in bits 0 to 7, first line in bits 8 to 15, block above
abbrev pub word_of_run : Run → ℕ
word_of_run r = r.lines + r.line * 2 ^ 8 + r.block * 2 ^ 16

-- a field that has a remembered entry in a heap of so many blocks: a reference of an object at one of its places, with its line's reuse counter
pub record IsEntry (blocks c : ℕ) (p : Place) (i : ℕ) : Type 0 where
  pub heap : blocks ≤ MOST_BLOCKS
  pub counter : c < 2 ^ 32
  pub place : (1 ≤ p.0) × (p.0 ≤ GRANULES_IN_BLOCK * blocks)
  pub index : i ≤ 1022

-- how many bits of an entry its place has, in a heap of so many blocks
abbrev pub place_bits : ℕ → ℕ
place_bits blocks = if nat_le blocks MOST_BLOCKS_OF_SMALL then 22 else 28

-- what an entry keeps of a reuse counter: the low bits, as many as index and place leave of 64
abbrev pub kept_counter : ℕ → ℕ → ℕ
kept_counter blocks counter = counter % 2 ^ (54 - place_bits blocks)

-- index in bits 0 to 9, the low bits of the place from bit 10 on, and what is kept of the reuse counter above
abbrev pub word_of_entry : ℕ → ℕ → Place → ℕ → ℕ
word_of_entry blocks counter p index = index + p.0 % 2 ^ place_bits blocks * 2 ^ 10 + kept_counter blocks counter * 2 ^ (10 + place_bits blocks)
