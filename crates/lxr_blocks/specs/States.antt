-- States of blocks, as numbers and by their free lines.
use Rattle.std.specs.Prelude.{◌≡◌, ◌≢◌, ℕ, ◌/◌, ◌<◌, ◌≤◌, ◌==◌, ◌⊎◌, IsTrue, Bool, true, false, if◌then◌else◌}
use Rattle.lxr_image.specs.Opened.{world_state}
use Rattle.lxr_layout.specs.declared.TheConstants.{LINES_IN_BLOCK}
use Rattle.lxr_layout.specs.declared.runs.Run.{Run}
use Rattle.lxr_image.specs.Tables.{Tables, changed}
use Rattle.lxr_blocks.specs.declared.states.BlockState.{BlockState}
use Rattle.lxr_blocks.specs.declared.states.BlockState.TheVariants.{Free, Partly, Whole, Chosen, World}
use Rattle.lxr_blocks.specs.Lines.{IsFreeRun, free_count, free_in}

-- the number of a state in the table of states
abbrev pub state_number : BlockState → ℕ
state_number Free = 0
state_number Partly = 1
state_number Whole = 2
state_number Chosen = 3
state_number World = world_state

-- the state that a number says; no call writes a number beyond 4, and it is read as that of the world's block
abbrev pub state_of : ℕ → BlockState
state_of n = if n == 0 then Free else (if n == 1 then Partly else (if n == 2 then Whole else (if n == 3 then Chosen else World)))

-- the state of a block
abbrev pub state_in : Tables → ℕ → BlockState
state_in t b = state_of (t.states b)

-- a block that is neither Chosen nor World is Free where all its lines are free, Whole where none is, and else Partly
abbrev pub state_by_lines : Tables → ℕ → BlockState
state_by_lines t b = if free_count (free_in t b) LINES_IN_BLOCK == LINES_IN_BLOCK then Free else (if free_count (free_in t b) LINES_IN_BLOCK == 0 then Whole else Partly)

-- a state that stays whatever lines are free
abbrev pub is_fixed : BlockState → Bool
is_fixed Free = false
is_fixed Partly = false
is_fixed Whole = false
is_fixed Chosen = true
is_fixed World = true

-- the blocks from one on and below another are all Free
abbrev pub AreFreeBlocks : Tables → ℕ → ℕ → Type 0
AreFreeBlocks t from end = (b : ℕ) → from ≤ b → b < end → state_in t b ≡ Free

-- the first block from one on that isn't Free is another, which is below the end
pub record IsNextInUse (t : Tables) (from end block : ℕ) : Type 0 where
  pub reached : from ≤ block
  pub within : block < end
  pub used : state_in t block ≢ Free
  pub passed : AreFreeBlocks t from block

-- a block has the number of the state that it had, or neither that state nor its own is Chosen or World
abbrev pub KeepsState : Tables → Tables → ℕ → Type 0
KeepsState t u b = (u.states b ≡ t.states b) ⊎ ((is_fixed (state_in t b) ≡ false) × (is_fixed (state_in u b) ≡ false))

-- a block whose state is Free has only free lines
abbrev pub FreeIsFree : Tables → ℕ → Type 0
FreeIsFree t b = state_in t b ≡ Free → state_by_lines t b ≡ Free

-- so has each of the first so many blocks
abbrev pub FreeBlocksAreFree : Tables → ℕ → Type 0
FreeBlocksAreFree t blocks = (b : ℕ) → b < blocks → FreeIsFree t b

-- a block that is Free was so, and no line of it was handed out since
abbrev pub KeepsFree : Tables → Tables → Type 0
KeepsFree t u = (b : ℕ) → state_in u b ≡ Free → (state_in t b ≡ Free) × ((line : ℕ) → line / LINES_IN_BLOCK ≡ b → IsTrue (u.outs line) → IsTrue (t.outs line))

-- the block has the state of its lines, unless it is Chosen or World
abbrev pub with_state_by_lines : Tables → ℕ → Tables
with_state_by_lines t b = record t { states = if is_fixed (state_in t b) then t.states else (changed t.states b (state_number (state_by_lines t b))) }

-- free lines in a row outside Chosen blocks
pub record IsOpenRun (t : Tables) (blocks : ℕ) (r : Run) : Type 0 where
  pub run : IsFreeRun t blocks r
  pub outside : state_in t r.block ≢ Chosen
