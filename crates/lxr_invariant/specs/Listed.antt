-- The tables of runs and of free blocks as an epoch opens.
use Rattle.std.specs.Prelude.{◌≡◌, ◌≢◌, ℕ, ◌+◌, ◌*◌, ◌<◌, ◌≤◌, ◌⊎◌}
use Rattle.lxr_layout.specs.declared.TheConstants.{FREE_BLOCK_COUNT, FREE_BLOCK_CURSOR, LINES_IN_BLOCK, RUN_COUNT, RUN_CURSOR}
use Rattle.lxr_layout.specs.declared.runs.Run.{Run}
use Rattle.lxr_layout.specs.Runs.{word_of_run}
use Rattle.lxr_image.specs.declared.space.Space.{Space}
use Rattle.lxr_image.specs.Tables.{Tables}
use Rattle.lxr_image.specs.Spaces.{tables_of}
use Rattle.lxr_blocks.specs.declared.states.BlockState.TheVariants.{Free}
use Rattle.lxr_blocks.specs.States.{IsOpenRun, state_in}

-- the free lines of a whole block
abbrev pub whole_block : ℕ → Run
whole_block b = record { block = b; line = 0; lines = LINES_IN_BLOCK }

-- two runs share no line
abbrev pub AreApartRuns : Run → Run → Type 0
AreApartRuns q r = (q.block ≢ r.block) ⊎ (q.line + q.lines ≤ r.line) ⊎ (r.line + r.lines ≤ q.line)

-- the listed run of a number: some free lines in a row, outside Chosen blocks
pub record ListsRun (t : Tables) (blocks k : ℕ) (r : Run) : Type 0 where
  pub word : t.runs k ≡ word_of_run r
  pub some : 1 ≤ r.lines
  pub run : IsOpenRun t blocks r

-- the listed block of a number: all its lines are free, and it is not Chosen
pub record ListsBlock (t : Tables) (blocks k : ℕ) : Type 0 where
  pub block : t.frees k < blocks
  pub run : IsOpenRun t blocks (whole_block (t.frees k))

-- As an epoch opens, nothing is drawn yet. Each listed run is one of free lines outside Chosen blocks, each listed block is
-- free and not Chosen, and no two of them share a line. Nothing is left of the lines that a pause placed on.
pub record IsListed (s : Space) : Type 0 where
  pub no_runs_drawn : (tables_of s).cursors RUN_CURSOR ≡ 0
  pub no_blocks_drawn : (tables_of s).cursors FREE_BLOCK_CURSOR ≡ 0
  pub few_runs : (tables_of s).cursors RUN_COUNT ≤ 64 * s.limits.blocks
  pub few_blocks : (tables_of s).cursors FREE_BLOCK_COUNT ≤ s.limits.blocks
  pub runs : (k : ℕ) → k < (tables_of s).cursors RUN_COUNT → (r : Run) × ListsRun (tables_of s) s.limits.blocks k r
  pub blocks : (k : ℕ) → k < (tables_of s).cursors FREE_BLOCK_COUNT → ListsBlock (tables_of s) s.limits.blocks k
  pub runs_apart : (j k : ℕ) (q r : Run) → j < k → k < (tables_of s).cursors RUN_COUNT → ListsRun (tables_of s) s.limits.blocks j q
      → ListsRun (tables_of s) s.limits.blocks k r → AreApartRuns q r
  pub blocks_apart : (j k : ℕ) → j < k → k < (tables_of s).cursors FREE_BLOCK_COUNT → (tables_of s).frees j ≢ (tables_of s).frees k
  pub all_apart : (j k : ℕ) (r : Run) → j < (tables_of s).cursors RUN_COUNT → k < (tables_of s).cursors FREE_BLOCK_COUNT → ListsRun (tables_of s) s.limits.blocks j r
      → r.block ≢ (tables_of s).frees k
  pub no_rest : s.rest_next ≡ s.rest_end

-- each block of the heap that is Free is listed
abbrev pub FreeBlocksAreListed : Space → Type 0
FreeBlocksAreListed s = (n : ℕ) → n < s.limits.blocks → state_in (tables_of s) n ≡ Free → (k : ℕ) × (k < (tables_of s).cursors FREE_BLOCK_COUNT) × ((tables_of s).frees k ≡ n)

-- runs and blocks are listed, and all Free blocks are
pub record IsListedWhole (s : Space) : Type 0 where
  pub listed : IsListed s
  pub whole : FreeBlocksAreListed s
