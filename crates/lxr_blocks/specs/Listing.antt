-- The tables of runs and of free blocks, as they are listed anew.
use Rattle.std.specs.Prelude.{◌≡◌, ℕ, zero, suc, ◌+◌, Bool, true, false, List, [], ◌∷◌, ◌++◌, length, if◌then◌else◌}
use Rattle.lxr_layout.specs.declared.TheConstants.{FREE_BLOCK_COUNT, FREE_BLOCK_CURSOR, RUN_COUNT, RUN_CURSOR}
use Rattle.lxr_image.specs.declared.space.Space.{Space}
use Rattle.lxr_image.specs.Tables.{Tables, changed, written}
use Rattle.lxr_image.specs.Runs.{words_of_runs}
use Rattle.lxr_image.specs.Spaces.{tables_of}
use Rattle.lxr_blocks.specs.declared.states.BlockState.{BlockState}
use Rattle.lxr_blocks.specs.declared.states.BlockState.TheVariants.{Free, Partly, Whole, Chosen, World}
use Rattle.lxr_blocks.specs.Lines.{free_in}
use Rattle.lxr_blocks.specs.States.{state_in}

-- the states of the blocks whose runs are listed
abbrev pub lists_runs : BlockState → Bool
lists_runs Free = false
lists_runs Partly = true
lists_runs Whole = false
lists_runs Chosen = false
lists_runs World = true

-- the state of the blocks that are listed whole
abbrev pub lists_block : BlockState → Bool
lists_block Free = true
lists_block Partly = false
lists_block Whole = false
lists_block Chosen = false
lists_block World = false

-- what the blocks before one have, block after block
unfoldable pub joined : (ℕ → List ℕ) → ℕ → List ℕ
joined f zero = []
joined f (suc b) = joined f b ++ f b

-- the words of a block's runs, in order
abbrev pub run_words : Tables → ℕ → List ℕ
run_words t b = words_of_runs (free_in t b) b

-- the same, where the block's runs are listed
abbrev pub block_runs : Tables → ℕ → List ℕ
block_runs t b = if lists_runs (state_in t b) then (run_words t b) else []

-- the number of a block, where it is listed whole
abbrev pub block_frees : Tables → ℕ → List ℕ
block_frees t b = if lists_block (state_in t b) then (b ∷ []) else []

-- so many numbers in a row, from one on
unfoldable pub numbers_from : ℕ → ℕ → List ℕ
numbers_from from zero = []
numbers_from from (suc many) = numbers_from from many ++ ((from + many) ∷ [])

-- the words of all listed runs, in order of blocks and lines
abbrev pub listed_runs : Tables → ℕ → List ℕ
listed_runs t blocks = joined (block_runs t) blocks

-- the numbers of all Free blocks, in order
abbrev pub listed_frees : Tables → ℕ → List ℕ
listed_frees t blocks = joined (block_frees t) blocks

-- the runs and the free blocks are listed, and nothing is drawn of them yet
abbrev pub with_lists : Tables → List ℕ → List ℕ → Tables
with_lists t runs frees = record t {
  runs = written t.runs 0 runs;
  frees = written t.frees 0 frees;
  cursors = changed (changed (changed (changed t.cursors RUN_CURSOR 0) RUN_COUNT (length runs)) FREE_BLOCK_CURSOR 0) FREE_BLOCK_COUNT (length frees);
}

-- so many runs and blocks are listed, and nothing is drawn of them yet
abbrev pub with_counts : Tables → ℕ → ℕ → Tables
with_counts t runs frees = record t {
  cursors = changed (changed (changed (changed t.cursors RUN_CURSOR 0) RUN_COUNT runs) FREE_BLOCK_CURSOR 0) FREE_BLOCK_COUNT frees;
}

-- the tables with numbers written to the table of free blocks from an index on
abbrev pub with_frees : Tables → ℕ → List ℕ → Tables
with_frees t at numbers = record t { frees = written t.frees at numbers }

-- with both, each from its beginning
abbrev pub with_listed : Tables → List ℕ → List ℕ → Tables
with_listed t runs frees = record t { runs = written t.runs 0 runs; frees = written t.frees 0 frees }

-- the tables are these now, the rest is this, and nothing else has changed
pub record TurnsWithRest (before after : Space) (t : Tables) (next end : ℕ) : Type 0 where
  pub tables : tables_of after ≡ t
  pub rest : after ≡ record before { words = after.words; rest_next = next; rest_end = end }
