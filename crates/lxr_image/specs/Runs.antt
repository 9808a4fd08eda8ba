-- The runs of lines in a block, their words, and words that are written to the run table.
use Rattle.std.specs.Prelude.{◌≡◌, ℕ, zero, suc, ◌+◌, ◌-◌, ◌==◌, ◌&&◌, not, Bool, List, [], ◌∷◌, ◌++◌, map, if◌then◌else◌}
use Rattle.std.specs.Int.{bit_at}
use Rattle.lxr_layout.specs.declared.TheConstants.{LINES_IN_BLOCK}
use Rattle.lxr_layout.specs.declared.runs.Run.{Run}
use Rattle.lxr_layout.specs.Runs.{word_of_run}
use Rattle.lxr_image.specs.Tables.{Tables, written}

-- how many lines are free in a row from a line on, of so many
unfoldable pub free_from : (ℕ → Bool) → ℕ → ℕ → ℕ
free_from free n zero = 0
free_from free n (suc k) = if free n then (suc (free_from free (n + 1) k)) else 0

-- a run begins at a line: it is free, and the line before it isn't or is of another block
abbrev pub begins_run : (ℕ → Bool) → ℕ → Bool
begins_run free zero = free 0
begins_run free (suc i) = free (suc i) && not (free i)

-- the runs of a block that begin below a line, each as long as can be, in order
unfoldable pub runs_below : (ℕ → Bool) → ℕ → ℕ → List Run
runs_below free b zero = []
runs_below free b (suc k) = runs_below free b k ++ (if begins_run free k then (record { block = b; line = k; lines = free_from free k (LINES_IN_BLOCK - k) } ∷ []) else [])

-- the words of the runs of a block with these free lines, in order
abbrev pub words_of_runs : (ℕ → Bool) → ℕ → List ℕ
words_of_runs free b = map word_of_run (runs_below free b LINES_IN_BLOCK)

-- the lines whose bits of a mask are set
abbrev pub bits_of : ℕ → ℕ → Bool
bits_of mask i = bit_at mask i == 1

-- the tables with words written to the run table from an index on
abbrev pub with_runs : Tables → ℕ → List ℕ → Tables
with_runs t at words = record t { runs = written t.runs at words }
