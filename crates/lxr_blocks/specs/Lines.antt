-- Free lines of a heap, and the runs that they form.
use Rattle.std.specs.Prelude.{◌≡◌, ℕ, zero, suc, ◌+◌, ◌-◌, ◌*◌, ◌/◌, ◌<◌, ◌≤◌, ◌==◌, ◌&&◌, not, Bool, true, false, IsTrue, if◌then◌else◌}
use Rattle.lxr_layout.specs.declared.TheConstants.{GRANULES_IN_LINE, LINES_IN_BLOCK}
use Rattle.lxr_layout.specs.declared.runs.Run.{Run}
use Rattle.lxr_image.specs.Tables.{Tables}

-- the counts of so many granules, from one on, are all 0
unfoldable pub are_zero : (ℕ → ℕ) → ℕ → ℕ → Bool
are_zero counts g zero = true
are_zero counts g (suc k) = are_zero counts g k && (counts (g + k) == 0)

-- a line, counted over the whole heap, is free where it isn't handed out and the counts of its 16 granules are all 0
abbrev pub is_free : Tables → ℕ → Bool
is_free t n = not (t.outs n) && are_zero t.counts (GRANULES_IN_LINE * n) GRANULES_IN_LINE

-- whether line i of a block is free; a block has 128 lines
abbrev pub free_in : Tables → ℕ → ℕ → Bool
free_in t b i = is_free t (LINES_IN_BLOCK * b + i)

-- the first further line of an object that begins at a granule
abbrev pub next_line : ℕ → ℕ
next_line granule = granule / GRANULES_IN_LINE + 1

-- the line behind the last one of an object of so many granules that begins at a granule
abbrev pub line_behind : ℕ → ℕ → ℕ
line_behind granule granules = (granule + granules - 1) / GRANULES_IN_LINE + 1

-- lines of one block of the heap that stand in a row and are all free
pub record IsFreeRun (t : Tables) (blocks : ℕ) (r : Run) : Type 0 where
  pub block : r.block < blocks
  pub within : r.line + r.lines ≤ LINES_IN_BLOCK
  pub free : (i : ℕ) → r.line ≤ i → i < r.line + r.lines → IsTrue (free_in t r.block i)

-- From here on: which lines of one block are free.

-- how many of the first lines are free
unfoldable pub free_count : (ℕ → Bool) → ℕ → ℕ
free_count free zero = 0
free_count free (suc k) = free_count free k + (if free k then 1 else 0)

-- the first line from one on that is free, or that isn't, and 128 where there is none
pub record IsFirstLine (free : ℕ → Bool) (wanted : Bool) (from at : ℕ) : Type 0 where
  pub reached : from ≤ at
  pub within : at ≤ LINES_IN_BLOCK
  pub passed : (i : ℕ) → from ≤ i → i < at → free i ≡ not wanted
  pub there : at < LINES_IN_BLOCK → free at ≡ wanted

-- the first run of a block that begins at a line or behind it
pub record IsNextRun (free : ℕ → Bool) (b from : ℕ) (r : Run) : Type 0 where
  pub block : r.block ≡ b
  pub passed : IsFirstLine free true from r.line
  pub some : 1 ≤ r.lines
  pub ends : IsFirstLine free false r.line (r.line + r.lines)
