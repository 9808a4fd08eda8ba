-- Values by name.
use Rattle.std.specs.Prelude.{◌≡◌, ℕ, ◌/◌, ◌%◌, List, [], nat_eq, slice_index_or, if◌then◌else◌}
use Rattle.lxr_layout.specs.declared.Name.{Name}
use Rattle.lxr_judge_sets.specs.declared.by_name.TheConstants.{PAGE}

-- what a table has: the row of thread t at index t, which has pages of values for serials that stand in a row; and the value of all
-- names that have no cell
pub record Cells (T : Type 0) : Type 0 where
  pub rows : List (List (List T))
  pub rest : T

-- the value of a serial in a row of pages
abbrev pub cell_at : {T : Type 0} → List (List T) → ℕ → T → T
cell_at pages serial rest = slice_index_or (slice_index_or pages (serial / PAGE) []) (serial % PAGE) rest

-- the value of a name
abbrev pub value_at : {T : Type 0} → Cells T → Name → T
value_at t n = cell_at (slice_index_or t.rows n.thread []) n.serial t.rest

-- a list reads as another with a value written at one index, where all that it hasn't is the rest's
abbrev pub ReadsWritten : {T : Type 0} → List T → List T → ℕ → T → T → Type 0
ReadsWritten before after index value rest =
    (k : ℕ) → slice_index_or after k rest ≡ (if nat_eq k index then value else slice_index_or before k rest)
