-- What changes where a run is handed out.
use Rattle.std.specs.Prelude.{ℕ, ◌+◌, ◌*◌, ◌%◌, ◌^◌, nat_le, nat_lt, ◌&&◌, Bool, true, if◌then◌else◌}
use Rattle.lxr_layout.specs.declared.TheConstants.{LINES_IN_BLOCK}
use Rattle.lxr_layout.specs.declared.runs.Run.{Run}
use Rattle.lxr_image.specs.Tables.{Tables}
use Rattle.lxr_blocks.specs.States.{with_state_by_lines}

-- a number is one of those from `first` to below `end`
abbrev pub is_between : ℕ → ℕ → ℕ → Bool
is_between first end n = nat_le first n && nat_lt n end

-- lines are out, and each was handed out one more time
abbrev pub with_lines_out : Tables → ℕ → ℕ → Tables
with_lines_out t first end = record t {
  outs = λ n. if is_between first end n then true else t.outs n;
  reuse = λ n. if is_between first end n then ((t.reuse n + 1) % 2 ^ 32) else t.reuse n;
}

-- the first line of a run, counted over the whole heap
abbrev pub first_line : Run → ℕ
first_line r = LINES_IN_BLOCK * r.block + r.line

-- the tables with a run handed out
abbrev pub handed_out : Tables → Run → Tables
handed_out t r = with_state_by_lines (with_lines_out t (first_line r) (first_line r + r.lines)) r.block
