-- The tables without what they tell of one object.
use Rattle.std.specs.Prelude.{ℕ, ◌+◌, ◌/◌, ◌%◌, Bool, false, ◌&&◌, nat_eq, if◌then◌else◌}
use Rattle.lxr_layout.specs.declared.Shape.{Shape}
use Rattle.lxr_layout.specs.declared.TheConstants.{GRANULES_IN_LINE}
use Rattle.lxr_layout.specs.Objects.{word_count}
use Rattle.lxr_layout.specs.Places.{first_word}
use Rattle.lxr_image.specs.Tables.{Tables, changed}
use Rattle.lxr_image.specs.Reads.{granule_of}
use Rattle.lxr_blocks.specs.Handing.{is_between}
use Rattle.lxr_blocks.specs.Lines.{line_behind, next_line}

-- the count is 0 at the first granule of each line from one on and below another
abbrev pub unmarked_between : (ℕ → ℕ) → ℕ → ℕ → ℕ → ℕ
unmarked_between f first end k = if nat_eq (k % GRANULES_IN_LINE) 0 && is_between first end (k / GRANULES_IN_LINE) then 0 else f k

-- the bits from one on and below another are clear
abbrev pub clear_between : (ℕ → Bool) → ℕ → ℕ → ℕ → Bool
clear_between f first end k = if is_between first end k then false else f k

-- the tables without an object of a shape at a place: its bits, the marks of its further lines and the unlogged bits of its references
-- are gone, and its count is as it was
abbrev pub without_object : Tables → ℕ → Shape → Tables
without_object t p shape = record t {
  starts = changed t.starts (granule_of p) false;
  marks = changed t.marks (granule_of p) false;
  grays = changed t.grays (granule_of p) false;
  counts = unmarked_between t.counts (next_line (granule_of p)) (line_behind (granule_of p) (word_count shape / 2));
  unlogged = clear_between t.unlogged (first_word p + 1) (first_word p + 1 + shape.refs);
}

-- the tables without it and without its count
abbrev pub without_counted : Tables → ℕ → Shape → Tables
without_counted t p shape = without_object (record t { counts = changed t.counts (granule_of p) 0 }) p shape
