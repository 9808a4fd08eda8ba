-- One new object promoted, on the tables.
use Rattle.std.specs.Prelude.{◌≡◌, ℕ, ◌+◌, ◌/◌, ◌%◌, ◌&&◌, ◌⊎◌, nat_eq, Bool, true, if◌then◌else◌}
use Rattle.lxr_layout.specs.declared.Name.{Name}
use Rattle.lxr_layout.specs.declared.Place.{Place}
use Rattle.lxr_layout.specs.declared.Shape.{Shape}
use Rattle.lxr_layout.specs.declared.TheConstants.{GRANULES_IN_LINE, STUCK}
use Rattle.lxr_layout.specs.Objects.{word_count}
use Rattle.lxr_layout.specs.Places.{first_word}
use Rattle.lxr_image.specs.declared.space.Space.{Space}
use Rattle.lxr_image.specs.Tables.{Tables, changed}
use Rattle.lxr_image.specs.Spaces.{Turns, tables_of}
use Rattle.lxr_image.specs.Reads.{granule_of, is_tracing}
use Rattle.lxr_blocks.specs.Handing.{is_between}
use Rattle.lxr_blocks.specs.Placing.{IsFull}
use Rattle.lxr_blocks.specs.Lines.{line_behind, next_line}
use Rattle.lxr_pause_promote.specs.Copying.{Evacuates}

-- the tables with the object at a granule marked while a trace runs
abbrev pub with_mark : Tables → ℕ → Tables
with_mark t granule = record t { marks = if is_tracing t then changed t.marks granule true else t.marks }

-- the bits from one on and below another are set
abbrev pub set_between : (ℕ → Bool) → ℕ → ℕ → ℕ → Bool
set_between f first end k = if is_between first end k then true else f k

-- the count is STUCK at the first granule of each line from one on and below another
abbrev pub marked_between : (ℕ → ℕ) → ℕ → ℕ → ℕ → ℕ
marked_between f first end k = if nat_eq (k % GRANULES_IN_LINE) 0 && is_between first end (k / GRANULES_IN_LINE) then STUCK else f k

-- the tables with the further lines of an object marked
abbrev pub with_marks : Tables → ℕ → ℕ → Tables
with_marks t granule granules = record t { counts = marked_between t.counts (next_line granule) (line_behind granule granules) }

-- the tables with the unlogged bits of heap words set
abbrev pub with_unlogged : Tables → ℕ → ℕ → Tables
with_unlogged t first end = record t { unlogged = set_between t.unlogged first end }

-- the tables with an object of a shape promoted at a place: it begins there, and is marked while a trace runs; the next store to
-- each of its references is to be logged, and each further line that it reaches into is marked
abbrev pub with_promotion : Tables → ℕ → Shape → Tables
with_promotion t p shape = record t {
  starts = changed t.starts (granule_of p) true;
  marks = if is_tracing t then changed t.marks (granule_of p) true else t.marks;
  counts = marked_between t.counts (next_line (granule_of p)) (line_behind (granule_of p) (word_count shape / 2));
  unlogged = set_between t.unlogged (first_word p + 1) (first_word p + 1 + shape.refs);
}

-- no room was found for a copy, and the object is promoted where it was made
pub record PromotesThere (before after : Space) (p q : Place) (shape : Shape) : Type 0 where
  pub full : IsFull before shape
  pub place : q ≡ p
  pub turns : Turns before after (with_promotion (tables_of before) p.0 shape)

-- the object is copied, and promoted where its copy is
pub record PromotesCopy (before after : Space) (p q : Place) (n : Name) (shape : Shape) : Type 0 where
  pub copied : Space
  pub evacuates : Evacuates before copied p q n shape
  pub turns : Turns copied after (with_promotion (tables_of copied) q.0 shape)

-- n's new object of a shape at place p is promoted, and stands at place q
abbrev pub Promotes : Space → Space → Place → Place → Name → Shape → Type 0
Promotes before after p q n shape = PromotesThere before after p q shape ⊎ PromotesCopy before after p q n shape
