-- Spans of granules from which an allocator takes the front.
use Rattle.std.specs.Prelude.{ℕ, ◌+◌, ◌-◌, ◌*◌, ◌/◌, ◌<◌, ◌≤◌}
use Rattle.lxr_layout.specs.declared.TheConstants.{GRANULES_IN_BLOCK, GRANULES_IN_LINE, LINES_IN_BLOCK, MOST_BLOCKS}
use Rattle.lxr_layout.specs.Objects.{word_count, line_count}
use Rattle.lxr_layout.specs.Places.{place_at}
use Rattle.lxr_layout.specs.declared.Place.{Place}
use Rattle.lxr_layout.specs.declared.Shape.{Shape}
use Rattle.lxr_layout.specs.declared.runs.Run.{Run}
use Rattle.lxr_alloc.specs.declared.Span.{Span}

-- the granules of an object; a granule has 2 words
abbrev pub granule_count : Shape → ℕ
granule_count s = word_count s / 2

-- no granules
abbrev pub empty_span : Span
empty_span = record { next = 0; end = 0 }

-- how many granules are left
abbrev pub rest_of : Span → ℕ
rest_of s = s.end - s.next

-- an object of this shape can be taken from the span
abbrev pub FitsSpan : Span → Shape → Type 0
FitsSpan s shape = granule_count shape ≤ rest_of s

-- where the span begins
abbrev pub front_of : Span → Place
front_of s = place_at s.next

-- what is left once an object was taken from the front
abbrev pub taken_from : Span → Shape → Span
taken_from s shape = record s { next = s.next + granule_count shape }

-- a shape of more than one line, which may be taken from the overflow span
abbrev pub IsMedium : Shape → Type 0
IsMedium shape = 1 < line_count shape

-- the lines of a run lie in their block
abbrev pub IsInBlock : Run → Type 0
IsInBlock r = (r.block < MOST_BLOCKS) × (r.line + r.lines ≤ LINES_IN_BLOCK)

-- the granules of a run; a block has 2,048 granules, a line has 16
abbrev pub run_span : Run → Span
run_span r = record { next = GRANULES_IN_BLOCK * r.block + GRANULES_IN_LINE * r.line; end = GRANULES_IN_BLOCK * r.block + GRANULES_IN_LINE * (r.line + r.lines) }

-- the granules of a block
abbrev pub block_span : ℕ → Span
block_span block = record { next = GRANULES_IN_BLOCK * block; end = GRANULES_IN_BLOCK * (block + 1) }
