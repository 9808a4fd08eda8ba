-- Where an object is placed in a pause, and what changes.
use Rattle.std.specs.Prelude.{◌≡◌, ◌≢◌, ℕ, ◌+◌, ◌-◌, ◌*◌, ◌/◌, ◌<◌, ◌≤◌, nat_eq, nat_le, nat_lt, ◌⊎◌, IsTrue, if◌then◌else◌}
use Rattle.lxr_layout.specs.declared.TheConstants.{GRANULES_IN_BLOCK, GRANULES_IN_LINE}
use Rattle.lxr_layout.specs.declared.runs.Run.{Run}
use Rattle.lxr_layout.specs.declared.Name.{Name}
use Rattle.lxr_layout.specs.declared.Place.{Place}
use Rattle.lxr_layout.specs.declared.Shape.{Shape}
use Rattle.lxr_layout.specs.Places.{place_at}
use Rattle.lxr_layout.specs.Objects.{header_word, line_count, word_count}
use Rattle.lxr_image.specs.declared.space.Space.{Space}
use Rattle.lxr_image.specs.Tables.{Tables}
use Rattle.lxr_image.specs.Spaces.{tables_of}
use Rattle.lxr_blocks.specs.declared.states.BlockState.TheVariants.{Chosen}
use Rattle.lxr_blocks.specs.States.{IsOpenRun, state_in}
use Rattle.lxr_blocks.specs.Handing.{first_line, handed_out, is_between}
use Rattle.lxr_blocks.specs.Listing.{TurnsWithRest}

-- the granules of an object, of two words each
abbrev pub granule_count : Shape → ℕ
granule_count s = word_count s / 2

-- the first granule of a run, counted over the whole heap
abbrev pub first_granule : Run → ℕ
first_granule r = GRANULES_IN_LINE * first_line r

-- a new object at a granule: its header word, and zeros in all its other words
abbrev pub with_object : Tables → ℕ → Name → Shape → Tables
with_object t g n s = record t {
  heap = λ w. if nat_eq w (2 * g) then header_word n s else (if is_between (2 * g) (2 * g + word_count s) w then 0 else t.heap w);
}

-- granules are left of the lines from which an object was placed last: they lie in one line, which is out and
-- outside Chosen blocks
pub record HasRest (s : Space) : Type 0 where
  pub some : s.rest_next < s.rest_end
  pub in_heap : s.rest_end ≤ GRANULES_IN_BLOCK * s.limits.blocks
  pub in_line : s.rest_next / GRANULES_IN_LINE ≡ (s.rest_end - 1) / GRANULES_IN_LINE
  pub out : IsTrue ((tables_of s).outs (s.rest_next / GRANULES_IN_LINE))
  pub outside : state_in (tables_of s) (s.rest_next / GRANULES_IN_BLOCK) ≢ Chosen

-- what is left of the lines from which an object was placed last, which may be nothing
abbrev pub IsRest : Space → Type 0
IsRest s = (s.rest_next ≡ s.rest_end) ⊎ HasRest s

-- the block in which an object was placed last, from which the next one is sought
abbrev pub search_begin : Space → ℕ
search_begin s = if nat_lt (s.rest_next / GRANULES_IN_BLOCK) s.limits.blocks then (s.rest_next / GRANULES_IN_BLOCK) else 0

-- how many blocks behind `from` a block comes, once round the heap
abbrev pub turn_of : ℕ → ℕ → ℕ → ℕ
turn_of blocks from b = if nat_le from b then (b - from) else (b + blocks - from)

-- a run is the first on the way round the heap, or begins where the other does
abbrev pub ComesFirst : ℕ → ℕ → Run → Run → Type 0
ComesFirst blocks from r q = (turn_of blocks from r.block < turn_of blocks from q.block) ⊎ ((r.block ≡ q.block) × (r.line ≤ q.line))

-- the first lines on the way round the heap from a block that are so many, free and outside Chosen blocks
pub record IsFirstFit (t : Tables) (blocks from lines : ℕ) (r : Run) : Type 0 where
  pub run : IsOpenRun t blocks r
  pub lines_are : r.lines ≡ lines
  pub first : (q : Run) → IsOpenRun t blocks q → q.lines ≡ lines → ComesFirst blocks from r q

-- an object is placed at the front of the rest, where that is long enough
pub record IsPlacedInRest (before after : Space) (n : Name) (s : Shape) (p : Place) : Type 0 where
  pub fits : before.rest_next + granule_count s ≤ before.rest_end
  pub place : p ≡ place_at before.rest_next
  pub changes : TurnsWithRest before after (with_object (tables_of before) before.rest_next n s) (before.rest_next + granule_count s) before.rest_end

-- else it is placed on the first lines that fit it; they are handed out, and what it leaves of them is the rest
pub record IsPlacedOn (r : Run) (before after : Space) (n : Name) (s : Shape) (p : Place) : Type 0 where
  pub too_long : before.rest_end < before.rest_next + granule_count s
  pub run : IsFirstFit (tables_of before) before.limits.blocks (search_begin before) (line_count s) r
  pub place : p ≡ place_at (first_granule r)
  pub changes : TurnsWithRest before after (with_object (handed_out (tables_of before) r) (first_granule r) n s) (first_granule r + granule_count s) (first_granule r + GRANULES_IN_LINE * r.lines)

-- an object is placed
abbrev pub IsPlaced : Space → Space → Name → Shape → Place → Type 0
IsPlaced before after n s p = IsPlacedInRest before after n s p ⊎ ((r : Run) × IsPlacedOn r before after n s p)

-- neither the rest nor free lines outside Chosen blocks fit the shape
pub record IsFull (space : Space) (s : Shape) : Type 0 where
  pub rest : space.rest_end < space.rest_next + granule_count s
  pub lines : (q : Run) → IsOpenRun (tables_of space) space.limits.blocks q → line_count s ≤ q.lines → ⊥
