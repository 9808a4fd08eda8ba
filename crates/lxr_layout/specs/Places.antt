-- Places of the heap: granules of two words, numbered from 1.
use Rattle.std.specs.Prelude.{ℕ, ◌+◌, ◌-◌, ◌*◌, ◌/◌, ◌%◌, ◌^◌, ◌≤◌}
use Rattle.lxr_layout.specs.declared.Place.{Place}
use Rattle.lxr_layout.specs.declared.TheConstants.{GRANULES_IN_BLOCK, GRANULES_IN_LINE, MOST_GRANULES}

-- a place of the largest heap; 0 is nil and no place
abbrev pub IsPlace : Place → Type 0
IsPlace p = (1 ≤ p.0) × (p.0 ≤ MOST_GRANULES)

-- the granule of a place, counted over the whole heap; places count from 1, granules from 0
abbrev pub granule_of : ℕ → ℕ
granule_of p = p - 1

-- the place of a granule
abbrev pub place_at : ℕ → Place
place_at granule = record { 0 = granule + 1 }

-- the first word of a granule; a granule has 2 words
abbrev pub first_word : ℕ → ℕ
first_word p = 2 * granule_of p

-- the heap word of a reference: references stand behind the header of the object at a place
abbrev pub field_word : ℕ → ℕ → ℕ
field_word place index = first_word place + 1 + index

-- the place that a reference word holds, in its low 32 bits
abbrev pub place_in : ℕ → Place
place_in word = record { 0 = word % 2 ^ 32 }

-- the line of a granule, counted over the whole heap; a line has 16 granules
abbrev pub line_at : ℕ → ℕ
line_at p = granule_of p / GRANULES_IN_LINE

-- the block of a granule; a block has 2,048 granules
abbrev pub block_at : ℕ → ℕ
block_at p = granule_of p / GRANULES_IN_BLOCK
