-- What a tracer finds out about fields and blocks, and how many entries the remembered set has room for.
use Rattle.std.specs.Prelude.{ℕ, ◌-◌, ◌*◌, ◌/◌, ◌%◌, ◌^◌, Bool, nat_eq}
use Rattle.lxr_layout.specs.declared.TheConstants.{WORDS_IN_BLOCK, WORDS_IN_LINE}
use Rattle.lxr_layout.specs.declared.Place.{Place}
use Rattle.lxr_layout.specs.declared.limits.Regions.{Regions}
use Rattle.lxr_layout.specs.Places.{field_word}
use Rattle.lxr_blocks.specs.declared.states.BlockState.TheVariants.{Chosen}
use Rattle.lxr_blocks.specs.States.{state_number}

-- the line of a reference of the object at a place, counted over the whole heap
abbrev pub line_of_field : Place → ℕ → ℕ
line_of_field place index = field_word place.0 index / WORDS_IN_LINE

-- how often a line was handed out, by its word of the table of reuse counters; the even line has the low half
abbrev pub counter_in : ℕ → ℕ → ℕ
counter_in word line = word / 2 ^ (32 * (line % 2)) % 2 ^ 32

-- the word of the table of states tells that the block is Chosen
abbrev pub is_chosen : ℕ → Bool
is_chosen word = nat_eq word (state_number Chosen)

-- how many blocks the heap has: its words are those before the table of counts
abbrev pub heap_blocks : Regions → ℕ
heap_blocks r = r.counts / WORDS_IN_BLOCK

-- how many entries the remembered set has room for: its table is before that of cursors
abbrev pub remember_room : Regions → ℕ
remember_room r = r.cursors - r.remembered
