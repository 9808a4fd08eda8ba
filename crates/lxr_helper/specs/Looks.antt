-- Single steps that decrementers and tracers have in common.
use Rattle.std.specs.Prelude.{ℕ, ◌+◌, ◌/◌, ◌%◌, ◌^◌}
use Rattle.lxr_layout.specs.declared.TheConstants.{TRACING_WORD}
use Rattle.lxr_layout.specs.declared.Place.{Place}
use Rattle.lxr_layout.specs.declared.limits.Regions.{Regions}
use Rattle.lxr_layout.specs.Places.{field_word, first_word}
use Rattle.lxr_actor.specs.declared.Action.{Action}
use Rattle.lxr_actor.specs.declared.Kindred.TheVariants.{Load, Or}
use Rattle.lxr_helper.specs.Words.{granule_of}

-- a load of a word
abbrev pub load : ℕ → Action
load word = record { kind = Load; word = word; operand = 0 }

-- in the table of bits that begins at a word: a load of the bit at a place, and the setting of it
abbrev pub bit_look : ℕ → Place → Action
bit_look table place = load (table + granule_of place / 64)

-- the bit of the object at a place is set in a table
abbrev pub bit_setting : ℕ → Place → Action
bit_setting table place = record { kind = Or; word = table + granule_of place / 64; operand = 2 ^ (granule_of place % 64) }

-- the start bit of the object at a place is looked at
abbrev pub start_look : Regions → Place → Action
start_look r place = bit_look r.starts place

-- the header of the object at a place, and a reference of it, are looked at
abbrev pub header_look : Regions → Place → Action
header_look r place = load (r.heap + first_word place.0)

-- a reference of the object at a place is looked at
abbrev pub reference_look : Regions → Place → ℕ → Action
reference_look r place index = load (r.heap + field_word place.0 index)

-- the object at a place is made gray
abbrev pub graying : Regions → Place → Action
graying r place = bit_setting r.grays place

-- the tracing word is looked at
abbrev pub tracing_look : Regions → Action
tracing_look r = load (r.cursors + TRACING_WORD)
