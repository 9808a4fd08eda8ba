-- What words of a space tell those who work from a pocket. Each word tells something: one that makes no sense, as none does in
-- an epoch, tells of nil or of no references.
use Rattle.std.specs.Prelude.{ℕ, ◌+◌, ◌-◌, ◌/◌, ◌%◌, ◌≤◌, Bool, ◌&&◌, nat_le, if◌then◌else◌, Option, Some, None}
use Rattle.lxr_layout.specs.declared.Place.{Place}
use Rattle.lxr_layout.specs.declared.Header.{Header}
use Rattle.lxr_layout.specs.declared.Header.TheVariants.{Object, Moved}
use Rattle.lxr_layout.specs.declared.limits.Regions.{Regions}
use Rattle.lxr_layout.specs.Objects.{header_of, word_count}
use Rattle.lxr_layout.specs.Places.{first_word}
use Rattle.lxr_tables.specs.Entries.{is_set}

-- the granule of a place, counted over the whole heap; places count from 1, granules from 0
abbrev pub granule_of : Place → ℕ
granule_of place = place.0 - 1

-- the granules of the heap: two words each; the words of the heap are those before the table of counts
abbrev pub heap_granules : Regions → ℕ
heap_granules r = r.counts / 2

-- this is a place of the heap
abbrev pub InHeap : Regions → Place → Type 0
InHeap r place = (1 ≤ place.0) × (place.0 ≤ heap_granules r)

-- the number is that of a place of the heap
abbrev pub is_in_heap : Regions → ℕ → Bool
is_in_heap r number = nat_le 1 number && nat_le number (heap_granules r)

-- the bit of the object at a place, in its word of a table of bits
abbrev pub has_bit : Place → ℕ → Bool
has_bit place word = is_set word (granule_of place % 64)

-- what a word refers to; none where it is nil
abbrev pub referent_in : Regions → ℕ → Option Place
referent_in r word = if is_in_heap r word then Some (record { 0 = word }) else None

-- how many references a header tells of, where its object lies in the heap
abbrev pub references_told : Regions → Place → Header → ℕ
references_told r place (Object name shape) = if nat_le (first_word place.0 + word_count shape) r.counts then shape.refs else 0
references_told r place (Moved to) = 0

-- how many references the object at a place has, by its header word
abbrev pub references_in : Regions → Place → ℕ → ℕ
references_in r place word = references_told r place (header_of word)

-- an object with so many references is at this place of the heap
pub record IsObject (r : Regions) (place : Place) (refs : ℕ) : Type 0 where
  pub in_heap : InHeap r place
  pub few : refs ≤ 1023
  pub within : first_word place.0 + 1 + refs ≤ r.counts
