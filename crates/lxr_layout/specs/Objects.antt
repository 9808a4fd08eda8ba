-- Shapes and header words of objects.
use Rattle.std.specs.Prelude.{ℕ, ◌+◌, ◌*◌, ◌/◌, ◌%◌, ◌^◌, ◌≤◌, nat_le, if◌then◌else◌}
use Rattle.lxr_layout.specs.declared.Shape.{Shape}
use Rattle.lxr_layout.specs.declared.Name.{Name}
use Rattle.lxr_layout.specs.declared.Header.{Header}
use Rattle.lxr_layout.specs.declared.Header.TheVariants.{Object, Moved}

-- at most 1,023 references and at most 1,023 data words
abbrev pub FitsShape : Shape → Type 0
FitsShape s = (s.refs ≤ 1023) × (s.values ≤ 1023)

-- the words of an object: its header, references and data, rounded up to an even number, so that objects begin at granules
abbrev pub word_count : Shape → ℕ
word_count s = (1 + s.refs + s.values + 1) / 2 * 2

-- the lines of 32 words that so many words fill, the last perhaps in part
abbrev pub line_count : Shape → ℕ
line_count s = (word_count s + 31) / 32

-- the header word: data words in bits 0 to 9, references in bits 10 to 19, serial in bits 20 to 51, thread in bits 52 to 59
abbrev pub header_word : Name → Shape → ℕ
header_word n s = s.values + s.refs * 2 ^ 10 + n.serial * 2 ^ 20 + n.thread * 2 ^ 52

-- the word that stands where an object stood before it was moved: bit 63, and the place where it stands
abbrev pub moved_word : ℕ → ℕ
moved_word p = 2 ^ 63 + p

-- what a header word says: bit 63 tells the new place of a moved object from an object
abbrev pub header_of : ℕ → Header
header_of word =
    if nat_le (2 ^ 63) word
    then Moved (record { 0 = word % 2 ^ 32 })
    else Object
    (record { thread = word / 2 ^ 52 % 2 ^ 8; serial = word / 2 ^ 20 % 2 ^ 32 })
    (record { refs = word / 2 ^ 10 % 2 ^ 10; values = word % 2 ^ 10 })
