-- Words as tables: each word is cut into entries of a few bits, and a table is the list of all entries.
use Rattle.std.specs.Prelude.{◌≡◌, ℕ, zero, suc, ◌-◌, ◌/◌, ◌%◌, ◌^◌, Bool, nat_eq, List, [], ◌∷◌, drop, slice_index, slice_set}
use Rattle.std.specs.Int.{bit_at}
use Rattle.std.specs.List.{flat_map}
use Rattle.lxr_layout.specs.declared.TheConstants.{COUNT_BITS}
use Rattle.lxr_tables.specs.declared.counts.TheConstants.{COUNTS_IN_WORD}

-- a word cut into so many entries of so many bits, the lowest first
unfoldable pub entries : ℕ → ℕ → ℕ → List ℕ
entries bits zero word = []
entries bits (suc n) word = word % 2 ^ bits ∷ entries bits n (word / 2 ^ bits)

-- the table of so many entries a word, of so many bits each
unfoldable pub table : ℕ → ℕ → List ℕ → List ℕ
table bits n words = flat_map (entries bits n) words

-- the table of bits that begins at a word
abbrev pub bits_from : List ℕ → ℕ → List ℕ
bits_from words base = table 1 64 (drop base words)

-- the table of reference counts that begins at a word
abbrev pub counts_from : List ℕ → ℕ → List ℕ
counts_from words base = table COUNT_BITS COUNTS_IN_WORD (drop base words)

-- every word but one is as it was
abbrev pub OthersStay : List ℕ → List ℕ → ℕ → Type 0
OthersStay before after at = after ≡ slice_set before at (slice_index after at)

-- this bit of a word is set
abbrev pub is_set : ℕ → ℕ → Bool
is_set word n = nat_eq (bit_at word n) 1

-- all bits of a word but one
abbrev pub all_but : ℕ → ℕ
all_but n = 2 ^ 64 - 1 - 2 ^ n
