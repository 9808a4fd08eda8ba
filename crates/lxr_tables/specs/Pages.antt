-- A row of words that is written a page at a time, and the notes of which pages are written.
use Rattle.std.specs.Prelude.{◌≡◌, ◌≢◌, ℕ, ◌+◌, ◌*◌, ◌/◌, ◌<◌, ◌≤◌, Bool, true, false, List, Option, Some, None, length, slice_index, slice_index_or}
use Rattle.std.specs.Mem.Slots.{slots_items, slots_filled, slots_len, IsFull}
use Rattle.core.specs.declared.slots.Slots.{Slots}
use Rattle.lxr_tables.specs.declared.pages.TheConstants.{WORDS_IN_PAGE}

-- there is a note for each page of a row of so many words, and no other
pub record AreSoMany (notes : List Bool) (count : ℕ) : Type 0 where
  pub enough : count ≤ WORDS_IN_PAGE * length notes
  pub no_more : WORDS_IN_PAGE * length notes < count + WORDS_IN_PAGE

-- each word of a page that is noted as written lies in its place, and each other word is 0
pub record IsPaged (row : Slots ℕ) (notes : List Bool) : Type 0 where
  pub count : AreSoMany notes (slots_len row)
  pub written : (at : ℕ) → at < slots_len row → slice_index_or notes (at / WORDS_IN_PAGE) false ≡ true → slice_index_or (slots_filled row) at false ≡ true
  pub unwritten : (at : ℕ) → at < slots_len row → slice_index_or notes (at / WORDS_IN_PAGE) false ≡ false → slice_index (slots_items row) at ≡ 0

-- each word can be read: by the notes of its page, or in its place where there are none
abbrev pub IsReadable : Slots ℕ → Option (List Bool) → Type 0
IsReadable row None = IsFull row
IsReadable row (Some notes) = IsPaged row notes

-- each word is 0 of the page of the word at an index
abbrev pub PageIsZero : List ℕ → ℕ → Type 0
PageIsZero words at = (k : ℕ) → k < length words → k / WORDS_IN_PAGE ≡ at / WORDS_IN_PAGE → slice_index words k ≡ 0

-- the page of the word at an index has a word that isn't 0
pub record IsInUsedPage (words : List ℕ) (at : ℕ) : Type 0 where
  pub other : ℕ
  pub there : other < length words
  pub page : other / WORDS_IN_PAGE ≡ at / WORDS_IN_PAGE
  pub some : slice_index words other ≢ 0
