-- Words that may not be there, and words that are written in a row.
use Rattle.std.specs.Prelude.{ℕ, ◌+◌, List, [], ◌++◌, Option, Some, None, take, drop, length}

-- the words, and none where there are none
abbrev pub words_in : Option (List ℕ) → List ℕ
words_in None = []
words_in (Some words) = words

-- words of which those from an index on are replaced by others, as many as these are
abbrev pub overwritten : List ℕ → ℕ → List ℕ → List ℕ
overwritten words at values = take at words ++ values ++ drop (at + length values) words
