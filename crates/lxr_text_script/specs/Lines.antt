-- A text as numbered lines of words. What a line is, is said by std's `lines`: lines end at a line feed, one carriage
-- return before it is dropped, a last line needs no line feed, and an empty rest after the last line feed is no line.
use Rattle.std.specs.Prelude.{ℕ, ◌+◌, Bool, true, false, not, ◌||◌, ◌==◌, List, [], ◌∷◌, length, slice_index, filter, map}
use Rattle.std.specs.List.{slice_split}
use Rattle.std.specs.Str.Lines.{lines}

-- bytes that are read as characters
abbrev pub Text : Type 0
Text = List ℕ

-- a space or a tab
abbrev pub is_blank : ℕ → Bool
is_blank b = b == 32 || b == 9

-- a part of a line that isn't empty
abbrev pub is_word : Text → Bool
is_word [] = false
is_word (b ∷ bs) = true

-- the words of a line: what stands between spaces and tabs, where it isn't empty
unfoldable pub words_of : Text → List Text
words_of line = filter is_word (slice_split is_blank line)

-- a line by its words, with its number
pub record Line : Type 0 where
  pub number : ℕ
  pub words : List Text

-- the line with number n and these bytes
abbrev pub text_line : ℕ → Text → Line
text_line n line = record { number = n; words = words_of line }

-- the lines, of which the first has number n
abbrev pub numbered : ℕ → List Text → List Line
numbered n [] = []
numbered n (line ∷ others) = text_line n line ∷ numbered (n + 1) others

-- there is a word, and the first doesn't begin with '#'
abbrev pub has_item : List Text → Bool
has_item [] = false
has_item (word ∷ words) = not (slice_index word 0 == 35)

-- the lines that aren't skipped, of which the first line of the text has number n: lines without words and comments are
-- skipped, and counted
unfoldable pub items_from : ℕ → Text → List Line
items_from n text = filter (λ line. has_item line.words) (numbered n (lines text))

-- the words of lines
abbrev pub texts : List Line → List (List Text)
texts lines = map (λ line. line.words) lines

-- the number after that of the last line
abbrev pub end_from : ℕ → Text → ℕ
end_from n text = n + length (lines text)
