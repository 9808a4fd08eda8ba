-- What is left of a text that is read line by line.
use Rattle.std.specs.Prelude.{ℕ, ◌+◌, ◌^◌, ◌<◌, List, ◌∷◌, length}
use Rattle.lxr_text_script.specs.declared.lines.Item.{Item}
use Rattle.lxr_text_script.specs.declared.lines.Scanner.{Scanner}
use Rattle.lxr_text_script.specs.Lines.{Line, words_of, items_from, end_from}

-- an item as a line
abbrev pub line_of : Item → Line
line_of item = record { number = item.number; words = item.word.now ∷ words_of item.rest.now }

-- the lines that are left and aren't skipped
abbrev pub items_left : Scanner → List Line
items_left s = items_from s.number s.rest.now

-- the number after that of the last line
abbrev pub end_left : Scanner → ℕ
end_left s = end_from s.number s.rest.now

-- all numbers of lines are below 2^32
abbrev pub IsSmall : Scanner → Type 0
IsSmall s = s.number + length s.rest.now < 2 ^ 32
