-- Lines of text: words with one space between them, and a line feed at the end.
use Rattle.std.specs.Prelude.{ℕ, List, ◌++◌, codes, decimal}
use Rattle.std.specs.List.{join_with_byte}
use Rattle.lxr_layout.specs.declared.Name.{Name}

-- the code of a space
abbrev pub space : ℕ
space = 32

-- words with one space between them
abbrev pub words : List (List ℕ) → List ℕ
words ws = join_with_byte space ws

-- a line of words
abbrev pub line : List (List ℕ) → List ℕ
line ws = words ws ++ codes "\n"

-- a name as T.S: its thread and its serial in decimal
abbrev pub name_text : Name → List ℕ
name_text n = decimal n.thread ++ (codes "." ++ decimal n.serial)

-- a name with the space before it
abbrev pub spaced_name : Name → List ℕ
spaced_name n = codes " " ++ name_text n
