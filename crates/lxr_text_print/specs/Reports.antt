-- The text of a pause: a line for its number and kind, a line for each list of names, and lines for counts.
use Rattle.std.specs.Prelude.{ℕ, Bool, true, false, not, ◌&&◌, if◌then◌else◌, Option, Some, None, List, [], ◌∷◌, ◌++◌, length, map, flat_map, codes, decimal}
use Rattle.lxr_layout.specs.declared.Name.{Name}
use Rattle.lxr_graph.specs.declared.report.Kind.{Kind}
use Rattle.lxr_graph.specs.declared.report.Kind.TheVariants as kind
use Rattle.lxr_graph.specs.declared.report.Count.{Count}
use Rattle.lxr_graph.specs.History.{PauseReport}
use Rattle.lxr_text_print.specs.Lines.{line, name_text}

-- the words of a kind
abbrev pub kind_words : Kind → List (List ℕ)
kind_words kind.Plain = codes "plain" ∷ []
kind_words kind.Begin = codes "begin" ∷ []
kind_words (kind.End j) = codes "end" ∷ decimal j ∷ []
kind_words kind.Collect = codes "collect" ∷ []

-- the line of a pause's number and kind
unfoldable pub pause_text : ℕ → Kind → List ℕ
pause_text number k = line (codes "pause" ∷ decimal number ∷ kind_words k)

-- whether a pause is plain
abbrev pub is_plain : Kind → Bool
is_plain kind.Plain = true
is_plain kind.Begin = false
is_plain (kind.End j) = false
is_plain kind.Collect = false

-- a list of names: its label, how many there are, and the names
unfoldable pub names_text : List ℕ → List Name → List ℕ
names_text label names = line (label ∷ decimal (length names) ∷ map name_text names)

-- the word of a count: a number or `stuck`
abbrev pub count_word : Option ℕ → List ℕ
count_word None = codes "stuck"
count_word (Some n) = decimal n

-- the line of an object's count
unfoldable pub count_text : Count → List ℕ
count_text c = line (codes "count" ∷ name_text c.name ∷ count_word c.count ∷ [])

-- the lines of counts: where they are asked for, and the pause isn't plain
unfoldable pub counts_text : Bool → PauseReport → List ℕ
counts_text asked r = if asked && not (is_plain r.kind) then flat_map count_text r.counts else []

-- the text of a pause's report
abbrev pub report_text : Bool → PauseReport → List ℕ
report_text asked r =
    pause_text r.number r.kind
    ++ names_text (codes "promoted") r.promoted
    ++ names_text (codes "dead") r.dead
    ++ names_text (codes "stuck") r.stuck
    ++ names_text (codes "swept") r.swept
    ++ counts_text asked r
