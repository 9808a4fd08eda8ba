-- What is gathered of an output, as parts of its text.
use Rattle.std.specs.Prelude.{◌≡◌, ℕ, ◌-◌, Bool, true, false, Option, Some, None, List, map, take, drop}
use Rattle.lxr_text_script.specs.Lines.{Text}
use Rattle.lxr_judge_output.specs.declared.places.LineKind.{LineKind}
use Rattle.lxr_judge_output.specs.declared.gathering.Piece.{Piece}
use Rattle.lxr_judge_output.specs.declared.gathering.Groups.{Groups}
use Rattle.lxr_judge_output.specs.declared.gathering.Output.{Output}
use Rattle.lxr_judge_output.specs.declared.gathering.Reading.{Reading}
use Rattle.lxr_judge_output.specs.Form.{Grouped, Gathered, kind_at, place_behind, with_line, output_read}

-- a part of a text
abbrev pub piece_in : Text → Piece → Text
piece_in text piece = take (piece.to - piece.from) (drop piece.from text)

-- lines in groups, whatever their room
abbrev pub groups_in : Groups → Grouped Piece
groups_in groups = record { lines = groups.lines.items; starts = groups.starts.items }

-- what is gathered, whatever the room of its lists
abbrev pub gathered_in : Output → Gathered Piece
gathered_in output = record { sorts = output.sorts.items; reports = groups_in output.reports; replies = groups_in output.replies }

-- lines by their texts
abbrev pub group_texts : Text → Grouped Piece → Grouped Text
group_texts text g = record { lines = map (piece_in text) g.lines; starts = g.starts }

abbrev pub texts_in : Text → Gathered Piece → Gathered Text
texts_in text g = record { sorts = g.sorts; reports = group_texts text g.reports; replies = group_texts text g.replies }

-- a line was taken: it may stand there, it is gathered, and the next stands behind it; or it may not
abbrev pub TakesLine : Bool → ℕ → List Text → Piece → Reading → Reading → Bool → Type 0
TakesLine counts threads words line old new false = kind_at threads old.place words ≡ None
TakesLine counts threads words line old new true =
    (kind : LineKind) × (kind_at threads old.place words ≡ Some kind)
    × (new.place ≡ place_behind counts old.place kind)
    × (gathered_in new.output ≡ with_line (gathered_in old.output) line kind)

-- the answer to an output: what is gathered of it, as parts of its text; none exactly where it hasn't the form
abbrev pub AnswersOutput : Bool → ℕ → Text → Option Output → Type 0
AnswersOutput counts threads text None = output_read counts threads text ≡ None
AnswersOutput counts threads text (Some output) = output_read counts threads text ≡ Some (texts_in text (gathered_in output))
