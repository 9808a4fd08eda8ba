-- The form of an output: reports, and then the replies of each thread. It is said line by line: what may stand at a place, and where the
-- next line stands. Beside that the lines of reports and of replies are gathered.
use Rattle.std.specs.Prelude.{ℕ, ◌+◌, Bool, true, false, nat_lt, ◌==◌, ◌&&◌, Option, Some, None, List, [], ◌∷◌, ◌++◌, length, option_and_then, codes, if◌then◌else◌}
use Rattle.std.specs.List.{slice_split}
use Rattle.lxr_text_script.specs.Lines.{Text}
use Rattle.lxr_judge_output.specs.declared.lines.Sort.{Sort}
use Rattle.lxr_judge_output.specs.declared.lines.Sort.TheVariants as sort
use Rattle.lxr_judge_output.specs.declared.places.Place.{Place}
use Rattle.lxr_judge_output.specs.declared.places.Place.TheVariants as place
use Rattle.lxr_judge_output.specs.declared.places.LineKind.{LineKind}
use Rattle.lxr_judge_output.specs.declared.places.LineKind.TheVariants as line_kind
use Rattle.lxr_judge_output.specs.Lines.{fields_of, sort_of, are_names, is_count, is_heading, replies}

-- ---- places

-- the kind of a line, where a test holds
abbrev pub kind_if : LineKind → Bool → Option LineKind
kind_if kind true = Some kind
kind_if kind false = None

-- the line of a pause, or else that of thread 1
abbrev pub pause_or_first : Option Sort → List Text → Option LineKind
pause_or_first (Some s) words = Some (line_kind.Pause s)
pause_or_first None words = kind_if (line_kind.Thread 1) (is_heading 1 words)

-- the line of the thread behind t, where there is one
abbrev pub next_thread : ℕ → ℕ → List Text → Option LineKind
next_thread threads t words = if nat_lt t threads then kind_if (line_kind.Thread (t + 1)) (is_heading (t + 1) words) else None

-- what a line with these words is at a place, where there are so many threads; none where it may not stand there
abbrev pub kind_at : ℕ → Place → List Text → Option LineKind
kind_at threads place.Between words = pause_or_first (sort_of words) words
kind_at threads (place.Promoted s) words = kind_if line_kind.Names (are_names (codes "promoted") words)
kind_at threads (place.Dead s) words = kind_if line_kind.Names (are_names (codes "dead") words)
kind_at threads (place.Stuck s) words = kind_if line_kind.Names (are_names (codes "stuck") words)
kind_at threads (place.Swept s) words = kind_if line_kind.Names (are_names (codes "swept") words)
kind_at threads place.Counts words = if is_count words then Some line_kind.Count else pause_or_first (sort_of words) words
kind_at threads (place.Replies t) words = if replies words then Some line_kind.Reply else next_thread threads t words

-- behind the last list of names stand counts, where they are printed and the pause isn't plain
abbrev pub place_behind_names : Bool → Sort → Place
place_behind_names counts sort.Plain = place.Between
place_behind_names counts sort.Begin = if counts then place.Counts else place.Between
place_behind_names counts sort.End = if counts then place.Counts else place.Between
place_behind_names counts sort.Collect = if counts then place.Counts else place.Between

-- behind a list of names stands the next one
abbrev pub place_of_names : Bool → Place → Place
place_of_names counts (place.Promoted s) = place.Dead s
place_of_names counts (place.Dead s) = place.Stuck s
place_of_names counts (place.Stuck s) = place.Swept s
place_of_names counts (place.Swept s) = place_behind_names counts s
place_of_names counts p = p

-- the place behind a line of a kind
abbrev pub place_behind : Bool → Place → LineKind → Place
place_behind counts p (line_kind.Pause s) = place.Promoted s
place_behind counts p line_kind.Names = place_of_names counts p
place_behind counts p line_kind.Count = p
place_behind counts p (line_kind.Thread t) = place.Replies t
place_behind counts p line_kind.Reply = p

-- ---- what is gathered

-- lines in groups: all lines, one group behind the other, and before how many of them each group begins. A line is told by its text, or by
-- where it stands.
pub record Grouped (T : Type 0) : Type 0 where
  pub lines : List T
  pub starts : List ℕ

-- one more group, which is empty
abbrev pub opened : {T : Type 0} → Grouped T → Grouped T
opened g = record g { starts = g.starts ++ length g.lines ∷ [] }

-- one more line of the last group
abbrev pub added : {T : Type 0} → Grouped T → T → Grouped T
added g line = record g { lines = g.lines ++ line ∷ [] }

-- what is gathered of an output: the sort of each pause, the lines of each report, and those of each thread's replies
pub record Gathered (T : Type 0) : Type 0 where
  pub sorts : List Sort
  pub reports : Grouped T
  pub replies : Grouped T

-- no lines
abbrev pub no_lines : {T : Type 0} → Grouped T
no_lines = record { lines = []; starts = [] }

-- nothing yet
abbrev pub nothing_gathered : {T : Type 0} → Gathered T
nothing_gathered = record { sorts = []; reports = no_lines; replies = no_lines }

-- a line of a kind joins its group; that of a pause begins one, and that of a thread stands before one
abbrev pub with_line : {T : Type 0} → Gathered T → T → LineKind → Gathered T
with_line g line (line_kind.Pause s) = record g { sorts = g.sorts ++ s ∷ []; reports = added (opened g.reports) line }
with_line g line line_kind.Names = record g { reports = added g.reports line }
with_line g line line_kind.Count = record g { reports = added g.reports line }
with_line g line (line_kind.Thread t) = record g { replies = opened g.replies }
with_line g line line_kind.Reply = record g { replies = added g.replies line }

-- ---- the whole

-- the place is among the replies of the last thread
abbrev pub is_last : ℕ → Place → Bool
is_last threads (place.Replies t) = t == threads
is_last threads p = false

-- behind the last line feed stands nothing, and the last thread was read
abbrev pub whole : ℕ → Place → Gathered Text → Text → Option (Gathered Text)
whole threads p g rest = if length rest == 0 && is_last threads p then Some g else None

-- From a place on, where so much is gathered: the parts between line feeds. The lines are read one after the other; the last part is none.
unfoldable pub parts_read : Bool → ℕ → Place → Gathered Text → List Text → Option (Gathered Text)
parts_read counts threads p g [] = None
parts_read counts threads p g (rest ∷ []) = whole threads p g rest
parts_read counts threads p g (line ∷ next ∷ parts) =
    option_and_then (λ kind. parts_read counts threads (place_behind counts p kind) (with_line g line kind) (next ∷ parts)) (kind_at threads p (fields_of line))

-- what is gathered of an output; none where it hasn't the form
unfoldable pub output_read : Bool → ℕ → Text → Option (Gathered Text)
output_read counts threads text = parts_read counts threads place.Between nothing_gathered (slice_split (λ b. b == 10) text)
