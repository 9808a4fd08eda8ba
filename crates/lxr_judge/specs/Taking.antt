-- The history of a case: each item of the order takes its thread's next operation with its next reply line, or the next report. Histories
-- stand newest first.
use Rattle.std.specs.Prelude.{◌≡◌, ℕ, suc, ◌+◌, ◌<◌, ◌≤◌, Option, Some, None, List, [], ◌∷◌, ◌++◌, length, flat_map, slice_get, codes}
use Rattle.lxr_graph.specs.declared.Op.{Op}
use Rattle.lxr_graph.specs.declared.Op.TheVariants as op
use Rattle.lxr_graph.specs.declared.Reply.{Reply}
use Rattle.lxr_graph.specs.declared.Reply.TheVariants as reply
use Rattle.lxr_graph.specs.History.{Item, Call, Pause, Renew, calls_of}
use Rattle.lxr_text_script.specs.Lines.{Text}
use Rattle.lxr_text_print.specs.Replies.{call_text}
use Rattle.lxr_text_print.specs.Reports.{report_text}
use Rattle.lxr_graph.specs.declared.Item as ordered
use Rattle.lxr_graph.specs.declared.Item.TheVariants as ordered_as
use Rattle.lxr_model.specs.Belongs.{operations_of, next_operation}
use Rattle.lxr_judge.specs.Evidence.{Evidence, report_count, report_lines, reply_lines}

-- how many pauses a history has
abbrev pub pauses_in : List Item → ℕ
pauses_in [] = 0
pauses_in (Renew ns ∷ h) = 0
pauses_in (Pause report ∷ h) = suc (pauses_in h)
pauses_in (Call t o r ∷ h) = pauses_in h

-- ---- what an item takes

-- a line without its line feed is that of an operation and its reply
abbrev pub IsLineOf : Op → Reply → Option Text → Type 0
IsLineOf o r None = ⊥
IsLineOf o r (Some line) = call_text o r ≡ line ++ codes "\n"

-- an operation has this reply by the line that it takes; the end takes none
abbrev pub IsPrinted : Op → Reply → Option Text → Type 0
IsPrinted op.End r line = r ≡ reply.Ended
IsPrinted o r line = IsLineOf o r line

-- the line that thread t's next call takes behind h, if there is one
abbrev pub next_line : Evidence → ℕ → List Item → Option Text
next_line e t h = slice_get (reply_lines e t) (length (calls_of t h))

-- an item behind h is the next call of thread t: its next operation, or behind the last its end, with the reply that its next line says
abbrev pub IsNextCall : Evidence → List Item → ℕ → Item → Type 0
IsNextCall e h t (Call u o r) = (u ≡ t) × (next_operation e.script t h ≡ Some o) × IsPrinted o r (next_line e t h)
IsNextCall e h t (Pause report) = ⊥
IsNextCall e h t (Renew ns) = ⊥

-- the text of lines
abbrev pub text_of : List Text → Text
text_of lines = flat_map (λ line. line ++ codes "\n") lines

-- a text with one more line, where there is one
abbrev pub with_line : Text → Option Text → Text
with_line text None = text
with_line text (Some line) = text ++ line ++ codes "\n"

-- an item behind h is the next pause: the next report says its report, but for counts where they aren't printed
abbrev pub IsNextPause : Evidence → List Item → Item → Type 0
IsNextPause e h (Call t o r) = ⊥
IsNextPause e h (Renew ns) = ⊥
IsNextPause e h (Pause report) = (pauses_in h < report_count e) × (report_text e.counts report ≡ text_of (report_lines e (pauses_in h)))

-- an item of a history is what an item of the order takes behind h
abbrev pub TakesBy : Evidence → List Item → Option ordered.Item → Item → Type 0
TakesBy e h None x = ⊥
TakesBy e h (Some (ordered_as.Call t)) x = IsNextCall e h t x
TakesBy e h (Some ordered_as.Pause) x = IsNextPause e h x

-- x is what the item of the order takes that stands where h ends
abbrev pub Takes : Evidence → List Item → Item → Type 0
Takes e h x = TakesBy e h (slice_get e.order (length h)) x

-- ---- the history

-- the items of h are what the first items of the order take, one after the other
abbrev pub AreTaken : Evidence → List Item → Type 0
AreTaken e [] = Unit {0}
AreTaken e (x ∷ h) = AreTaken e h × Takes e h x

-- h takes all: the operations of each thread and its end, with all reply lines, and all reports
pub record TakesAll (e : Evidence) (h : List Item) : Type 0 where
  pub calls : (t : ℕ) → 1 ≤ t → t ≤ e.terms.threads → calls_of t h ≡ operations_of e.script t
  pub replies : (t : ℕ) → 1 ≤ t → t ≤ e.terms.threads → length (reply_lines e t) + 1 ≡ length (operations_of e.script t)
  pub reports : pauses_in h ≡ report_count e

-- h is the history of the case: all items of the order take something, and nothing is left over
pub record IsHistoryOf (e : Evidence) (h : List Item) : Type 0 where
  pub taken : AreTaken e h
  pub order : length h ≡ length e.order
  pub all : TakesAll e h
