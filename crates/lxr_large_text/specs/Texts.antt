-- The text of a history of a script with large objects: the reports of its pauses, and then its replies.
use Rattle.std.specs.Prelude.{ℕ, Bool, List, [], ◌∷◌, ◌++◌}
use Rattle.lxr_text_print.specs.Reports.{report_text}
use Rattle.lxr_large_model.specs.declared.LargeOp.{LargeOp}
use Rattle.lxr_large_model.specs.History.{LargeItem, Called, Paused, Renewed}
use Rattle.lxr_large_text.specs.Replies.{large_text}
use Rattle.lxr_large_text.specs.Histories.{replied_in}

-- the texts of all reports, in order, with the counts of those that collect where they are asked for
abbrev pub large_reports_text : Bool → List LargeItem → List ℕ
large_reports_text counts [] = []
large_reports_text counts (Called o r ∷ h) = large_reports_text counts h
large_reports_text counts (Paused report ∷ h) = large_reports_text counts h ++ report_text counts report
large_reports_text counts (Renewed ns ∷ h) = large_reports_text counts h

-- the whole text: the reports, the line `thread 1`, and each operation's word with its reply; the end has no line
abbrev pub large_run_text : Bool → List LargeOp → List LargeItem → List ℕ
large_run_text counts operations h = large_reports_text counts h ++ large_text operations (replied_in h)
