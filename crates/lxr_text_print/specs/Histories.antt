-- The text of a history: the reports of its pauses, and then the replies of each thread. The items of a history stand newest first.
use Rattle.std.specs.Prelude.{ℕ, zero, suc, Bool, List, [], ◌∷◌, ◌++◌}
use Rattle.lxr_graph.specs.History.{Item, Call, Pause, Renew}
use Rattle.lxr_text_print.specs.Replies.{thread_text}
use Rattle.lxr_text_print.specs.Reports.{report_text}

-- the texts of all reports of a history, in order, with the counts of those that aren't plain where they are asked for
abbrev pub reports_text : Bool → List Item → List ℕ
reports_text counts [] = []
reports_text counts (Renew ns ∷ h) = []
reports_text counts (Call t o r ∷ h) = reports_text counts h
reports_text counts (Pause report ∷ h) = reports_text counts h ++ report_text counts report

-- the replies of the first threads, thread 1 first
abbrev pub threads_text : ℕ → List Item → List ℕ
threads_text zero h = []
threads_text (suc t) h = threads_text t h ++ thread_text (suc t) h

-- the text of a history of so many threads: its reports, and then the replies of each thread
abbrev pub history_text : Bool → ℕ → List Item → List ℕ
history_text counts threads h = reports_text counts h ++ threads_text threads h
