-- What a run of threads prints, by its command. `judge` and `large` run none, and nothing is printed of them.
use Rattle.std.specs.Prelude.{ℕ, Bool, false, true, not, ◌&&◌, List, [], ◌++◌}
use Rattle.lxr_graph.specs.declared.report.Kind.{Kind}
use Rattle.lxr_graph.specs.History.{Item, PauseReport}
use Rattle.lxr_graph.specs.Order.{order_of}
use Rattle.lxr_image.specs.declared.space.Space.{Space}
use Rattle.lxr_text_print.specs.Histories.{history_text, reports_text}
use Rattle.lxr_text_print.specs.Orders.{order_text}
use Rattle.lxr_text_print.specs.Reports.{is_plain, report_text}
use Rattle.lxr_text_print.specs.Summary.{summary_text}
use Rattle.lxr_text_map.specs.Map.{map_text}
use Rattle.lxr_words.specs.declared.Command.{Command}
use Rattle.lxr_words.specs.declared.Command.TheVariants.{Judge, Large, Load, Map, Order, Run}
use Rattle.lxr_words.specs.declared.Options.{Options}
use Rattle.lxr_run_history.specs.Sums.{sums_of}

-- the command prints the reports of pauses
abbrev pub prints_reports : Command → Bool
prints_reports Run = true
prints_reports Map = true
prints_reports Order = true
prints_reports Judge = false
prints_reports Large = false
prints_reports (Load seed) = false

-- the command prints the counts of a pause of this kind: it prints reports, the counts of pauses are asked for, and this one isn't plain
abbrev pub prints_counts : Command → Bool → Kind → Bool
prints_counts Run counts kind = counts && not (is_plain kind)
prints_counts Map counts kind = counts && not (is_plain kind)
prints_counts Order counts kind = counts && not (is_plain kind)
prints_counts Judge counts kind = false
prints_counts Large counts kind = false
prints_counts (Load seed) counts kind = false

-- what is printed of one pause: its report; `load` prints none
abbrev pub told_report : Command → Bool → PauseReport → List ℕ
told_report Run counts report = report_text counts report
told_report Map counts report = report_text counts report
told_report Order counts report = report_text counts report
told_report Judge counts report = []
told_report Large counts report = []
told_report (Load seed) counts report = []

-- what is printed pause by pause
abbrev pub told_by : Command → Bool → List Item → List ℕ
told_by Run counts h = reports_text counts h
told_by Map counts h = reports_text counts h
told_by Order counts h = reports_text counts h
told_by Judge counts h = []
told_by Large counts h = []
told_by (Load seed) counts h = []

-- what is printed pause by pause with these options
abbrev pub told_text : Options → List Item → List ℕ
told_text options h = told_by options.command options.counts h

-- The whole text of a history of so many threads that leaves a space. `run` prints the reports and the replies, `map` the heap behind
-- them, `order` the order of the history behind them, and `load` nine sums alone.
abbrev pub text_by : Command → Bool → ℕ → List Item → Space → List ℕ
text_by Run counts threads h space = history_text counts threads h
text_by Map counts threads h space = history_text counts threads h ++ map_text space
text_by Order counts threads h space = history_text counts threads h ++ order_text (order_of h)
text_by Judge counts threads h space = []
text_by Large counts threads h space = []
text_by (Load seed) counts threads h space = summary_text (sums_of threads h)

-- the whole text with these options
abbrev pub run_text : Options → ℕ → List Item → Space → List ℕ
run_text options threads h space = text_by options.command options.counts threads h space
