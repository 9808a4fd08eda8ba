-- Laws of reports: their lists are in order, the moment and the kind determine them, and traces end in time.
use Rattle.std.specs.Prelude.{◌≡◌, ℕ, ◌+◌, ◌<◌, ◌≤◌, Some, List, [], ◌∷◌}
use Rattle.lxr_graph.specs.declared.report.Kind.TheVariants as kind
use Rattle.lxr_graph.specs.Names.{AreInOrder}
use Rattle.lxr_graph.specs.History.{PauseReport, Item, Call, Pause, Renew}
pub use Rattle.lxr_graph.specs.Telling.{HasListsInOrder}
use Rattle.lxr_model.specs.Terms.{Terms}
use Rattle.lxr_model.specs.Moments.{Trace, Moment, moment, trace_at}
use Rattle.lxr_model.specs.Reports.{IsReport}
use Rattle.lxr_model.specs.Legal.{IsLegalSoFar}

-- ---- order

abbrev pub ReportsAreInOrder : Type 0
ReportsAreInOrder = (m : Moment) (report : PauseReport) → IsReport m report → HasListsInOrder report

-- so are the unreclaimed and the stuck names, and those made since the last pause
pub record HasNamesInOrder (m : Moment) : Type 0 where
  pub unreclaimed : AreInOrder m.unreclaimed
  pub stuck : AreInOrder m.stuck
  pub made : AreInOrder m.made

abbrev pub MomentsAreInOrder : Type 0
MomentsAreInOrder = (terms : Terms) (h : List Item) → IsLegalSoFar terms h → HasNamesInOrder (moment terms.threads h)

-- ---- one report

-- a moment gives one report of a kind
abbrev pub ReportIsDetermined : Type 0
ReportIsDetermined = (m : Moment) (a b : PauseReport) → IsReport m a → IsReport m b → a.kind ≡ b.kind → a ≡ b

-- two histories have the same calls with the same replies, and pauses of the same kinds and renewals of names between them
abbrev pub AreAlike : List Item → List Item → Type 0
AreAlike [] [] = Unit {0}
AreAlike (Call t o r ∷ g) (Call u p q ∷ h) = (t ≡ u) × (o ≡ p) × (r ≡ q) × AreAlike g h
AreAlike (Pause a ∷ g) (Pause b ∷ h) = (a.kind ≡ b.kind) × AreAlike g h
AreAlike (Renew ns ∷ g) (Renew ms ∷ h) = AreAlike g h
AreAlike _ _ = ⊥

-- two such histories that are legal have the same reports
abbrev pub HistoryIsDetermined : Type 0
HistoryIsDetermined =
    (terms : Terms) (g h : List Item) → IsLegalSoFar terms g → IsLegalSoFar terms h → AreAlike g h → g ≡ h

-- ---- traces

-- a trace that runs began at the last pause or before it, and fewer than `within` pauses ago
abbrev pub RunningTracesAreYoung : Type 0
RunningTracesAreYoung =
    (terms : Terms) (h : List Item) (trace : Trace) → 1 ≤ terms.within → IsLegalSoFar terms h
    → trace_at terms h ≡ Some trace
    → (trace.began ≤ (moment terms.threads h).number) × ((moment terms.threads h).number < trace.began + terms.within)

-- a pause that ends the trace that began at pause j comes after j, and at most `within` pauses later
abbrev pub TracesEndInTime : Type 0
TracesEndInTime =
    (terms : Terms) (h : List Item) (report : PauseReport) (j : ℕ) → 1 ≤ terms.within
    → IsLegalSoFar terms (Pause report ∷ h) → report.kind ≡ kind.End j
    → (j < report.number) × (report.number ≤ j + terms.within)
