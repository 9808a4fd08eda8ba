-- The numbers of a summary, by a history.
use Rattle.std.specs.Prelude.{ℕ, ◌+◌, List, [], ◌∷◌, length}
use Rattle.lxr_graph.specs.declared.Op.{Op}
use Rattle.lxr_graph.specs.declared.Op.TheVariants as op
use Rattle.lxr_graph.specs.declared.Reply.{Reply}
use Rattle.lxr_graph.specs.declared.Reply.TheVariants as reply
use Rattle.lxr_graph.specs.History.{Item, Call, Pause, Renew, PauseReport}
use Rattle.lxr_model.specs.Moments.{moment}
use Rattle.lxr_text_print.specs.declared.summary.Sums.{Sums}
use Rattle.lxr_run_history.specs.declared.totals.Totals.{Totals}

-- nothing was reported yet
abbrev pub no_totals : Totals
no_totals = record { promoted = 0; dead = 0; swept = 0; stuck = 0 }

-- the totals with one report more: how many names each of its lists has
abbrev pub with_report : Totals → PauseReport → Totals
with_report totals report = record {
  promoted = totals.promoted + length report.promoted;
  dead = totals.dead + length report.dead;
  swept = totals.swept + length report.swept;
  stuck = totals.stuck + length report.stuck;
}

-- the totals of all reports of a history
abbrev pub totals_of : List Item → Totals
totals_of [] = no_totals
totals_of (Renew ns ∷ h) = no_totals
totals_of (Call t o r ∷ h) = totals_of h
totals_of (Pause report ∷ h) = with_report (totals_of h) report

-- an operation is counted, the end of a thread isn't
abbrev pub operations_by : Op → ℕ
operations_by op.End = 0
operations_by o = 1

-- how many operations a history has
abbrev pub operations_in : List Item → ℕ
operations_in [] = 0
operations_in (Renew ns ∷ h) = 0
operations_in (Call t o r ∷ h) = operations_by o + operations_in h
operations_in (Pause report ∷ h) = operations_in h

-- a `new` that found no room
abbrev pub fulls_by : Reply → ℕ
fulls_by reply.Full = 1
fulls_by r = 0

-- how many `new` of a history found no room
abbrev pub fulls_in : List Item → ℕ
fulls_in [] = 0
fulls_in (Renew ns ∷ h) = 0
fulls_in (Call t o r ∷ h) = fulls_by r + fulls_in h
fulls_in (Pause report ∷ h) = fulls_in h

-- how many pauses a history has
abbrev pub pauses_in : List Item → ℕ
pauses_in [] = 0
pauses_in (Renew ns ∷ h) = 0
pauses_in (Call t o r ∷ h) = pauses_in h
pauses_in (Pause report ∷ h) = pauses_in h + 1

-- the nine numbers of a history of so many threads
abbrev pub sums_of : ℕ → List Item → Sums
sums_of threads h = record {
  threads = threads;
  operations = operations_in h;
  pauses = pauses_in h;
  promoted = (totals_of h).promoted;
  dead = (totals_of h).dead;
  swept = (totals_of h).swept;
  stuck = (totals_of h).stuck;
  full = fulls_in h;
  live = length (moment threads h).unreclaimed;
}
