-- What a run tells of its pauses: what the teller does as it is told of rounds.
use Rattle.std.specs.Prelude.{◌≡◌, ℕ, ◌<◌, ◌≤◌, false, Option, List, [], ◌∷◌, slice_index}
use Rattle.lxr_graph.specs.declared.Item.TheVariants as item
use Rattle.lxr_graph.specs.History.{Item, PauseReport}
use Rattle.lxr_core.specs.declared.actors.AnyActor.{AnyActor}
use Rattle.lxr_text_stream.specs.Streams.{Appends, AppendsFront, Rose}
use Rattle.lxr_text_stream.specs.declared.transfer.WriteError.{WriteError}
use Rattle.lxr_text_stream.specs.declared.transfer.WriteError.TheVariants as error
use Rattle.lxr_words.specs.declared.Command.{Command}
use Rattle.lxr_run_history.specs.Sums.{totals_of, with_report}
use Rattle.lxr_run_history.specs.Texts.{prints_reports, told_report}
use Rattle.lxr_run_loop.specs.declared.teller.Teller.{Teller}
use Rattle.lxr_run_loop.specs.Orders.{IsOrderOf, Notes, calls_of_first, placed_at}
use Rattle.lxr_run_loop.specs.Tasks.{HasTold, RunTask}

-- the command prints nothing of a pause
abbrev pub TellsNothing : Command → Type 0
TellsNothing command = prints_reports command ≡ false

-- what is printed of a pause by the options of a teller
abbrev pub told_by_teller : Teller → PauseReport → List ℕ
told_by_teller o report = told_report o.options.command o.options.counts report

-- it counts how many operations of each of the first 255 actors' threads stand in the history
pub record CountsPlaced (o : Teller) (actors : List AnyActor) (o' : Teller) : Type 0 where
  pub placed : (i : ℕ) → i < 255 → slice_index o'.placed i ≡ placed_at actors i
  pub rest : o' ≡ record o { placed = o'.placed }

-- it notes the calls that came since it counted, of the first so many actors
pub record NotesServed (o : Teller) (threads : ℕ) (actors : List AnyActor) (o' : Teller) : Type 0 where
  pub order : Notes o.order (calls_of_first o.placed actors threads) o'.order
  pub rest : o' ≡ record o { order = o'.order }

-- it adds a report to the totals, and notes the pause
pub record SumsReport (o : Teller) (report : PauseReport) (o' : Teller) : Type 0 where
  pub totals : o'.totals ≡ with_report o.totals report
  pub order : Notes o.order (item.Pause ∷ []) o'.order
  pub options : o'.options ≡ o.options

-- and prints what is told of it
pub record TellsReport {S : Type 0} (written : S → Option (List ℕ)) (faults : S → ℕ) (o : Teller) (w : S) (report : PauseReport) (o' : Teller) (w' : S) : Type 0 where
  pub sums : SumsReport o report o'
  pub text : Appends (written w) (written w') (told_by_teller o report)
  pub faults_rise : faults w ≤ faults w'

-- It couldn't print all that: its command prints something, a prefix was written, and where a fault of writing is told one has come.
pub record FailsReport {S : Type 0} (written : S → Option (List ℕ)) (faults : S → ℕ) (o : Teller) (w : S) (report : PauseReport) (why : WriteError) (w' : S) : Type 0 where
  pub loud : ¬ TellsNothing o.options.command
  pub text : AppendsFront (written w) (written w') (told_by_teller o report)
  pub faults_rise : faults w ≤ faults w'
  pub cause : why ≡ error.Fault → Rose (faults w) (faults w')

-- A teller of a run stands behind this history, and so does what was written.
pub record StandsBehind (task : RunTask) (o : Teller) (written : Option (List ℕ)) (h : List Item) : Type 0 where
  pub options : o.options ≡ task.options
  pub totals : o.totals ≡ totals_of h
  pub order : IsOrderOf o.order h
  pub text : HasTold task written h
