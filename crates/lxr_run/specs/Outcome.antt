-- What a caller is promised of each way in which a run ends.
use Rattle.std.specs.Prelude.{◌≡◌, ◌⊎◌, ◌↔◌, List, [], IsTrue, length}
use Rattle.lxr_layout.specs.declared.Name.{Name}
use Rattle.lxr_graph.specs.History.{Item}
use Rattle.lxr_graph.specs.Names.{has}
use Rattle.lxr_model.specs.Belongs.{IsHistorySoFar, Script}
use Rattle.lxr_model.specs.Moments.{moment}
use Rattle.lxr_model.specs.Reachable.{Reachable}
use Rattle.lxr_words.specs.declared.Options.{Options}
use Rattle.lxr_words.specs.declared.WordFault.{WordFault}
use Rattle.lxr_run_history.specs.Left.{IsLeftBy}
use Rattle.lxr_run_history.specs.Run.{IsHistoryOf, script_terms}
use Rattle.lxr_rounds_history.specs.Sights.{Sees}
use Rattle.lxr_rounds_history.specs.Tally.{Evacuated, evacuated_in}
use Rattle.lxr_run_history.specs.Texts.{run_text, told_text}
use Rattle.lxr_run.specs.Judgings.{IsJudged, IsPartlyJudged}
use Rattle.lxr_run.specs.LargeRuns.{IsLargeCutOff, IsLargeDone}
use Rattle.lxr_run.specs.Lines.{refusal_text}
use Rattle.lxr_run.specs.Runs.{IsUntouched, HasFailed, IsPartlyWritten, IsWritten, Run, Stream}
use Rattle.lxr_run.specs.Script.{HasCause, WasAsked}
use Rattle.lxr_run.specs.declared.Status.{Status}
use Rattle.lxr_run.specs.declared.Status.TheVariants as status
use Rattle.lxr_run.specs.declared.refusal.Refusal.{Refusal}
use Rattle.lxr_run.specs.declared.refusal.Refusal.TheVariants as refusal
use Rattle.lxr_run.specs.declared.attempt.Stop.{Stop}
use Rattle.lxr_run.specs.declared.attempt.Stop.TheVariants as stop

-- ---- what a run leaves

-- A run of threads that is done: the text of one history of the script was written, the space is left by it, and the watch has seen its pauses.
-- The tally of the space counts what all of them have moved out of Chosen blocks and kept there.
-- What is left unreclaimed is exactly what can be reached.
pub record IsThreadsDone {I O W : Type 0} (run : Run I O W) : Type 0 where
  pub options : Options
  pub script : Script
  pub history : List Item
  pub asked : WasAsked run.words run.input options script
  pub is_of : IsHistoryOf options script history
  pub text : IsWritten run.output (run_text options (length script) history run.space)
  pub space_left : IsLeftBy options (length script) history run.space
  pub sights : Sees (length script) history (run.watch.seen run.watch.before) (run.watch.seen run.watch.after) (evacuated_in run.space.tally)
  pub reachable : (n : Name) → IsTrue (has (moment (length script) history).unreclaimed n) ↔ Reachable (moment (length script) history).state n

-- a run is done: its threads have ended, or its script with large objects was played, or its case was judged
abbrev pub IsDone : {I O W : Type 0} → Run I O W → Type 0
IsDone run = IsThreadsDone run ⊎ IsLargeDone run ⊎ IsJudged run

-- A run that was cut off at a report: a prefix of what is told pause by pause of a history so far was written, the space is left by it, and the
-- watch has seen its pauses.
pub record IsCutOffEarly {I O W : Type 0} (run : Run I O W) : Type 0 where
  pub options : Options
  pub script : Script
  pub history : List Item
  pub asked : WasAsked run.words run.input options script
  pub so_far : IsHistorySoFar (script_terms options script) script history
  pub text_front : IsPartlyWritten run.output (told_text options history)
  pub space_left : IsLeftBy options (length script) history run.space
  pub sights : Sees (length script) history (run.watch.seen run.watch.before) (run.watch.seen run.watch.after) (evacuated_in run.space.tally)

-- A run that was cut off at what it prints last: a prefix of the text of a whole history was written, the space is left by it, and the watch
-- has seen its pauses.
pub record IsCutOffLate {I O W : Type 0} (run : Run I O W) : Type 0 where
  pub options : Options
  pub script : Script
  pub history : List Item
  pub asked : WasAsked run.words run.input options script
  pub is_of : IsHistoryOf options script history
  pub text_front : IsPartlyWritten run.output (run_text options (length script) history run.space)
  pub space_left : IsLeftBy options (length script) history run.space
  pub sights : Sees (length script) history (run.watch.seen run.watch.before) (run.watch.seen run.watch.after) (evacuated_in run.space.tally)

-- a run of threads was cut off at a report, or at what it prints last; or one with large objects was, or a verdict
abbrev pub IsCutOff : {I O W : Type 0} → Run I O W → Type 0
IsCutOff run = IsCutOffEarly run ⊎ IsCutOffLate run ⊎ IsLargeCutOff run ⊎ IsPartlyJudged run

-- A run that lost its space, since no memory was left as an epoch was to begin: what is told of a history so far was written, and the watch
-- has seen its pauses.
pub record IsLost {I O W : Type 0} (run : Run I O W) : Type 0 where
  pub options : Options
  pub script : Script
  pub history : List Item
  pub asked : WasAsked run.words run.input options script
  pub so_far : IsHistorySoFar (script_terms options script) script history
  pub text : IsWritten run.output (told_text options history)
  pub gone : run.space.words ≡ []
  pub evacuated : Evacuated
  pub sights : Sees (length script) history (run.watch.seen run.watch.before) (run.watch.seen run.watch.after) evacuated

-- a run that ended before its first operation: nothing was written and seen, and there is no space
pub record LeavesNothing {I O W : Type 0} (run : Run I O W) : Type 0 where
  pub output : IsUntouched run.output
  pub watch : run.watch.after ≡ run.watch.before
  pub space : run.space.words ≡ []

-- ---- why it wasn't done

-- a run was refused for a cause: before its first operation, or, for want of memory, also behind it
abbrev pub IsRefused : {I O W : Type 0} → Refusal → Run I O W → Type 0
IsRefused why run = (HasCause why run.words run.input × LeavesNothing run) ⊎ ((why ≡ refusal.Memory) × (IsCutOff run ⊎ IsLost run))

-- why a run stopped: it was refused, or its output failed
abbrev pub HasStopped : {I O W : Type 0} → Stop → Run I O W → Type 0
HasStopped (stop.Refused why) run = IsRefused why run
HasStopped stop.Output run = HasFailed run.output × IsCutOff run

-- ---- what is told of it, and by which status

-- the status of a refusal
abbrev pub status_of : Refusal → Status
status_of (refusal.Words wrong) = status.Words
status_of (refusal.Script wrong) = status.Script
status_of refusal.CaseParts = status.Script
status_of (refusal.CaseItem line) = status.Script
status_of refusal.ReadFault = status.ReadFault
status_of refusal.Memory = status.Memory

-- What the line of a refusal comes to: it is written, and the status is that of the refusal; or the stream failed or wanted memory behind
-- a prefix of it, and the status says that.
abbrev pub IsToldBy : {E : Type 0} → Refusal → Stream E → Status → Type 0
IsToldBy why errors ended = ((ended ≡ status_of why) × IsWritten errors (refusal_text why))
    ⊎ ((ended ≡ status.WriteFault) × HasFailed errors × IsPartlyWritten errors (refusal_text why))
    ⊎ ((ended ≡ status.Memory) × IsPartlyWritten errors (refusal_text why))

-- a run was refused, and its line is written
pub record IsTold {I O W E : Type 0} (why : Refusal) (run : Run I O W) (errors : Stream E) : Type 0 where
  pub refused : IsRefused why run
  pub line : IsWritten errors (refusal_text why)

-- a run was refused, and a prefix of its line is written
pub record IsPartlyTold {I O W E : Type 0} (run : Run I O W) (errors : Stream E) : Type 0 where
  pub why : Refusal
  pub refused : IsRefused why run
  pub line_front : IsPartlyWritten errors (refusal_text why)

-- What each status says of a run. A fault of writing is one of the output, and then no line is written; or one of the errors, as the line
-- of a refusal was written. Memory may run out at any time, also as that line is written.
abbrev pub HasEnded : {I O W E : Type 0} → Run I O W → Stream E → Status → Type 0
HasEnded run errors status.Done = IsDone run × IsUntouched errors
HasEnded run errors status.Words = (wrong : WordFault) × IsTold (refusal.Words wrong) run errors
HasEnded run errors status.Script = (wrong : Refusal) × (status_of wrong ≡ status.Script) × IsTold wrong run errors
HasEnded run errors status.ReadFault = IsTold refusal.ReadFault run errors
HasEnded run errors status.WriteFault = (HasFailed run.output × IsCutOff run × IsUntouched errors) ⊎ (HasFailed errors × IsPartlyTold run errors)
HasEnded run errors status.Memory = IsTold refusal.Memory run errors ⊎ IsPartlyTold run errors

-- the status is this one, unless memory ran out or the errors failed as they were told
abbrev pub ComesOrFails : {E : Type 0} → Status → Stream E → Status → Type 0
ComesOrFails expected errors ended = (ended ≡ expected) ⊎ (ended ≡ status.Memory) ⊎ ((ended ≡ status.WriteFault) × HasFailed errors)
