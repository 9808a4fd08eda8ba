-- What a run has written once its replies are printed, or as it was cut off.
use Rattle.std.specs.Prelude.{◌≡◌, ℕ, ◌⊎◌, Option, List}
use Rattle.lxr_graph.specs.History.{Item}
use Rattle.lxr_graph.specs.declared.Item as kept
use Rattle.lxr_image.specs.declared.space.Space.{Space}
use Rattle.lxr_text_stream.specs.Streams.{Appends, AppendsFront}
use Rattle.lxr_sights.specs.Sights.{Sight}
use Rattle.lxr_core.specs.declared.actors.AnyActor.{AnyActor}
use Rattle.lxr_words.specs.declared.Options.{Options}
use Rattle.lxr_run_history.specs.declared.totals.Totals.{Totals}
use Rattle.lxr_run_history.specs.Left.{IsLeftBy}
use Rattle.lxr_rounds_history.specs.Histories.{IsHistoryWith}
use Rattle.lxr_run_history.specs.Run.{plan_of}
use Rattle.lxr_run_history.specs.Texts.{run_text}
use Rattle.lxr_rounds_history.specs.Sights.{Sees}
use Rattle.lxr_rounds_history.specs.Tally.{evacuated_in}
use Rattle.lxr_text_stream.specs.declared.transfer.WriteError.{WriteError}
use Rattle.lxr_run_loop.specs.Tasks.{RunTask, WasStopped, script_threads}
use Rattle.lxr_run_loop.specs.declared.course.Course.{Course}
use Rattle.lxr_run_loop.specs.Drawing.{IsDrawnTo}
use Rattle.lxr_run_loop.specs.Progress.{IsComplete}

-- some run with these options is complete, its reports have these totals, and this is its order
abbrev pub SomeIsComplete : Options → Space → Option (List ℕ) → List AnyActor → Totals → Option (List kept.Item) → Type 0
SomeIsComplete options space written actors totals order =
    (task : RunTask) × (task.options ≡ options) × (seen : Option (List Sight)) × (course : Course) × (course.totals ≡ totals) × (course.order ≡ order) × IsComplete task space written seen actors course

-- the text of a whole history was written, as the command of the run has it, which its generator has drawn where there is one
pub record IsPrinted (task : RunTask) (space : Space) (written : Option (List ℕ)) (seen : Option (List Sight)) : Type 0 where
  pub history : List Item
  pub run : IsHistoryWith task.renews (plan_of task.options) task.script history
  pub last : Option ℕ
  pub drawn : IsDrawnTo task history last space
  pub text : Appends task.written written (run_text task.options (script_threads task) history space)
  pub space_left : IsLeftBy task.options (script_threads task) history space
  pub sights : Sees (script_threads task) history task.seen seen (evacuated_in space.tally)

-- a prefix of the text of a whole history was written
pub record IsPartlyPrinted (task : RunTask) (space : Space) (written : Option (List ℕ)) (seen : Option (List Sight)) : Type 0 where
  pub history : List Item
  pub run : IsHistoryWith task.renews (plan_of task.options) task.script history
  pub text_front : AppendsFront task.written written (run_text task.options (script_threads task) history space)
  pub space_left : IsLeftBy task.options (script_threads task) history space
  pub sights : Sees (script_threads task) history task.seen seen (evacuated_in space.tally)

-- the whole text of each such run was written
abbrev pub AllArePrinted : Options → Space → Option (List ℕ) → List AnyActor → Totals → Option (List kept.Item) → Option (List ℕ) → Type 0
AllArePrinted options space written actors totals order written' =
    (task : RunTask) → task.options ≡ options → (seen : Option (List Sight)) (course : Course) → course.totals ≡ totals → course.order ≡ order → IsComplete task space written seen actors course → IsPrinted task space written' seen

-- a prefix of it was
abbrev pub AllArePartlyPrinted : Options → Space → Option (List ℕ) → List AnyActor → Totals → Option (List kept.Item) → Option (List ℕ) → Type 0
AllArePartlyPrinted options space written actors totals order written' =
    (task : RunTask) → task.options ≡ options → (seen : Option (List Sight)) (course : Course) → course.totals ≡ totals → course.order ≡ order → IsComplete task space written seen actors course → IsPartlyPrinted task space written' seen

-- the run was stopped for this cause: at a report, at an epoch, or at what it prints last
abbrev pub IsCutShort : WriteError → RunTask → Space → Option (List ℕ) → Option (List Sight) → Type 0
IsCutShort why task space written seen = WasStopped why task space written seen ⊎ IsPartlyPrinted task space written seen
