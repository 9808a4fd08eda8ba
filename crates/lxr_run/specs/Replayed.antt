-- That a run of threads which is done was made by its epochs and pauses, and with a replay by the draws of its generator.
use Rattle.std.specs.Prelude.{ℕ, false, Option, List, length}
use Rattle.lxr_graph.specs.History.{Item}
use Rattle.lxr_model.specs.Belongs.{Script}
use Rattle.lxr_words.specs.declared.Options.{Options}
use Rattle.lxr_run_history.specs.Run.{IsHistoryOf}
use Rattle.lxr_run_history.specs.Texts.{run_text}
use Rattle.lxr_run_loop.specs.Tasks.{RunTask}
use Rattle.lxr_run_loop.specs.Drawing.{IsDrawnTo}
use Rattle.lxr_run.specs.Runs.{IsWritten, Run}
use Rattle.lxr_run.specs.Script.{WasAsked}

-- what a run begins with, as the loop names it
abbrev pub task_of : {I O W : Type 0} → Run I O W → Options → Script → RunTask
task_of run options script = record { options = options; renews = false; script = script; written = run.output.bytes run.output.before; seen = run.watch.seen run.watch.before }

-- The history whose text was written is one that the epochs of the run and the pauses between them have made, from an opened space on to the
-- one that the run leaves. With a replay the generator that begins with its number has drawn who made each step, and has come to `last`.
pub record IsReplayed {I O W : Type 0} (run : Run I O W) : Type 0 where
  pub options : Options
  pub script : Script
  pub history : List Item
  pub last : Option ℕ
  pub asked : WasAsked run.words run.input options script
  pub is_of : IsHistoryOf options script history
  pub text : IsWritten run.output (run_text options (length script) history run.space)
  pub drawn : IsDrawnTo (task_of run options script) history last run.space
