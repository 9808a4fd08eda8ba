-- The space that a history of a run leaves at its last pause.
use Rattle.std.specs.Prelude.{ℕ, List}
use Rattle.lxr_layout.specs.declared.limits.Limits.{Limits}
use Rattle.lxr_graph.specs.History.{Item}
use Rattle.lxr_image.specs.declared.space.Space.{Space}
use Rattle.lxr_one_pause.specs.Telling.{TellsWanted}
use Rattle.lxr_words.specs.declared.Options.{Options}
use Rattle.lxr_rounds_history.specs.Left as rounds
use Rattle.lxr_run_history.specs.Run.{plan_of}
use Rattle.lxr_run_history.specs.Texts.{prints_counts}

-- the limits of the space of a run
abbrev pub run_limits : Options → ℕ → Limits
run_limits options threads = rounds.plan_limits (plan_of options) threads

-- the report of a space lists the counts of its pause exactly where these are printed
abbrev pub TellsByOptions : Options → Space → Type 0
TellsByOptions options space = TellsWanted (prints_counts options.command options.counts space.report.kind) space.report

-- The space that a history leaves at its last pause: it is between epochs, its tally has the history's numbers, and its report lists the counts
-- that are printed.
pub record IsLeftBy (options : Options) (threads : ℕ) (h : List Item) (space : Space) : Type 0 where
  pub left : rounds.IsLeftBehind (plan_of options) threads h space
  pub told : TellsByOptions options space
