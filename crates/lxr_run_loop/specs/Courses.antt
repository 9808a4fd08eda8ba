-- What a run carries from round to round, and what it is of a history.
use Rattle.std.specs.Prelude.{◌≡◌, ℕ, ◌*◌, ◌≤◌, List}
use Rattle.lxr_layout.specs.declared.TheConstants.{MOST_GRANULES}
use Rattle.lxr_graph.specs.History.{Item}
use Rattle.lxr_image.specs.declared.space.Space.{Space}
use Rattle.lxr_words.specs.declared.Options.{Options}
use Rattle.lxr_run_history.specs.declared.totals.Totals.{Totals}
use Rattle.lxr_run_history.specs.Sums.{no_totals, totals_of}
use Rattle.lxr_run_loop.specs.declared.course.Course.{Course}
use Rattle.lxr_run_loop.specs.Orders.{IsOrderOf, opening_order}

-- a run begins where its options say, and nothing is reported and noted yet
abbrev pub opening_course : Options → Course
opening_course options = record { generator = options.replay; totals = no_totals; order = opening_order options.command }

-- no list of a report has more names than the largest heap has granules, so the totals of so many pauses are far from the ends of their types
pub record AreFew (totals : Totals) (pauses : ℕ) : Type 0 where
  pub promoted : totals.promoted ≤ MOST_GRANULES * pauses
  pub dead : totals.dead ≤ MOST_GRANULES * pauses
  pub swept : totals.swept ≤ MOST_GRANULES * pauses
  pub stuck : totals.stuck ≤ MOST_GRANULES * pauses

-- what is carried is that of a history that led to this space
pub record IsCourseOf (course : Course) (space : Space) (h : List Item) : Type 0 where
  pub are : course.totals ≡ totals_of h
  pub few : AreFew course.totals space.pauses
  pub order : IsOrderOf course.order h
