-- The space that a history leaves at its last pause.
use Rattle.std.specs.Prelude.{◌≡◌, ℕ, List, [], ◌∷◌}
use Rattle.lxr_layout.specs.declared.limits.Limits.{Limits}
use Rattle.lxr_graph.specs.History.{Item, Call, Pause, Renew, PauseReport}
use Rattle.lxr_model.specs.Moments.{moment}
use Rattle.lxr_image.specs.declared.space.Space.{Space}
use Rattle.lxr_invariant.specs.AbstractState.{AbstractState, no_report}
use Rattle.lxr_invariant.specs.Quiescent.{IsQuiescent}
use Rattle.lxr_rounds_history.specs.Plan.{Plan}
use Rattle.lxr_rounds_history.specs.Tally.{HasNumbersOf}

-- the report of the last pause of a history
abbrev pub last_report : List Item → PauseReport
last_report [] = no_report
last_report (Renew ns ∷ h) = last_report h
last_report (Call t o r ∷ h) = last_report h
last_report (Pause report ∷ h) = report

-- a space stands for what a history led to, with some map of places
pub record StandsAfter (threads : ℕ) (h : List Item) (g : AbstractState) : Type 0 where
  pub moment : g.moment ≡ moment threads h
  pub reported : g.reported ≡ last_report h

-- the limits of the space of so many threads
abbrev pub plan_limits : Plan → ℕ → Limits
plan_limits plan threads = record { blocks = plan.blocks; threads = threads; log = plan.log; remember = plan.remember; registers = plan.registers; evacuate = plan.evacuate }

-- the space that a history leaves at its last pause: it is between epochs, and its tally has the history's numbers
pub record IsLeftWith (plan : Plan) (threads : ℕ) (h : List Item) (space : Space) (g : AbstractState) : Type 0 where
  pub stands : StandsAfter threads h g
  pub between : IsQuiescent space g
  pub limits : space.limits ≡ plan_limits plan threads
  pub tally : HasNumbersOf threads h space.tally

-- so it is with some map of places
abbrev pub IsLeftBehind : Plan → ℕ → List Item → Space → Type 0
IsLeftBehind plan threads h space = (g : AbstractState) × IsLeftWith plan threads h space g
