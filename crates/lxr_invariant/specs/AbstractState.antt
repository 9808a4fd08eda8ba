-- What a space stands for: a moment of a history, the places of its objects, and the last report. No code holds it.
use Rattle.std.specs.Prelude.{ℕ, List, [], ◌++◌}
use Rattle.lxr_layout.specs.declared.Name.{Name}
use Rattle.lxr_graph.specs.declared.report.Kind.TheVariants.{Plain}
use Rattle.lxr_graph.specs.History.{PauseReport}
use Rattle.lxr_model.specs.Moments.{Moment, after_pause}

-- the report of no pause
abbrev pub no_report : PauseReport
no_report = record { number = 0; kind = Plain; promoted = []; dead = []; stuck = []; swept = []; counts = [] }

-- What a space stands for between two pauses.
pub record AbstractState : Type 0 where
  -- the state now and at the last pause, the unreclaimed and stuck names, the running trace, what was made and written
  pub moment : Moment
  -- the place of each unreclaimed object and of each one made since the last pause
  pub at : Name → ℕ
  -- what the last pause reported; before the first one that of no pause
  pub reported : PauseReport

-- the names whose objects stand in the heap: the unreclaimed ones, and those made since the last pause
abbrev pub members : Moment → List Name
members m = m.unreclaimed ++ m.made

-- the moment with these as its unreclaimed names
abbrev pub leaving : Moment → List Name → Moment
leaving m us = record m { unreclaimed = us }

-- what a space stands for after a pause, which has left objects at these places
abbrev pub paused : AbstractState → (Name → ℕ) → PauseReport → AbstractState
paused g at report = record g { moment = after_pause g.moment report; at = at; reported = report }
