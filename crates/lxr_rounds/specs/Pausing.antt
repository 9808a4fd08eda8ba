-- A pause between two epochs: when it may be made, and what it leaves.
use Rattle.std.specs.Prelude.{◌≡◌, ℕ, ◌+◌, Option, List, length}
use Rattle.lxr_layout.specs.declared.Name.{Name}
use Rattle.lxr_graph.specs.History.{Item}
use Rattle.lxr_image.specs.declared.space.Space.{Space}
use Rattle.lxr_invariant.specs.AbstractState.{AbstractState}
use Rattle.lxr_one_pause.specs.declared.Ask.{Ask}
use Rattle.lxr_one_pause.specs.declared.Pace.{Pace}
use Rattle.lxr_one_pause.specs.Pausing.{CanPause, Pauses}
use Rattle.lxr_sights.specs.Sights.{Sight}
use Rattle.lxr_rounds_history.specs.Left.{StandsAfter}
use Rattle.lxr_rounds_invariant.specs.LoopInvariant.{HasCome, IsAskedRight, IsPauseDue, IsPaused, Task, pace_of, threads_of}

-- the space with what is logged in its tally, as a pause begins with it
abbrev pub with_logs_counted : Space → Space
with_logs_counted s = record s { tally = record s.tally { logs = s.tally.logs + length s.logged.items } }

-- a pause was made that was asked for so, whatever the space stood for
abbrev pub MakesPause : Ask → Pace → Space → Space → Type 0
MakesPause asked pace before after = (g : AbstractState) → CanPause (with_logs_counted before) g → (at' : Name → ℕ) × Pauses (with_logs_counted before) after g at' asked pace

-- A pause was made behind a history of this task: the space stood for what the history led to, and what is promised of one pause holds.
pub record PausesBehind (task : Task) (asked : Ask) (h : List Item) (before after : Space) : Type 0 where
  pub abstract_state : AbstractState
  pub stands : StandsAfter (threads_of task) h abstract_state
  pub can : CanPause (with_logs_counted before) abstract_state
  pub places : Name → ℕ
  pub pauses : Pauses (with_logs_counted before) after abstract_state places asked (pace_of task.plan)

-- rounds at this pace have come to a history after which a pause is due, which is asked right whether it shall collect
pub record HasComeToPause (asked : Ask) (pace : Pace) (task : Task) (space : Space) (seen : Option (List Sight)) (h : List Item) (g : AbstractState) : Type 0 where
  pub come : HasCome task space seen h g
  pub due : IsPauseDue task h
  pub right : IsAskedRight task h asked
  pub paced : pace_of task.plan ≡ pace

-- some rounds at this pace have
abbrev pub SomePauseIsDue : Ask → Pace → Space → Option (List Sight) → Type 0
SomePauseIsDue asked pace space seen = (task : Task) × (h : List Item) × (g : AbstractState) × HasComeToPause asked pace task space seen h g

-- whatever they had come to, they have made a pause
abbrev pub GoesOnByPause : Ask → Pace → Space → Option (List Sight) → Space → Option (List Sight) → Type 0
GoesOnByPause asked pace space seen space' seen' = (task : Task) (h : List Item) (g : AbstractState) → HasComeToPause asked pace task space seen h g → IsPaused task space' seen' h asked
