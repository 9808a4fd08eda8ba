-- What rounds have come to while waiting `new`s are answered, named once for what the loop over it asks and promises.
use Rattle.std.specs.Prelude.{◌≡◌, ◌↔◌, Bool, false, Option, List, IsTrue, length}
use Rattle.lxr_graph.specs.declared.report.Kind.TheVariants as kind
use Rattle.lxr_graph.specs.History.{Item, PauseReport}
use Rattle.lxr_image.specs.declared.space.Space.{Space}
use Rattle.lxr_invariant.specs.AbstractState.{AbstractState}
use Rattle.lxr_sights.specs.Sights.{Sight}
use Rattle.lxr_mutator.specs.Mutating.{Mutating}
use Rattle.lxr_core.specs.declared.actors.AnyActor.{AnyActor}
use Rattle.lxr_core.specs.Actors.{mutators_in}
use Rattle.lxr_core.specs.Resting.{HelpersRest}
use Rattle.lxr_one_pause.specs.declared.Ask.{Ask}
use Rattle.lxr_one_pause.specs.declared.Pace.{Pace}
use Rattle.lxr_rounds_history.specs.Left.{last_report}
use Rattle.lxr_rounds_invariant.specs.LoopInvariant.{HasPaused, IsServing, Task, pace_of, task_limits}
use Rattle.lxr_rounds.specs.Answering.{AnswersWaiting}

-- what waits begins to be answered; `collected` tells whether the pause that stands before collected
pub record BeginsServing (task : Task) (space : Space) (seen : Option (List Sight)) (collected : Bool) (mutators : List Mutating) (h : List Item) (g : AbstractState) : Type 0 where
  pub serving : IsServing task space seen mutators space.pauses collected mutators 0 false h g
  pub collected_is : IsTrue collected ↔ ((last_report h).kind ≡ kind.Collect)

-- some rounds at this pace do so, and their helpers rest
abbrev pub CanServeAll : Pace → Space → Option (List Sight) → Bool → List AnyActor → Type 0
CanServeAll pace space seen collected actors =
    (task : Task) × (pace_of task.plan ≡ pace) × (h : List Item) × (g : AbstractState) × BeginsServing task space seen collected (mutators_in actors) h g × HelpersRest (task_limits task) actors

-- In all such rounds each was answered, and this was told of the histories before and after that.
abbrev pub AllAreAnswered : (List Item → List Item → Type 0) → Pace → Space → Option (List Sight) → Bool → List Mutating → Space → Option (List Sight) → List Mutating → Type 0
AllAreAnswered told pace space seen collected mutators space' seen' mutators' = (task : Task) → pace_of task.plan ≡ pace → (h : List Item) (g : AbstractState) → BeginsServing task space seen collected mutators h g
    → (collected' served : Bool) × (h' : List Item) × (g' : AbstractState) × IsServing task space' seen' mutators space.pauses collected' mutators' (length mutators') served h' g'
    × AnswersWaiting pace collected mutators space h mutators' space' h' × told h h'

-- Rounds that had come to h were cut off right after a pause: it was made after some history, and this was told of h, that history and its report.
pub record AreCutOff (cut : List Item → List Item → PauseReport → Type 0) (task : Task) (space : Space) (seen : Option (List Sight)) (h : List Item) : Type 0 where
  pub history : List Item
  pub asked : Ask
  pub report : PauseReport
  pub abstract_state : AbstractState
  pub paused : HasPaused task space seen history asked report abstract_state
  pub cut_off : cut h history report

-- all such rounds were cut off
abbrev pub AllAreCutOff : (List Item → List Item → PauseReport → Type 0) → Pace → Space → Option (List Sight) → Bool → List Mutating → Space → Option (List Sight) → Type 0
AllAreCutOff cut pace space seen collected mutators space' seen' = (task : Task) → pace_of task.plan ≡ pace → (h : List Item) (g : AbstractState) → BeginsServing task space seen collected mutators h g → AreCutOff cut task space' seen' h
