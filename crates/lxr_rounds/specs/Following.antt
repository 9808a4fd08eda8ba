-- What follows an epoch: the pause behind it and, where some thread goes on, the answers for the `new`s that wait and the lists for the next one.
use Rattle.std.specs.Prelude.{◌≡◌, ◌↔◌, ◌&&◌, nat_eq, Bool, true, false, Option, List, ◌∷◌}
use Rattle.lxr_graph.specs.History.{Item, Pause, PauseReport}
use Rattle.lxr_image.specs.declared.space.Space.{Space}
use Rattle.lxr_invariant.specs.AbstractState.{AbstractState}
use Rattle.lxr_model.specs.Kinds.{MustCollect}
use Rattle.lxr_core.specs.declared.actors.AnyActor.{AnyActor}
use Rattle.lxr_core.specs.Actors.{mutators_in}
use Rattle.lxr_core.specs.Ordering.{orders_of}
use Rattle.lxr_one_pause.specs.declared.Ask.{Ask}
use Rattle.lxr_one_pause.specs.declared.Ask.TheVariants as ask
use Rattle.lxr_one_pause.specs.declared.Pace.{Pace}
use Rattle.lxr_serve.specs.Serving.{KeepsHelpers}
use Rattle.lxr_sights.specs.Sights.{Sight}
use Rattle.lxr_rounds_invariant.specs.LoopInvariant.{HasPaused, HasRunEpoch, HasRunTo, HaveEnded, Task, asked_by, pace_of, terms_of}
use Rattle.lxr_rounds_invariant.specs.Laws.{IsAgain}
use Rattle.lxr_rounds.specs.Answering.{AnswersWaiting}
use Rattle.lxr_rounds.specs.Pausing.{PausesBehind}
use Rattle.lxr_rounds.specs.Serving.{AreCutOff, BeginsServing}

-- some rounds at this pace have made an epoch that came to this space and these actors, and a pause is due behind it
abbrev pub SomeHasRunEpoch : Pace → Space → Option (List Sight) → List AnyActor → Type 0
SomeHasRunEpoch pace space seen actors =
    (task : Task) × (pace_of task.plan ≡ pace) × (before : List AnyActor) × (h : List Item) × (g : AbstractState) × HasRunEpoch task space seen before actors h g

-- what the pause of an epoch is asked for: to begin a trace, where that is wished for and the plan leaves it free
abbrev pub asked_for : Task → Bool → Bool → Ask
asked_for task begins collects = asked_by collects (begins && nat_eq task.plan.trace 0)

-- Its pause was made, behind the history that the epoch has led to. It collects exactly where it must.
pub record IsFollowedByPause (task : Task) (begins collects : Bool) (h : List Item) (before after : Space) (seen : Option (List Sight)) : Type 0 where
  pub right : (asked_for task begins collects ≡ ask.Collect) ↔ MustCollect (terms_of task) h
  pub report : PauseReport
  pub abstract_state : AbstractState
  pub paused : HasPaused task after seen h (asked_for task begins collects) report abstract_state
  pub behind : PausesBehind task (asked_for task begins collects) h before after

-- All threads had ended, and that pause was the last: the history is whole. This was told of the histories before and after the pause.
pub record IsLast (begins : Bool) (told : List Item → List Item → Type 0) (task : Task) (before after : Space) (seen : Option (List Sight)) (actors actors' : List AnyActor) (h : List Item) : Type 0 where
  pub ended : HaveEnded (mutators_in actors)
  pub pause : IsFollowedByPause task begins true h before after seen
  pub same : actors' ≡ actors
  pub ran : HasRunTo task after seen actors (Pause pause.report ∷ h)
  pub tells : told h (Pause pause.report ∷ h)

-- Some thread goes on: the `new`s that waited were answered after that pause, with more pauses where these wanted room, and the rounds are between
-- epochs again, whose free lines and blocks were listed so. `earlier` are the actors that the epoch began with. This was told of the histories before
-- and behind all that.
pub record IsNextDue (begins : Bool) (lists_so : Space → Space → Type 0) (told : List Item → List Item → Type 0) (task : Task) (before after : Space) (seen : Option (List Sight)) (earlier actors actors' : List AnyActor) (h : List Item) : Type 0 where
  pub collects : Bool
  pub paused : Space
  pub sighted : Option (List Sight)
  pub pause : IsFollowedByPause task begins collects h before paused sighted
  pub serves : BeginsServing task paused sighted collects (mutators_in actors) (Pause pause.report ∷ h) pause.abstract_state
  pub answered : Space
  pub history : List Item
  pub abstract_state : AbstractState
  pub answers : AnswersWaiting (pace_of task.plan) collects (mutators_in actors) paused (Pause pause.report ∷ h) (mutators_in actors') answered history
  pub keeps : KeepsHelpers actors actors'
  pub asked : orders_of (mutators_in actors') ≡ orders_of (mutators_in actors)
  pub lists : lists_so answered after
  pub again : IsAgain task after seen earlier actors' history abstract_state
  pub tells : told h history

-- what has followed an epoch, by whether all threads had ended, and whether its pause was to begin a trace
abbrev pub HasFollowed : Bool → Bool → (Space → Space → Type 0) → (List Item → List Item → Type 0) → Task → (before after : Space) → Option (List Sight) → (earlier actors actors' : List AnyActor) → List Item → Type 0
HasFollowed true begins lists_so told task before after seen earlier actors actors' h = IsLast begins told task before after seen actors actors' h
HasFollowed false begins lists_so told task before after seen earlier actors actors' h = IsNextDue begins lists_so told task before after seen earlier actors actors' h

-- so it is for all rounds at this pace that have made such an epoch, with this wish for a trace
abbrev pub FollowsEach : Bool → (Space → Space → Type 0) → (List Item → List Item → Type 0) → Pace → Space → Option (List Sight) → List AnyActor → Space → Option (List Sight) → List AnyActor → Bool → Type 0
FollowsEach begins lists_so told pace space seen actors space' seen' actors' ended = (task : Task) → pace_of task.plan ≡ pace → (earlier : List AnyActor) (h : List Item) (g : AbstractState)
    → HasRunEpoch task space seen earlier actors h g → HasFollowed ended begins lists_so told task space space' seen' earlier actors actors' h

-- all such rounds were cut off
abbrev pub CutsOffEach : (List Item → List Item → PauseReport → Type 0) → Pace → Space → Option (List Sight) → List AnyActor → Space → Option (List Sight) → Type 0
CutsOffEach cut pace space seen actors space' seen' = (task : Task) → pace_of task.plan ≡ pace → (earlier : List AnyActor) (h : List Item) (g : AbstractState)
    → HasRunEpoch task space seen earlier actors h g → AreCutOff cut task space' seen' h
