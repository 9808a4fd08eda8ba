-- How the `new`s that wait are answered after a pause, with more pauses between, until none waits.
use Rattle.std.specs.Prelude.{Bool, true, List, ◌∷◌}
use Rattle.lxr_graph.specs.History.{Item, Pause, report_of}
use Rattle.lxr_image.specs.declared.space.Space.{Space}
use Rattle.lxr_mutator.specs.Mutating.{Mutating}
use Rattle.lxr_one_pause.specs.declared.Ask.TheVariants as ask
use Rattle.lxr_one_pause.specs.declared.Pace.{Pace}
use Rattle.lxr_serve.specs.declared.Served.TheVariants as outcome
use Rattle.lxr_serve.specs.Answering.{Answers}
use Rattle.lxr_rounds.specs.Pausing.{MakesPause}

-- Before and after stand the mutators, the space and the history; `collected` tells whether the pause that stands before collected. Either all that
-- wait are answered in one call, or the call ends at one for which there is no room: then a collecting pause is made, and the rest is
-- answered behind it.
pub data AnswersWaiting (pace : Pace) : Bool → List Mutating → Space → List Item → List Mutating → Space → List Item → Type 0 where
  all : (collected : Bool) (mutators mutators' : List Mutating) (space space' : Space) (h h' : List Item) → Answers outcome.All collected mutators mutators' space space' h h'
      → AnswersWaiting pace collected mutators space h mutators' space' h'
  collects : (collected : Bool) (mutators middle mutators' : List Mutating) (space full paused space' : Space) (h k h' : List Item) → Answers outcome.Collect collected mutators middle space full h k
      → MakesPause ask.Collect pace full paused → AnswersWaiting pace true middle paused (Pause (report_of paused.report) ∷ k) mutators' space' h'
      → AnswersWaiting pace collected mutators space h mutators' space' h'
