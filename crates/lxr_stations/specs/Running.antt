-- An epoch of live mutators: while it runs, and once it is closed.
use Rattle.std.specs.Prelude.{◌≡◌, ℕ, Bool, Option, List, ◌++◌, length, map}
use Rattle.lxr_graph.specs.declared.Reply.{Reply}
use Rattle.lxr_actor.specs.declared.Event.{Event}
use Rattle.lxr_mutator.specs.declared.phases.MutEnd.{MutEnd}
use Rattle.lxr_mutator.specs.Mutating.{Mutating}
use Rattle.lxr_image.specs.declared.space.Space.{Space}
use Rattle.lxr_core_invariant.specs.EpochStates.{Beginning}
use Rattle.lxr_core.specs.declared.actors.AnyActor.{AnyActor}
use Rattle.lxr_core.specs.Actors.{decrementers_in, mutators_in, script_of, tracers_in}
use Rattle.lxr_core.specs.Closing.{Closes, IsPauseExplained}
use Rattle.lxr_core.specs.Executions.{Execution, HoldsExecution, tell_all}
use Rattle.lxr_core.specs.Ordering.{TellNames}
use Rattle.lxr_shared.specs.Sharing.{Sharing}
use Rattle.lxr_shared_passes.specs.Passing.{IsSeen, Passing}
use Rattle.lxr_stations.specs.declared.station.Arrival.{Arrival}
use Rattle.lxr_stations.specs.Arriving.{HasComeHome, IsHandedIn}
use Rattle.lxr_stations.specs.Gathering.{HoldComeHome, HoldHandedIn}
use Rattle.lxr_stations.specs.Living.{AreLive}
use Rattle.lxr_stations.specs.Stations.{Stationed}

-- what each mutator has replied since it began to count, and how its last unit ended
abbrev pub shown_of : List Mutating → List (List Reply × Option MutEnd)
shown_of mutators = map (λ (m : Mutating). (m.replies.items, m.end)) mutators

-- It began so: the words and the actors that it was opened with are those of an execution of which the epoch's invariant holds, and of the
-- space the words alone have changed.
pub record IsRunning (b : Beginning) (epoch : Sharing) : Type 0 where
  pub opened : Execution
  pub holds : HoldsExecution b opened
  pub core : opened.core ≡ epoch.opening
  pub space_is : epoch.space ≡ record b.space { words = epoch.space.words }

-- The actors that it was opened with are these, as they begin again: the mutators were asked for what these were, show what these do, may be ordered as
-- much, and tell names as these do; and there are as many helpers.
pub record BeganWith (actors : List AnyActor) (epoch : Sharing) : Type 0 where
  pub script : script_of (mutators_in epoch.opening.actors) ≡ script_of (mutators_in actors)
  pub shown : shown_of (mutators_in epoch.opening.actors) ≡ shown_of (mutators_in actors)
  pub decrementers : length (decrementers_in epoch.opening.actors) ≡ length (decrementers_in actors)
  pub tracers : length (tracers_in epoch.opening.actors) ≡ length (tracers_in actors)
  pub live : AreLive (mutators_in actors) → AreLive (mutators_in epoch.opening.actors)
  pub names : (b : Bool) → TellNames b (mutators_in actors) → TellNames b (mutators_in epoch.opening.actors)

-- It is closed: what it leaves is what the execution leaves that it was opened with, over some schedule of orders and single atomic steps.
-- The space is at a safepoint before a pause then, which is explained, for a history that has gone on by calls of the model; and each mutator has
-- done a beginning of all that it was asked for, each operation once and in order, with the replies of that history.
-- Of the schedule each station that was handed in has seen a beginning, with all events of its own, and each whose homecoming was has seen a beginning.
pub record ClosesLive (b : Beginning) (epoch : Sharing) (running : IsRunning b epoch) (handed : List (Option Arrival)) (space : Space) (actors : List AnyActor) : Type 0 where
  pub schedule : List Event
  pub seen : (number : ℕ) (s : Stationed) → IsHandedIn handed number s → IsSeen schedule number s.pass.seen
  pub begins : (number : ℕ) (s : Stationed) → HasComeHome handed number s → (rest : List Event) × (schedule ≡ s.pass.seen ++ rest)
  pub middle : Space
  pub words : middle ≡ record b.space { words = middle.words }
  pub closes : Closes b (tell_all b running.opened schedule) middle space actors
  pub due : IsPauseExplained b (tell_all b running.opened schedule) actors

-- so it is whatever was handed in that tells of passes of these
abbrev pub ClosesEach : Sharing → List (Passing AnyActor) → Space → List AnyActor → Type 0
ClosesEach epoch passes space actors = (b : Beginning) (running : IsRunning b epoch) (handed : List (Option Arrival)) → HoldHandedIn handed 0 passes → HoldComeHome handed 0 passes → ClosesLive b epoch running handed space actors
