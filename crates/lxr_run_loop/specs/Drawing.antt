-- That a run's history is the one that its epochs and pauses make from one space; with a generator, the one that it draws.
use Rattle.std.specs.Prelude.{◌≡◌, ◌↔◌, ℕ, ⊤, Bool, Option, Some, None, List, [], ◌∷◌, is_some, map, length, slice_get}
use Rattle.lxr_graph.specs.History.{Item, Pause, report_of}
use Rattle.lxr_graph.specs.declared.Item as kept
use Rattle.lxr_image.specs.declared.space.Space.{Space}
use Rattle.lxr_image.specs.Opened.{IsOpened}
use Rattle.lxr_model.specs.Kinds.{MustCollect}
use Rattle.lxr_invariant.specs.AbstractState.{AbstractState}
use Rattle.lxr_invariant.specs.Listed.{FreeBlocksAreListed}
use Rattle.lxr_actor.specs.declared.Core.{Core}
use Rattle.lxr_actor.specs.declared.Event.{Event}
use Rattle.lxr_actor.specs.declared.Event.TheVariants.{Step}
use Rattle.lxr_actor.specs.Run.{core_of, run}
use Rattle.lxr_core.specs.declared.actors.AnyActor.{AnyActor}
use Rattle.lxr_mutator.specs.Mutating.{IsWaiting, Mutating}
use Rattle.lxr_core.specs.Actors.{any_machine, decrementers_in, mutators_in, script_of, tracers_in}
use Rattle.lxr_core.specs.Closing.{AreFinished, AreResting, Closes}
use Rattle.lxr_core.specs.Executions.{tell_all}
use Rattle.lxr_core.specs.Opening.{Begins, Opens, execution_at}
use Rattle.lxr_one_pause.specs.declared.Ask.{Ask}
use Rattle.lxr_one_pause.specs.declared.Ask.TheVariants as ask
use Rattle.lxr_placing.specs.Listing.{ListsAll}
use Rattle.lxr_serve.specs.Serving.{KeepsHelpers}
use Rattle.lxr_run_replay.specs.Replaying.{Replays}
use Rattle.lxr_rounds_invariant.specs.LoopInvariant.{pace_of, task_limits, terms_of}
use Rattle.lxr_rounds_invariant.specs.Laws.{beginning_of}
use Rattle.lxr_rounds.specs.Answering.{AnswersWaiting}
use Rattle.lxr_rounds.specs.Pausing.{PausesBehind}
use Rattle.lxr_rounds.specs.Serving.{BeginsServing}
use Rattle.lxr_sights.specs.Sights.{Sight}
use Rattle.lxr_run_loop.specs.Made.{AreMade}
use Rattle.lxr_run_loop.specs.Orders.{NotesCalls}
use Rattle.lxr_run_loop.specs.Tasks.{RunTask, rounds_of}

-- Who made each step of an epoch: where a generator had come to x, its draws, until no mutator had a next step, tracers only where a
-- trace ran; then helpers finished their units, and the generator came to x'. Where there is no generator, threads ran as they came.
abbrev pub IsScheduled : Bool → Option ℕ → Core AnyActor → List Event → Option ℕ → Type 0
IsScheduled tracing (Some x) core events (Some x') = (schedule : List ℕ) × (events ≡ map Step schedule) × Replays tracing x core schedule x'
IsScheduled tracing (Some x) core events None = ⊥
IsScheduled tracing None core events (Some x') = ⊥
IsScheduled tracing None core events None = ⊤

-- The actors of an opened epoch went on by events that were scheduled so, the generator from x to x', until all mutators were through with
-- the epoch and all actors rested. Of the space only the words have changed.
pub record GoesOn (before after : Space) (actors actors' : List AnyActor) (x x' : Option ℕ) : Type 0 where
  pub events : List Event
  pub scheduled : IsScheduled (is_some before.trace) x (core_of before.words actors) events x'
  pub run : core_of after.words actors' ≡ run any_machine (core_of before.words actors) events
  pub finished : AreFinished (mutators_in actors')
  pub resting : AreResting actors'
  pub rest : after ≡ record before { words = after.words }

-- They went on so, and what came into the history was noted.
pub record GoesOnInOrder (before after : Space) (actors actors' : List AnyActor) (x x' : Option ℕ) (order order' : Option (List kept.Item)) : Type 0 where
  pub goes : GoesOn before after actors actors' x x'
  pub notes : NotesCalls (core_of before.words actors) goes.events order order'

-- A replay has gone on so from a generator's x to x', and what came into the history was noted.
abbrev pub ReplaysInOrder : (before after : Space) → (actors actors' : List AnyActor) → (x x' : ℕ) → (order order' : Option (List kept.Item)) → Type 0
ReplaysInOrder before after actors actors' x x' order order' = GoesOnInOrder before after actors actors' (Some x) (Some x') order order'

-- An epoch of this space and these actors, behind a history h, was made: all free blocks were listed and no `new` waited, the mutators have
-- the operations of the task, and there are as many decrementers as its options ask for, and as many tracers. It was opened, its actors went
-- on, the generator from x to x', and it was closed. What came in it, in this order, has led to the history h', and to this space and these
-- actors.
pub record MakesEpoch (task : RunTask) (space : Space) (actors : List AnyActor) (h : List Item) (x : Option ℕ) (closed : Space) (actors' : List AnyActor) (h' : List Item) (x' : Option ℕ) : Type 0 where
  pub script : script_of (mutators_in actors) ≡ task.script
  pub workers : length (decrementers_in actors) ≡ task.options.workers
  pub tracers : length (tracers_in actors) ≡ task.options.workers
  pub abstract_state : AbstractState
  pub begins : Begins (beginning_of (rounds_of task) space h abstract_state) space actors
  pub all_listed : FreeBlocksAreListed space
  pub unwaiting : (i : ℕ) (m : Mutating) → slice_get (mutators_in actors) i ≡ Some m → ¬ IsWaiting m
  pub opened : Space
  pub started : List AnyActor
  pub opens : Opens space opened actors started
  pub gone : Space
  pub moved : List AnyActor
  pub on : GoesOn opened gone started moved x x'
  pub closes : Closes (beginning_of (rounds_of task) space h abstract_state) (tell_all (beginning_of (rounds_of task) space h abstract_state) (execution_at (beginning_of (rounds_of task) space h abstract_state) opened started) on.events) gone closed actors'
  pub history : h' ≡ (tell_all (beginning_of (rounds_of task) space h abstract_state) (execution_at (beginning_of (rounds_of task) space h abstract_state) opened started) on.events).history

-- The history of a run, whose generator begins with the number that the options give, if they give one, and goes on from epoch to epoch:
-- behind this history it has come to x, and the run to this space and these actors. It begins with an opened space and actors as they are
-- made. One pause stands after each epoch, which collects exactly where it must, and is never asked for a trace; what waits is answered behind it, with more pauses where
-- room is wanted; then runs and free blocks are listed for the next epoch. Epochs alone draw from the generator, and what one of these
-- steps leaves is what the next one begins with.
pub data IsDrawn (task : RunTask) : List Item → Option ℕ → Space → List AnyActor → Type 0 where
  at_opening : (space : Space) (actors : List AnyActor) → IsOpened space (task_limits (rounds_of task)) → AreMade (task_limits (rounds_of task)) task.options.every task.options.workers task.options.workers task.script actors
      → IsDrawn task [] task.options.replay space actors
  by_epoch : (h h' : List Item) (x x' : Option ℕ) (space closed paused : Space) (actors actors' : List AnyActor) (asked : Ask) → IsDrawn task h x space actors → MakesEpoch task space actors h x closed actors' h' x'
      → (asked ≡ ask.Collect) ↔ MustCollect (terms_of (rounds_of task)) h' → ¬ (asked ≡ ask.Trace) → PausesBehind (rounds_of task) asked h' closed paused → IsDrawn task (Pause (report_of paused.report) ∷ h') x' paused actors'
  by_answers : (h h' : List Item) (x : Option ℕ) (g : AbstractState) (collected : Bool) (space space' : Space) (actors actors' : List AnyActor) (seen : Option (List Sight)) → IsDrawn task h x space actors
      → BeginsServing (rounds_of task) space seen collected (mutators_in actors) h g → AnswersWaiting (pace_of (rounds_of task).plan) collected (mutators_in actors) space h (mutators_in actors') space' h' → KeepsHelpers actors actors'
      → IsDrawn task h' x space' actors'
  by_listing : (h : List Item) (x : Option ℕ) (space space' : Space) (actors : List AnyActor) → IsDrawn task h x space actors → ListsAll space space' → IsDrawn task h x space' actors

-- so it has come to this space, whatever its actors are
abbrev pub IsDrawnTo : RunTask → List Item → Option ℕ → Space → Type 0
IsDrawnTo task h x space = (actors : List AnyActor) × IsDrawn task h x space actors
