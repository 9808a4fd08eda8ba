-- What a run keeps from step to step, each law the contract of a function with an empty body.
use Rattle.std.specs.Prelude.{◌≡◌, ℕ, ◌+◌, ◌<◌, Bool, Option, List, length}
use Rattle.lxr_graph.specs.History.{Item}
use Rattle.lxr_model.specs.Belongs.{Script}
use Rattle.lxr_model_laws.specs.ScriptLaws.{GoesOn}
use Rattle.lxr_image.specs.declared.space.Space.{Space}
use Rattle.lxr_invariant.specs.AbstractState.{AbstractState}
use Rattle.lxr_invariant.specs.Quiescent.{IsQuiescent}
use Rattle.lxr_invariant.specs.Listed.{FreeBlocksAreListed, IsListed}
use Rattle.lxr_sights.specs.Sights.{Sight}
use Rattle.lxr_core_invariant.specs.EpochStates.{Beginning, Extends}
use Rattle.lxr_core.specs.declared.actors.AnyActor.{AnyActor}
use Rattle.lxr_core.specs.Actors.{decrementers_in, mutators_in, script_of, tracers_in}
use Rattle.lxr_core.specs.Closing.{Closes, IsPauseExplained}
use Rattle.lxr_core.specs.Opening.{Begins}
use Rattle.lxr_core.specs.Ordering.{TellNames}
use Rattle.lxr_core.specs.Executions.{Execution}
use Rattle.lxr_one_pause.specs.declared.Ask.{Ask}
use Rattle.lxr_serve.specs.Serving.{KeepsHelpers}
use Rattle.lxr_rounds_invariant.specs.LoopInvariant.{HasRun, HasRunEpoch, HaveEnded, IsBetweenEpochs, IsPaused, IsServing, Task, done_of}

-- ---- epochs

-- what an epoch of a run begins with
abbrev pub beginning_of : Task → Space → List Item → AbstractState → Beginning
beginning_of task space h g = record { space = space; abstract_state = g; history = h; every = task.plan.every }

-- an epoch may be opened between epochs
abbrev pub EpochsMayOpen : Type 0
EpochsMayOpen = (task : Task) (space : Space) (seen : Option (List Sight)) (actors : List AnyActor) (h : List Item) (g : AbstractState)
    → IsBetweenEpochs task space seen actors h g → Begins (beginning_of task space h g) space actors

-- An epoch that began so, in which nothing but words changed, is closed, and a pause is due behind it: all threads are through with it, or one
-- wants a pause and others rest with nothing to do.
pub record HasClosed (task : Task) (space mid after : Space) (actors : List AnyActor) (h : List Item) (g : AbstractState) (execution : Execution) : Type 0 where
  pub words : mid ≡ record space { words = mid.words }
  pub script : script_of (mutators_in execution.core.actors) ≡ task.script
  pub names : TellNames task.names (mutators_in execution.core.actors)
  pub workers : length (decrementers_in execution.core.actors) ≡ task.plan.workers
  pub tracers : length (tracers_in execution.core.actors) ≡ task.plan.workers
  pub closes : Closes (beginning_of task space h g) execution mid after actors
  pub due : IsPauseExplained (beginning_of task space h g) execution actors

-- a task whose threads were asked for this
abbrev pub asked_for : Task → Script → Task
asked_for task script = record task { script = script }

-- Then a pause has a cause, and the history goes on by calls alone. Threads may have been asked for more while the epoch ran; where a script is
-- known from the start it stays.
abbrev pub EpochsRun : Type 0
EpochsRun = (task : Task) (script : Script) (space mid after : Space) (seen : Option (List Sight)) (before actors : List AnyActor) (h : List Item) (g : AbstractState) (execution : Execution)
    → IsBetweenEpochs task space seen before h g → GoesOn task.script script → HasClosed (asked_for task script) space mid after actors h g execution
    → (m : AbstractState) × HasRunEpoch (asked_for task script) after seen before actors execution.history m × Extends (length script) task.plan.every h execution.history

-- ---- the way to the next epoch

-- what listing runs and free blocks anew leaves of a space between epochs
pub record ListsAnew (before after : Space) (g : AbstractState) : Type 0 where
  pub between : IsQuiescent after g
  pub listed : IsListed after
  pub all_listed : FreeBlocksAreListed after
  pub limits : after.limits ≡ before.limits
  pub tally : after.tally ≡ before.tally
  pub pauses : after.pauses ≡ before.pauses

-- A run is between epochs again, and has done something, once a pause is made after an epoch, each waiting `new` is served or
-- refused, and runs and free blocks are listed.
pub record IsAgain (task : Task) (space : Space) (seen : Option (List Sight)) (before actors : List AnyActor) (h : List Item) (g : AbstractState) : Type 0 where
  pub amid : IsBetweenEpochs task space seen actors h g
  pub more : done_of (mutators_in before) < done_of (mutators_in actors)

abbrev pub RunsGoOn : Type 0
RunsGoOn = (task : Task) (safepoint space after : Space) (seen seen' : Option (List Sight)) (before actors actors' : List AnyActor) (paused first : ℕ) (collected served : Bool) (h h' : List Item) (g g' : AbstractState)
    → HasRunEpoch task safepoint seen before actors h g → paused ≡ safepoint.pauses + 1 → IsServing task space seen' (mutators_in actors) paused collected (mutators_in actors') first served h' g' → first ≡ length (mutators_in actors')
    → KeepsHelpers actors actors' → ListsAnew space after g' → IsAgain task after seen' before actors' h' g'

-- ---- the end

-- where all threads have ended, the pause after the epoch is the last, and the history is whole
abbrev pub RunsEnd : Type 0
RunsEnd = (task : Task) (safepoint space : Space) (seen seen' : Option (List Sight)) (before actors : List AnyActor) (h : List Item) (g : AbstractState) (asked : Ask)
    → HasRunEpoch task safepoint seen before actors h g → HaveEnded (mutators_in actors) → IsPaused task space seen' h asked → HasRun task space seen' actors
