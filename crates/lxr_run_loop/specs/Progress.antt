-- How a run goes on from one epoch to the next.
use Rattle.std.specs.Prelude.{◌≡◌, ℕ, ◌<◌, ◌≤◌, Bool, true, false, Option, List}
use Rattle.lxr_graph.specs.History.{Item}
use Rattle.lxr_graph.specs.declared.Item as kept
use Rattle.lxr_image.specs.declared.space.Space.{Space}
use Rattle.lxr_invariant.specs.AbstractState.{AbstractState}
use Rattle.lxr_sights.specs.Sights.{Sight}
use Rattle.lxr_core.specs.declared.actors.AnyActor.{AnyActor}
use Rattle.lxr_core.specs.Actors.{mutators_in}
use Rattle.lxr_core.specs.Ordering.{AreFull}
use Rattle.lxr_words.specs.declared.Options.{Options}
use Rattle.lxr_text_stream.specs.declared.transfer.WriteError.{WriteError}
use Rattle.lxr_run_history.specs.Sums.{totals_of}
use Rattle.lxr_rounds_invariant.specs.LoopInvariant.{HasRunEpoch, IsBetweenEpochs, left_of}
use Rattle.lxr_run_loop.specs.Tasks.{HasRunAndTold, HasTold, RunTask, WasStopped, rounds_of, script_threads}
use Rattle.lxr_run_loop.specs.declared.course.Course.{Course}
use Rattle.lxr_run_loop.specs.Courses.{IsCourseOf}
use Rattle.lxr_run_loop.specs.Drawing.{IsDrawn, MakesEpoch}
use Rattle.lxr_run_loop.specs.Orders.{FollowsOrder, IsOrderOf}

-- ---- the run

-- The run is between two rounds: it is between two epochs, its script has 16 threads at most, the reports of its pauses were written, and no
-- mutator has room for a further operation. So its script stays what it is.
pub record IsBetweenRounds (task : RunTask) (space : Space) (written : Option (List ℕ)) (seen : Option (List Sight)) (actors : List AnyActor) (h : List Item) (g : AbstractState) : Type 0 where
  pub epochs : IsBetweenEpochs (rounds_of task) space seen actors h g
  pub threads : script_threads task ≤ 16
  pub text : HasTold task written h
  pub full : AreFull (mutators_in actors)

-- the run is between two rounds, and has come so far in its course
abbrev pub IsUnderWay : RunTask → Space → Option (List ℕ) → Option (List Sight) → List AnyActor → Course → Type 0
IsUnderWay task space written seen actors course =
    (h : List Item) × (g : AbstractState) × IsBetweenRounds task space written seen actors h g × IsDrawn task h course.generator space actors × IsCourseOf course space h

-- some run with these options is
abbrev pub SomeIsUnderWay : Options → Space → Option (List ℕ) → Option (List Sight) → List AnyActor → Course → Type 0
SomeIsUnderWay options space written seen actors course = (task : RunTask) × (task.options ≡ options) × IsUnderWay task space written seen actors course

-- all threads have ended, the last pause is made, and the run has come so far in its course; no mutator had room for a further operation
abbrev pub IsComplete : RunTask → Space → Option (List ℕ) → Option (List Sight) → List AnyActor → Course → Type 0
IsComplete task space written seen actors course =
    (h : List Item) × HasRunAndTold task space written seen actors h × IsDrawn task h course.generator space actors × (course.totals ≡ totals_of h) × IsOrderOf course.order h × AreFull (mutators_in actors)

-- each run with these options that was under way so was stopped for this cause
abbrev pub IsStoppedUnderWay : WriteError → Options → Space → Option (List ℕ) → Option (List Sight) → List AnyActor → Course → Space → Option (List ℕ) → Option (List Sight) → Type 0
IsStoppedUnderWay why options space written seen actors course space' written' seen' =
    (task : RunTask) → task.options ≡ options → IsUnderWay task space written seen actors course → WasStopped why task space' written' seen'

-- ---- an epoch

-- some run with these options is between two rounds
abbrev pub CanRunEpoch : Options → Space → List AnyActor → Type 0
CanRunEpoch options space actors = (task : RunTask) × (task.options ≡ options) × (written : Option (List ℕ)) × (seen : Option (List Sight)) × (h : List Item) × (g : AbstractState) × IsBetweenRounds task space written seen actors h g

-- A run that was between two rounds, behind a history h, has made an epoch: by the draws of a generator, which has gone from x to x', or as
-- its threads came. No pause was made in it, and no order was taken.
pub record HasMadeEpoch (task : RunTask) (space after : Space) (written : Option (List ℕ)) (seen : Option (List Sight)) (before actors : List AnyActor) (h : List Item) (x x' : Option ℕ) : Type 0 where
  pub history : List Item
  pub abstract_state : AbstractState
  pub ran : HasRunEpoch (rounds_of task) after seen before actors history abstract_state
  pub text : HasTold task written history
  pub makes : MakesEpoch task space before h x after actors history x'
  pub full : AreFull (mutators_in actors)
  pub totals : totals_of history ≡ totals_of h
  pub pauses : after.pauses ≡ space.pauses

-- it has, and where the order was that of its history it still is
abbrev pub HasMadeEpochInOrder : RunTask → Space → Space → Option (List ℕ) → Option (List Sight) → List AnyActor → List AnyActor → List Item → (x x' : Option ℕ) → (order order' : Option (List kept.Item)) → Type 0
HasMadeEpochInOrder task space after written seen before actors h x x' order order' =
    (made : HasMadeEpoch task space after written seen before actors h x x') × FollowsOrder order h order' made.history

-- each such run has
abbrev pub RunsEpoch : Options → Space → List AnyActor → Option ℕ → Option (List kept.Item) → Space → List AnyActor → Option ℕ → Option (List kept.Item) → Type 0
RunsEpoch options space actors x order space' actors' x' order' = (task : RunTask) → task.options ≡ options → (written : Option (List ℕ)) (seen : Option (List Sight)) (h : List Item) (g : AbstractState)
    → IsBetweenRounds task space written seen actors h g → HasMadeEpochInOrder task space space' written seen actors actors' h x x' order order'

-- ---- a round: an epoch and the pause behind it

-- the run is between two rounds again, and less is left to do
pub record IsNearer (task : RunTask) (space : Space) (written : Option (List ℕ)) (seen : Option (List Sight)) (before after : List AnyActor) (course : Course) : Type 0 where
  pub under_way : IsUnderWay task space written seen after course
  pub less : left_of (mutators_in after) < left_of (mutators_in before)

-- all threads have ended, and the run is done
pub record IsThere (task : RunTask) (space : Space) (written : Option (List ℕ)) (seen : Option (List Sight)) (before after : List AnyActor) (course : Course) : Type 0 where
  pub complete : IsComplete task space written seen after course
  pub no_more : left_of (mutators_in after) ≤ left_of (mutators_in before)

-- what a run is by one round more, and whether all threads have ended
abbrev pub HasMadeRound : RunTask → Space → Option (List ℕ) → Option (List Sight) → List AnyActor → List AnyActor → Course → Bool → Type 0
HasMadeRound task space written seen before after course true = IsThere task space written seen before after course
HasMadeRound task space written seen before after course false = IsNearer task space written seen before after course
