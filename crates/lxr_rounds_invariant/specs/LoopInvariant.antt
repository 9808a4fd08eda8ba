-- How far a run has come: what holds between its steps.
use Rattle.std.specs.Prelude.{◌≡◌, ℕ, ◌+◌, ◌-◌, ◌*◌, ◌^◌, ◌<◌, ◌≤◌, ◌⊎◌, ◌↔◌, Bool, false, true, if◌then◌else◌, Option, Some, List, ◌∷◌, [], length, slice_get}
use Rattle.std.specs.List.{list_any}
use Rattle.lxr_layout.specs.declared.TheConstants.{GRANULES_IN_BLOCK}
use Rattle.lxr_layout.specs.declared.Name.{Name}
use Rattle.lxr_layout.specs.declared.limits.Limits.{Limits}
use Rattle.lxr_graph.specs.declared.Reply.{Reply}
use Rattle.lxr_graph.specs.declared.report.Kind.TheVariants as kind
use Rattle.lxr_graph.specs.History.{Item, Call, Pause, PauseReport}
use Rattle.lxr_image.specs.declared.space.Space.{Space}
use Rattle.lxr_model.specs.Belongs.{HasCause, IsHistorySoFar, LastPauseWasEarly, Script, calls_since_pause, has_asked}
use Rattle.lxr_model.specs.Full.{IsRightAfterCollecting}
use Rattle.lxr_model.specs.Kinds.{MustCollect, OnlyNewsSincePause, collect_called}
use Rattle.lxr_model.specs.Legal.{KeepsPromise, OwesNoCall}
use Rattle.lxr_model.specs.Terms.{Terms}
use Rattle.lxr_invariant.specs.AbstractState.{AbstractState}
use Rattle.lxr_invariant.specs.Quiescent.{IsAtSafepoint, IsQuiescent}
use Rattle.lxr_invariant.specs.Listed.{FreeBlocksAreListed, IsListed}
use Rattle.lxr_sights.specs.Sights.{Sight}
use Rattle.lxr_mutator.specs.Mutating.{IsWaiting, Mutating, has_collected, op_now}
use Rattle.lxr_mutator.specs.Mutators.{IsThrough}
use Rattle.lxr_core.specs.declared.actors.AnyActor.{AnyActor}
use Rattle.lxr_core.specs.Actors.{decrementers_in, mutators_in, script_of, tracers_in}
use Rattle.lxr_core.specs.Ordering.{TellNames, orders_of}
use Rattle.lxr_core.specs.Resting.{AreServed, HelpersRest, RestAfter}
use Rattle.lxr_one_pause.specs.declared.Ask.{Ask}
use Rattle.lxr_one_pause.specs.declared.Ask.TheVariants as ask
use Rattle.lxr_one_pause.specs.declared.Pace.{Pace}
use Rattle.lxr_serve.specs.Serving.{NewsWait}
use Rattle.lxr_rounds_history.specs.Plan.{Plan}
use Rattle.lxr_rounds_history.specs.Left.{IsLeftBehind, StandsAfter, plan_limits}
use Rattle.lxr_rounds_history.specs.Histories.{IsHistoryWith, script_terms_with}
use Rattle.lxr_rounds_history.specs.Sights.{SamePlaces, Sees, SeesTo}
use Rattle.lxr_rounds_history.specs.Tally.{HasNumbersOf, evacuated_in}

-- What rounds go by: their plan, what threads were asked for so far, and what was seen before, where it is told. Threads of a script are asked for
-- all of it from the start.
pub record Task : Type 0 where
  pub plan : Plan
  -- whether names may be renewed; those of scripts never are
  pub renews : Bool
  -- whether mutators tell the names of what they load and swap out; those of scripts do
  pub names : Bool
  pub script : Script
  pub seen : Option (List Sight)

-- how many threads its script has
abbrev pub threads_of : Task → ℕ
threads_of task = length task.script

-- the terms of its histories
abbrev pub terms_of : Task → Terms
terms_of task = script_terms_with task.renews task.plan task.script

-- the limits of its space
abbrev pub task_limits : Task → Limits
task_limits task = plan_limits task.plan (threads_of task)

-- when traces begin and end by a plan
abbrev pub pace_of : Plan → Pace
pace_of plan = record { trace = plan.trace; within = plan.within }

-- pauses have moved and kept no more objects each than the heap has granules
abbrev pub HasEvacuatedFew : Space → Type 0
HasEvacuatedFew s = s.tally.moved + s.tally.kept ≤ GRANULES_IN_BLOCK * s.limits.blocks * s.pauses

-- The run has come to a history so far, and the space stands for what it led to, at a safepoint before a pause; the tally has the
-- history's numbers, and few objects were moved and kept; the watch has seen its pauses; what was unreclaimed at the last one
-- stands where it did.
pub record HasCome (task : Task) (space : Space) (seen : Option (List Sight)) (h : List Item) (g : AbstractState) : Type 0 where
  pub history : IsHistorySoFar (terms_of task) task.script h
  pub stands : StandsAfter (threads_of task) h g
  pub safepoint : IsAtSafepoint space g
  pub limits : space.limits ≡ task_limits task
  pub tally : HasNumbersOf (threads_of task) h space.tally
  pub evacuated : HasEvacuatedFew space
  pub places : Name → ℕ
  pub sights : SeesTo (threads_of task) h task.seen seen places (evacuated_in space.tally)
  pub kept : SamePlaces g.moment.unreclaimed places g.at

-- the numbers of a run are far from the ends of their types
pub record FitsCounts (space : Space) : Type 0 where
  pub pauses : (space.pauses + 1 < 2 ^ 32) × (space.tally.pauses < 2 ^ 63)
  pub logs : space.tally.logs + length space.logged.items < 2 ^ 63
  pub news : space.tally.news + 1 < 2 ^ 32
  pub loads : space.tally.loads < 2 ^ 63
  pub stores : space.tally.stores < 2 ^ 63

-- the mutators are those of the script's threads, each with what its thread was asked for, and rest for a history; they tell names, or none does
pub record HaveMutators (task : Task) (h : List Item) (mutators : List Mutating) : Type 0 where
  pub rest : RestAfter (task_limits task) task.plan.every h mutators
  pub script : script_of mutators ≡ task.script
  pub names : TellNames task.names mutators

-- the mutators among the actors are those, and behind them rest as many decrementers as the plan asks for, and as many tracers:
-- eight at most of each
pub record HaveActors (task : Task) (h : List Item) (actors : List AnyActor) : Type 0 where
  pub mutators : HaveMutators task h (mutators_in actors)
  pub helpers : HelpersRest (task_limits task) actors
  pub workers : length (decrementers_in actors) ≡ task.plan.workers
  pub tracers : length (tracers_in actors) ≡ task.plan.workers
  pub few : task.plan.workers ≤ 8

-- how many operations and ends are done
abbrev pub done_of : List Mutating → ℕ
done_of [] = 0
done_of (m ∷ mutators) = length m.replies.items + done_of mutators

-- how many operations and ends are left
abbrev pub left_of : List Mutating → ℕ
left_of [] = 0
left_of (m ∷ mutators) = (length m.operations + 1 - length m.replies.items) + left_of mutators

-- not all threads have ended; all have
abbrev pub HasMore : List Mutating → Type 0
HasMore mutators = (i : ℕ) × (m : Mutating) × (slice_get mutators i ≡ Some m) × ¬ IsThrough m

abbrev pub HaveEnded : List Mutating → Type 0
HaveEnded mutators = (i : ℕ) (m : Mutating) → slice_get mutators i ≡ Some m → IsThrough m

-- some `new` waits
abbrev pub SomeWait : List Mutating → Type 0
SomeWait mutators = (i : ℕ) × (m : Mutating) × (slice_get mutators i ≡ Some m) × IsWaiting m

-- Between two epochs: the space is between epochs and listed, nobody waits, and no pause has collected for a `new` that is still to come.
-- Not all threads have ended. Two pauses at most were made for each operation or end.
pub record IsBetweenEpochs (task : Task) (space : Space) (seen : Option (List Sight)) (actors : List AnyActor) (h : List Item) (g : AbstractState) : Type 0 where
  pub come : HasCome task space seen h g
  pub between : IsQuiescent space g
  pub listed : IsListed space
  pub all_listed : FreeBlocksAreListed space
  pub actors_rest : HaveActors task h actors
  pub served : AreServed h (mutators_in actors)
  pub owes_none : OwesNoCall (terms_of task) h
  pub few : space.pauses ≤ 2 * done_of (mutators_in actors)
  pub more : HasMore (mutators_in actors)

-- a pause is due: it has a cause, at the last one not all threads had ended, and that one didn't collect for a `new` that is still to come
pub record IsPauseDue (task : Task) (h : List Item) : Type 0 where
  pub cause : HasCause (terms_of task) task.script h
  pub early : LastPauseWasEarly (terms_of task) h
  pub owes_none : OwesNoCall (terms_of task) h

-- what a pause is asked for, by whether it shall collect, and whether it is to begin a trace where none runs
abbrev pub asked_by : Bool → Bool → Ask
asked_by collects begins = if collects then ask.Collect else (if begins then ask.Trace else ask.Ordinary)

-- a pause after h is asked to collect exactly where it must, and to begin a trace only where the plan leaves that free
pub record IsAskedWhereDue (task : Task) (h : List Item) (asked : Ask) : Type 0 where
  pub collects : (asked ≡ ask.Collect) ↔ MustCollect (terms_of task) h
  pub traces : asked ≡ ask.Trace → task.plan.trace ≡ 0

-- So it is asked; or it is asked to collect for a `new` that waits, where nothing but calls of `new` stands after the last pause.
abbrev pub IsAskedRight : Task → List Item → Ask → Type 0
IsAskedRight task h asked = IsAskedWhereDue task h asked ⊎ ((asked ≡ ask.Collect) × OnlyNewsSincePause h)

-- An epoch has run from `before`, and a pause is due.
pub record HasRunEpoch (task : Task) (space : Space) (seen : Option (List Sight)) (before actors : List AnyActor) (h : List Item) (g : AbstractState) : Type 0 where
  pub come : HasCome task space seen h g
  pub actors_rest : HaveActors task h actors
  pub news : NewsWait (mutators_in actors)
  pub due : IsPauseDue task h
  -- the mutators tell whether `collect` was called since the last pause
  pub collects : collect_called h ≡ list_any has_collected (mutators_in actors)
  -- something was done, or some `new` waits
  pub progress : (done_of (mutators_in before) < done_of (mutators_in actors)) ⊎ SomeWait (mutators_in actors)
  pub grows : done_of (mutators_in before) ≤ done_of (mutators_in actors)
  pub few : space.pauses ≤ 2 * done_of (mutators_in before)

-- a pause that was asked for so was made after h, and it collects exactly where it was asked to
pub record HasPaused (task : Task) (space : Space) (seen : Option (List Sight)) (h : List Item) (asked : Ask) (report : PauseReport) (g : AbstractState) : Type 0 where
  pub come : HasCome task space seen (Pause report ∷ h) g
  pub between : IsQuiescent space g
  pub collects : (report.kind ≡ kind.Collect) ↔ (asked ≡ ask.Collect)

abbrev pub IsPaused : Task → Space → Option (List Sight) → List Item → Ask → Type 0
IsPaused task space seen h asked = (report : PauseReport) × (g : AbstractState) × HasPaused task space seen h asked report g

-- ---- while waiting `new`s are answered

-- a collecting pause stands before, and nothing but refusals behind it
abbrev pub IsCollectedSince : List Item → Type 0
IsCollectedSince h = IsRightAfterCollecting h

-- so many pauses had been made when waiting `new`s began to be answered, by mutators that were `before`: since then one pause at most was made
-- for each `new` that was answered, and so many more
abbrev pub ArePausesFew : Space → List Mutating → ℕ → List Mutating → ℕ → Type 0
ArePausesFew space before paused mutators more = space.pauses + done_of before ≤ paused + done_of mutators + more

-- a history ends with what any call may follow
pub record OwesNone (task : Task) (space : Space) (before : List Mutating) (paused : ℕ) (mutators : List Mutating) (h : List Item) : Type 0 where
  pub none : OwesNoCall (terms_of task) h
  pub few : ArePausesFew space before paused mutators 0

-- or with a pause that collected for the first `new` that waits, and none was served since: that call may follow, whatever its reply
pub record OwesOne (task : Task) (space : Space) (before : List Mutating) (paused : ℕ) (collected served : Bool) (mutators : List Mutating) (h : List Item) : Type 0 where
  pub number : ℕ
  pub mutator : Mutating
  pub is : slice_get mutators number ≡ Some mutator
  pub waits : IsWaiting mutator
  pub first : (i : ℕ) (m : Mutating) → slice_get mutators i ≡ Some m → i < number → ¬ IsWaiting m
  pub promise : (r : Reply) → KeepsPromise (terms_of task) h (Call (number + 1) (op_now mutator) r)
  pub collected_is : collected ≡ true
  pub unserved : served ≡ false
  pub few : ArePausesFew space before paused mutators 1

-- While waiting `new`s are answered after a pause: in this call, those of the first threads are served or refused. The mutators were
-- `before` when the first call began, and so many pauses had been made. `collected` tells that a collecting pause stands before this
-- call, `served` that a `new` was served in it.
pub record IsServing (task : Task) (space : Space) (seen : Option (List Sight)) (before : List Mutating) (paused : ℕ) (collected : Bool) (mutators : List Mutating) (first : ℕ) (served : Bool) (h : List Item) (g : AbstractState) : Type 0 where
  pub come : HasCome task space seen h g
  pub between : IsQuiescent space g
  pub mutators_rest : HaveMutators task h mutators
  pub news : NewsWait mutators
  pub unwaiting : (i : ℕ) (m : Mutating) → slice_get mutators i ≡ Some m → i < first → ¬ IsWaiting m
  pub short : (t : ℕ) → t ≤ first → calls_since_pause t h ≤ 1
  pub none_yet : (t : ℕ) → first < t → calls_since_pause t h ≡ 0
  pub unasked : (t : ℕ) → has_asked t h ≡ false
  pub only_news : OnlyNewsSincePause h
  pub unserved : served ≡ false → collected ≡ true → IsCollectedSince h
  pub more : HasMore mutators
  pub owes : OwesNone task space before paused mutators h ⊎ OwesOne task space before paused collected served mutators h
  -- nobody is asked for anything meanwhile
  pub asked : orders_of mutators ≡ orders_of before
  -- something was done, or all wait that did
  pub progress : (done_of before < done_of mutators) ⊎ (mutators ≡ before)

-- all operations and ends are done, and the last pause is made
pub record HasRunTo (task : Task) (space : Space) (seen : Option (List Sight)) (actors : List AnyActor) (h : List Item) : Type 0 where
  pub history : IsHistoryWith task.renews task.plan task.script h
  pub left : IsLeftBehind task.plan (threads_of task) h space
  pub sights : Sees (threads_of task) h task.seen seen (evacuated_in space.tally)
  pub actors_rest : HaveActors task h actors

abbrev pub HasRun : Task → Space → Option (List Sight) → List AnyActor → Type 0
HasRun task space seen actors = (h : List Item) × HasRunTo task space seen actors h
