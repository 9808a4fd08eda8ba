-- A heap that threads share: what it stands for wherever it stands, and what its calls do.
use Rattle.std.specs.Prelude.{◌≡◌, Bool, true, ◌↔◌, ◌⊎◌, ℕ, zero, suc, ◌+◌, ◌*◌, ◌<◌, ◌≤◌, ⊤, None, Option, Some, List, [], ◌∷◌, ◌++◌, drop, length, map, max, replicate, slice_get, take}
use Rattle.lxr_graph.specs.declared.report.Kind.TheVariants as kind
use Rattle.lxr_layout.specs.declared.Name.{Name}
use Rattle.lxr_graph.specs.declared.Op.{Op}
use Rattle.lxr_graph.specs.declared.Reply.{Reply}
use Rattle.lxr_graph.specs.History.{Item, PauseReport, Renew}
use Rattle.std.specs.Option.{option_map}
use Rattle.lxr_image.specs.declared.space.Space.{Space}
use Rattle.lxr_image.specs.Settled.{free_below}
use Rattle.lxr_image.specs.Spaces.{tables_of}
use Rattle.lxr_model.specs.Belongs.{IsHistorySoFar, Script}
use Rattle.lxr_model.specs.Kinds.{MustCollect}
use Rattle.lxr_model_laws.specs.ScriptLaws.{GoesOn}
use Rattle.lxr_invariant.specs.AbstractState.{AbstractState}
use Rattle.lxr_core_invariant.specs.EpochStates.{Extends}
use Rattle.lxr_mutator.specs.Dialogues.{most_operations}
use Rattle.lxr_mutator.specs.Mutating.{Mutating}
use Rattle.lxr_core.specs.declared.actors.AnyActor.{AnyActor}
use Rattle.lxr_core.specs.declared.actors.AnyActor.TheVariants as any
use Rattle.lxr_actor.specs.declared.Event.{Event}
use Rattle.lxr_actor.specs.Run.{run}
use Rattle.lxr_core.specs.Actors.{any_machine, decrementers_in, mutators_in, script_of, tracers_in}
use Rattle.lxr_core.specs.Collecting.{given_up}
use Rattle.lxr_core.specs.Executions.{tell_all}
use Rattle.lxr_core.specs.Ordering.{TellNames}
use Rattle.lxr_shared.specs.Sharing.{Sharing}
use Rattle.lxr_shared_passes.specs.Passing.{IsSeen}
use Rattle.lxr_one_pause.specs.Telling.{TellsWanted}
use Rattle.lxr_placing.specs.declared.listing.ToList.{ToList}
use Rattle.lxr_placing.specs.Listing.{Lists}
use Rattle.lxr_rounds_invariant.specs.Laws.{beginning_of}
use Rattle.lxr_rounds_invariant.specs.LoopInvariant.{HasRunTo, IsBetweenEpochs, Task, terms_of}
use Rattle.lxr_shared_heap.specs.declared.heap.Paused.{Paused}
use Rattle.lxr_shared_heap.specs.declared.heap.Paused.TheVariants as paused
use Rattle.lxr_shared_heap.specs.declared.heap.Resumed.{Resumed}
use Rattle.lxr_shared_heap.specs.declared.heap.Resumed.TheVariants as resumed
use Rattle.lxr_shared_heap.specs.declared.heap.Stage.{Stage}
use Rattle.lxr_shared_heap.specs.declared.heap.Stage.TheVariants as stage
use Rattle.lxr_stations.specs.declared.live.NotClosed.{NotClosed}
use Rattle.lxr_stations.specs.declared.live.NotClosed.TheVariants as why
use Rattle.lxr_shared_heap.specs.declared.settings.Settings.{Settings}
use Rattle.lxr_stations.specs.declared.station.Answer.TheVariants as answer
use Rattle.lxr_stations.specs.declared.station.NotOut.{NotOut}
use Rattle.lxr_stations.specs.declared.station.NotOut.TheVariants as kept
use Rattle.lxr_stations.specs.declared.station.Arrival.{Arrival}
use Rattle.lxr_stations.specs.Arriving.{HasComeHome, IsHandedIn, Tells}
use Rattle.lxr_stations.specs.Gathering.{HaveEndedFrom, IsWantedByAll}
use Rattle.lxr_stations.specs.Living.{AreLive}
use Rattle.lxr_shared_heap.specs.Renewing.{IsRenewalDue, LeavesLists, ends_with_renewal}
use Rattle.lxr_shared_heap.specs.Resting.{BeginsAsWished, GoesOnBehind}
use Rattle.lxr_stations.specs.Running.{IsRunning, shown_of}
use Rattle.lxr_shared_heap.specs.Settings.{AreSettings, listed_first, run_of}
use Rattle.lxr_stations.specs.Stations.{HasAnswered, HasGoneOn, IsStationOf, Stationed, asked, housed_in, is_mutator, replied}
use Rattle.lxr_shared_heap.specs.Telling.{EndByNewest, HaveReplied, TellsAnswer, TellsHistory}
use Rattle.lxr_stations.specs.Wanting.{Wants}

-- a heap: what it was opened with, where it stands, and which runs of free lines its next pause lists
pub record Heaped : Type 0 where
  pub settings : Settings
  pub stage : Stage
  pub to_list : ToList

-- no epoch is open, and the heap is not lost
abbrev pub IsAtRest : Stage → Type 0
IsAtRest (stage.Between space actors) = ⊤
IsAtRest (stage.Within live) = ⊥
IsAtRest (stage.Ended space actors) = ⊤
IsAtRest stage.Lost = ⊥

-- the space of a heap at rest
abbrev pub space_at : Stage → Option Space
space_at (stage.Between space actors) = Some space
space_at (stage.Within live) = None
space_at (stage.Ended space actors) = Some space
space_at stage.Lost = None

-- how many blocks of a heap at rest are without objects
abbrev pub free_at : Stage → Option ℕ
free_at at = option_map (λ (space : Space). free_below (tables_of space) space.limits.blocks) (space_at at)

-- between two epochs
abbrev pub IsBetween : Stage → Type 0
IsBetween (stage.Between space actors) = ⊤
IsBetween _ = ⊥

-- within an epoch
abbrev pub IsWithin : Stage → Type 0
IsWithin (stage.Within live) = ⊤
IsWithin _ = ⊥

-- all mutators have ended
abbrev pub IsEnded : Stage → Type 0
IsEnded (stage.Ended space actors) = ⊤
IsEnded _ = ⊥

-- how many operations the thread was asked for that was asked for most
abbrev pub longest : Script → ℕ
longest [] = 0
longest (operations ∷ script) = max (length operations) (longest script)

-- the same where each operation of a thread after the sixteenth counts sixteen times, since it can be asked for a sixteenth of what the others can
abbrev pub most_asked : Script → ℕ
most_asked script = max (longest (take 16 script)) (16 * longest (drop 16 script))

-- the same while so many of the first sixteen threads are left
abbrev pub most_asked_with : ℕ → Script → ℕ
most_asked_with first [] = 0
most_asked_with zero (operations ∷ script) = max (16 * length operations) (most_asked_with zero script)
most_asked_with (suc first) (operations ∷ script) = max (length operations) (most_asked_with first script)

-- how many actors a heap has
abbrev pub actors_of : Settings → ℕ
actors_of settings = settings.mutators + 2 * settings.helpers

-- ---- what a heap stands for

-- An epoch is open: it was opened between epochs, behind this history of what was asked by the end of the last one, with the actors of then. Its
-- mutators began with the replies and the last ends that those had; and an end with a reply told the newest of its thread.
pub record HasOpened (task : Task) (h : List Item) (epoch : Sharing) : Type 0 where
  pub space : Space
  pub actors : List AnyActor
  pub abstract_state : AbstractState
  pub before : IsBetweenEpochs task space None actors h abstract_state
  pub running : IsRunning (beginning_of task space h abstract_state) epoch
  pub script : script_of (mutators_in running.opened.core.actors) ≡ task.script
  pub workers : length (decrementers_in running.opened.core.actors) ≡ task.plan.workers
  pub tracers : length (tracers_in running.opened.core.actors) ≡ task.plan.workers
  pub live : AreLive (mutators_in running.opened.core.actors)
  pub names : TellNames task.names (mutators_in running.opened.core.actors)
  pub shown : shown_of (mutators_in running.opened.core.actors) ≡ shown_of (mutators_in actors)
  pub newest : EndByNewest h (mutators_in actors)

-- Where it stands it stands for a history of what was asked by the end of the last epoch. While it goes on its mutators may be ordered operations,
-- and where the last unit of one ended with a reply, that is the newest of its thread.
abbrev pub StandsFor : Task → List Item → Stage → Type 0
StandsFor task h (stage.Between space actors) = ((g : AbstractState) × IsBetweenEpochs task space None actors.items h g) × AreLive (mutators_in actors.items) × EndByNewest h (mutators_in actors.items)
StandsFor task h (stage.Within live) = HasOpened task h live.epoch
StandsFor task h (stage.Ended space actors) = HasRunTo task space None actors.items h
StandsFor task h stage.Lost = IsHistorySoFar (terms_of task) task.script h

-- where a heap is at rest, its last report lists the counts of its pause, under the old names, where names were renewed behind it, and else none
abbrev pub TellsRenewed : List Item → Stage → Type 0
TellsRenewed h (stage.Between space actors) = TellsWanted (ends_with_renewal h) space.report
TellsRenewed h (stage.Within live) = ⊤
TellsRenewed h (stage.Ended space actors) = TellsWanted (ends_with_renewal h) space.report
TellsRenewed h stage.Lost = ⊤

-- the history that these events have led to in an epoch that was opened behind h; h, where none is open
abbrev pub told_behind : (task : Task) (h : List Item) (at : Stage) → StandsFor task h at → List Event → List Item
told_behind task h (stage.Between space actors) stands events = h
told_behind task h (stage.Within live) opened events = (tell_all (beginning_of task opened.space h opened.abstract_state) opened.running.opened events).history
told_behind task h (stage.Ended space actors) stands events = h
told_behind task h stage.Lost stands events = h

-- The heap is that of this script and this history: its mutators were asked for the script by the end of the last epoch that was closed, each for
-- one list of operations, and the history is what happened. Its last report lists counts where names were renewed, and else none.
pub record IsHeapOf (script : Script) (h : List Item) (heap : Heaped) : Type 0 where
  pub settings : AreSettings heap.settings
  pub threads : length script ≡ heap.settings.mutators
  pub stands : StandsFor (run_of heap.settings script) h heap.stage
  pub told : TellsRenewed h heap.stage

-- the history of a heap once these events of its epoch have come
abbrev pub history_behind : (script : Script) (h : List Item) (heap : Heaped) → IsHeapOf script h heap → List Event → List Item
history_behind script h heap of events = told_behind (run_of heap.settings script) h heap.stage of.stands events

-- The history of a heap is legal, and belongs to what was asked so far, counted from when names were last renewed.
abbrev pub HeapsHaveHistories : Type 0
HeapsHaveHistories = (script : Script) (h : List Item) (heap : Heaped) → IsHeapOf script h heap → IsHistorySoFar (terms_of (run_of heap.settings script)) script h

-- ---- opening

-- it has these settings, stands before its first epoch, and nobody was asked for anything
pub record IsOpened (settings : Settings) (heap : Heaped) : Type 0 where
  pub settings_are : heap.settings ≡ settings
  pub lists : heap.to_list ≡ listed_first settings
  pub between : IsBetween heap.stage
  pub holds : IsHeapOf (replicate settings.mutators []) [] heap

-- the heap stands elsewhere now, for the same
pub record HasMoved (before after : Heaped) : Type 0 where
  pub settings : after.settings ≡ before.settings
  pub lists : after.to_list ≡ before.to_list
  pub holds : (script : Script) (h : List Item) → IsHeapOf script h before → IsHeapOf script h after

-- what has come of the wish for an epoch
abbrev pub Resumes : Resumed → Heaped → Heaped → Type 0
Resumes resumed.Open before after = IsBetween before.stage × IsWithin after.stage × HasMoved before after
Resumes resumed.Within before after = IsWithin before.stage × (after ≡ before)
Resumes resumed.Ended before after = IsEnded before.stage × (after ≡ before)
Resumes resumed.Lost before after = (before.stage ≡ stage.Lost) × (after ≡ before)
Resumes resumed.Memory before after = IsBetween before.stage × (after.stage ≡ stage.Lost) × HasMoved before after

-- ---- passes

-- a station with the pass of this number in the epoch that is open
abbrev pub IsPassOf : Stage → ℕ → Stationed → Type 0
IsPassOf (stage.Within live) number s = IsStationOf (housed_in live) number s
IsPassOf _ number s = ⊥

-- why a pass is not let out: where no epoch is open, by where the heap stands; and for want of a share of the epoch only by a refusal of one
-- (`NoShare`), which `another_share` alone makes
abbrev pub IsKept : Heaped → ℕ → NotOut → Type 0
IsKept heap number kept.NotRunning = IsBetween heap.stage
IsKept heap number kept.Ended = IsEnded heap.stage
IsKept heap number kept.Lost = heap.stage ≡ stage.Lost
IsKept heap number kept.NoSuch = IsWithin heap.stage × (actors_of heap.settings ≤ number)
IsKept heap number kept.Away = IsWithin heap.stage × (number < actors_of heap.settings)
IsKept heap number (kept.Memory refused) = IsWithin heap.stage × (number < actors_of heap.settings)

-- ---- what stations show

-- What the station of a mutator shows is so in the history behind the events that its pass has seen, whatever others do meanwhile.
abbrev pub StationsTellHistories : Type 0
StationsTellHistories = (script : Script) (h : List Item) (heap : Heaped) (number : ℕ) (s : Stationed) (m : Mutating) (of : IsHeapOf script h heap) → IsPassOf heap.stage number s → s.pass.actor ≡ any.Mutator m
    → TellsHistory heap.settings script h (history_behind script h heap of s.pass.seen) number m

-- And the operation that it has just done is the newest call of its thread there, with the reply that it answered.
abbrev pub DoneIsTold : Type 0
DoneIsTold = (script : Script) (h : List Item) (heap : Heaped) (number : ℕ) (s : Stationed) (o : Op) (r : Reply) (t : Stationed) (of : IsHeapOf script h heap) → IsPassOf heap.stage number s → IsPassOf heap.stage number t
    → HasAnswered s.pass o (answer.Done r) t.pass → TellsAnswer heap.settings script h (history_behind script h heap of t.pass.seen) number o r t.pass.actor

-- So it is of the operation that was open, once the station has gone on and answered its reply.
abbrev pub OpenIsTold : Type 0
OpenIsTold = (script : Script) (h : List Item) (heap : Heaped) (number : ℕ) (s : Stationed) (r : Reply) (t : Stationed) (of : IsHeapOf script h heap) → IsPassOf heap.stage number s → IsPassOf heap.stage number t
    → HasGoneOn s.pass (Some r) t.pass → (o : Op) × (slice_get (asked s.pass.actor) (length (replied s.pass.actor)) ≡ Some o) × TellsAnswer heap.settings script h (history_behind script h heap of t.pass.seen) number o r t.pass.actor

-- Mutators have the first numbers: the pass of a number is a mutator's exactly where there are more mutators than that.
abbrev pub MutatorsComeFirst : Type 0
MutatorsComeFirst = (script : Script) (h : List Item) (heap : Heaped) (number : ℕ) (s : Stationed) → IsHeapOf script h heap → IsPassOf heap.stage number s → (number < heap.settings.mutators) ↔ (is_mutator s.pass.actor ≡ true)

-- A mutator may name as many registers as the heap's settings say. It has room for as many operations as one of its number may be ordered, with the
-- reply of its end and one to spare: so one that has no room was ordered all of these.
pub record HasLimits (settings : Settings) (number : ℕ) (m : Mutating) : Type 0 where
  pub registers : m.width ≡ settings.registers
  pub room : m.replies.room ≡ most_operations (number + 1) + 2

-- so it is of each station's mutator
abbrev pub MutatorsHaveLimits : Type 0
MutatorsHaveLimits = (script : Script) (h : List Item) (heap : Heaped) (number : ℕ) (s : Stationed) (m : Mutating) → IsHeapOf script h heap → IsPassOf heap.stage number s → s.pass.actor ≡ any.Mutator m → HasLimits heap.settings number m

-- ---- pauses

-- what each mutator is asked for and has not done
abbrev pub still_asked : List Mutating → Script
still_asked mutators = map (λ (m : Mutating). drop (length m.replies.items) m.operations) mutators

-- Where this is due names were renewed behind the history, and each of these mutators is then asked for what it has not done; else nothing has
-- changed.
abbrev pub IsRenewed : Type 0 → List Mutating → Script → List Item → Script → List Item → Type 0
IsRenewed Due mutators script h script' h' = ((¬ Due) × (script' ≡ script) × (h' ≡ h)) ⊎ (Due × (names : List Name) × (h' ≡ Renew names ∷ h) × (script' ≡ still_asked mutators))

-- A heap has come to rest behind an epoch that had led to these calls: the pause was made, which begins a trace where that was wished for, what waited is answered, and names are renewed exactly
-- where that is due. Before that the replies of each mutator, with those that the pause has answered, are its thread's in the history. The last
-- report lists counts where names were renewed, and else none.
pub record ComesToRest (begins : Bool) (settings : Settings) (script : Script) (calls : List Item) (mutators : List Mutating) (now : Stage) : Type 0 where
  pub report : PauseReport
  pub collects : (report.kind ≡ kind.Collect) ↔ MustCollect (terms_of (run_of settings script)) calls
  pub traces : BeginsAsWished begins (run_of settings script) calls report
  pub answered : List Mutating
  pub history : List Item
  pub behind : GoesOnBehind (run_of settings script) report calls mutators answered history
  pub renewed_script : Script
  pub renewed_history : List Item
  pub asked : script_of answered ≡ script
  pub names : TellNames settings.names answered
  pub replied : HaveReplied history answered
  -- it is legal and belongs to what was asked, also where a renewal begins anew behind it
  pub belongs : IsHistorySoFar (terms_of (run_of settings script)) script history
  pub renewed : IsRenewed (IsRenewalDue (length script) report mutators answered history) answered script history renewed_script renewed_history
  pub stands : StandsFor (run_of settings renewed_script) renewed_history now
  pub told : TellsRenewed renewed_history now
  pub at_rest : IsAtRest now

-- these are the mutators of the epoch that is open, where these events have led them, but for their logs' entries and what they had drawn
abbrev pub HaveCome : Stage → List Event → List Mutating → Type 0
HaveCome (stage.Within live) events mutators = mutators ≡ map given_up (mutators_in (run any_machine live.epoch.opening events).actors)
HaveCome _ events mutators = ⊥

-- What a pause has listed for the next epoch: all free blocks, and of the runs those that were to be listed; and those that the next pause lists
-- follow on them. The heap stands there with these lists, whatever headers were written for new names since. After the last pause nothing is
-- listed.
abbrev pub HasListed : ToList → Stage → ToList → Type 0
HasListed to_list (stage.Between space actors) next = (unlisted listed : Space) × Lists to_list unlisted listed next × LeavesLists listed space
HasListed to_list (stage.Ended space actors) next = next ≡ to_list
HasListed to_list _ next = ⊥

-- A pause was made. By the end of the epoch, which some schedule of events has led to, its mutators were asked for more, and the history had gone
-- on by calls alone, in which each has the replies that it showed; then the pause was made, which collects exactly where it must; the history goes
-- on behind it by what waited and by the further pauses for that; and behind all that runs are listed for the next epoch, where the last listing has
-- ended, and the names of what is left are renewed where that is due.
pub record HasPaused (begins : Bool) (script : Script) (h : List Item) (before : Heaped) (of : IsHeapOf script h before) (after : Heaped) : Type 0 where
  pub script' : Script
  pub goes_on : GoesOn script script'
  pub schedule : List Event
  pub calls : List Item
  pub told : calls ≡ history_behind script h before of schedule
  pub extends : Extends (length script) before.settings.every h calls
  pub settings : after.settings ≡ before.settings
  pub lists : HasListed before.to_list after.stage after.to_list
  pub mutators : List Mutating
  pub come : HaveCome before.stage schedule mutators
  pub asked : script_of mutators ≡ script'
  pub names : TellNames before.settings.names mutators
  pub replied : HaveReplied calls mutators
  pub rest : ComesToRest begins before.settings script' calls mutators after.stage
  pub holds : IsHeapOf rest.renewed_script rest.renewed_history after

-- what has come of the wish for a pause, which is to begin a trace, or not
abbrev pub Pauses : Bool → Paused → Heaped → Heaped → Type 0
Pauses begins paused.Made before after = IsWithin before.stage × ((script : Script) (h : List Item) (of : IsHeapOf script h before) → HasPaused begins script h before of after)
Pauses begins paused.NotWanted before after = IsWithin before.stage × (after ≡ before)
Pauses begins (paused.Away number) before after = IsWithin before.stage × (number < actors_of before.settings) × (after ≡ before)
Pauses begins paused.Shared before after = IsWithin before.stage × (after ≡ before)
Pauses begins paused.NotRunning before after = IsBetween before.stage × (after ≡ before)
Pauses begins paused.Ended before after = IsEnded before.stage × (after ≡ before)
Pauses begins paused.Lost before after = (before.stage ≡ stage.Lost) × (after ≡ before)

-- Each mutator that was handed in is the one of its number, with all that it was asked for and all its replies: of it its log's entries and what it
-- had drawn alone have gone.
abbrev pub AreAsHandedIn : List (Option Arrival) → List Mutating → Type 0
AreAsHandedIn handed mutators = (number : ℕ) (s : Stationed) (m : Mutating) → IsHandedIn handed number s → s.pass.actor ≡ any.Mutator m → slice_get mutators number ≡ Some (given_up m)

-- A pause was made, and the mutators that were handed in are those of its history. Each station that was has seen a beginning of the schedule, with
-- all events of its own, and each whose homecoming was handed in has seen a beginning. The history in which a station told what it answered is a
-- beginning of the pause's; and so is that of each station whose homecoming was handed in, in which it told what it had answered when it came home.
pub record HasPausedWith (begins : Bool) (handed : List (Option Arrival)) (script : Script) (h : List Item) (before : Heaped) (of : IsHeapOf script h before) (after : Heaped) : Type 0 where
  pub made : HasPaused begins script h before of after
  pub as_handed_in : AreAsHandedIn handed made.mutators
  pub seen : (number : ℕ) (s : Stationed) → IsHandedIn handed number s → IsSeen made.schedule number s.pass.seen
  pub begun : (number : ℕ) (s : Stationed) → HasComeHome handed number s → (rest : List Event) × (made.schedule ≡ s.pass.seen ++ rest)
  pub told_by : (number : ℕ) (s : Stationed) → Tells handed number s → Extends (length script) before.settings.every (history_behind script h before of s.pass.seen) made.calls

-- by all passes of the epoch that is open, those that are handed in among them, a pause is wanted
abbrev pub IsWantedIn : Stage → List (Option Arrival) → Type 0
IsWantedIn (stage.Within live) handed = IsWantedByAll (housed_in live) 0 handed []
IsWantedIn _ handed = ⊥

-- What has come of the wish for a pause with stations and homecomings that are handed in: the same, but a pass that is away is none of a station's;
-- where no pause is wanted none of the stations wants one, and not all are handed in with all mutators ended; and where threads have shares a pause
-- is wanted.
abbrev pub PausesWith : Bool → List (Option Arrival) → Paused → Heaped → Heaped → Type 0
PausesWith begins handed paused.Made before after = IsWithin before.stage × ((script : Script) (h : List Item) (of : IsHeapOf script h before) → HasPausedWith begins handed script h before of after)
PausesWith begins handed paused.NotWanted before after = Pauses begins paused.NotWanted before after × ((number : ℕ) (s : Stationed) → IsHandedIn handed number s → ¬ Wants s.pass.actor) × ¬ HaveEndedFrom (actors_of before.settings) 0 handed
PausesWith begins handed (paused.Away number) before after = Pauses begins (paused.Away number) before after × ((s : Stationed) → ¬ IsHandedIn handed number s)
PausesWith begins handed paused.Shared before after = Pauses begins paused.Shared before after × IsWantedIn before.stage handed
PausesWith begins handed paused.NotRunning before after = Pauses begins paused.NotRunning before after
PausesWith begins handed paused.Ended before after = Pauses begins paused.Ended before after
PausesWith begins handed paused.Lost before after = Pauses begins paused.Lost before after

-- the answer where an epoch is not closed
abbrev pub paused_for : NotClosed → Paused
paused_for (why.Away number) = paused.Away number
paused_for why.NotWanted = paused.NotWanted
paused_for why.Shared = paused.Shared
