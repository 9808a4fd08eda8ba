-- What is done between two epochs: the pause, and what waited for it.
use Rattle.std.specs.Prelude.{◌≡◌, ◌↔◌, ◌⊎◌, Bool, true, false, None, IsTrue, List, ◌∷◌}
use Rattle.lxr_graph.specs.declared.report.Kind.TheVariants as kind
use Rattle.lxr_graph.specs.History.{Item, Pause, PauseReport, report_of}
use Rattle.lxr_image.specs.declared.space.Space.{Space}
use Rattle.lxr_invariant.specs.AbstractState.{AbstractState}
use Rattle.lxr_model.specs.Kinds.{MustCollect, ends}
use Rattle.lxr_model.specs.Moments.{moment}
use Rattle.lxr_model.specs.Reports.{is_draining}
use Rattle.lxr_mutator.specs.Mutating.{Mutating}
use Rattle.lxr_core.specs.declared.actors.AnyActor.{AnyActor}
use Rattle.lxr_core.specs.Actors.{mutators_in}
use Rattle.lxr_core.specs.Ordering.{orders_of}
use Rattle.lxr_one_pause.specs.Pausing.{IsDrained}
use Rattle.lxr_placing.specs.Listing.{Lists}
use Rattle.lxr_placing.specs.declared.listing.ToList.{ToList}
use Rattle.lxr_rounds.specs.Answering.{AnswersWaiting}
use Rattle.lxr_rounds_invariant.specs.LoopInvariant.{HasRunEpoch, HasRunTo, HaveEnded, HaveMutators, IsBetweenEpochs, SomeWait, Task, pace_of, terms_of, threads_of}
use Rattle.lxr_shared_heap.specs.declared.settings.Settings.{Settings}
use Rattle.lxr_shared_heap.specs.Settings.{run_of}
use Rattle.lxr_model.specs.Belongs.{Script}

-- Behind a pause with this report, which stands behind these calls, the `new`s that waited were answered, with collecting pauses where they needed
-- room, and the history has gone on to this one. Before and after stand the mutators.
pub record AnswersBehind (task : Task) (report : PauseReport) (calls : List Item) (mutators mutators' : List Mutating) (h : List Item) : Type 0 where
  pub collected : Bool
  pub collects : IsTrue collected ↔ (report.kind ≡ kind.Collect)
  pub mutators_rest : HaveMutators task calls mutators
  pub paused : Space
  pub reported : report_of paused.report ≡ report
  pub answered : Space
  pub answers : AnswersWaiting (pace_of task.plan) collected mutators paused (Pause report ∷ calls) mutators' answered h

-- where all threads have ended that pause is the last item; else what waited was answered
abbrev pub GoesOnBehind : Task → PauseReport → List Item → List Mutating → List Mutating → List Item → Type 0
GoesOnBehind task report calls mutators mutators' h = ((ends calls ≡ (terms_of task).threads) × (h ≡ Pause report ∷ calls)) ⊎ AnswersBehind task report calls mutators mutators' h

-- the run is at its end, or between two epochs again
abbrev pub StandsBehind : Bool → Task → Space → List AnyActor → List Item → Type 0
StandsBehind true task space actors h = HasRunTo task space None actors h
StandsBehind false task space actors h = (g : AbstractState) × IsBetweenEpochs task space None actors h g

-- Where settings leave it free when traces begin, a pause begins one exactly where that is wished for, it needn't collect, and none runs.
abbrev pub BeginsAsWished : Bool → Task → List Item → PauseReport → Type 0
BeginsAsWished begins task calls report = task.plan.trace ≡ 0
    → (report.kind ≡ kind.Begin) ↔ (IsTrue begins × (¬ MustCollect (terms_of task) calls) × ((moment (threads_of task) calls).trace ≡ None))

-- The pause behind an epoch was made, which collects exactly where it must, and what waited is answered. Nobody was asked for anything. It is the
-- last one where all mutators have ended.
pub record HasRested (begins : Bool) (task : Task) (calls : List Item) (actors : List AnyActor) (space' : Space) (actors' : List AnyActor) (ended : Bool) : Type 0 where
  pub report : PauseReport
  pub collects : (report.kind ≡ kind.Collect) ↔ MustCollect (terms_of task) calls
  pub traces : BeginsAsWished begins task calls report
  pub history : List Item
  pub behind : GoesOnBehind task report calls (mutators_in actors) (mutators_in actors') history
  pub stands : StandsBehind ended task space' actors' history
  pub asked : orders_of (mutators_in actors') ≡ orders_of (mutators_in actors)
  pub all_ended : IsTrue ended → HaveEnded (mutators_in actors')
  -- where no `new` waited for it and it drained, no decrement waits
  pub drained : ¬ SomeWait (mutators_in actors) → IsDrained space' (is_draining space'.report.kind)

-- Runs and blocks were listed for the next epoch, of the runs those that were to be listed; after the last pause nothing was.
abbrev pub ListsBehind : Bool → ToList → Space → ToList → Type 0
ListsBehind true to_list space next = next ≡ to_list
ListsBehind false to_list space next = (unlisted : Space) × Lists to_list unlisted space next

-- a run with these settings has made an epoch that came to this space and these actors
abbrev pub HasMadeEpoch : Settings → Space → List AnyActor → Type 0
HasMadeEpoch settings space actors = (script : Script) × (before : List AnyActor) × (calls : List Item) × (g : AbstractState) × HasRunEpoch (run_of settings script) space None before actors calls g

-- each such run has rested
abbrev pub RestsEach : Bool → Settings → Space → List AnyActor → Space → List AnyActor → Bool → Type 0
RestsEach begins settings space actors space' actors' ended =
    (script : Script) (before : List AnyActor) (calls : List Item) (g : AbstractState) → HasRunEpoch (run_of settings script) space None before actors calls g → HasRested begins (run_of settings script) calls actors space' actors' ended
