-- When a heap renews names behind a pause, and what that makes of it.
use Rattle.std.specs.Prelude.{◌≡◌, ℕ, ◌<◌, ◌≤◌, ◌/◌, Bool, true, false, not, ◌&&◌, nat_eq, nat_lt, if◌then◌else◌, None, Some, is_some, List, ◌∷◌, IsTrue, length, map, slice_get}
use Rattle.std.specs.List.{list_any}
use Rattle.lxr_layout.specs.declared.Name.{Name}
use Rattle.lxr_layout.specs.declared.TheConstants.{MOST_GRANULES}
use Rattle.lxr_graph.specs.History.{HasToldCounts, Item, PauseReport, Renew}
use Rattle.lxr_image.specs.declared.space.Space.{Space}
use Rattle.lxr_image.specs.Spaces.{tables_of}
use Rattle.lxr_model.specs.Belongs.{Script}
use Rattle.lxr_model.specs.Moments.{moment}
use Rattle.lxr_model.specs.Reports.{is_draining}
use Rattle.lxr_invariant.specs.AbstractState.{AbstractState}
use Rattle.lxr_mutator.specs.Dialogues.{most_operations}
use Rattle.lxr_mutator.specs.Mutating.{IsWaiting, Mutating, rests_in, waiting_by}
use Rattle.lxr_mutator.specs.Mutators.{IsFull, IsThrough, renewed}
use Rattle.lxr_core_invariant.specs.Through.{JustPaused}
use Rattle.lxr_core.specs.declared.actors.AnyActor.{AnyActor}
use Rattle.lxr_core.specs.declared.actors.AnyActor.TheVariants as any
use Rattle.lxr_core.specs.Actors.{mutators_in, script_of}
use Rattle.lxr_one_pause.specs.Pausing.{IsDrained}
use Rattle.lxr_rounds_invariant.specs.LoopInvariant.{IsBetweenEpochs}
use Rattle.lxr_shared_heap.specs.declared.settings.Settings.{Settings}
use Rattle.lxr_stations.specs.Living.{AreLive}
use Rattle.lxr_shared_heap.specs.Settings.{run_of}
use Rattle.lxr_stations.specs.Wanting.{is_ended}

-- ---- when

-- Names are to be renewed behind a pause with this report, which has led to this history: the pause drained its decrements, no `new` of the mutators
-- before it waited for it, and no trace runs; and of the mutators as they are now some was ordered more than half of what it may be ordered, and none
-- has ended.
pub record IsRenewalDue (threads : ℕ) (report : PauseReport) (before now : List Mutating) (h : List Item) : Type 0 where
  pub drains : IsTrue (is_draining report.kind)
  pub unwaiting : (i : ℕ) (m : Mutating) → slice_get before i ≡ Some m → ¬ IsWaiting m
  pub untraced : (moment threads h).trace ≡ None
  pub worn : (i : ℕ) × (m : Mutating) × (slice_get now i ≡ Some m) × (most_operations m.thread / 2 < length m.operations)
  pub unended : (i : ℕ) (m : Mutating) → slice_get now i ≡ Some m → ¬ IsThrough m

-- names were renewed, and nothing has happened since
abbrev pub ends_with_renewal : List Item → Bool
ends_with_renewal (Renew names ∷ h) = true
ends_with_renewal h = false

-- ---- the same as tests

-- it is a mutator of which a `new` waits
abbrev pub waits : AnyActor → Bool
waits (any.Mutator m) = is_some (waiting_by m m.end)
waits a = false

-- it is a mutator that was ordered more than half of what it may be ordered
abbrev pub is_worn : AnyActor → Bool
is_worn (any.Mutator m) = nat_lt (most_operations m.thread / 2) (length m.operations)
is_worn a = false

-- it is a mutator whose thread has ended
abbrev pub is_at_end : AnyActor → Bool
is_at_end (any.Mutator m) = is_ended m.end
is_at_end a = false

-- the last pause was a draining one, behind which no trace runs
abbrev pub has_drained : Space → Bool
has_drained space = (nat_lt 0 space.pauses && is_draining space.report.kind) && not (is_some space.trace)

-- As far as the space and the actors tell: the last pause drained, some mutator is worn, and none is at its end.
abbrev pub is_renewal_due : Space → List AnyActor → Bool
is_renewal_due space actors = has_drained space && (list_any is_worn actors && not (list_any is_at_end actors))

-- ---- what becomes of actors

-- a mutator begins anew, that of thread 1 behind so many objects
abbrev pub actor_renewed : ℕ → AnyActor → AnyActor
actor_renewed left (any.Mutator m) = any.Mutator (renewed m (if nat_eq m.thread 1 then left else 0))
actor_renewed left a = a

-- a mutator may: it is a live one, which rests, waits for nothing and has not ended
pub record CanRenew (left : ℕ) (m : Mutating) : Type 0 where
  pub rests : IsTrue (rests_in m.phase)
  pub idle : ¬ IsWaiting m
  pub goes_on : ¬ IsThrough m
  pub live : ¬ IsFull m
  pub few : left ≤ MOST_GRANULES

abbrev pub CanActorRenew : ℕ → AnyActor → Type 0
CanActorRenew left (any.Mutator m) = CanRenew left m
CanActorRenew left a = Unit {0}

-- ---- what becomes of a heap

-- between two epochs, with live mutators; and where it is told to be idle, nothing stands behind the last pause, and where that drained, no decrement
-- waits
pub record StandsIdle (settings : Settings) (script : Script) (space : Space) (actors : List AnyActor) (h : List Item) (g : AbstractState) (idle : Bool) : Type 0 where
  pub between : IsBetweenEpochs (run_of settings script) space None actors h g
  pub live : AreLive (mutators_in actors)
  pub paused : IsTrue idle → JustPaused h
  pub drained : IsTrue idle → IsDrained space (is_draining space.report.kind)

-- Names were renewed behind h: it is between two epochs again, and each mutator is asked for what it was asked for and hasn't done. The report of the
-- pause before has its counts listed, under the old names.
pub record HasRenewed (settings : Settings) (actors : List AnyActor) (space' : Space) (actors' : List AnyActor) (h : List Item) : Type 0 where
  pub names : List Name
  pub begin_anew : actors' ≡ map (actor_renewed (length names)) actors
  pub abstract_state : AbstractState
  pub between : IsBetweenEpochs (run_of settings (script_of (mutators_in actors'))) space' None actors' (Renew names ∷ h) abstract_state
  pub live : AreLive (mutators_in actors')
  pub told : HasToldCounts space'.report

-- of the tables the heap alone has changed, where headers are, so runs and blocks are listed as before
pub record LeavesLists (before after : Space) : Type 0 where
  pub limits : after.limits ≡ before.limits
  pub tables : tables_of after ≡ record (tables_of before) { heap = (tables_of after).heap }

-- so it is for each history where names are to be renewed; else nothing changes
abbrev pub RenewsWhere : Bool → Space → List AnyActor → Bool → Space → List AnyActor → Type 0
RenewsWhere true space actors idle space' actors' =
    (settings : Settings) (script : Script) (h : List Item) (g : AbstractState) → StandsIdle settings script space actors h g idle → HasRenewed settings actors space' actors' h
RenewsWhere false space actors idle space' actors' = (space' ≡ space) × (actors' ≡ actors)
