-- Wherever a heap stands it stands for a legal history, and an epoch that is closed for a pause is one of the run of what was asked by its end.
use Rattle.std.proofs.Common.{Bool, true, false, ◌≡◌, ◌∙◌, ℕ, ◌+◌, ◌<◌, ◌≤◌, refl, sym, ap, subst, arith, inl, inr, List, [], ◌∷◌, ◌++◌, length, map}
use Rattle.std.specs.List.{list_any}
use Rattle.std.specs.Prelude.{drop, not, IfErr, IsTrue, None, Option, Result, Err, Ok, Some, slice_get}
use Rattle.std.proofs.lemmas.List.{length-map}
use Rattle.lxr_mutator.specs.Mutating.{Mutating}
use Rattle.lxr_graph.specs.History.{Item, Pause, PauseReport, Renew, replies_of, report_of}
use Rattle.lxr_model.specs.Moments.{Moment, moment}
use Rattle.lxr_rounds_history.specs.Left.{last_report}
use Rattle.lxr_image.specs.declared.space.Space.{Space}
use Rattle.lxr_image.specs.Spaces.{IsSpace}
use Rattle.lxr_layout.specs.declared.limits.Limits.{Limits}
use Rattle.lxr_model.proofs.CollectLemmas.{whole_so_far}
use Rattle.lxr_model.specs.Belongs.{IsHistorySoFar, Script}
use Rattle.lxr_model_laws.specs.ScriptLaws.{GoesOn}
use Rattle.lxr_model_laws.proofs.ScriptLemmas.{as_many_go_on}
use Rattle.lxr_invariant.specs.AbstractState.{AbstractState}
use Rattle.lxr_actor.specs.declared.Core.{Core}
use Rattle.lxr_actor.specs.declared.Event.{Event}
use Rattle.lxr_actor.specs.Run.{run}
use Rattle.lxr_actor.proofs.Runs.{run-lengths}
use Rattle.lxr_core_invariant.specs.EpochStates.{Beginning, Extends, limits_of}
use Rattle.lxr_mutator.specs.Naming.{all_told_as}
use Rattle.lxr_core.specs.declared.actors.AnyActor.{AnyActor}
use Rattle.lxr_core.specs.declared.actors.AnyActor.TheVariants as any
use Rattle.lxr_core.specs.Actors.{AreInOrder, any_machine, decrementers_in, mutators_in, script_of, tracers_in}
use Rattle.lxr_core.specs.Collecting.{actor_given_up, given_up}
use Rattle.lxr_core.specs.Executions.{Execution, tell_all}
use Rattle.lxr_core.specs.Opening.{Begins}
use Rattle.lxr_core.specs.Ordering.{TellNames}
use Rattle.lxr_core.proofs.ExecutionLemmas.{epoch_invariant_holds}
use Rattle.lxr_core.proofs.ClosingLemmas.{given_mutators}
use Rattle.lxr_core.proofs.LastingLemmas.{names_run}
use Rattle.lxr_core.proofs.MappedLemmas.{mapped_from}
use Rattle.lxr_core.proofs.OrderLemmas.{lengths_add, mutator_at, mutator_from}
use Rattle.lxr_core.proofs.ScriptLemmas.{scripts_go_on}
use Rattle.lxr_core.proofs.TracerLemmas.{tracers_run}
use Rattle.lxr_shared.specs.Sharing.{Sharing}
use Rattle.lxr_shared_passes.specs.Passing.{IsSeen}
use Rattle.lxr_one_pause.specs.Telling.{TellsWanted}
use Rattle.lxr_placing.specs.declared.listing.ToList.{ToList}
use Rattle.lxr_rounds_invariant.specs.Laws.{HasClosed, asked_for, beginning_of}
use Rattle.lxr_rounds_invariant.specs.LoopInvariant.{HasRunEpoch, HasRunTo, HaveMutators, IsBetweenEpochs, Task, pace_of, terms_of}
use Rattle.lxr_model.specs.Kinds.{ends}
use Rattle.lxr_rounds_invariant.proofs.ActorLemmas.{ends_are_fewer}
use Rattle.lxr_rounds_invariant.proofs.EpochLemmas.{epochs_run, may_open}
use Rattle.lxr_shared_heap.specs.declared.heap.Paused.{Paused}
use Rattle.lxr_shared_heap.specs.declared.heap.Paused.TheVariants as paused
use Rattle.lxr_shared_heap.specs.declared.heap.Resumed.{Resumed}
use Rattle.lxr_shared_heap.specs.declared.heap.Resumed.TheVariants as resumed
use Rattle.lxr_shared_heap.specs.declared.heap.Stage.{Stage}
use Rattle.lxr_shared_heap.specs.declared.heap.Stage.TheVariants as stage
use Rattle.lxr_stations.specs.declared.live.NotClosed.{NotClosed}
use Rattle.lxr_stations.specs.declared.live.NotClosed.TheVariants as why
use Rattle.lxr_stations.specs.declared.station.NotOut.{NotOut}
use Rattle.lxr_stations.specs.declared.station.NotOut.TheVariants as kept
use Rattle.lxr_stations.specs.declared.station.Arrival.{Arrival}
use Rattle.lxr_stations.specs.Arriving.{HasComeHome, IsHandedIn, Tells}
use Rattle.lxr_stations.specs.Stations.{IsNotOut, Lived, Stationed, housed_in}
use Rattle.lxr_stations.specs.Gathering.{HaveEndedFrom, HoldGivenUp, IsUnclosed, IsWantedByAll}
use Rattle.lxr_shared_heap.specs.declared.settings.Settings.{Settings}
use Rattle.lxr_shared_heap.specs.Heaps.{AreAsHandedIn, ComesToRest, HasOpened, HasPaused, HasPausedWith, HasListed, Heaped, HeapsHaveHistories, IsAtRest, IsHeapOf, IsKept, IsRenewed, Pauses, PausesWith, Resumes, StandsFor, TellsRenewed, actors_of, paused_for, space_at, still_asked}
use Rattle.lxr_stations.specs.Living.{AreLive}
use Rattle.lxr_stations.specs.Running.{BeganWith, ClosesLive, IsRunning, shown_of}
use Rattle.lxr_shared_heap.specs.Renewing.{RenewsWhere, StandsIdle, actor_renewed, ends_with_renewal, waits}
use Rattle.lxr_shared_heap.specs.Resting.{GoesOnBehind, HasRested}
use Rattle.lxr_shared_heap.specs.Settings.{run_of}
use Rattle.lxr_stations.proofs.LivingLemmas.{live_as, live_given, live_run}
use Rattle.lxr_shared_heap.proofs.IdleLemmas.{idle_behind, none_wait}
use Rattle.lxr_shared_heap.specs.Telling.{EndByNewest, EndsByNewest, HaveReplied}
use Rattle.lxr_shared_heap.proofs.RecallLemmas.{answers_newest, newest_renewed}
use Rattle.lxr_stations.proofs.SeenLemmas.{beginning_leads, seen_begins}
use Rattle.lxr_shared_heap.proofs.TellingLemmas.{ends_newest, have_replied}

-- ---- histories

pub so_far : (task : Task) (h : List Item) (s : Stage) → StandsFor task h s → IsHistorySoFar (terms_of task) task.script h
so_far task h (stage.Between space actors) stands = stands.0.1.come.history
so_far task h (stage.Within live) stands = stands.before.come.history
so_far task h (stage.Ended space actors) stands = whole_so_far (terms_of task) task.script h stands.history.legal stands.history.belongs
so_far task h stage.Lost stands = stands

pub heaps_have_histories : HeapsHaveHistories
heaps_have_histories script h heap of = so_far (run_of heap.settings script) h heap.stage of.stands

-- ---- the next epoch

-- between epochs the next one may begin
pub some_begins : (task : Task) (h : List Item) (space : Space) (actors : List AnyActor) → ((g : AbstractState) × IsBetweenEpochs task space None actors h g) → (b : Beginning) × Begins b space actors
some_begins task h space actors (g, amid) = (beginning_of task space h g, may_open task space None actors h g amid)

-- once it has, it is open
pub has_opened : (task : Task) (h : List Item) (space : Space) (actors : List AnyActor) (epoch : Sharing) → ((g : AbstractState) × IsBetweenEpochs task space None actors h g) → AreLive (mutators_in actors)
    → EndByNewest h (mutators_in actors) → ((b : Beginning) → Begins b space actors → IsRunning b epoch) → BeganWith actors epoch → HasOpened task h epoch
has_opened task h space actors epoch (g, amid) live newest runs began =
    let running = runs (beginning_of task space h g) (may_open task space None actors h g amid) in record {
      space = space;
      actors = actors;
      abstract_state = g;
      before = amid;
      running = running;
      script = ap (λ (k : Core AnyActor). script_of (mutators_in k.actors)) running.core ∙ began.script ∙ amid.actors_rest.mutators.script;
      workers = ap (λ (k : Core AnyActor). length (decrementers_in k.actors)) running.core ∙ began.decrementers ∙ amid.actors_rest.workers;
      tracers = ap (λ (k : Core AnyActor). length (tracers_in k.actors)) running.core ∙ began.tracers ∙ amid.actors_rest.tracers;
      live = subst (λ (k : Core AnyActor). AreLive (mutators_in k.actors)) (sym running.core) (began.live live);
      names = subst (λ (k : Core AnyActor). TellNames task.names (mutators_in k.actors)) (sym running.core) (began.names task.names amid.actors_rest.mutators.names);
      shown = ap (λ (k : Core AnyActor). shown_of (mutators_in k.actors)) running.core ∙ began.shown;
      newest = newest;
    }

-- whatever comes of the wish for an epoch, the heap stands for the same
pub resumed_same : (r : Resumed) (before after : Heaped) → Resumes r before after → (script : Script) (h : List Item) → IsHeapOf script h before → IsHeapOf script h after
resumed_same resumed.Open before after is script h of = is.2.holds script h of
resumed_same resumed.Within before after is script h of = subst (IsHeapOf script h) (sym is.1) of
resumed_same resumed.Ended before after is script h of = subst (IsHeapOf script h) (sym is.1) of
resumed_same resumed.Lost before after is script h of = subst (IsHeapOf script h) (sym is.1) of
resumed_same resumed.Memory before after is script h of = is.2.holds script h of

-- ---- the end of an epoch

-- An epoch of a run with these settings has come to this space and these actors: its mutators were asked for more by its end, and the history has gone
-- on by calls alone.
pub record RunsOn (settings : Settings) (script : Script) (h : List Item) (epoch : Sharing) (open_epoch : HasOpened (run_of settings script) h epoch) (handed : List (Option Arrival)) (space : Space) (actors : List AnyActor) : Type 0 where
  pub script' : Script
  pub goes_on : GoesOn script script'
  pub schedule : List Event
  pub calls : List Item
  pub told : calls ≡ (tell_all (beginning_of (run_of settings script) open_epoch.space h open_epoch.abstract_state) open_epoch.running.opened schedule).history
  pub come : mutators_in actors ≡ map given_up (mutators_in (run any_machine epoch.opening schedule).actors)
  pub seen : (number : ℕ) (s : Stationed) → IsHandedIn handed number s → IsSeen schedule number s.pass.seen
  pub begun : (number : ℕ) (s : Stationed) → HasComeHome handed number s → (rest : List Event) × (schedule ≡ s.pass.seen ++ rest)
  pub begins : (number : ℕ) (s : Stationed) → Tells handed number s
      → Extends (length script) settings.every (tell_all (beginning_of (run_of settings script) open_epoch.space h open_epoch.abstract_state) open_epoch.running.opened s.pass.seen).history calls
  pub extends : Extends (length script) settings.every h calls
  pub before : List AnyActor
  pub abstract_state : AbstractState
  pub ran : HasRunEpoch (run_of settings script') space None before actors calls abstract_state
  pub live : AreLive (mutators_in actors)
  pub newest : EndByNewest calls (mutators_in actors)

module _ (settings : Settings) (script : Script) (h : List Item) (epoch : Sharing) (open_epoch : HasOpened (run_of settings script) h epoch) (handed : List (Option Arrival)) (space : Space) (actors : List AnyActor)
    (closes : ClosesLive (beginning_of (run_of settings script) open_epoch.space h open_epoch.abstract_state) epoch open_epoch.running handed space actors) where
  abbrev b : Beginning
  b = beginning_of (run_of settings script) open_epoch.space h open_epoch.abstract_state

  -- what the epoch has come to
  abbrev end : Execution
  end = tell_all b open_epoch.running.opened closes.schedule

  -- the actors that it was opened with have run over a schedule
  ran_is : end.core ≡ run any_machine open_epoch.running.opened.core closes.schedule
  ran_is = (epoch_invariant_holds b open_epoch.running.opened closes.schedule open_epoch.running.holds).core

  abbrev asked_now : Script
  asked_now = script_of (mutators_in end.core.actors)

  on : GoesOn script asked_now
  on =
      subst (λ s. GoesOn s asked_now) open_epoch.script
      (subst (λ (k : Core AnyActor). GoesOn (script_of (mutators_in open_epoch.running.opened.core.actors)) (script_of (mutators_in k.actors))) (sym ran_is)
      (scripts_go_on open_epoch.running.opened.core closes.schedule))

  same_tracers : length (tracers_in end.core.actors) ≡ length (tracers_in open_epoch.running.opened.core.actors)
  same_tracers = ap (λ (k : Core AnyActor). length (tracers_in k.actors)) ran_is ∙ tracers_run open_epoch.running.opened.core closes.schedule

  same_mutators : length (mutators_in end.core.actors) ≡ length (mutators_in open_epoch.running.opened.core.actors)
  same_mutators =
      sym (length-map (mutators_in end.core.actors) (λ (m : Mutating). m.operations)) ∙ as_many_go_on script asked_now on ∙ ap length (sym open_epoch.script)
      ∙ length-map (mutators_in open_epoch.running.opened.core.actors) (λ (m : Mutating). m.operations)

  same_many : length end.core.actors ≡ length open_epoch.running.opened.core.actors
  same_many = ap (λ (k : Core AnyActor). length k.actors) ran_is ∙ (run-lengths any_machine open_epoch.running.opened.core closes.schedule).1

  same_decrementers : length (decrementers_in end.core.actors) ≡ length (decrementers_in open_epoch.running.opened.core.actors)
  same_decrementers =
      let all = lengths_add end.core.actors in
      let all' = lengths_add open_epoch.running.opened.core.actors in
      let tracers = same_tracers in
      let mutators = same_mutators in
      let many = same_many in
      omega arith

  closed : HasClosed (asked_for (run_of settings script) asked_now) open_epoch.space closes.middle space actors h open_epoch.abstract_state end
  closed = record {
    words = closes.words;
    script = refl;
    names = subst (λ (k : Core AnyActor). TellNames settings.names (mutators_in k.actors)) (sym ran_is) (names_run settings.names open_epoch.running.opened.core closes.schedule open_epoch.names);
    workers = same_decrementers ∙ open_epoch.workers;
    tracers = same_tracers ∙ open_epoch.tracers;
    closes = closes.closes;
    due = closes.due;
  }

  -- what its mutators show last is their threads' newest
  newest_now : HaveReplied end.history (mutators_in actors) → EndByNewest end.history (mutators_in actors)
  newest_now replied = λ i m at.
      let (x, there, is) = mapped_from given_up (mutators_in end.core.actors) i m (sym (ap (λ ms. slice_get ms i) (ap mutators_in closes.closes.gave ∙ given_mutators end.core.actors)) ∙ at) in
      let order = (epoch_invariant_holds b open_epoch.running.opened closes.schedule open_epoch.running.holds).holds.1.order in
      let ran = sym (ap (λ (k : Core AnyActor). slice_get k.actors i) ran_is) ∙ mutator_from end.core.actors i x order there in
      subst (EndsByNewest (i + 1) end.history) (sym is)
      (ends_newest (run_of settings script) h epoch open_epoch (limits_of b).threads b.every end.history closes.schedule i x ran closes.closes.extends (subst (λ (z : Mutating). all_told_as z.names (replies_of (i + 1) end.history) ≡ z.replies.items) is (replied i m at).replies))

  -- there are as many threads as the script says
  threads_are : (limits_of b).threads ≡ length script
  threads_are = ap (λ (l : Limits). l.threads) open_epoch.before.come.limits

  pub runs_on : RunsOn settings script h epoch open_epoch handed space actors
  runs_on =
      let (m, ran, totals) = epochs_run (run_of settings script) asked_now open_epoch.space closes.middle space None open_epoch.actors actors h open_epoch.abstract_state end open_epoch.before on closed in record {
        script' = asked_now;
        goes_on = on;
        schedule = closes.schedule;
        calls = end.history;
        told = refl;
        come = ap mutators_in closes.closes.gave ∙ given_mutators end.core.actors
            ∙ ap (λ (k : Core AnyActor). map given_up (mutators_in k.actors)) (ran_is ∙ ap (λ k. run any_machine k closes.schedule) open_epoch.running.core);
        seen = closes.seen;
        begun = closes.begins;
        begins = λ number s tells. subst (λ n. Extends n settings.every (tell_all b open_epoch.running.opened s.pass.seen).history end.history) threads_are
            (elim tells [
              | inl at ↦ seen_begins b open_epoch.running.opened closes.schedule number s.pass.seen open_epoch.running.holds (closes.seen number s at)
              | inr at ↦ (let first = closes.begins number s at in beginning_leads b open_epoch.running.opened closes.schedule s.pass.seen first.0 open_epoch.running.holds first.1)
            ]);
        extends = subst (λ n. Extends n settings.every h end.history) threads_are closes.closes.extends;
        before = open_epoch.actors;
        abstract_state = m;
        ran = ran;
        live =
            subst (λ xs. AreLive (mutators_in xs)) (sym closes.closes.gave) (live_given end.core.actors
            (subst (λ (k : Core AnyActor). AreLive (mutators_in k.actors)) (sym ran_is) (live_run open_epoch.running.opened.core closes.schedule open_epoch.live)));
        newest = newest_now (have_replied (run_of settings asked_now) end.history (mutators_in actors) ran.actors_rest.mutators);
      }

-- where the epoch of a heap is closed for a pause, a run has made one
pub epoch_made : (settings : Settings) (script : Script) (h : List Item) (epoch : Sharing) (open_epoch : HasOpened (run_of settings script) h epoch) (handed : List (Option Arrival)) (space : Space) (actors : List AnyActor)
    → ((b : Beginning) (running : IsRunning b epoch) → ClosesLive b epoch running handed space actors) → RunsOn settings script h epoch open_epoch handed space actors
epoch_made settings script h epoch open_epoch handed space actors closes =
    runs_on settings script h epoch open_epoch handed space actors (closes (beginning_of (run_of settings script) open_epoch.space h open_epoch.abstract_state) open_epoch.running)

-- a renewal leaves as many threads
renewed_threads : {Due : Type 0} (mutators : List Mutating) (script : Script) (h : List Item) (script' : Script) (h' : List Item) → script_of mutators ≡ script → IsRenewed Due mutators script h script' h' → length script' ≡ length script
renewed_threads mutators script h script' h' asked (inl (not_due, same, still)) = ap length same
renewed_threads mutators script h script' h' asked (inr (due, names, longer, left)) =
    ap length left ∙ length-map mutators (λ (m : Mutating). drop (length m.replies.items) m.operations) ∙ sym (length-map mutators (λ (m : Mutating). m.operations)) ∙ ap length asked

-- mutators that count anew are asked for what they had not done
pub asked_anew : (n : ℕ) (actors : List AnyActor) → script_of (mutators_in (map (actor_renewed n) actors)) ≡ still_asked (mutators_in actors)
asked_anew n [] = refl
asked_anew n (any.Mutator m ∷ actors) = ap (λ s. drop (length m.replies.items) m.operations ∷ s) (asked_anew n actors)
asked_anew n (any.Decrementer d ∷ actors) = asked_anew n actors
asked_anew n (any.Tracer d ∷ actors) = asked_anew n actors

-- ---- what stands behind a pause, whether or not names are renewed there

pub record StandsRenewed (Due : Type 0) (settings : Settings) (script : Script) (h : List Item) (mutators : List Mutating) (space : Space) (actors : List AnyActor) : Type 0 where
  pub renewed_script : Script
  pub renewed_history : List Item
  pub renewed : IsRenewed Due mutators script h renewed_script renewed_history
  pub abstract_state : AbstractState
  pub between : IsBetweenEpochs (run_of settings renewed_script) space None actors renewed_history abstract_state
  pub live : AreLive (mutators_in actors)
  pub newest : EndByNewest renewed_history (mutators_in actors)
  pub told : TellsWanted (ends_with_renewal renewed_history) space.report

-- behind a history that ends with no renewal no counts are listed
pub tells_none : (h : List Item) (space : Space) → ends_with_renewal h ≡ false → space.report.told.items ≡ [] → TellsWanted (ends_with_renewal h) space.report
tells_none h space unrenewed untold = subst (λ b. TellsWanted b space.report) (sym unrenewed) untold

pub stands_renewed : {Due : Type 0} (due : Bool) → (due ≡ true → Due) → (Due → due ≡ true) → (settings : Settings) (script : Script) (h : List Item) (g : AbstractState) (space : Space) (actors : List AnyActor) (idle : Bool) (space' : Space) (actors' : List AnyActor) → StandsIdle settings script space actors h g idle
    → EndByNewest h (mutators_in actors) → RenewsWhere due space actors idle space' actors' → ends_with_renewal h ≡ false → space.report.told.items ≡ [] → StandsRenewed Due settings script h (mutators_in actors) space' actors'
stands_renewed true is tells settings script h g space actors idle space' actors' stands newest renews unrenewed untold =
    let anew = renews settings script h g stands in record {
      renewed_script = script_of (mutators_in actors');
      renewed_history = Renew anew.names ∷ h;
      renewed = inr (is refl, anew.names, refl, ap (λ xs. script_of (mutators_in xs)) anew.begin_anew ∙ asked_anew (length anew.names) actors);
      abstract_state = anew.abstract_state;
      between = anew.between;
      live = anew.live;
      newest = subst (λ xs. EndByNewest (Renew anew.names ∷ h) (mutators_in xs)) (sym anew.begin_anew) (newest_renewed (length anew.names) anew.names h actors newest);
      told = anew.told;
    }
stands_renewed false is tells settings script h g space actors idle space' actors' stands newest renews unrenewed untold = record {
  renewed_script = script;
  renewed_history = h;
  renewed = inl (λ due. (let wrong : false ≡ true = tells due in absurd (cc)), refl, refl);
  abstract_state = g;
  between = subst (λ s. IsBetweenEpochs (run_of settings script) s None actors' h g) (sym renews.0) (subst (λ xs. IsBetweenEpochs (run_of settings script) space None xs h g) (sym renews.1) stands.between);
  live = subst (λ xs. AreLive (mutators_in xs)) (sym renews.1) stands.live;
  newest = subst (λ xs. EndByNewest h (mutators_in xs)) (sym renews.1) newest;
  told = subst (λ (s : Space). TellsWanted (ends_with_renewal h) s.report) (sym renews.0) (tells_none h space unrenewed untold);
}

-- its space is one
pub renewed_space : (due : Bool) (settings : Settings) (script : Script) (h : List Item) (g : AbstractState) (space : Space) (actors : List AnyActor) (idle : Bool) (space' : Space) (actors' : List AnyActor) → StandsIdle settings script space actors h g idle
    → RenewsWhere due space actors idle space' actors' → IsSpace space'
renewed_space true settings script h g space actors idle space' actors' stands renews = (renews settings script h g stands).between.between.safepoint.holds.space
renewed_space false settings script h g space actors idle space' actors' stands renews = subst IsSpace (sym renews.0) stands.between.between.safepoint.holds.space

-- there are as many actors
pub renewed_many : (due : Bool) (settings : Settings) (script : Script) (h : List Item) (g : AbstractState) (space : Space) (actors : List AnyActor) (idle : Bool) (space' : Space) (actors' : List AnyActor) → StandsIdle settings script space actors h g idle
    → RenewsWhere due space actors idle space' actors' → length actors' ≡ length actors
renewed_many true settings script h g space actors idle space' actors' stands renews =
    let anew = renews settings script h g stands in ap length anew.begin_anew ∙ length-map actors (actor_renewed (length anew.names))
renewed_many false settings script h g space actors idle space' actors' stands renews = ap length renews.1

is_false : (b : Bool) → IsTrue (not b) → b ≡ false
is_false true n = absurd (cc)
is_false false n = refl

-- where nobody waited, nothing stands behind the pause
pub idle_stands : (begins : Bool) (settings : Settings) (script : Script) (calls : List Item) (actors : List AnyActor) (space : Space) (actors' : List AnyActor) (rested : HasRested begins (run_of settings script) calls actors space actors' false) → HaveMutators (run_of settings script) calls (mutators_in actors)
    → AreLive (mutators_in actors) → (b : Bool)
    → b ≡ list_any waits actors → StandsIdle settings script space actors' rested.history rested.stands.0 (not b)
idle_stands begins settings script calls actors space actors' rested have live b is = record {
  between = rested.stands.1;
  live = live_as (mutators_in actors) (mutators_in actors') rested.asked
      (λ i m x at later. (rested.stands.1.actors_rest.mutators.rest.each i x later).thread ∙ sym (have.rest.each i m at).thread) live;
  paused = λ idle. idle_behind (run_of settings script) rested.report calls actors (mutators_in actors') rested.history rested.behind (sym is ∙ is_false b idle);
  drained = λ idle. rested.drained (λ (i, m, at, waiting). none_wait actors (sym is ∙ is_false b idle) i m at waiting);
}

-- behind what waited each mutator's last unit ended with its thread's newest reply, if it ended with one
pub newest_behind : (task : Task) (report : PauseReport) (calls : List Item) (mutators : List Mutating) (space : Space) (actors : List AnyActor) (h : List Item) (g : AbstractState) → GoesOnBehind task report calls mutators (mutators_in actors) h
    → IsBetweenEpochs task space None actors h g → EndByNewest calls mutators → EndByNewest h (mutators_in actors)
newest_behind task report calls mutators space actors h g (inl (ended, last)) amid newest =
    let fewer = ends_are_fewer task h (mutators_in actors) amid.come.history.0 amid.actors_rest.mutators amid.more in
    let same = ap ends last in
    absurd (omega (arith, fewer, same, ended))
newest_behind task report calls mutators space actors h g (inr behind) amid newest =
    answers_newest (pace_of task.plan) behind.collected mutators (mutators_in actors) behind.paused behind.answered (Pause report ∷ calls) h behind.answers newest

-- and once the pause is made behind it, the heap stands for what that has led to
pub has_paused : (begins : Bool) (handed : List (Option Arrival)) (settings : Settings) (l l' : ToList) (script : Script) (h : List Item) (live : Lived) (now : Stage) (of : IsHeapOf script h (record { settings = settings; stage = stage.Within live; to_list = l })) (space : Space) (actors : List AnyActor)
    → RunsOn settings script h live.epoch of.stands handed space actors
    → ((script : Script) (earlier : List AnyActor) (calls : List Item) (g : AbstractState) → HasRunEpoch (run_of settings script) space None earlier actors calls g → EndByNewest calls (mutators_in actors) → ComesToRest begins settings script calls (mutators_in actors) now)
    → HasListed l now l' → HasPaused begins script h (record { settings = settings; stage = stage.Within live; to_list = l }) of (record { settings = settings; stage = now; to_list = l' })
has_paused begins handed settings l l' script h live now of space actors on comes lists =
    let rest = comes on.script' on.before on.calls on.abstract_state on.ran on.newest in record {
      script' = on.script';
      goes_on = on.goes_on;
      schedule = on.schedule;
      calls = on.calls;
      told = on.told;
      extends = on.extends;
      settings = refl;
      lists = lists;
      mutators = mutators_in actors;
      come = on.come;
      asked = on.ran.actors_rest.mutators.script;
      names = on.ran.actors_rest.mutators.names;
      replied = have_replied (run_of settings on.script') on.calls (mutators_in actors) on.ran.actors_rest.mutators;
      rest = rest;
      holds = record { settings = of.settings; threads = renewed_threads rest.answered on.script' rest.history rest.renewed_script rest.renewed_history rest.asked rest.renewed ∙ as_many_go_on script on.script' on.goes_on ∙ of.threads; stands = rest.stands; told = rest.told };
    }

-- so it is with mutators that were handed in
pub has_paused_with : (begins : Bool) (handed : List (Option Arrival)) (settings : Settings) (l l' : ToList) (script : Script) (h : List Item) (live : Lived) (now : Stage) (of : IsHeapOf script h (record { settings = settings; stage = stage.Within live; to_list = l })) (space : Space) (actors : List AnyActor)
    → RunsOn settings script h live.epoch of.stands handed space actors
    → ((script : Script) (earlier : List AnyActor) (calls : List Item) (g : AbstractState) → HasRunEpoch (run_of settings script) space None earlier actors calls g → EndByNewest calls (mutators_in actors) → ComesToRest begins settings script calls (mutators_in actors) now)
    → HasListed l now l' → AreAsHandedIn handed (mutators_in actors) → HasPausedWith begins handed script h (record { settings = settings; stage = stage.Within live; to_list = l }) of (record { settings = settings; stage = now; to_list = l' })
unfolding has_paused
has_paused_with begins handed settings l l' script h live now of space actors on comes lists same = record {
  made = has_paused begins handed settings l l' script h live now of space actors on comes lists;
  as_handed_in = same;
  seen = on.seen;
  begun = on.begun;
  told_by = on.begins;
}

-- whatever comes of the wish for a pause, some history is the heap's
pub paused_some : (begins : Bool) (p : Paused) (before after : Heaped) → Pauses begins p before after → (script : Script) (h : List Item) → IsHeapOf script h before → (script' : Script) × (h' : List Item) × IsHeapOf script' h' after
paused_some begins paused.Made before after is script h of = let made = is.1 script h of in (made.rest.renewed_script, made.rest.renewed_history, made.holds)
paused_some begins paused.NotWanted before after is script h of = (script, h, subst (IsHeapOf script h) (sym is.1) of)
paused_some begins (paused.Away number) before after is script h of = (script, h, subst (IsHeapOf script h) (sym is.2) of)
paused_some begins paused.Shared before after is script h of = (script, h, subst (IsHeapOf script h) (sym is.1) of)
paused_some begins paused.NotRunning before after is script h of = (script, h, subst (IsHeapOf script h) (sym is.1) of)
paused_some begins paused.Ended before after is script h of = (script, h, subst (IsHeapOf script h) (sym is.1) of)
paused_some begins paused.Lost before after is script h of = (script, h, subst (IsHeapOf script h) (sym is.1) of)

-- a heap has as many actors as its settings say, while an epoch is open
pub actors_many : (settings : Settings) (l : ToList) (script : Script) (h : List Item) (live : Lived) → IsHeapOf script h (record { settings = settings; stage = stage.Within live; to_list = l }) → length live.epoch.opening.actors ≡ actors_of settings
actors_many settings l script h live of =
    let open_epoch = of.stands in
    let opened = open_epoch.running.opened in
    let all = lengths_add opened.core.actors in
    let mutators : length (mutators_in opened.core.actors) ≡ settings.mutators =
    sym (length-map (mutators_in opened.core.actors) (λ (m : Mutating). m.operations)) ∙ ap length open_epoch.script ∙ of.threads in
    let decrementers = open_epoch.workers in
    let tracers = open_epoch.tracers in
    ap (λ (k : Core AnyActor). length k.actors) (sym open_epoch.running.core) ∙ (omega arith)

-- where an epoch is not closed, nothing has changed
pub not_closed : (begins : Bool) (settings : Settings) (l : ToList) (live : Lived) (handed : List (Option Arrival)) (reason : NotClosed) → length live.epoch.opening.actors ≡ actors_of settings → IsUnclosed (length live.epoch.opening.actors) 0 handed reason
    → (reason ≡ why.NotWanted → ¬ HaveEndedFrom (length live.epoch.opening.actors) 0 handed) → (reason ≡ why.Shared → IsWantedByAll (housed_in live) 0 handed []) → PausesWith begins handed (paused_for reason) (record { settings = settings; stage = stage.Within live; to_list = l }) (record { settings = settings; stage = stage.Within live; to_list = l })
not_closed begins settings l live handed (why.Away number) many (from, less, none) unended wanted = ((tt, subst (λ n. number < n) many less, refl), none)
not_closed begins settings l live handed why.NotWanted many none unended wanted = ((tt, refl), (λ number s at. none number s (omega arith) at), subst (λ n. ¬ HaveEndedFrom n 0 handed) many (unended refl))
not_closed begins settings l live handed why.Shared many is unended wanted = ((tt, refl), wanted refl)

-- the wish for a pause with stations that are handed in is one for a pause
pub pauses_alone : (begins : Bool) (handed : List (Option Arrival)) (p : Paused) (before after : Heaped) → PausesWith begins handed p before after → Pauses begins p before after
pauses_alone begins handed paused.Made before after is = (is.0, λ script h of. (is.1 script h of).made)
pauses_alone begins handed paused.NotWanted before after is = is.0
pauses_alone begins handed (paused.Away number) before after is = is.0
pauses_alone begins handed paused.Shared before after is = is.0
pauses_alone begins handed paused.NotRunning before after is = is
pauses_alone begins handed paused.Ended before after is = is
pauses_alone begins handed paused.Lost before after is = is

-- mutators that were handed in are those of the pause, since mutators come first among actors
pub as_handed_in : (handed : List (Option Arrival)) (actors : List AnyActor) → AreInOrder actors → HoldGivenUp handed actors → AreAsHandedIn handed (mutators_in actors)
as_handed_in handed actors order hold number s m at is = mutator_at actors number (given_up m) order (hold number s at ∙ ap (λ a. Some (actor_given_up a)) is)

-- ---- the last report

-- what is known of the space of a heap at rest
pub record IsAtRestIn (task : Task) (h : List Item) (space : Space) : Type 0 where
  pub pauses : space.pauses ≡ (moment (length task.script) h).number
  pub report : report_of space.report ≡ last_report h

pub between_rest : (task : Task) (h : List Item) (space : Space) (actors : List AnyActor) → ((g : AbstractState) × IsBetweenEpochs task space None actors h g) → IsAtRestIn task h space
between_rest task h space actors (g, amid) = record {
  pauses = amid.between.safepoint.numbers.pauses ∙ ap (λ (m : Moment). m.number) amid.come.stands.moment;
  report = amid.between.safepoint.numbers.report ∙ amid.come.stands.reported;
}

pub ended_rest : (task : Task) (h : List Item) (space : Space) (actors : List AnyActor) → HasRunTo task space None actors h → IsAtRestIn task h space
ended_rest task h space actors ran =
    let (g, left) = ran.left in record {
      pauses = left.between.safepoint.numbers.pauses ∙ ap (λ (m : Moment). m.number) left.stands.moment;
      report = left.between.safepoint.numbers.report ∙ left.stands.reported;
    }

some_space : (a b : Space) → Some a ≡ Some b → a ≡ b
some_space a b e = cc

-- where a heap is at rest its mutators have been ordered what the script says
pub asked_between : (task : Task) (h : List Item) (space : Space) (actors : List AnyActor) → ((g : AbstractState) × IsBetweenEpochs task space None actors h g) → script_of (mutators_in actors) ≡ task.script
asked_between task h space actors (g, amid) = amid.actors_rest.mutators.script

-- where a heap is at rest its space has the numbers of its history
pub rest_at : (task : Task) (h : List Item) (s : Stage) (space : Space) → StandsFor task h s → space_at s ≡ Some space → IsAtRest s × IsAtRestIn task h space
rest_at task h (stage.Between at_rest actors) space stands is = (tt, subst (IsAtRestIn task h) (some_space at_rest space is) (between_rest task h at_rest actors.items stands.0))
rest_at task h (stage.Within live) space stands is = absurd (cc)
rest_at task h (stage.Ended at_rest actors) space stands is = (tt, subst (IsAtRestIn task h) (some_space at_rest space is) (ended_rest task h at_rest actors.items stands))
rest_at task h stage.Lost space stands is = absurd (cc)

-- and its last report lists what it says of the heap
pub told_at : (h : List Item) (s : Stage) (space : Space) → TellsRenewed h s → space_at s ≡ Some space → TellsWanted (ends_with_renewal h) space.report
told_at h (stage.Between at_rest actors) space told is = subst (λ (x : Space). TellsWanted (ends_with_renewal h) x.report) (some_space at_rest space is) told
told_at h (stage.Within live) space told is = absurd (cc)
told_at h (stage.Ended at_rest actors) space told is = subst (λ (x : Space). TellsWanted (ends_with_renewal h) x.report) (some_space at_rest space is) told
told_at h stage.Lost space told is = absurd (cc)

-- and else it is not at rest
pub no_rest : (s : Stage) → space_at s ≡ None → ¬ IsAtRest s
no_rest (stage.Between at_rest actors) is = absurd (cc)
no_rest (stage.Within live) is = λ no. no
no_rest (stage.Ended at_rest actors) is = absurd (cc)
no_rest stage.Lost is = λ no. no

pub is_rest : (s : Stage) (space : Space) → space_at s ≡ Some space → IsAtRest s
is_rest (stage.Between at_rest actors) space is = tt
is_rest (stage.Within live) space is = absurd (cc)
is_rest (stage.Ended at_rest actors) space is = tt
is_rest stage.Lost space is = absurd (cc)

-- ---- passes

-- why an epoch keeps a pass is why its heap does
kept_by : (settings : Settings) (l : ToList) (live : Lived) (number : ℕ) → length live.epoch.opening.actors ≡ actors_of settings → (why : NotOut) → IsNotOut (length live.epoch.opening.actors) number why → IsKept (record { settings = settings; stage = stage.Within live; to_list = l }) number why
kept_by settings l live number many kept.NotRunning is = absurd is
kept_by settings l live number many kept.Ended is = absurd is
kept_by settings l live number many kept.Lost is = absurd is
kept_by settings l live number many kept.NoSuch is = (tt, subst (λ n. n ≤ number) many is)
kept_by settings l live number many kept.Away is = (tt, subst (λ n. number < n) many is)
kept_by settings l live number many (kept.Memory refused) is = (tt, subst (λ n. number < n) many is)

pub kept_for : {A : Type 0} (settings : Settings) (l : ToList) (script : Script) (h : List Item) (live : Lived) (number : ℕ) (r : Result A NotOut) → IsHeapOf script h (record { settings = settings; stage = stage.Within live; to_list = l })
    → IfErr r (λ why. IsNotOut (length live.epoch.opening.actors) number why) → IfErr r (λ why. IsKept (record { settings = settings; stage = stage.Within live; to_list = l }) number why)
kept_for settings l script h live number (Ok a) of is = is
kept_for settings l script h live number (Err why) of is = kept_by settings l live number (actors_many settings l script h live of) why is
