-- The invariant of an epoch holds after each event of a schedule, and each next step fits: the step of a mutator is an event of the
-- epoch, and that of a helper a step that keeps it.
use Rattle.std.proofs.Common.{◌≡◌, ◌≢◌, ℕ, ◌+◌, ◌≤◌, Bool, true, false, refl, sym, ap, subst, ◌∙◌, arith, List, [], ◌∷◌}
use Rattle.std.specs.Prelude.{Option, Some, None, IsSome, if◌then◌else◌, map, slice_get, slice_set}
use Rattle.std.proofs.lemmas.List.{map-set}
use Rattle.lxr_layout.specs.declared.Name.{Name}
use Rattle.lxr_layout.specs.declared.Place.{Place}
use Rattle.lxr_graph.specs.declared.Op.{Op}
use Rattle.lxr_graph.specs.declared.Reply.{Reply}
use Rattle.lxr_graph.specs.History.{Call, Item, replies_of}
use Rattle.lxr_graph.specs.Step.{step}
use Rattle.lxr_image.specs.Tables.{Tables, tables_in}
use Rattle.lxr_model.specs.Moments.{Field}
use Rattle.lxr_actor.specs.declared.Action.{Action}
use Rattle.lxr_actor.specs.declared.Core.{Core}
use Rattle.lxr_actor.specs.declared.Event.{Event}
use Rattle.lxr_actor.specs.declared.Event.TheVariants.{Step, Give, Out, Order}
use Rattle.lxr_actor.specs.Machine.{Fits}
use Rattle.lxr_actor.specs.Run.{AlwaysFits, FitsAt, core_of, happened, run, stepped}
use Rattle.lxr_mutator.specs.declared.phases.MutatorPhase.{MutatorPhase}
use Rattle.lxr_mutator.specs.declared.phases.MutatorPhase.TheVariants as phase
use Rattle.lxr_mutator.specs.Mutating.{Mutating, op_now}
use Rattle.lxr_mutator.specs.Steps.{action, mutator_machine}
use Rattle.lxr_decrement.specs.Decrementing.{DecrementerState}
use Rattle.lxr_decrement.specs.Steps.{decrementer_machine}
use Rattle.lxr_trace.specs.Tracing.{TracerState}
use Rattle.lxr_trace.specs.Steps.{tracer_machine}
use Rattle.lxr_core_access.specs.Decrementers.{Decrementing}
use Rattle.lxr_core_access.specs.Tracers.{Tracing}
use Rattle.lxr_core_invariant.specs.ThreadStates.{ThreadState}
use Rattle.lxr_core_invariant.specs.EpochStates.{Beginning, EpochState, limits_of, moment_of}
use Rattle.lxr_core_invariant.specs.Decremented.{decremented, traced}
use Rattle.lxr_core_invariant.specs.Epoch.{IsEpoch}
use Rattle.lxr_core_invariant.specs.Laws.{HaveNotFallen}
use Rattle.lxr_core_inv_history.proofs.CallLemmas.{other_call}
use Rattle.lxr_core_inv_memory.proofs.RaisingLemmas.{cursors_dont_fall}
use Rattle.lxr_core_sim_mutator.specs.Showing.{HasTold, IsMutatorOf, thread_state_of}
use Rattle.lxr_core_sim_mutator.specs.Stepping.{history_after, places_in, stands_in}
use Rattle.lxr_core_sim_helpers.specs.DecrementerShowing.{IsDecrementerOf, decrementing_of}
use Rattle.lxr_core_sim_helpers.specs.DecrementerStepping.{ShowsDecrementer}
use Rattle.lxr_core_sim_helpers.proofs.DecrementerHintLemmas.{hints_stay}
use Rattle.lxr_core_sim_helpers.proofs.DecrementerStepLemmas.{each_step as helper_step}
use Rattle.lxr_core_sim_helpers.specs.TracerShowing.{IsTracerOf, tracing_of}
use Rattle.lxr_core_sim_helpers.specs.TracerStepping.{ShowsTracer}
use Rattle.lxr_core_sim_helpers.proofs.TracerHintLemmas.{hints_stay as tracer_hints_stay}
use Rattle.lxr_core_sim_helpers.proofs.TracerStepLemmas.{each_step as tracer_step}
use Rattle.lxr_core.specs.declared.actors.AnyActor.{AnyActor}
use Rattle.lxr_core.specs.declared.actors.AnyActor.TheVariants as any
use Rattle.lxr_core.specs.Actors.{any_machine, decrementers_in, mutators_in, tracers_in}
use Rattle.lxr_core.specs.Executions.{HoldsExecution, IsExecution, EpochInvariantHolds, Execution, epoch_state_of, tell, tell_all}
use Rattle.lxr_core.proofs.OrderedLemmas.{OrdersStep, order_step}
use Rattle.lxr_core.proofs.KeptLemmas.{decrementers_keep_epoch, tracers_keep_epoch}
use Rattle.lxr_core.proofs.MappedLemmas.{each_put, each_set, mapped, set_alike, set_itself}
use Rattle.lxr_core.proofs.NamelessLemmas.{Shows, any_step}
use Rattle.lxr_core.proofs.ToldLemmas.{shown_in, told_same, told_still, told_thread}
use Rattle.lxr_core.proofs.OrderLemmas.{IsHelperAt, IsTracerAt, helper_at, helpers_beside, helpers_stay, mutator_at, mutators_before, mutators_put, mutators_stay, put_order, tracer_at, tracers_beside, tracers_stay, two_helpers, two_mutators, two_tracers}
use Rattle.lxr_core.proofs.TurnLemmas.{at_rest, helper_at_rest, helper_moved, moved, tell_helper, tell_step, tell_tracer, told_with, tracer_at_rest, tracer_moved}

-- ---- epoch states

-- the epoch state by its parts
abbrev epoch_state_by : Tables → List ThreadState → List Decrementing → List Tracing → List Item → (Name → ℕ) → List Field → EpochState
epoch_state_by t thread_states ds ts h at cleared = record { tables = t; thread_states = thread_states; decrementers = ds; tracers = ts; history = h; at = at; cleared = cleared }

-- an epoch state is that of its parts
epoch_state_same : (s : EpochState) (t : Tables) (thread_states : List ThreadState) (ds : List Decrementing) (ts : List Tracing) (h : List Item) (at : Name → ℕ)
    → s.tables ≡ t → s.thread_states ≡ thread_states → s.decrementers ≡ ds → s.tracers ≡ ts → s.history ≡ h → s.at ≡ at → s ≡ epoch_state_by t thread_states ds ts h at s.cleared
epoch_state_same s t thread_states ds ts h at tables shown decrementers tracers history places =
    ap (λ z. epoch_state_by z s.thread_states s.decrementers s.tracers s.history s.at s.cleared) tables
    ∙ (ap (λ z. epoch_state_by t z s.decrementers s.tracers s.history s.at s.cleared) shown
    ∙ (ap (λ z. epoch_state_by t thread_states z s.tracers s.history s.at s.cleared) decrementers
    ∙ (ap (λ z. epoch_state_by t thread_states ds z s.history s.at s.cleared) tracers
    ∙ (ap (λ z. epoch_state_by t thread_states ds ts z s.at s.cleared) history ∙ ap (λ z. epoch_state_by t thread_states ds ts h z s.cleared) places))))

-- which references' bits were cleared says nothing of places
places_uncleared : (b : Beginning) (execution : Execution) (cleared : List Field) (m : Mutating) (p : MutatorPhase) → places_in p b (epoch_state_of b execution cleared) m ≡ places_in p b (epoch_state_of b execution []) m
places_uncleared b execution cleared m (phase.Heading place) = refl
places_uncleared b execution cleared m p = refl

-- ---- what actors show

-- the mutator of a number in an epoch state
shows_as : (b : Beginning) (execution : Execution) (cleared : List Field) (n : ℕ) (m : Mutating) → IsExecution b execution cleared → slice_get execution.core.actors n ≡ Some (any.Mutator m)
    → Shows b (epoch_state_of b execution cleared) execution.core.words n m
shows_as b execution cleared n m is there =
    let stands = mutator_at execution.core.actors n m is.order there in
    record {
      epoch = is.epoch;
      size = is.size;
      tables = refl;
      thread_state = mapped (shown_in execution.history) (mutators_in execution.core.actors) n m stands;
      mutator = is.mutators n m stands;
      told = is.told n m stands;
    }

-- and the helper of a number among helpers
shows_decrementer : (b : Beginning) (execution : Execution) (cleared : List Field) (n : ℕ) (d : DecrementerState) → IsExecution b execution cleared → (at : IsHelperAt execution.core.actors n d)
    → ShowsDecrementer b (epoch_state_of b execution cleared) execution.core.words at.number d
shows_decrementer b execution cleared n d is at = record {
  epoch = is.epoch;
  size = is.size;
  tables = refl;
  shows = mapped decrementing_of (decrementers_in execution.core.actors) at.number d at.stands;
  helper = is.decrementers at.number d at.stands;
}

-- and a tracer among tracers
shows_tracer : (b : Beginning) (execution : Execution) (cleared : List Field) (n : ℕ) (d : TracerState) → IsExecution b execution cleared → (at : IsTracerAt execution.core.actors n d)
    → ShowsTracer b (epoch_state_of b execution cleared) execution.core.words at.number d
shows_tracer b execution cleared n d is at = record {
  epoch = is.epoch;
  size = is.size;
  tables = refl;
  shows = mapped tracing_of (tracers_in execution.core.actors) at.number d at.stands;
  helper = is.tracers at.number d at.stands;
}

-- ---- places offered and given up

-- a mutator takes no offers and gives nothing up
offer_stays : (core : Core AnyActor) (n : ℕ) (place : Place) (m : Mutating) → slice_get core.actors n ≡ Some (any.Mutator m) → happened any_machine core (Give n place) (Some (any.Mutator m)) ≡ core
offer_stays core n place m e = ap (core_of core.words) (set_itself core.actors n (any.Mutator m) e)

spare_stays : (core : Core AnyActor) (n : ℕ) (m : Mutating) → slice_get core.actors n ≡ Some (any.Mutator m) → happened any_machine core (Out n) (Some (any.Mutator m)) ≡ core
spare_stays core n m e = ap (core_of core.words) (set_itself core.actors n (any.Mutator m) e)

-- the execution where the helper of a number is another
abbrev with_helper : Execution → ℕ → DecrementerState → Execution
with_helper execution n e = record execution { core = core_of execution.core.words (slice_set execution.core.actors n (any.Decrementer e)) }

-- one that is about to do the same keeps the invariant
hint_kept : (b : Beginning) (execution : Execution) (n : ℕ) (d e : DecrementerState) → HoldsExecution b execution → slice_get execution.core.actors n ≡ Some (any.Decrementer d)
    → IsDecrementerOf (limits_of b) e → decrementing_of e ≡ decrementing_of d → HoldsExecution b (with_helper execution n e)
hint_kept b execution n d e (cleared, is) there of same =
    let actors : List AnyActor = execution.core.actors in
    let at = helper_at actors n d there in
    let shown : map decrementing_of (decrementers_in (slice_set actors n (any.Decrementer e))) ≡ map decrementing_of (decrementers_in actors) =
    ap (map decrementing_of) (at.put e)
    ∙ (map-set decrementing_of (decrementers_in actors) at.number e
    ∙ (ap (slice_set (map decrementing_of (decrementers_in actors)) at.number) same
    ∙ set_itself (map decrementing_of (decrementers_in actors)) at.number (decrementing_of d) (mapped decrementing_of (decrementers_in actors) at.number d at.stands))) in
    let mutators_same = mutators_stay actors n d e there in
    let tracers_same = tracers_beside actors n d e there in
    let state : EpochState = epoch_state_of b execution cleared in (
      cleared,
      record {
        epoch = subst (IsEpoch b) (epoch_state_same state state.tables (map (shown_in execution.history) (mutators_in (slice_set actors n (any.Decrementer e)))) (map decrementing_of (decrementers_in (slice_set actors n (any.Decrementer e))))
            (map tracing_of (tracers_in (slice_set actors n (any.Decrementer e)))) state.history state.at refl (ap (map (shown_in execution.history)) (sym mutators_same)) (sym shown) (ap (map tracing_of) (sym tracers_same)) refl refl) is.epoch;
        size = is.size;
        order = put_order actors n (any.Decrementer d) (any.Decrementer e) there (two_helpers d e) is.order;
        mutators = subst (λ ms. (i : ℕ) (m : Mutating) → slice_get ms i ≡ Some m → IsMutatorOf (limits_of b) m) (sym mutators_same) is.mutators;
        told = subst (λ ms. (i : ℕ) (m : Mutating) → slice_get ms i ≡ Some m → HasTold execution.history m) (sym mutators_same) is.told;
        decrementers = subst (λ ds. (i : ℕ) (x : DecrementerState) → slice_get ds i ≡ Some x → IsDecrementerOf (limits_of b) x) (sym (at.put e))
            (each_set (IsDecrementerOf (limits_of b)) (decrementers_in actors) at.number e of is.decrementers);
        tracers = subst (λ ts. (i : ℕ) (x : TracerState) → slice_get ts i ≡ Some x → IsTracerOf (limits_of b) x) (sym tracers_same) is.tracers;
      },
    )

-- the execution where the tracer of a number is another
abbrev with_tracer : Execution → ℕ → TracerState → Execution
with_tracer execution n e = record execution { core = core_of execution.core.words (slice_set execution.core.actors n (any.Tracer e)) }

-- one that is about to do the same keeps the invariant too
tracer_hint_kept : (b : Beginning) (execution : Execution) (n : ℕ) (d e : TracerState) → HoldsExecution b execution → slice_get execution.core.actors n ≡ Some (any.Tracer d)
    → IsTracerOf (limits_of b) e → tracing_of e ≡ tracing_of d → HoldsExecution b (with_tracer execution n e)
tracer_hint_kept b execution n d e (cleared, is) there of same =
    let actors : List AnyActor = execution.core.actors in
    let at = tracer_at actors n d there in
    let shown : map tracing_of (tracers_in (slice_set actors n (any.Tracer e))) ≡ map tracing_of (tracers_in actors) =
    ap (map tracing_of) (at.put e)
    ∙ (map-set tracing_of (tracers_in actors) at.number e
    ∙ (ap (slice_set (map tracing_of (tracers_in actors)) at.number) same
    ∙ set_itself (map tracing_of (tracers_in actors)) at.number (tracing_of d) (mapped tracing_of (tracers_in actors) at.number d at.stands))) in
    let mutators_same = mutators_before actors n d e there in
    let helpers_same = helpers_beside actors n d e there in
    let state : EpochState = epoch_state_of b execution cleared in (
      cleared,
      record {
        epoch = subst (IsEpoch b) (epoch_state_same state state.tables (map (shown_in execution.history) (mutators_in (slice_set actors n (any.Tracer e)))) (map decrementing_of (decrementers_in (slice_set actors n (any.Tracer e))))
            (map tracing_of (tracers_in (slice_set actors n (any.Tracer e)))) state.history state.at refl (ap (map (shown_in execution.history)) (sym mutators_same)) (ap (map decrementing_of) (sym helpers_same)) (sym shown) refl refl) is.epoch;
        size = is.size;
        order = put_order actors n (any.Tracer d) (any.Tracer e) there (two_tracers d e) is.order;
        mutators = subst (λ ms. (i : ℕ) (m : Mutating) → slice_get ms i ≡ Some m → IsMutatorOf (limits_of b) m) (sym mutators_same) is.mutators;
        told = subst (λ ms. (i : ℕ) (m : Mutating) → slice_get ms i ≡ Some m → HasTold execution.history m) (sym mutators_same) is.told;
        decrementers = subst (λ ds. (i : ℕ) (x : DecrementerState) → slice_get ds i ≡ Some x → IsDecrementerOf (limits_of b) x) (sym helpers_same) is.decrementers;
        tracers = subst (λ ts. (i : ℕ) (x : TracerState) → slice_get ts i ≡ Some x → IsTracerOf (limits_of b) x) (sym (at.put e))
            (each_set (IsTracerOf (limits_of b)) (tracers_in actors) at.number e of is.tracers);
      },
    )

-- ---- calls of other threads

-- a step of a mutator leaves what the history has of others, whose threads have other numbers
module _ (b : Beginning) (execution : Execution) (cleared : List Field) (n : ℕ) (m to : Mutating) (h : List Item) (is : IsExecution b execution cleared) (here : slice_get (mutators_in execution.core.actors) n ≡ Some m)
    (history : h ≡ history_after b (epoch_state_of b execution cleared) m to) where
  thread_number : (k : ℕ) (y : Mutating) → slice_get (mutators_in execution.core.actors) k ≡ Some y → y.thread ≡ k + 1
  thread_number k y there =
      sym (told_thread execution.history y)
      ∙ is.epoch.called.threads k (shown_in execution.history y) (mapped (shown_in execution.history) (mutators_in execution.core.actors) k y there)

  -- the reply of its call
  abbrev replied : Reply
  replied = (step (moment_of b (epoch_state_of b execution cleared)).state m.thread (op_now m)).1

  others_replied : (i : ℕ) (x : Mutating) → i ≢ n → slice_get (mutators_in execution.core.actors) i ≡ Some x → replies_of x.thread h ≡ replies_of x.thread execution.history
  others_replied i x other at =
      let own = thread_number n m here in
      let its = thread_number i x at in
      ap (replies_of x.thread) history ∙ by_standing (stands_in m.phase m to) (λ e. other (let k : i ≡ n = omega (arith, own, its, e) in k))
    where
      by_standing : (c : Bool) → x.thread ≢ m.thread → replies_of x.thread (if c then Call m.thread (op_now m) replied ∷ execution.history else execution.history) ≡ replies_of x.thread execution.history
      by_standing true differ = (other_call x.thread m.thread (op_now m) replied execution.history differ).replies
      by_standing false differ = refl

-- ---- schedules

-- no cursor has fallen from an execution to another
abbrev HasRisen : Beginning → Execution → Execution → Type 0
HasRisen b before after = HaveNotFallen (tables_in (limits_of b) before.core.words) (tables_in (limits_of b) after.core.words)

-- the invariant holds of an execution, to which no cursor has fallen from another
abbrev HoldsRisen : Beginning → Execution → Execution → Type 0
HoldsRisen b before after = HoldsExecution b after × HasRisen b before after

-- an execution that is another one
stays_risen : (b : Beginning) (before after : Execution) → after ≡ before → HoldsExecution b before → HoldsRisen b before after
stays_risen b before after same holds = subst (HoldsRisen b before) (sym same) (holds, λ c. omega arith)

-- of an epoch: steps of mutators are events, and events keep the invariant; steps of helpers keep it too
module _ (b : Beginning) where
  -- a step of a mutator keeps the invariant
  step_kept : (execution : Execution) (cleared : List Field) (n : ℕ) (m : Mutating) → IsExecution b execution cleared → slice_get execution.core.actors n ≡ Some (any.Mutator m) → IsSome (action m)
      → HoldsRisen b execution (moved b execution n m)
  step_kept execution cleared n m is there some =
      let actors : List AnyActor = execution.core.actors in
      let ms : List Mutating = mutators_in actors in
      let step = any_step b (epoch_state_of b execution cleared) execution.core.words n m (shows_as b execution cleared n m is there) some in
      let by = step.leads in
      let m' : Mutating = (stepped mutator_machine execution.core.words m).1 in
      let after : List AnyActor = slice_set actors n (any.Mutator m') in
      let put = mutators_put actors n m m' is.order there in
      let stay = helpers_stay actors n m m' there in
      let beside = tracers_stay actors n m m' there in
      let others : (i : ℕ) (x : Mutating) → i ≢ n → slice_get ms i ≡ Some x → replies_of x.thread by.reached.history ≡ replies_of x.thread execution.history = λ i x other at. others_replied b execution cleared n m m' by.reached.history is (mutator_at actors n m is.order there) by.history i x other at in
      let thread_states = by.thread_states
      ∙ set_alike (shown_in execution.history) (shown_in by.reached.history) ms n (shown_in by.reached.history m') (λ i x other at. ap thread_state_of (sym (told_same x.names execution.history by.reached.history x (others i x other at))))
      ∙ (sym (map-set (shown_in by.reached.history) ms n m') ∙ ap (map (shown_in by.reached.history)) (sym put)) ∙ ap (λ h. map (shown_in h) (mutators_in after)) by.history in
      let same = epoch_state_same by.reached (tables_in (limits_of b) (stepped mutator_machine execution.core.words m).0) (map (shown_in (moved b execution n m).history) (mutators_in after))
      (map decrementing_of (decrementers_in after)) (map tracing_of (tracers_in after)) (moved b execution n m).history (moved b execution n m).at by.tables thread_states
      (by.decrementers ∙ ap (map decrementing_of) (sym stay)) (by.tracers ∙ ap (map tracing_of) (sym beside)) by.history (by.places ∙ places_uncleared b execution cleared m m.phase) in (
        (
          by.reached.cleared,
          record {
            epoch = subst (IsEpoch b) same by.epoch;
            size = by.size ∙ is.size;
            order = put_order actors n (any.Mutator m) (any.Mutator m') there (two_mutators m m') is.order;
            mutators = subst (λ xs. (i : ℕ) (x : Mutating) → slice_get xs i ≡ Some x → IsMutatorOf (limits_of b) x) (sym put) (each_set (IsMutatorOf (limits_of b)) ms n m' by.mutator is.mutators);
            told = subst (λ h. (i : ℕ) (x : Mutating) → slice_get (mutators_in after) i ≡ Some x → HasTold h x) by.history
                (subst (λ xs. (i : ℕ) (x : Mutating) → slice_get xs i ≡ Some x → HasTold by.reached.history x) (sym put)
                (each_put (HasTold by.reached.history) ms n m' step.told (λ i x other at. told_still execution.history by.reached.history x (others i x other at) (is.told i x at))));
            decrementers = subst (λ ds. (i : ℕ) (x : DecrementerState) → slice_get ds i ≡ Some x → IsDecrementerOf (limits_of b) x) (sym stay) is.decrementers;
            tracers = subst (λ ts. (i : ℕ) (x : TracerState) → slice_get ts i ≡ Some x → IsTracerOf (limits_of b) x) (sym beside) is.tracers;
          },
        ),
        λ c. subst (λ (t : Tables). (tables_in (limits_of b) execution.core.words).cursors c ≤ t.cursors c) by.tables (by.risen c),
      )

  -- so does a step of a decrementer
  helper_kept : (execution : Execution) (cleared : List Field) (n : ℕ) (d : DecrementerState) → IsExecution b execution cleared → slice_get execution.core.actors n ≡ Some (any.Decrementer d)
      → IsSome (decrementer_machine.action d) → HoldsRisen b execution (helper_moved execution n d)
  helper_kept execution cleared n d is there some =
      let s : EpochState = epoch_state_of b execution cleared in
      let actors : List AnyActor = execution.core.actors in
      let at = helper_at actors n d there in
      let by = helper_step b s execution.core.words at.number d (shows_decrementer b execution cleared n d is at) some in
      let d' : DecrementerState = (stepped decrementer_machine execution.core.words d).1 in
      let after : EpochState = decremented s at.number by.access (decrementing_of d') in
      let epoch : IsEpoch b after = decrementers_keep_epoch b s at.number by.access (decrementing_of d') is.epoch by.may in
      let stay = mutators_stay actors n d d' there in
      let beside = tracers_beside actors n d d' there in
      let decrementers = sym (map-set decrementing_of (decrementers_in actors) at.number d') ∙ ap (map decrementing_of) (sym (at.put d')) in
      let same = epoch_state_same after (tables_in (limits_of b) (stepped decrementer_machine execution.core.words d).0) (map (shown_in execution.history) (mutators_in (slice_set actors n (any.Decrementer d'))))
      (map decrementing_of (decrementers_in (slice_set actors n (any.Decrementer d')))) (map tracing_of (tracers_in (slice_set actors n (any.Decrementer d')))) execution.history execution.at by.tables
      (ap (map (shown_in execution.history)) (sym stay)) decrementers (ap (map tracing_of) (sym beside)) refl refl in (
        (
          cleared,
          record {
            epoch = subst (IsEpoch b) same epoch;
            size = by.size ∙ is.size;
            order = put_order actors n (any.Decrementer d) (any.Decrementer d') there (two_helpers d d') is.order;
            mutators = subst (λ ms. (i : ℕ) (m : Mutating) → slice_get ms i ≡ Some m → IsMutatorOf (limits_of b) m) (sym stay) is.mutators;
            told = subst (λ ms. (i : ℕ) (m : Mutating) → slice_get ms i ≡ Some m → HasTold execution.history m) (sym stay) is.told;
            decrementers = subst (λ ds. (i : ℕ) (x : DecrementerState) → slice_get ds i ≡ Some x → IsDecrementerOf (limits_of b) x) (sym (at.put d'))
                (each_set (IsDecrementerOf (limits_of b)) (decrementers_in actors) at.number d' by.helper is.decrementers);
            tracers = subst (λ ts. (i : ℕ) (x : TracerState) → slice_get ts i ≡ Some x → IsTracerOf (limits_of b) x) (sym beside) is.tracers;
          },
        ),
        λ c. subst (λ (t : Tables). s.tables.cursors c ≤ t.cursors c) by.tables (cursors_dont_fall.decrementers b s at.number by.access (decrementing_of d') by.may c),
      )

  -- and a step of a tracer
  tracer_kept : (execution : Execution) (cleared : List Field) (n : ℕ) (d : TracerState) → IsExecution b execution cleared → slice_get execution.core.actors n ≡ Some (any.Tracer d)
      → IsSome (tracer_machine.action d) → HoldsRisen b execution (tracer_moved execution n d)
  tracer_kept execution cleared n d is there some =
      let s : EpochState = epoch_state_of b execution cleared in
      let actors : List AnyActor = execution.core.actors in
      let at = tracer_at actors n d there in
      let by = tracer_step b s execution.core.words at.number d (shows_tracer b execution cleared n d is at) some in
      let d' : TracerState = (stepped tracer_machine execution.core.words d).1 in
      let after : EpochState = traced s at.number by.access (tracing_of d') in
      let epoch : IsEpoch b after = tracers_keep_epoch b s at.number by.access (tracing_of d') is.epoch by.may in
      let stay = mutators_before actors n d d' there in
      let beside = helpers_beside actors n d d' there in
      let tracers = sym (map-set tracing_of (tracers_in actors) at.number d') ∙ ap (map tracing_of) (sym (at.put d')) in
      let same = epoch_state_same after (tables_in (limits_of b) (stepped tracer_machine execution.core.words d).0) (map (shown_in execution.history) (mutators_in (slice_set actors n (any.Tracer d'))))
      (map decrementing_of (decrementers_in (slice_set actors n (any.Tracer d')))) (map tracing_of (tracers_in (slice_set actors n (any.Tracer d')))) execution.history execution.at by.tables
      (ap (map (shown_in execution.history)) (sym stay)) (ap (map decrementing_of) (sym beside)) tracers refl refl in (
        (
          cleared,
          record {
            epoch = subst (IsEpoch b) same epoch;
            size = by.size ∙ is.size;
            order = put_order actors n (any.Tracer d) (any.Tracer d') there (two_tracers d d') is.order;
            mutators = subst (λ ms. (i : ℕ) (m : Mutating) → slice_get ms i ≡ Some m → IsMutatorOf (limits_of b) m) (sym stay) is.mutators;
            told = subst (λ ms. (i : ℕ) (m : Mutating) → slice_get ms i ≡ Some m → HasTold execution.history m) (sym stay) is.told;
            decrementers = subst (λ ds. (i : ℕ) (x : DecrementerState) → slice_get ds i ≡ Some x → IsDecrementerOf (limits_of b) x) (sym beside) is.decrementers;
            tracers = subst (λ ts. (i : ℕ) (x : TracerState) → slice_get ts i ≡ Some x → IsTracerOf (limits_of b) x) (sym (at.put d'))
                (each_set (IsTracerOf (limits_of b)) (tracers_in actors) at.number d' by.helper is.tracers);
          },
        ),
        λ c. subst (λ (t : Tables). s.tables.cursors c ≤ t.cursors c) by.tables (cursors_dont_fall.tracers b s at.number by.access (tracing_of d') by.may c),
      )

  -- so does the turn of an actor, whether it makes a step or not
  turn_kept : (execution : Execution) (n : ℕ) (m : Mutating) (o : Option Action) → action m ≡ o → HoldsExecution b execution → slice_get execution.core.actors n ≡ Some (any.Mutator m)
      → HoldsRisen b execution (moved b execution n m)
  turn_kept execution n m None e holds there = stays_risen b execution (moved b execution n m) (at_rest b execution n m there e) holds
  turn_kept execution n m (Some act) e holds there = step_kept execution holds.0 n m holds.1 there (subst IsSome (sym e) refl)

  helper_turn_kept : (execution : Execution) (n : ℕ) (d : DecrementerState) (o : Option Action) → decrementer_machine.action d ≡ o → HoldsExecution b execution
      → slice_get execution.core.actors n ≡ Some (any.Decrementer d) → HoldsRisen b execution (helper_moved execution n d)
  helper_turn_kept execution n d None e holds there = stays_risen b execution (helper_moved execution n d) (helper_at_rest execution n d there e) holds
  helper_turn_kept execution n d (Some act) e holds there = helper_kept execution holds.0 n d holds.1 there (subst IsSome (sym e) refl)

  tracer_turn_kept : (execution : Execution) (n : ℕ) (d : TracerState) (o : Option Action) → tracer_machine.action d ≡ o → HoldsExecution b execution
      → slice_get execution.core.actors n ≡ Some (any.Tracer d) → HoldsRisen b execution (tracer_moved execution n d)
  tracer_turn_kept execution n d None e holds there = stays_risen b execution (tracer_moved execution n d) (tracer_at_rest execution n d there e) holds
  tracer_turn_kept execution n d (Some act) e holds there = tracer_kept execution holds.0 n d holds.1 there (subst IsSome (sym e) refl)

  -- the step of the actor of a number, where there is one
  number_kept : (execution : Execution) (n : ℕ) (o : Option AnyActor) → slice_get execution.core.actors n ≡ o → HoldsExecution b execution → HoldsRisen b execution (tell b execution (Step n))
  number_kept execution n None e holds = stays_risen b execution (tell b execution (Step n)) (ap (told_with b execution n) e) holds
  number_kept execution n (Some (any.Mutator m)) e holds = subst (HoldsRisen b execution) (sym (tell_step b execution n m e)) (turn_kept execution n m (action m) refl holds e)
  number_kept execution n (Some (any.Decrementer d)) e holds =
      subst (HoldsRisen b execution) (sym (tell_helper b execution n d e)) (helper_turn_kept execution n d (decrementer_machine.action d) refl holds e)
  number_kept execution n (Some (any.Tracer d)) e holds =
      subst (HoldsRisen b execution) (sym (tell_tracer b execution n d e)) (tracer_turn_kept execution n d (tracer_machine.action d) refl holds e)

  -- a place that is offered to the actor of a number keeps it
  offer_kept : (execution : Execution) (n : ℕ) (place : Place) (o : Option AnyActor) → slice_get execution.core.actors n ≡ o → HoldsExecution b execution
      → HoldsRisen b execution (record execution { core = happened any_machine execution.core (Give n place) o })
  offer_kept execution n place None e holds = (holds, λ c. omega arith)
  offer_kept execution n place (Some (any.Mutator m)) e holds =
      stays_risen b execution (record execution { core = happened any_machine execution.core (Give n place) (Some (any.Mutator m)) }) (ap (λ core. record execution { core = core }) (offer_stays execution.core n place m e)) holds
  offer_kept execution n place (Some (any.Decrementer d)) e holds =
      let at = helper_at execution.core.actors n d e in
      let stay = (hints_stay (limits_of b) d (holds.1.decrementers at.number d at.stands)).offered place in
      (hint_kept b execution n d (decrementer_machine.offered d place).0 holds e stay.0 stay.1, λ c. omega arith)
  offer_kept execution n place (Some (any.Tracer d)) e holds =
      let at = tracer_at execution.core.actors n d e in
      let stay = (tracer_hints_stay (limits_of b) d (holds.1.tracers at.number d at.stands)).offered place in
      (tracer_hint_kept b execution n d (tracer_machine.offered d place).0 holds e stay.0 stay.1, λ c. omega arith)

  -- and so does one that it gives up
  spare_kept : (execution : Execution) (n : ℕ) (o : Option AnyActor) → slice_get execution.core.actors n ≡ o → HoldsExecution b execution
      → HoldsRisen b execution (record execution { core = happened any_machine execution.core (Out n) o })
  spare_kept execution n None e holds = (holds, λ c. omega arith)
  spare_kept execution n (Some (any.Mutator m)) e holds =
      stays_risen b execution (record execution { core = happened any_machine execution.core (Out n) (Some (any.Mutator m)) }) (ap (λ core. record execution { core = core }) (spare_stays execution.core n m e)) holds
  spare_kept execution n (Some (any.Decrementer d)) e holds =
      let at = helper_at execution.core.actors n d e in
      let stay = (hints_stay (limits_of b) d (holds.1.decrementers at.number d at.stands)).spared in
      (hint_kept b execution n d (decrementer_machine.spared d).0 holds e stay.0 stay.1, λ c. omega arith)
  spare_kept execution n (Some (any.Tracer d)) e holds =
      let at = tracer_at execution.core.actors n d e in
      let stay = (tracer_hints_stay (limits_of b) d (holds.1.tracers at.number d at.stands)).spared in
      (tracer_hint_kept b execution n d (tracer_machine.spared d).0 holds e stay.0 stay.1, λ c. omega arith)

  -- an operation that a mutator takes
  taken_kept : (execution : Execution) (cleared : List Field) (n : ℕ) (m m' : Mutating) → IsExecution b execution cleared → slice_get execution.core.actors n ≡ Some (any.Mutator m)
      → OrdersStep b (epoch_state_of b execution cleared) n m' → HoldsExecution b (record execution { core = core_of execution.core.words (slice_set execution.core.actors n (any.Mutator m')) })
  taken_kept execution cleared n m m' is there by =
      let s : EpochState = epoch_state_of b execution cleared in
      let actors : List AnyActor = execution.core.actors in
      let put = mutators_put actors n m m' is.order there in
      let stay = helpers_stay actors n m m' there in
      let beside = tracers_stay actors n m m' there in
      let thread_states = sym (map-set (shown_in execution.history) (mutators_in actors) n m') ∙ ap (map (shown_in execution.history)) (sym put) in
      let same = epoch_state_same (record s { thread_states = slice_set s.thread_states n (shown_in execution.history m') }) s.tables (map (shown_in execution.history) (mutators_in (slice_set actors n (any.Mutator m'))))
      (map decrementing_of (decrementers_in (slice_set actors n (any.Mutator m')))) (map tracing_of (tracers_in (slice_set actors n (any.Mutator m'))))
      s.history s.at refl thread_states (ap (map decrementing_of) (sym stay)) (ap (map tracing_of) (sym beside)) refl refl in (
        cleared,
        record {
          epoch = subst (IsEpoch b) same by.epoch;
          size = is.size;
          order = put_order actors n (any.Mutator m) (any.Mutator m') there (two_mutators m m') is.order;
          mutators = subst (λ ms. (i : ℕ) (x : Mutating) → slice_get ms i ≡ Some x → IsMutatorOf (limits_of b) x) (sym put) (each_set (IsMutatorOf (limits_of b)) (mutators_in actors) n m' by.mutator is.mutators);
          told = subst (λ ms. (i : ℕ) (x : Mutating) → slice_get ms i ≡ Some x → HasTold execution.history x) (sym put) (each_set (HasTold execution.history) (mutators_in actors) n m' by.told is.told);
          decrementers = subst (λ ds. (i : ℕ) (x : DecrementerState) → slice_get ds i ≡ Some x → IsDecrementerOf (limits_of b) x) (sym stay) is.decrementers;
          tracers = subst (λ ts. (i : ℕ) (x : TracerState) → slice_get ts i ≡ Some x → IsTracerOf (limits_of b) x) (sym beside) is.tracers;
        },
      )

  -- an operation that the actor of a number is ordered keeps it
  order_kept : (execution : Execution) (n : ℕ) (op : Op) (o : Option AnyActor) → slice_get execution.core.actors n ≡ o → HoldsExecution b execution
      → HoldsRisen b execution (record execution { core = happened any_machine execution.core (Order n op) o })
  order_kept execution n op None e holds = (holds, λ c. omega arith)
  order_kept execution n op (Some (any.Mutator m)) e holds =
      let shows = shows_as b execution holds.0 n m holds.1 e in (
        taken_kept execution holds.0 n m (mutator_machine.ordered m op).0 holds.1 e (order_step b (epoch_state_of b execution holds.0) execution.core.words n m op shows),
        λ c. omega arith,
      )
  order_kept execution n op (Some (any.Decrementer d)) e holds =
      stays_risen b execution (record execution { core = happened any_machine execution.core (Order n op) (Some (any.Decrementer d)) })
      (ap (λ actors. record execution { core = core_of execution.core.words actors }) (set_itself execution.core.actors n (any.Decrementer d) e)) holds
  order_kept execution n op (Some (any.Tracer d)) e holds =
      stays_risen b execution (record execution { core = happened any_machine execution.core (Order n op) (Some (any.Tracer d)) })
      (ap (λ actors. record execution { core = core_of execution.core.words actors }) (set_itself execution.core.actors n (any.Tracer d) e)) holds

  -- each event keeps it
  event_kept : (execution : Execution) (e : Event) → HoldsExecution b execution → HoldsRisen b execution (tell b execution e)
  event_kept execution (Step n) holds = number_kept execution n (slice_get execution.core.actors n) refl holds
  event_kept execution (Give n place) holds = offer_kept execution n place (slice_get execution.core.actors n) refl holds
  event_kept execution (Out n) holds = spare_kept execution n (slice_get execution.core.actors n) refl holds
  event_kept execution (Order n op) holds = order_kept execution n op (slice_get execution.core.actors n) refl holds

  -- each schedule keeps it
  pub all_kept : (execution : Execution) (schedule : List Event) → HoldsExecution b execution → HoldsRisen b execution (tell_all b execution schedule)
  all_kept execution [] holds = (holds, λ c. omega arith)
  all_kept execution (e ∷ es) holds =
      let first = event_kept execution e holds in
      let rest = all_kept (tell b execution e) es first.0 in
      (rest.0, λ c. (let low = first.1 c in let high = rest.1 c in omega (arith, low, high)))

  -- the core is that of the fold
  pub same_core : (execution : Execution) (schedule : List Event) → (tell_all b execution schedule).core ≡ run any_machine execution.core schedule
  same_core execution [] = refl
  same_core execution (e ∷ es) = same_core (tell b execution e) es

  -- each next step fits
  fits_now : (execution : Execution) (n : ℕ) (a : AnyActor) → HoldsExecution b execution → slice_get execution.core.actors n ≡ Some a → Fits any_machine execution.core.words a
  fits_now execution n (any.Mutator m) holds there act e =
      (any_step b (epoch_state_of b execution holds.0) execution.core.words n m (shows_as b execution holds.0 n m holds.1 there) (subst IsSome (sym e) refl)).leads.fits act e
  fits_now execution n (any.Decrementer d) holds there act e =
      let at = helper_at execution.core.actors n d there in
      (helper_step b (epoch_state_of b execution holds.0) execution.core.words at.number d (shows_decrementer b execution holds.0 n d holds.1 at) (subst IsSome (sym e) refl)).fits act e
  fits_now execution n (any.Tracer d) holds there act e =
      let at = tracer_at execution.core.actors n d there in
      (tracer_step b (epoch_state_of b execution holds.0) execution.core.words at.number d (shows_tracer b execution holds.0 n d holds.1 at) (subst IsSome (sym e) refl)).fits act e

  -- after every schedule
  fits_always : (execution : Execution) → HoldsExecution b execution → AlwaysFits any_machine execution.core
  unfolding AlwaysFits
  fits_always execution holds schedule n =
      subst (λ core. FitsAt any_machine core n) (same_core execution schedule)
      (λ a there. fits_now (tell_all b execution schedule) n a (all_kept execution schedule holds).0 there)

-- the law
pub epoch_invariant_holds : EpochInvariantHolds
epoch_invariant_holds b execution schedule holds =
    let kept = all_kept b execution schedule holds in
    record {
      holds = kept.0;
      core = same_core b execution schedule;
      risen = kept.1;
      fits = fits_always b execution holds;
    }
