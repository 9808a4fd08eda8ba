-- From actors at rest in an epoch to the epoch's safepoint before a pause; where that pause is wanted, it has a cause.
use Rattle.std.proofs.Common.{◌≡◌, ◌≢◌, ℕ, zero, suc, ◌+◌, ◌*◌, ◌≤◌, refl, sym, ap, subst, ◌∙◌, inl, inr, ◌⊎◌, arith, false, true, List, [], ◌∷◌, length, map, take}
use Rattle.std.specs.Prelude.{Option, Some, None, ◌||◌, slice_get}
use Rattle.std.specs.List.{list_any}
use Rattle.std.proofs.lemmas.List.{length-map}
use Rattle.std.proofs.lemmas.List.Folds.{flat_map-map}
use Rattle.std.proofs.lemmas.Option.{slice_get_within}
use Rattle.lxr_layout.specs.declared.TheConstants.{PAUSE_WORD, REGISTERS, REMEMBERED_CURSOR}
use Rattle.lxr_layout.specs.declared.limits.Limits.{Limits}
use Rattle.lxr_layout.specs.declared.runs.LogEntry.{LogEntry}
use Rattle.lxr_layout.specs.declared.Place.{Place}
use Rattle.lxr_base.specs.Roomy.{Roomy}
use Rattle.lxr_graph.specs.History.{Item, calls_of, replies_of}
use Rattle.lxr_image.specs.declared.space.Space.{Space}
use Rattle.lxr_image.specs.declared.space.Tally.{Tally}
use Rattle.lxr_image.specs.Registers.{Registers}
use Rattle.lxr_image.specs.Tables.{Tables, tables_in}
use Rattle.lxr_image.specs.Spaces.{tables_of}
use Rattle.lxr_model.specs.Belongs.{HasCause, has_asked}
use Rattle.lxr_model.specs.Moments.{Field}
use Rattle.lxr_mutator.specs.declared.phases.MutEnd.{MutEnd}
use Rattle.lxr_mutator.specs.declared.phases.MutEnd.TheVariants as ends
use Rattle.lxr_mutator.specs.declared.phases.MutatorPhase.{MutatorPhase}
use Rattle.lxr_mutator.specs.declared.phases.MutatorPhase.TheVariants as phase
use Rattle.lxr_actor.specs.declared.Core.{Core}
use Rattle.lxr_model.specs.Kinds.{collect_called}
use Rattle.lxr_mutator.specs.Mutating.{IsWaiting, Mutating, has_collected, rests_in, tally_of}
use Rattle.lxr_mutator.specs.Mutators.{IsIn, IsThrough, no_spans}
use Rattle.lxr_mutator.specs.Naming.{all_told_as}
use Rattle.lxr_mutator.specs.Steps.{shape_now}
use Rattle.lxr_decrement.specs.declared.phases.DecrementerPhase.{DecrementerPhase}
use Rattle.lxr_decrement.specs.declared.phases.DecrementerPhase.TheVariants as dec_phase
use Rattle.lxr_decrement.specs.Decrementing.{DecrementerState}
use Rattle.lxr_decrement.specs.Decrementing as decrement
use Rattle.lxr_decrement.specs.Steps.{decrementer_machine}
use Rattle.lxr_trace.specs.declared.phases.TracerPhase.{TracerPhase}
use Rattle.lxr_trace.specs.declared.phases.TracerPhase.TheVariants as trace_phase
use Rattle.lxr_trace.specs.Tracing.{TracerState}
use Rattle.lxr_trace.specs.Tracing as trace
use Rattle.lxr_trace.specs.Steps.{tracer_machine}
use Rattle.lxr_core_access.specs.Decrementers as decrementing
use Rattle.lxr_core_access.specs.Tracers as tracing
use Rattle.lxr_core_invariant.specs.ThreadStates.{Reason, Stage, ThreadState, Through, all_of}
use Rattle.lxr_core_invariant.specs.ThreadStates as why
use Rattle.lxr_core_invariant.proofs.ObjectLemmas.{extends_before}
use Rattle.lxr_core_invariant.specs.EpochStates.{objects_before, Beginning, EpochState, limits_of}
use Rattle.lxr_core_invariant.specs.Called.{IsWithinTurn, HasReason}
use Rattle.lxr_core_invariant.specs.Logged.{logs_of}
use Rattle.lxr_core_invariant.specs.Epoch.{AreResting as StatesRest, DecrementersRest, IsEpoch, IsResting, TracersRest}
use Rattle.lxr_core_invariant.specs.Laws.{AllRest}
use Rattle.lxr_core_invariant.specs.Through.{IsAsHistory, IsPauseWanted as StateWantsPause}
use Rattle.lxr_core_inv_counts.proofs.KeepingLemmas.{closing_counts}
use Rattle.lxr_core_inv_trace.proofs.InsideKeepingLemmas.{closing_inside}
use Rattle.lxr_core_inv_trace.proofs.RememberedSafepointLemmas.{closing_remembered}
use Rattle.lxr_core_inv_trace.proofs.SnapshotSafepointLemmas.{closing_cover}
use Rattle.lxr_core_inv_history.proofs.EndLemmas.{ends_are_counted}
use Rattle.lxr_core_inv_history.proofs.ThroughLemmas.{rest_is_history, wanted_has_cause}
use Rattle.lxr_core_inv_memory.proofs.ClosingLemmas.{all_blocks_are_taken}
use Rattle.lxr_core_inv_heap.proofs.LogsClosingLemmas.{closing_logs}
use Rattle.lxr_core_close.specs.HandingOut.{AreHandedOut, DrawnIsOut, IsDrawnLine, MayHandOut, drawn_blocks, drawn_runs}
use Rattle.lxr_invariant.specs.Lines.{NoneChosen}
use Rattle.lxr_core_close.specs.Safepoint.{HasClosingTrace, HasCollected, registers_of}
use Rattle.lxr_core_close.specs.Cause.{script_in}
use Rattle.lxr_core_close.proofs.SafepointLemmas.{closing_reaches_safepoint, drawn_may_be_handed_out, drawn_was_free}
use Rattle.lxr_core_close.proofs.CauseLemmas.{cause_follows}
use Rattle.lxr_core_close.proofs.ProgressLemmas.{epoch_has_progress}
use Rattle.lxr_core_sim_mutator.specs.Showing.{HasTold, IsMutatorOf, IsNew, IsSteadyIn, reason_by, stage_in, thread_state_of, told_in}
use Rattle.lxr_core_sim_helpers.specs.DecrementerShowing.{IsDecrementerOf, decrementing_in, decrementing_of}
use Rattle.lxr_core_sim_helpers.specs.TracerShowing.{IsTracerOf, tracing_in, tracing_of}
use Rattle.lxr_core.specs.declared.actors.AnyActor.{AnyActor}
use Rattle.lxr_core.specs.declared.actors.AnyActor.TheVariants as any
use Rattle.lxr_core.specs.Actors.{AreInOrder, decrementers_in, mutators_in, script_of, tracers_in}
use Rattle.lxr_core.specs.Executions.{IsExecution, Execution, epoch_state_of}
use Rattle.lxr_core.specs.Resting.{ActorsRestAfter, HelperRests, RestAfter, RestsAfter, TracerRests}
use Rattle.lxr_core.specs.Collecting.{HaveGiven, MayAllGive, actor_given_up, all_entries, all_registers, given_up, holding, loads_of, news_of, stores_of, tally_with}
use Rattle.lxr_core.specs.Closing.{AreFinished, AreResting, Closes, HasProgress, IsPauseExplained, IsPauseWanted, MayClose}
use Rattle.lxr_core.specs.Ordering.{AreFull, ordered_in, orders_of}
use Rattle.lxr_core.proofs.CollectedLemmas.{collected_is_told}
use Rattle.lxr_core.proofs.CollectingLemmas.{all_given, holds_all}
use Rattle.lxr_core.proofs.MappedLemmas.{first_item, mapped, mapped_from, same_by_index}
use Rattle.lxr_core.proofs.OpenedLemmas.{waits_for_new}
use Rattle.lxr_core.proofs.ScriptLemmas.{full_as, one_script}
use Rattle.lxr_core.proofs.ToldLemmas.{all_shown_told, all_told_collect, shown_in, shown_told, told_as_kept, told_end, told_length, told_state}
use Rattle.lxr_core.proofs.OrderLemmas.{SameKind, alike_order, helper_from, mutator_from, tracer_from, two_helpers, two_mutators, two_tracers}

-- ---- what is known where an epoch may be closed

-- the epoch state of the epoch's end, with the space and the actors that show it
pub record IsEnd (b : Beginning) (s : EpochState) (space : Space) (actors : List AnyActor) : Type 0 where
  pub epoch : IsEpoch b s
  pub tables : tables_of space ≡ s.tables
  pub thread_states : s.thread_states ≡ map (told_state s.history) (mutators_in actors)
  pub decrementers : s.decrementers ≡ map decrementing_of (decrementers_in actors)
  pub tracers : s.tracers ≡ map tracing_of (tracers_in actors)
  pub order : AreInOrder actors
  pub mutators : (i : ℕ) (m : Mutating) → slice_get (mutators_in actors) i ≡ Some m → IsMutatorOf (limits_of b) m
  pub told : (i : ℕ) (m : Mutating) → slice_get (mutators_in actors) i ≡ Some m → HasTold s.history m
  pub helpers : (i : ℕ) (d : DecrementerState) → slice_get (decrementers_in actors) i ≡ Some d → IsDecrementerOf (limits_of b) d
  pub are_tracers : (i : ℕ) (d : TracerState) → slice_get (tracers_in actors) i ≡ Some d → IsTracerOf (limits_of b) d
  pub space_is : space ≡ record b.space { words = space.words }
  pub resting : AreResting actors

-- it is that of an execution whose core they are
pub is_end : (b : Beginning) (execution : Execution) (cleared : List Field) (space : Space) (actors : List AnyActor) → MayClose b execution space actors → IsExecution b execution cleared → IsEnd b (epoch_state_of b execution cleared) space actors
is_end b execution cleared space actors may is =
    let words : execution.core.words ≡ space.words = ap (λ c. c.words) may.core in
    let held : execution.core.actors ≡ actors = ap (λ c. c.actors) may.core in
    record {
      epoch = is.epoch;
      tables = ap (λ (l : Limits). tables_in l space.words) (ap (λ (z : Space). z.limits) may.space_is) ∙ ap (tables_in (limits_of b)) (sym words);
      thread_states = all_shown_told execution.history (mutators_in execution.core.actors) is.told ∙ ap (λ z. map (told_state execution.history) (mutators_in z)) held;
      decrementers = ap (λ z. map decrementing_of (decrementers_in z)) held;
      tracers = ap (λ z. map tracing_of (tracers_in z)) held;
      order = subst AreInOrder held is.order;
      mutators = λ i m there. is.mutators i m (ap (λ z. slice_get (mutators_in z) i) held ∙ there);
      told = λ i m there. is.told i m (ap (λ z. slice_get (mutators_in z) i) held ∙ there);
      helpers = λ i d there. is.decrementers i d (ap (λ z. slice_get (decrementers_in z) i) held ∙ there);
      are_tracers = λ i d there. is.tracers i d (ap (λ z. slice_get (tracers_in z) i) held ∙ there);
      space_is = may.space_is;
      resting = may.resting;
    }

-- the thread state of a mutator
shown_end : (b : Beginning) (s : EpochState) (space : Space) (actors : List AnyActor) (i : ℕ) (m : Mutating) → IsEnd b s space actors → slice_get (mutators_in actors) i ≡ Some m → slice_get s.thread_states i ≡ Some (told_state s.history m)
shown_end b s space actors i m is there = ap (λ z. slice_get z i) is.thread_states ∙ mapped (told_state s.history) (mutators_in actors) i m there

-- whose thread state it is
shown_of : (b : Beginning) (s : EpochState) (space : Space) (actors : List AnyActor) (i : ℕ) (v : ThreadState) → IsEnd b s space actors → slice_get s.thread_states i ≡ Some v
    → (m : Mutating) × (slice_get (mutators_in actors) i ≡ Some m) × (v ≡ told_state s.history m)
shown_of b s space actors i v is shown = mapped_from (told_state s.history) (mutators_in actors) i v (sym (ap (λ z. slice_get z i) is.thread_states) ∙ shown)

-- a mutator rests, and so do a decrementer and a tracer
mutator_rests : (b : Beginning) (s : EpochState) (space : Space) (actors : List AnyActor) (i : ℕ) (m : Mutating) → IsEnd b s space actors → slice_get (mutators_in actors) i ≡ Some m → rests_in m.phase ≡ true
mutator_rests b s space actors i m is there = is.resting i (any.Mutator m) (mutator_from actors i m is.order there)

helper_rests : (b : Beginning) (s : EpochState) (space : Space) (actors : List AnyActor) (i : ℕ) (d : DecrementerState) → IsEnd b s space actors → slice_get (decrementers_in actors) i ≡ Some d → decrementer_machine.rests d ≡ true
helper_rests b s space actors i d is there = let (n, at) = helper_from actors i d there in is.resting n (any.Decrementer d) at

tracer_rests : (b : Beginning) (s : EpochState) (space : Space) (actors : List AnyActor) (i : ℕ) (d : TracerState) → IsEnd b s space actors → slice_get (tracers_in actors) i ≡ Some d → tracer_machine.rests d ≡ true
tracer_rests b s space actors i d is there = let (n, at) = tracer_from actors i d there in is.resting n (any.Tracer d) at

-- so their stages do
stage_rests : (m : Mutating) (p : MutatorPhase) → rests_in p ≡ true → IsResting (stage_in m p)
stage_rests m phase.Ready rests = tt
stage_rests m phase.Finished rests = tt
stage_rests m p rests = absurd (cc)

decrementing_rests : (p : DecrementerPhase) → decrement.rests_in p ≡ true → decrementing_in p ≡ decrementing.Rests
decrementing_rests dec_phase.Resting rests = refl
decrementing_rests p rests = absurd (cc)

tracing_rests : (p : TracerPhase) → trace.rests_in p ≡ true → tracing_in p ≡ tracing.Rests
tracing_rests trace_phase.Resting rests = refl
tracing_rests p rests = absurd (cc)

-- all rest
states_rest : (b : Beginning) (s : EpochState) (space : Space) (actors : List AnyActor) → IsEnd b s space actors → StatesRest s
states_rest b s space actors is i v shown =
    let (m, there, same) = shown_of b s space actors i v is shown in
    subst (λ (w : ThreadState). IsResting w.stage) (sym same) (stage_rests m m.phase (mutator_rests b s space actors i m is there))

-- all decrementers are between two units, and so are all tracers
all_helpers_rest : (b : Beginning) (s : EpochState) (space : Space) (actors : List AnyActor) → IsEnd b s space actors → DecrementersRest s
all_helpers_rest b s space actors is i shows at =
    let (d, there, same) = mapped_from decrementing_of (decrementers_in actors) i shows (sym (ap (λ z. slice_get z i) is.decrementers) ∙ at) in
    same ∙ decrementing_rests d.phase (helper_rests b s space actors i d is there)

all_tracers_rest : (b : Beginning) (s : EpochState) (space : Space) (actors : List AnyActor) → IsEnd b s space actors → TracersRest s
all_tracers_rest b s space actors is i shows at =
    let (d, there, same) = mapped_from tracing_of (tracers_in actors) i shows (sym (ap (λ z. slice_get z i) is.tracers) ∙ at) in
    same ∙ tracing_rests d.phase (tracer_rests b s space actors i d is there)

-- all actors are
all_actors_rest : (b : Beginning) (s : EpochState) (space : Space) (actors : List AnyActor) → IsEnd b s space actors → AllRest s
all_actors_rest b s space actors is = record { mutators = states_rest b s space actors is; decrementers = all_helpers_rest b s space actors is; tracers = all_tracers_rest b s space actors is }

-- the stage of one that is through
stage_end : (m : Mutating) → m.phase ≡ phase.Finished → stage_in m m.phase ≡ Through (reason_by m.end)
stage_end m finished = ap (stage_in m) finished

-- why it is through is so
reason_so : (b : Beginning) (s : EpochState) (space : Space) (actors : List AnyActor) (i : ℕ) (m : Mutating) → IsEnd b s space actors → slice_get (mutators_in actors) i ≡ Some m → m.phase ≡ phase.Finished
    → HasReason s (told_state s.history m) (reason_by m.end)
reason_so b s space actors i m is there finished =
    (subst (IsWithinTurn s (told_state s.history m)) (stage_end m finished) (is.epoch.called.each i (told_state s.history m) (shown_end b s space actors i m is there)).within_turn).2

-- there are as many mutators as threads
mutator_count : (b : Beginning) (s : EpochState) (space : Space) (actors : List AnyActor) → IsEnd b s space actors → length (mutators_in actors) ≡ (limits_of b).threads
mutator_count b s space actors is = sym (length-map (mutators_in actors) (told_state s.history)) ∙ ap length (sym is.thread_states) ∙ is.epoch.called.as_many

-- ---- collecting

-- its log has the room of all logs
log_room : (b : Beginning) (s : EpochState) (space : Space) (actors : List AnyActor) (i : ℕ) (m : Mutating) → IsEnd b s space actors → slice_get (mutators_in actors) i ≡ Some m
    → (m.log.room ≡ (limits_of b).log) × (length m.log.items ≤ m.log.room)
log_room b s space actors i m is there = is.epoch.logged.rooms i (told_state s.history m) (shown_end b s space actors i m is there)

-- the space has 256 registers for each mutator
register_count : (b : Beginning) (s : EpochState) (space : Space) (actors : List AnyActor) → IsEnd b s space actors → length space.registers.items ≡ REGISTERS * length (mutators_in actors)
register_count b s space actors is =
    ap (λ (z : Space). length z.registers.items) is.space_is ∙ is.epoch.begins.between.safepoint.holds.as_many.0 ∙ ap (λ n. REGISTERS * n) (sym (mutator_count b s space actors is))

-- all actors may give up what they have, and the space has room for it
pub may_all_give : (b : Beginning) (s : EpochState) (space : Space) (actors : List AnyActor) → IsEnd b s space actors → MayAllGive space actors
may_all_give b s space actors is =
    let opened = is.epoch.begins.between.safepoint.holds in
    let many = mutator_count b s space actors is in
    let few = opened.space.limits.threads.1 in
    let limits : space.limits ≡ limits_of b = ap (λ (z : Space). z.limits) is.space_is in
    let logged : space.logged.room ≡ (limits_of b).threads * (limits_of b).log = ap (λ (z : Space). z.logged.room) is.space_is ∙ opened.room.logged in
    let entries : length (mutators_in actors) * space.limits.log ≡ (limits_of b).threads * (limits_of b).log = ap (λ n. n * space.limits.log) many ∙ ap (λ (l : Limits). (limits_of b).threads * l.log) limits in
    let log : space.limits.log ≡ (limits_of b).log = ap (λ (l : Limits). l.log) limits in
    record {
      order = is.order;
      threads = λ i x there. is.epoch.called.threads i (told_state s.history x) (shown_end b s space actors i x is there);
      few = omega (arith, many, few);
      registers = register_count b s space actors is;
      width = ap (λ (z : Space). z.registers.width) is.space_is ∙ opened.room.registers ∙ ap (λ (l : Limits). l.registers) (sym limits);
      logged = omega (arith, entries, logged);
      each = λ i x there.
          let m = is.mutators i x there in
          let room = log_room b s space actors i x is there in
          let fits = room.1 in let same = room.0 in
          let replies = m.sound.few_replies in let replies_room = m.sound.setup.room in let most = m.sound.setup.most in
          record {
            rests = mutator_rests b s space actors i x is there;
            as_many = m.sound.registers.as_many;
            width = m.width ∙ ap (λ (l : Limits). l.registers) (sym limits);
            log = omega (arith, fits, same, log);
            replies = omega (arith, replies, replies_room, most);
          };
    }

-- what is collected is that of all thread states
same_registers : (h : List Item) (mutators : List Mutating) → all_registers mutators ≡ registers_of (map (told_state h) mutators)
same_registers h mutators = sym (flat_map-map (λ (v : ThreadState). v.registers) (told_state h) mutators)

-- so it is with entries
same_entries : (h : List Item) (mutators : List Mutating) → all_entries mutators ≡ logs_of (map (told_state h) mutators)
same_entries h mutators = sym (flat_map-map (λ (v : ThreadState). v.log.items) (told_state h) mutators)

-- a space that has what the actors had has collected it
pub is_collected : (b : Beginning) (s : EpochState) (space now : Space) (actors : List AnyActor) → IsEnd b s space actors → now ≡ holding space (mutators_in actors) → HasCollected b s now
is_collected b s space now actors is has = record {
  tables = ap tables_of has ∙ is.tables;
  registers = ap (λ (z : Space). z.registers) has ∙ ap (places_in space) (holds_all space (mutators_in actors) (register_count b s space actors is))
      ∙ ap (λ (z : Space). places_in z (all_registers (mutators_in actors))) is.space_is ∙ ap (places_in b.space) (same_registers s.history (mutators_in actors) ∙ ap registers_of (sym is.thread_states));
  logged = ap (λ (z : Space). z.logged) has ∙ ap (λ (z : Space). entries_in z (all_entries (mutators_in actors))) is.space_is ∙ ap (entries_in b.space) (same_entries s.history (mutators_in actors) ∙ ap logs_of (sym is.thread_states));
  rest = has ∙ subst (λ z. holding z (mutators_in actors) ≡ refitted (holding z (mutators_in actors))) (sym is.space_is) refl ∙ ap refitted (sym has);
}
  where
    refitted : Space → Space
    refitted z = record b.space { words = z.words; registers = z.registers; logged = z.logged; tally = z.tally }

    places_in : Space → List Place → Registers
    places_in z items = record z.registers { items = items }

    entries_in : Space → List LogEntry → Roomy LogEntry
    entries_in z items = record z.logged { items = items }

-- what was drawn may be handed out
pub may_hand_out : (b : Beginning) (s : EpochState) (space now : Space) (actors : List AnyActor) → IsEnd b s space actors → now ≡ holding space (mutators_in actors) → MayHandOut b.space now
may_hand_out b s space now actors is has = drawn_may_be_handed_out b s now is.epoch (is_collected b s space now actors is has)

-- ---- the actors

-- all actors have given up what they had
pub all_gave : (start : Space) (before : List AnyActor) (now : Space) (after : List AnyActor) → HaveGiven start before now after (length before) → after ≡ map actor_given_up before
all_gave start before now after is = same_by_index after (map actor_given_up before) (is.as_many ∙ sym (length-map before actor_given_up)) (λ i x e.
    let (a, there, same) = mapped_from actor_given_up before i x e in
    is.given i a there (slice_get_within before i a there) ∙ ap Some (sym same))

-- the mutators have, and the helpers are those that they were
pub given_mutators : (actors : List AnyActor) → mutators_in (map actor_given_up actors) ≡ map given_up (mutators_in actors)
given_mutators [] = refl
given_mutators (any.Mutator m ∷ actors) = ap (λ z. given_up m ∷ z) (given_mutators actors)
given_mutators (any.Decrementer d ∷ actors) = given_mutators actors
given_mutators (any.Tracer d ∷ actors) = given_mutators actors

pub given_helpers : (actors : List AnyActor) → decrementers_in (map actor_given_up actors) ≡ decrementers_in actors
given_helpers [] = refl
given_helpers (any.Mutator m ∷ actors) = given_helpers actors
given_helpers (any.Decrementer d ∷ actors) = ap (λ z. d ∷ z) (given_helpers actors)
given_helpers (any.Tracer d ∷ actors) = given_helpers actors

pub given_tracers : (actors : List AnyActor) → tracers_in (map actor_given_up actors) ≡ tracers_in actors
given_tracers [] = refl
given_tracers (any.Mutator m ∷ actors) = given_tracers actors
given_tracers (any.Decrementer d ∷ actors) = given_tracers actors
given_tracers (any.Tracer d ∷ actors) = ap (λ z. d ∷ z) (given_tracers actors)

-- so they are in order
given_order : (actors : List AnyActor) → AreInOrder actors → AreInOrder (map actor_given_up actors)
given_order actors order = alike_order actors (map actor_given_up actors) (record {
  as_many = length-map actors actor_given_up;
  each = λ i a there. (actor_given_up a, mapped actor_given_up actors i a there, of_kind a);
}) order
  where
    of_kind : (a : AnyActor) → SameKind a (actor_given_up a)
    of_kind (any.Mutator m) = two_mutators m (given_up m)
    of_kind (any.Decrementer d) = two_helpers d d
    of_kind (any.Tracer d) = two_tracers d d

-- their operations and what those did are what they were
same_orders : (ms : List Mutating) → orders_of (map given_up ms) ≡ orders_of ms
same_orders [] = refl
same_orders (m ∷ ms) = ap (λ z. ordered_in m ∷ z) (same_orders ms)

shown_script : (h : List Item) (ms : List Mutating) → script_of ms ≡ script_in (map (told_state h) ms)
shown_script h [] = refl
shown_script h (m ∷ ms) = ap (λ z. m.operations ∷ z) (shown_script h ms)

-- so they made as many objects
same_news : (ms : List Mutating) → news_of (map given_up ms) ≡ news_of ms
same_news [] = refl
same_news (m ∷ ms) = ap (λ z. (tally_of m.replies.items).news + z) (same_news ms)

-- they loaded as many references
same_loads : (ms : List Mutating) → loads_of (map given_up ms) ≡ loads_of ms
same_loads [] = refl
same_loads (m ∷ ms) = ap (λ z. (tally_of m.replies.items).loads + z) (same_loads ms)

-- they stored as many
same_stores : (ms : List Mutating) → stores_of (map given_up ms) ≡ stores_of ms
same_stores [] = refl
same_stores (m ∷ ms) = ap (λ z. (tally_of m.replies.items).stores + z) (same_stores ms)

-- and a tally with them is the same
same_tally : (t : Tally) (ms : List Mutating) → tally_with t ms ≡ tally_with t (map given_up ms)
same_tally t ms =
    ap (λ z. sums t z (loads_of ms) (stores_of ms)) (sym (same_news ms))
    ∙ ap (λ z. sums t (news_of (map given_up ms)) z (stores_of ms)) (sym (same_loads ms))
    ∙ ap (λ z. sums t (news_of (map given_up ms)) (loads_of (map given_up ms)) z) (sym (same_stores ms))
  where
    sums : Tally → ℕ → ℕ → ℕ → Tally
    sums z news loads stores = record z { news = news; loads = loads; stores = stores }

-- in a phase of rest nothing is asked of logs and spans
rest_is_in : (m : Mutating) (p : MutatorPhase) → rests_in p ≡ true → IsIn m.regions (given_up m).log no_spans (shape_now (given_up m)) p
rest_is_in m phase.Ready rests = tt
rest_is_in m phase.Finished rests = tt
rest_is_in m p rests = absurd (cc)

-- and what is kept of an operation is kept
rest_is_steady : (m : Mutating) (p : MutatorPhase) → rests_in p ≡ true → IsSteadyIn m p → IsSteadyIn (given_up m) p
rest_is_steady m phase.Ready rests steady = steady
rest_is_steady m phase.Finished rests steady = steady
rest_is_steady m p rests steady = absurd (cc)

-- a mutator that rests is one still, once it has given up what it had
mutator_still : (l : Limits) (m : Mutating) → IsMutatorOf l m → rests_in m.phase ≡ true → IsMutatorOf l (given_up m)
mutator_still l m is rests =
    let sound = is.sound in
    record {
      sound = record {
        setup = sound.setup;
        registers = sound.registers;
        spans = (omega arith, omega arith);
        few_replies = sound.few_replies;
        replies = sound.replies;
        busy = sound.busy;
        waits = sound.waits;
        since = sound.since;
        phase = rest_is_in m m.phase rests;
      };
      regions = is.regions;
      width = is.width;
      steady = rest_is_steady m m.phase rests is.steady;
    }

-- where its end is done, all operations and the end have replies
ended_all : (b : Beginning) (s : EpochState) (space : Space) (actors : List AnyActor) (i : ℕ) (m : Mutating) (p : MutatorPhase) → IsEnd b s space actors → slice_get (mutators_in actors) i ≡ Some m
    → m.phase ≡ p → rests_in p ≡ true → IsSteadyIn m p → m.end ≡ Some ends.Ended → length m.replies.items ≡ length m.operations + 1
ended_all b s space actors i m phase.Ready is there at rests steady ended = absurd (steady.0 ended)
ended_all b s space actors i m phase.Finished is there at rests steady ended =
    sym (told_length s.history m (is.told i m there)) ∙ subst (λ (z : Reason). HasReason s (told_state s.history m) z) (ap reason_by ended) (reason_so b s space actors i m is there at)
ended_all b s space actors i m p is there at rests steady ended = absurd (cc)

-- it rests for the history
rests_after : (b : Beginning) (s : EpochState) (space : Space) (actors : List AnyActor) (i : ℕ) (m : Mutating) → IsEnd b s space actors → slice_get (mutators_in actors) i ≡ Some m
    → RestsAfter (limits_of b) b.every s.history (i + 1) (given_up m)
rests_after b s space actors i m is there =
    let shown = shown_end b s space actors i m is there in
    let has = is.epoch.called.each i (told_state s.history m) shown in
    let thread : m.thread ≡ i + 1 = is.epoch.called.threads i (told_state s.history m) shown in
    let done : IsAsHistory s (told_state s.history m) = rest_is_history b s i (told_state s.history m) is.epoch (states_rest b s space actors is) shown in
    let room = (log_room b s space actors i m is there).0 in
    let rests = mutator_rests b s space actors i m is there in
    let told = is.told i m there in
    record {
      mutator = mutator_still (limits_of b) m (is.mutators i m there) rests;
      thread = thread;
      every = has.every;
      log = ap empty room;
      spans = refl;
      rests = rests;
      calls = subst (λ t. calls_of t s.history ≡ take (length m.replies.items) (all_of m.operations)) thread (done.calls ∙ ap (λ n. take n (all_of m.operations)) (told_length s.history m told));
      replies = subst (λ t. all_told_as m.names (replies_of t s.history) ≡ m.replies.items) thread (told_as_kept s.history m told done.replies);
      unnamed = told_end s.history m told;
      began = subst (λ t. m.before ≡ objects_before t s.history) thread (has.began ∙ sym (extends_before (limits_of b).threads b.every b.history s.history m.thread is.epoch.extends));
      ended = ended_all b s space actors i m m.phase is there refl rests (is.mutators i m there).steady;
    }
  where
    empty : ℕ → Roomy LogEntry
    empty room = record { items = []; room = room }

-- all mutators rest for it
mutators_rest : (b : Beginning) (s : EpochState) (space : Space) (actors : List AnyActor) → IsEnd b s space actors → RestAfter (limits_of b) b.every s.history (map given_up (mutators_in actors))
mutators_rest b s space actors is = record {
  as_many = length-map (mutators_in actors) given_up ∙ mutator_count b s space actors is;
  each = λ i x e.
      let (m, there, same) = mapped_from given_up (mutators_in actors) i x e in
      subst (RestsAfter (limits_of b) b.every s.history (i + 1)) (sym same) (rests_after b s space actors i m is there);
}

-- and so do all actors
all_rest : (b : Beginning) (s : EpochState) (space : Space) (actors : List AnyActor) → IsEnd b s space actors → ActorsRestAfter (limits_of b) b.every s.history (map actor_given_up actors)
all_rest b s space actors is = record {
  mutators = subst (RestAfter (limits_of b) b.every s.history) (sym (given_mutators actors)) (mutators_rest b s space actors is);
  helpers = record {
    order = given_order actors is.order;
    each = subst (λ ds. (i : ℕ) (d : DecrementerState) → slice_get ds i ≡ Some d → HelperRests (limits_of b) d) (sym (given_helpers actors))
        (λ i d there. record { decrementer = is.helpers i d there; rests = helper_rests b s space actors i d is there });
    tracers = subst (λ ts. (i : ℕ) (d : TracerState) → slice_get ts i ≡ Some d → TracerRests (limits_of b) d) (sym (given_tracers actors))
        (λ i d there. record { tracer = is.are_tracers i d there; rests = tracer_rests b s space actors i d is there });
  };
}

-- the operations are those that they were, and where there was no room for others, there is none
given_orders : (actors : List AnyActor) → orders_of (mutators_in (map actor_given_up actors)) ≡ orders_of (mutators_in actors)
given_orders actors = ap orders_of (given_mutators actors) ∙ same_orders (mutators_in actors)

pub given_script : (actors : List AnyActor) → script_of (mutators_in (map actor_given_up actors)) ≡ script_of (mutators_in actors)
given_script actors = one_script (mutators_in (map actor_given_up actors)) (mutators_in actors) (given_orders actors)

pub given_full : (actors : List AnyActor) → AreFull (mutators_in actors) → AreFull (mutators_in (map actor_given_up actors))
given_full actors = full_as (mutators_in (map actor_given_up actors)) (mutators_in actors) (given_orders actors)

-- ---- what a pause is wanted for

-- who is through for want of lines waits; who has ended has
no_run : (e : Option MutEnd) → reason_by e ≡ why.NoRun → e ≡ Some ends.NoRun
no_run (Some ends.NoRun) same = refl
no_run (Some ends.LogFull) same = absurd (cc)
no_run (Some ends.Asked) same = absurd (cc)
no_run (Some ends.Ended) same = absurd (cc)
no_run (Some ends.Turns) same = absurd (cc)
no_run (Some (ends.OpDone r)) same = absurd (cc)
no_run None same = absurd (cc)

-- who has ended has done its end
has_ended : (e : Option MutEnd) → reason_by e ≡ why.Ended → e ≡ Some ends.Ended
has_ended (Some ends.NoRun) same = absurd (cc)
has_ended (Some ends.LogFull) same = absurd (cc)
has_ended (Some ends.Asked) same = absurd (cc)
has_ended (Some ends.Ended) same = refl
has_ended (Some ends.Turns) same = absurd (cc)
has_ended (Some (ends.OpDone r)) same = absurd (cc)
has_ended None same = absurd (cc)

-- mutators may do an operation in an epoch
some_turns : (b : Beginning) (s : EpochState) (space : Space) (actors : List AnyActor) → IsEnd b s space actors → 1 ≤ b.every
some_turns b s space actors is =
    let many = mutator_count b s space actors is in
    let some = is.epoch.begins.between.safepoint.holds.space.limits.threads.0 in
    let (m, there) = first_item (mutators_in actors) (omega (arith, many, some)) in
    let turns = (is.mutators 0 m there).sound.setup.every.0 in
    let same = (is.epoch.called.each 0 (told_state s.history m) (shown_end b s space actors 0 m is there)).every in
    omega (arith, turns, same)

-- one thing holds, or each item has another
all_or_one : {X : Type 0} (P : Type 0) (Q : X → Type 0) (xs : List X) → ((i : ℕ) (x : X) → slice_get xs i ≡ Some x → P ⊎ Q x) → P ⊎ ((i : ℕ) (x : X) → slice_get xs i ≡ Some x → Q x)
all_or_one P Q [] each = inr (λ i x e. absurd (cc))
all_or_one P Q (y ∷ xs) each = elim (each 0 y refl) [
  | inl p ↦ inl p
  | inr q ↦ elim (all_or_one P Q xs (λ i x e. each (suc i) x e)) [ inl p ↦ inl p | inr all ↦ inr (each_more Q y xs q all) ]
]
  where
    each_more : {X : Type 0} (Q : X → Type 0) (y : X) (xs : List X) → Q y → ((i : ℕ) (x : X) → slice_get xs i ≡ Some x → Q x) → (i : ℕ) (x : X) → slice_get (y ∷ xs) i ≡ Some x → Q x
    each_more Q y xs q all zero x e = subst Q (let k : y ≡ x = cc in k) q
    each_more Q y xs q all (suc i) x e = all i x e

-- its last unit ended with its end, or not
ended_or_not : (e : Option MutEnd) → (e ≡ Some ends.Ended) ⊎ (e ≢ Some ends.Ended)
ended_or_not (Some ends.Ended) = inl refl
ended_or_not (Some ends.NoRun) = inr (λ e. cc)
ended_or_not (Some ends.LogFull) = inr (λ e. cc)
ended_or_not (Some ends.Asked) = inr (λ e. cc)
ended_or_not (Some ends.Turns) = inr (λ e. cc)
ended_or_not (Some (ends.OpDone r)) = inr (λ e. cc)
ended_or_not None = inr (λ e. cc)

-- where all mutators are through, a pause is wanted
finished_want : (space : Space) (mutators : List Mutating) → AreFinished mutators → IsPauseWanted space mutators
finished_want space mutators finished = inr (all_or_one _ IsThrough mutators (λ i m there. elim (ended_or_not m.end) [
  | inl ended ↦ inr (finished i m there, ended)
  | inr unended ↦ inl (i, m, there, (finished i m there, unended))
]))

-- what is wanted of the space and the mutators is wanted of the epoch state
state_wants : (b : Beginning) (s : EpochState) (space : Space) (actors : List AnyActor) → IsEnd b s space actors → IsPauseWanted space (mutators_in actors) → StateWantsPause s
state_wants b s space actors is (inl set) = inl (ap (λ (t : Tables). t.cursors PAUSE_WORD) (sym is.tables) ∙ set)
state_wants b s space actors is (inr (inl (i, m, there, short))) = inr (inl (i, told_state s.history m, shown_end b s space actors i m is there, (reason_by m.end, stage_end m short.0, λ e. short.1 (has_ended m.end e))))
state_wants b s space actors is (inr (inr through)) = inr (inr (λ i v shown.
    let (m, there, same) = shown_of b s space actors i v is shown in
    let (finished, ended) = through i m there in
    ap (λ (w : ThreadState). w.stage) same ∙ stage_end m finished ∙ ap (λ e. Through (reason_by e)) ended))

-- a stage of rest tells whether a mutator is through, and why
through_told : (m : Mutating) (p : MutatorPhase) (reason : Reason) → rests_in p ≡ true → stage_in m p ≡ Through reason → (p ≡ phase.Finished) × (reason_by m.end ≡ reason)
through_told m phase.Ready reason rests stage = absurd (cc)
through_told m phase.Finished reason rests stage = (refl, (let e : Through (reason_by m.end) ≡ Through reason = stage in cc))
through_told m p reason rests stage = absurd (cc)

-- the epoch has done something
has_progress : (b : Beginning) (execution : Execution) (cleared : List Field) (space : Space) (actors : List AnyActor) → IsEnd b (epoch_state_of b execution cleared) space actors → IsPauseWanted space (mutators_in actors)
    → ((t : ℕ) → has_asked t b.history ≡ false) → HasProgress b execution (map given_up (mutators_in actors))
has_progress b execution cleared space actors is wanted unasked =
    let s : EpochState = epoch_state_of b execution cleared in
    elim (epoch_has_progress b s is.epoch (state_wants b s space actors is wanted) (closing_logs b s is.epoch (states_rest b s space actors is)) unasked (some_turns b s space actors is)) [
      | inl longer ↦ inl longer
      | inr (inl lacks) ↦
          let (m, there, same) = shown_of b s space actors lacks.number lacks.thread_state is lacks.shows in
          let rests = mutator_rests b s space actors lacks.number m is there in
          let told = through_told m m.phase why.NoRun rests (ap (λ (w : ThreadState). w.stage) (sym same) ∙ lacks.stage) in
          inr (inl (lacks.number, given_up m, mapped given_up (mutators_in actors) lacks.number m there, (no_run m.end told.1, rests)))
      | inr (inr ended) ↦ inr (inr (λ i x e.
          let (m, there, same) = mapped_from given_up (mutators_in actors) i x e in
          let stage = ended i (told_state s.history m) (shown_end b s space actors i m is there) in
          let told = through_told m m.phase why.Ended (mutator_rests b s space actors i m is there) stage in
          subst IsThrough (sym same) (told.0, has_ended m.end told.1)))
    ]

-- a pause that is wanted is due
pub pause_due : (b : Beginning) (execution : Execution) (cleared : List Field) (space : Space) (actors : List AnyActor) → IsEnd b (epoch_state_of b execution cleared) space actors → IsPauseWanted space (mutators_in actors)
    → IsPauseExplained b execution (map actor_given_up actors)
pause_due b execution cleared space actors is wanted =
    let s : EpochState = epoch_state_of b execution cleared in
    let rest = states_rest b s space actors is in
    record {
      cause = λ listed terms are legal. subst (λ z. HasCause terms z s.history) (ap script_in is.thread_states ∙ sym (given_script actors ∙ shown_script s.history (mutators_in actors)))
          (cause_follows wanted_has_cause ends_are_counted all_blocks_are_taken b s terms is.epoch listed rest (state_wants b s space actors is wanted) (closing_logs b s is.epoch rest) are legal);
      progress = λ unasked. subst (HasProgress b execution) (sym (given_mutators actors)) (has_progress b execution cleared space actors is wanted unasked);
    }

-- what waits is a `new`
news_wait : (b : Beginning) (s : EpochState) (space : Space) (actors : List AnyActor) → IsEnd b s space actors → (i : ℕ) (m : Mutating) → slice_get (map given_up (mutators_in actors)) i ≡ Some m → IsWaiting m → IsNew m
news_wait b s space actors is i x e waits =
    let (m, there, same) = mapped_from given_up (mutators_in actors) i x e in
    subst IsNew (sym same) (waits_for_new m m.phase (mutator_rests b s space actors i m is there) (is.mutators i m there).steady (subst IsWaiting same waits).0)

-- ---- what was called, and what stays

-- what mutators tell of `collect` stays where they give up what they had
given_collected : (ms : List Mutating) → list_any has_collected (map given_up ms) ≡ list_any has_collected ms
given_collected [] = refl
given_collected (m ∷ ms) = ap (λ c. has_collected m || c) (given_collected ms)

-- as if they told names they show what they show
shown_each : (h : List Item) (ms : List Mutating) → map thread_state_of (map (told_in h) ms) ≡ map (shown_in h) ms
shown_each h [] = refl
shown_each h (m ∷ ms) = ap (λ vs. shown_in h m ∷ vs) (shown_each h ms)

-- they tell whether it was called
collects : (b : Beginning) (s : EpochState) (space : Space) (actors : List AnyActor) → IsEnd b s space actors → collect_called b.history ≡ false → collect_called s.history ≡ list_any has_collected (map given_up (mutators_in actors))
collects b s space actors is none =
    let ms : List Mutating = mutators_in actors in
    let named : List Mutating = map (told_in s.history) ms in
    collected_is_told b s named is.epoch (is.thread_states ∙ sym (all_shown_told s.history ms is.told) ∙ sym (shown_each s.history ms))
    (λ i x there.
    let (m, at, same) = mapped_from (told_in s.history) ms i x there in
    let shown = shown_end b s space actors i m is at ∙ ap Some (sym (shown_told s.history m (is.told i m at)) ∙ ap thread_state_of (sym same)) in
    (shown, states_rest b s space actors is i (thread_state_of x) shown, rest_is_history b s i (thread_state_of x) is.epoch (states_rest b s space actors is) shown))
    (length-map ms (told_in s.history) ∙ mutator_count b s space actors is) none
    ∙ all_told_collect s.history ms is.told
    ∙ sym (given_collected ms)

-- no number of the remembered set is drawn where no block is Chosen
none_remembered : (b : Beginning) (s : EpochState) (now after : Space) → IsEpoch b s → tables_of now ≡ s.tables → DrawnIsOut b.space now after → NoneChosen (tables_of b.space) b.space.limits.blocks → (tables_of after).cursors REMEMBERED_CURSOR ≡ (tables_of b.space).cursors REMEMBERED_CURSOR
none_remembered b s now after is tables out unchosen =
    ap (λ (t : Tables). t.cursors REMEMBERED_CURSOR) (out.hands.rest ∙ ap with_outs tables)
    ∙ (is.remembered.idle unchosen).drawn
  where
    with_outs : Tables → Tables
    with_outs t = record t { outs = (tables_of after).outs; reuse = (tables_of after).reuse; states = (tables_of after).states }

-- ---- the whole

-- the epoch is closed
pub closes : (b : Beginning) (execution : Execution) (space now after : Space) (before given : List AnyActor) → MayClose b execution space before → HaveGiven space before now given (length before) → DrawnIsOut b.space now after
    → Closes b execution space after given
closes b execution space now after before given may gave out =
    let cleared : List Field = may.holds.0 in
    let s : EpochState = epoch_state_of b execution cleared in
    let is = is_end b execution cleared space before may may.holds.1 in
    let has = all_given space before now given gave in
    let logs = closing_logs b s is.epoch (states_rest b s space before is) in
    let counts = closing_counts b s is.epoch (all_helpers_rest b s space before is) in
    let rests = all_actors_rest b s space before is in
    let trace : HasClosingTrace b s = record { covers = λ trace e. closing_cover b s trace is.epoch rests e; inside = λ trace e. closing_inside b s trace is.epoch e; remembered = λ trace snapshot e names. closing_remembered b s trace snapshot is.epoch rests logs.bits e names } in
    let closed = closing_reaches_safepoint b s now after is.epoch logs counts trace (is_collected b s space now before is has) out in
    let held : execution.core.actors ≡ before = ap (λ (c : Core AnyActor). c.actors) may.core in
    let gives = given_mutators before in
    let due : AreFinished (mutators_in before) → IsPauseExplained b execution (map actor_given_up before) = λ finished. pause_due b execution cleared space before is (finished_want space (mutators_in before) finished) in
    subst (Closes b execution space after) (sym (all_gave space before now given gave)) (record {
      safepoint = closed.safepoint;
      hands_out = subst (λ t. AreHandedOut (IsDrawnLine (tables_of b.space) b.space.limits.blocks (drawn_runs t) (drawn_blocks t)) t (tables_of after)) (ap tables_of has) out.hands;
      free = λ line drawn. drawn_was_free b s space line is.epoch is.tables drawn;
      extends = is.epoch.extends;
      unmoved = is.epoch.image.placed.unmoved;
      gave = ap (map actor_given_up) (sym held);
      actors_rest = all_rest b s space before is;
      news = subst (λ ms. (i : ℕ) (m : Mutating) → slice_get ms i ≡ Some m → IsWaiting m → IsNew m) (sym gives) (news_wait b s space before is);
      cause = λ finished. (due (subst (λ z. AreFinished (mutators_in z)) held finished)).cause;
      progress = λ finished. (due (subst (λ z. AreFinished (mutators_in z)) held finished)).progress;
      collects = λ none. collects b s space before is none ∙ ap (list_any has_collected) (sym gives);
      states = closed.states;
      remembered = none_remembered b s now after is.epoch (ap tables_of has ∙ is.tables) out;
      registers = ap (λ (z : Space). z.registers.items) out.rest ∙ ap (λ (z : Space). z.registers.items) has ∙ holds_all space (mutators_in before) (register_count b s space before is)
          ∙ ap (λ z. all_registers (mutators_in z)) (sym held);
      logged = ap (λ (z : Space). z.logged.items) out.rest ∙ ap (λ (z : Space). z.logged.items) has ∙ ap (λ z. all_entries (mutators_in z)) (sym held);
      tally = ap (λ (z : Space). z.tally) out.rest ∙ ap (λ (z : Space). z.tally) has ∙ same_tally space.tally (mutators_in before) ∙ ap (tally_with space.tally) (sym gives);
      rest = out.rest ∙ ap (λ z. with_words z after.words) has ∙ sym (ap fitted (out.rest ∙ ap (λ z. with_words z after.words) has));
    })
  where
    with_words : Space → List ℕ → Space
    with_words z words = record z { words = words }

    fitted : Space → Space
    fitted z = record space { words = z.words; registers = z.registers; logged = z.logged; tally = z.tally }
