-- An epoch that is opened: what its actors show, and that its invariant holds of the execution that begins.
use Rattle.std.proofs.Common.{◌≡◌, ◌≢◌, ℕ, zero, suc, ◌+◌, ◌-◌, ◌*◌, ◌/◌, ◌%◌, ◌^◌, ◌<◌, ◌≤◌, refl, sym, ap, subst, ◌∙◌, inl, inr, arith, true, false, List, [], ◌∷◌, length}
use Rattle.std.specs.Prelude.{All, IsSome, Option, Some, None, ◌&&◌, if◌then◌else◌, is_some, map, not, slice_get, slice_index_or, take}
use Rattle.std.specs.List.{count_by}
use Rattle.std.proofs.Math.ListN.{get_or-map}
use Rattle.std.proofs.lemmas.List.{length-map}
use Rattle.std.proofs.lemmas.List.Elements.{All-from_get_or}
use Rattle.std.proofs.lemmas.Option.{slice_get-get_or, slice_get_past, slice_get_within}
use Rattle.lxr_layout.specs.declared.TheConstants.{GRANULES_IN_BLOCK, MOST_BLOCKS, MOST_GRANULES, PAUSE_WORD, REGISTERS}
use Rattle.lxr_layout.specs.declared.Name.{Name}
use Rattle.lxr_layout.specs.declared.Place.{Place}
use Rattle.lxr_layout.specs.declared.limits.Limits.{Limits}
use Rattle.lxr_layout.specs.Objects.{word_count}
use Rattle.lxr_layout.specs.Spaces.{all_regions, counts_region, region_begin}
use Rattle.lxr_graph.specs.History.{Item, calls_of, replies_of}
use Rattle.lxr_graph.specs.State.{State, next_name, shape_of}
use Rattle.lxr_graph.proofs.FormLemmas.{formed_more}
use Rattle.lxr_mutator.specs.Mutating as mutating
use Rattle.lxr_image.specs.declared.space.Space.{Space}
use Rattle.lxr_image.specs.Image.{ArePlacesOf, IsImage, place_word}
use Rattle.lxr_image.specs.Registers.{UnnamedAreNil, row_in}
use Rattle.lxr_image.proofs.RegisterLemmas.{held-row, length-row}
use Rattle.lxr_image.specs.Reads.{granule_of}
use Rattle.lxr_image.specs.Spaces.{Turns, tables_of}
use Rattle.lxr_image.specs.Tables.{Tables, changed, tables_in}
use Rattle.lxr_image_search.specs.declared.Wanted.TheVariants.{ToScan}
use Rattle.lxr_image_search.specs.Search.{is_wanted}
use Rattle.lxr_model.specs.Moments.{Moment, moment}
use Rattle.lxr_model_counting.specs.Following.{FollowsPause}
use Rattle.lxr_invariant.specs.AbstractState.{AbstractState, members}
use Rattle.lxr_mutator.specs.declared.phases.MutEnd.{MutEnd}
use Rattle.lxr_mutator.specs.declared.phases.MutEnd.TheVariants as ends
use Rattle.lxr_mutator.specs.declared.phases.MutatorPhase.{MutatorPhase}
use Rattle.lxr_mutator.specs.declared.phases.MutatorPhase.TheVariants as phase
use Rattle.lxr_mutator.specs.Mutating.{Mutating, is_new, nil, rests_in}
use Rattle.lxr_mutator.specs.Mutators.{AreRegisters, IsHeld, IsMutator, MayBeIn, again, phase_again}
use Rattle.lxr_mutator.specs.Naming.{all_told_as, looks_up}
use Rattle.lxr_decrement.specs.Decrementing.{DecrementerState}
use Rattle.lxr_decrement.specs.Decrementers.{again as empty_again}
use Rattle.lxr_helper.specs.Indexes.{HaveIndexes}
use Rattle.lxr_helper.specs.Words.{InHeap}
use Rattle.lxr_trace.specs.declared.phases.TracerPhase.TheVariants as trace_phase
use Rattle.lxr_trace.specs.Tracing.{TracerState}
use Rattle.lxr_trace.specs.Phases.{IsIn as IsTracerIn}
use Rattle.lxr_trace.specs.Tracers.{again as trace_again}
use Rattle.lxr_core_access.specs.Decrementers.{Decrementing}
use Rattle.lxr_core_access.specs.Tracers.{Tracing}
use Rattle.lxr_core_sim_helpers.specs.DecrementerShowing.{IsDecrementerOf, decrementing_of}
use Rattle.lxr_core_sim_helpers.proofs.DecrementerHintLemmas.{hints_stay}
use Rattle.lxr_core_sim_helpers.specs.TracerShowing.{IsTracerOf, tracing_in, tracing_of}
use Rattle.lxr_core_sim_helpers.proofs.TracerHintLemmas.{hints_stay as tracers_stay}
use Rattle.lxr_core_invariant.specs.ThreadStates.{ThreadState, Through, all_of}
use Rattle.lxr_core_invariant.specs.EpochStates.{Beginning, IsBeginning, EpochState, limits_of, objects_before}
use Rattle.lxr_core_invariant.specs.Counted.{IsInHeap}
use Rattle.lxr_core_invariant.specs.Imaged.{HoldsRegisters}
use Rattle.lxr_core_invariant.specs.Epoch.{IsEpoch}
use Rattle.lxr_core_invariant.proofs.HeldLemmas.{in_register}
use Rattle.lxr_core_invariant.proofs.HeldLemmas as model
use Rattle.lxr_core_sim_mutator.specs.Showing.{HasTold, IsMutatorOf, IsSteadyIn, WaitsForNew, reason_by, stage_in, told_in}
use Rattle.lxr_core_sim_mutator.proofs.NamingLemmas.{named_after}
use Rattle.lxr_core.specs.declared.actors.AnyActor.{AnyActor}
use Rattle.lxr_core.specs.declared.actors.AnyActor.TheVariants as any
use Rattle.lxr_core.specs.Actors.{AreInOrder, decrementers_in, mutators_in, tracers_in}
use Rattle.lxr_core.specs.Resting.{ActorsRestAfter, FitsThread, RestsAfter}
use Rattle.lxr_core.specs.Starting.{HaveStarted, MayAllStart, MayNameAll, started_again}
use Rattle.lxr_core.specs.Executions.{HoldsExecution, epoch_state_of}
use Rattle.lxr_core.specs.Filling.{FilledWhileTraced, FillsPockets, HaveEmptyPockets, HaveFilled, HoldInOrder, MayAllFill, MayFill, holding_places, places_of, unfilled}
use Rattle.lxr_core.specs.Opening.{Begins, MayOpen, Opens, execution_at}
use Rattle.lxr_core.proofs.AgainLemmas.{are_registers}
use Rattle.lxr_core.proofs.MappedLemmas.{mapped, mapped_from}
use Rattle.lxr_core.proofs.OrderLemmas.{AreAlike, SameKind, alike_counts, alike_order, helper_at, helper_from, lengths_add, mutator_at, mutator_from, tracer_at, tracer_from, two_helpers, two_mutators, two_tracers}
use Rattle.lxr_core.proofs.PocketLemmas.{pockets_filled, stands_in_all}
use Rattle.lxr_core.proofs.StartingLemmas.{AllRest, AllStart, Starts, StartsIn, anew, opening_epoch_state, over}
use Rattle.lxr_core.proofs.OpeningLemmas.{opens}
use Rattle.lxr_core.proofs.ToldLemmas.{has_told, kept_as_told, shown_in, shown_told, told_length, told_news, told_state, told_thread, told_with}
use Rattle.lxr_image_search.specs.declared.Wanted.TheVariants.{ToScan}
use Rattle.lxr_image_search.specs.Search.{AvoidsFree}
use Rattle.lxr_image_search.proofs.SearchLemmas.{avoids_by_starts}
use Rattle.lxr_invariant.proofs.UnusedLemmas.{starts_used}

-- ---- registers

-- each register's place is that of what the model's register holds
place_at : (at : Name → ℕ) (places : List Place) (held : List (Option Name)) (k : ℕ) → ArePlacesOf at places held → (slice_index_or places k nil).0 ≡ place_word at (slice_index_or held k None)
place_at at places held k are = sym (get_or-map (λ p. p.0) places k nil) ∙ (ap (λ z. slice_index_or z k 0) are ∙ get_or-map (place_word at) held k None)

-- no place lies behind the largest heap
in_heap : (t : Tables) (blocks : ℕ) (at : Name → ℕ) (m : Moment) (v : Option Name) → IsImage t blocks at m.state.graph (members m) → blocks ≤ MOST_BLOCKS → model.IsHeld m v → place_word at v ≤ MOST_GRANULES
in_heap t blocks at m None image few held = omega arith
in_heap t blocks at m (Some n) image few held =
    let a = image.stands n held in
    let low = a.2.whole.in_heap in let some = a.2.placed in
    let words : 1 ≤ word_count (shape_of a.0) / 2 = omega arith in
    omega (arith, low, some, few, words)

-- so all registers hold places
all_held : (t : Tables) (blocks : ℕ) (at : Name → ℕ) (m : Moment) (places : List Place) → FollowsPause m → IsImage t blocks at m.state.graph (members m) → blocks ≤ MOST_BLOCKS → ArePlacesOf at places m.state.registers
    → All IsHeld places
all_held t blocks at m places follows image few are = All-from_get_or IsHeld places nil (λ k h.
    let same : REGISTERS * (k / REGISTERS + 1 - 1) + k % REGISTERS ≡ k = omega arith in
    let held = subst (λ z. model.IsHeld m (slice_index_or m.state.registers z None)) same (in_register m (k / REGISTERS + 1) (k % REGISTERS) follows) in
    subst (λ z. z ≤ MOST_GRANULES) (sym (place_at at places m.state.registers k are)) (in_heap t blocks at m (slice_index_or m.state.registers k None) image few held))

-- the registers of a thread hold the places of what the model's do
holds_registers : (st : State) (at : Name → ℕ) (places : List Place) (threads i : ℕ) (v : ThreadState) → ArePlacesOf at places st.registers → length places ≡ REGISTERS * threads → i < threads
    → v.thread ≡ i + 1 → v.registers ≡ row_in places i → HoldsRegisters st at v
holds_registers st at places threads i v are many less thread registers = record {
  as_many = ap length registers ∙ length-row places i (omega (arith, many, less));
  places = λ r below.
      let same : REGISTERS * i + r ≡ REGISTERS * (v.thread - 1) + r = omega (arith, thread) in
      ap (λ z. (slice_index_or z r nil).0) registers
      ∙ (ap (λ p. p.0) (held-row places i r below)
      ∙ (place_at at places st.registers (REGISTERS * i + r) are ∙ ap (λ z. place_word at (slice_index_or st.registers z None)) same));
}

-- ---- a mutator that begins again

-- it rests, and nothing is asked of it in its phase
rests_again : (e : Option MutEnd) → rests_in (phase_again e) ≡ true
rests_again (Some ends.Ended) = refl
rests_again e = refl

-- nothing is asked of it in its phase
may_again : (m : Mutating) (e : Option MutEnd) → MayBeIn m (phase_again e)
may_again m (Some ends.Ended) = tt
may_again m e = tt

-- what a mutator that rests waits for is a `new`
pub waits_for_new : (m : Mutating) (p : MutatorPhase) → rests_in p ≡ true → IsSteadyIn m p → WaitsForNew m
waits_for_new m phase.Ready rests steady = steady.1
waits_for_new m phase.Finished rests steady = steady
waits_for_new m p rests steady = absurd (cc)

-- so it is of one that begins again, and one between two units hasn't done its end
steady_again : (m : Mutating) (e : Option MutEnd) → m.end ≡ e → WaitsForNew m → IsSteadyIn m (phase_again e)
steady_again m (Some ends.Ended) same waits = waits
steady_again m e same waits = (λ ended. (let k : e ≡ Some ends.Ended = sym same ∙ ended in cc), waits)

-- what it shows: it rests, or it is through
stage_again : (v : ThreadState) (m : Mutating) (e : Option MutEnd) → m.end ≡ e → (e ≡ Some ends.Ended → length v.replies ≡ length v.operations + 1) → (e ≢ Some ends.Ended → length v.replies ≤ length v.operations)
    → StartsIn v (stage_in m (phase_again e))
stage_again v m (Some ends.Ended) same all few = subst (λ r. StartsIn v (Through (reason_by r))) (sym same) (over (all refl))
stage_again v m e same all few = anew (few (λ z. cc))

-- it is a mutator still
again_mutator : (l : Limits) (m : Mutating) (registers : List Place) → IsMutatorOf l m → rests_in m.phase ≡ true → AreRegisters m.width registers → IsMutatorOf l (again m registers)
again_mutator l m registers is rests are = record {
  sound = let sound = is.sound in record {
    setup = sound.setup;
    registers = are;
    spans = sound.spans;
    few_replies = sound.few_replies;
    replies = elim sound.replies [ inl through ↦ inl (ap phase_again through.1, through.1) | inr few ↦ inr few ];
    busy = λ e. let k : true ≡ false = sym (rests_again m.end) ∙ e in cc;
    waits = sound.waits;
    since = λ turn. let some = sound.setup.every.0 in omega (arith, some);
    phase = may_again (again m registers) m.end;
  };
  regions = is.regions;
  width = is.width;
  steady = steady_again (again m registers) m.end refl (waits_for_new m m.phase rests is.steady);
}

-- before its end it has fewer replies
unended : (m : Mutating) → IsMutator m → m.end ≢ Some ends.Ended → length m.replies.items ≤ length m.operations
unended m is other = elim is.replies [ inl through ↦ absurd (other through.1) | inr few ↦ few ]

-- and looks no name up
looks_again : (e : Option MutEnd) → looks_up (phase_again e) ≡ false
looks_again (Some ends.Ended) = refl
looks_again e = refl

-- it tells the replies of the history that it rests after
rest_replies : (l : Limits) (turns : ℕ) (h : List Item) (t : ℕ) (m : Mutating) → RestsAfter l turns h t m → all_told_as m.names (replies_of m.thread h) ≡ m.replies.items
rest_replies l turns h t m rests = subst (λ n. all_told_as m.names (replies_of n h) ≡ m.replies.items) (sym rests.thread) rests.replies

-- so it has told them
rest_told : (l : Limits) (turns : ℕ) (h : List Item) (t : ℕ) (m : Mutating) → RestsAfter l turns h t m → HasTold h m
rest_told l turns h t m rests = has_told h m (looks_at_rest m.phase rests.rests) (rest_replies l turns h t m rests) rests.unnamed
  where
    looks_at_rest : (p : MutatorPhase) → rests_in p ≡ true → looks_up p ≡ false
    looks_at_rest (phase.Referent place) rests = absurd (cc)
    looks_at_rest p rests = refl

-- and names its next object alike
same_next : (h : List Item) (m : Mutating) → HasTold h m → mutating.next_name (told_in h m) ≡ mutating.next_name m
same_next h m told =
    let thread = told_thread h m in
    let serial : mutating.made (told_in h m) + 1 ≡ mutating.made m + 1 = ap (λ (y : Mutating). y.before + count_by is_new (told_in h m).replies.items + 1) (told_with h m) ∙ ap (λ n. m.before + n + 1) (told_news h m told) in
    λ j. record { thread = thread j; serial = serial j }

-- and so it has once it begins again
again_told : (l : Limits) (turns : ℕ) (h : List Item) (t : ℕ) (m : Mutating) (registers : List Place) → RestsAfter l turns h t m → HasTold h (again m registers)
again_told l turns h t m registers rests =
    has_told h (again m registers) (looks_again m.end) (rest_replies l turns h t m rests) rests.unnamed

-- it shows what mutators show as an epoch opens
again_starts : (b : Beginning) (places : List Place) (i : ℕ) (m : Mutating) → ArePlacesOf b.abstract_state.at places b.abstract_state.moment.state.registers → length places ≡ REGISTERS * (limits_of b).threads
    → i < (limits_of b).threads → RestsAfter (limits_of b) b.every b.history (i + 1) m → Starts b i (shown_in b.history (again m (row_in places i)))
again_starts b places i m are many less rests =
    let sound = rests.mutator.sound in
    let h : List Item = b.history in
    let x : Mutating = again m (row_in places i) in
    let told = again_told (limits_of b) b.every h (i + 1) m (row_in places i) rests in
    let as_many = told_length h x told in
    subst (Starts b i) (sym (shown_told h x told)) (record {
      thread = rests.thread;
      formed = λ k d h. formed_more m.width REGISTERS (slice_index_or m.operations k d) sound.setup.width.1 (sound.setup.operations k d h).0;
      endless = λ k d h. (sound.setup.operations k d h).1;
      few = sound.setup.few;
      began = subst (λ t. m.before ≡ objects_before t b.history) (sym rests.thread) rests.began;
      few_began = sound.setup.before;
      every = (rests.every, sound.setup.every.0);
      registers = holds_registers b.abstract_state.moment.state b.abstract_state.at places (limits_of b).threads i (told_state h x) are many less rests.thread refl;
      log = rests.log;
      spans = rests.spans;
      since = refl;
      calls = subst (λ t. calls_of t b.history ≡ take (length m.replies.items) (all_of m.operations)) (sym rests.thread) rests.calls ∙ ap (λ n. take n (all_of m.operations)) (sym as_many);
      replies = kept_as_told h x (rest_replies (limits_of b) b.every h (i + 1) m rests);
      stage = stage_again (told_state h x) x m.end refl (λ ended. as_many ∙ rests.ended ended) (λ other. (let few = unended m sound other in omega (arith, as_many, few)));
    })

-- ---- all of them

-- what it was, whatever its pocket was filled with
was_at : (places : List Place) (before after : List AnyActor) (i : ℕ) (x : AnyActor) → HaveStarted places before (map unfilled after) (length before) → slice_get after i ≡ Some x
    → (a : AnyActor) × (slice_get before i ≡ Some a) × (unfilled x ≡ started_again a (row_in places i))
was_at places before after i x is there =
    let many = is.as_many in
    let as_many = length-map after unfilled in
    let inside = slice_get_within after i x there in
    let below : i < length before = omega (arith, many, as_many, inside) in
    let was = slice_get-get_or before i x below in
    let now = is.started i (slice_index_or before i x) was below in
    let same : Some (unfilled x) ≡ Some (started_again (slice_index_or before i x) (row_in places i)) = sym (mapped unfilled after i x there) ∙ now in
    (slice_index_or before i x, was, some_same (unfilled x) (started_again (slice_index_or before i x) (row_in places i)) same)
  where
    some_same : (a c : AnyActor) → Some a ≡ Some c → a ≡ c
    some_same a c e = cc

-- a mutator that has begun again was a mutator
mutator_was : (a : AnyActor) (registers : List Place) (m : Mutating) → any.Mutator m ≡ started_again a registers → (x : Mutating) × (a ≡ any.Mutator x) × (m ≡ again x registers)
mutator_was (any.Mutator x) registers m e = (x, refl, cc)
mutator_was (any.Decrementer d) registers m e = absurd (cc)
mutator_was (any.Tracer d) registers m e = absurd (cc)

-- a decrementer a decrementer, and a tracer a tracer
helper_was : (a : AnyActor) (registers : List Place) (d : DecrementerState) → any.Decrementer d ≡ started_again a registers → (x : DecrementerState) × (a ≡ any.Decrementer x) × (d ≡ empty_again x)
helper_was (any.Mutator m) registers d e = absurd (cc)
helper_was (any.Decrementer x) registers d e = (x, refl, cc)
helper_was (any.Tracer x) registers d e = absurd (cc)

tracer_was : (a : AnyActor) (registers : List Place) (d : TracerState) → any.Tracer d ≡ started_again a registers → (x : TracerState) × (a ≡ any.Tracer x) × (d ≡ trace_again x)
tracer_was (any.Mutator m) registers d e = absurd (cc)
tracer_was (any.Decrementer x) registers d e = absurd (cc)
tracer_was (any.Tracer x) registers d e = (x, refl, cc)

-- one that begins again is of the kind that it was
of_kind : (a x : AnyActor) (registers : List Place) → started_again a registers ≡ unfilled x → SameKind a x
of_kind (any.Mutator m) (any.Mutator x) registers e = two_mutators m x
of_kind (any.Mutator m) (any.Decrementer x) registers e = absurd (cc)
of_kind (any.Mutator m) (any.Tracer x) registers e = absurd (cc)
of_kind (any.Decrementer d) (any.Mutator x) registers e = absurd (cc)
of_kind (any.Decrementer d) (any.Decrementer x) registers e = two_helpers d x
of_kind (any.Decrementer d) (any.Tracer x) registers e = absurd (cc)
of_kind (any.Tracer d) (any.Mutator x) registers e = absurd (cc)
of_kind (any.Tracer d) (any.Decrementer x) registers e = absurd (cc)
of_kind (any.Tracer d) (any.Tracer x) registers e = two_tracers d x

again_alike : (places : List Place) (before after : List AnyActor) → HaveStarted places before (map unfilled after) (length before) → AreAlike before after
again_alike places before after is = record {
  as_many = sym (length-map after unfilled) ∙ is.as_many;
  each = λ i a there.
      let (x, stands, same) = mapped_from unfilled after i (started_again a (row_in places i)) (is.started i a there (slice_get_within before i a there)) in
      (x, stands, of_kind a x (row_in places i) same);
}

-- a mutator, a decrementer and a tracer that have begun again, with what they were
pub record WasMutator (places : List Place) (before : List AnyActor) (i : ℕ) (m : Mutating) : Type 0 where
  pub was : Mutating
  pub stood : slice_get (mutators_in before) i ≡ Some was
  pub is : m ≡ again was (row_in places i)

pub record WasHelper (before : List AnyActor) (d : DecrementerState) : Type 0 where
  pub was : DecrementerState
  pub number : ℕ
  pub stood : slice_get (decrementers_in before) number ≡ Some was
  pub is : d ≡ empty_again was

pub record WasTracer (before : List AnyActor) (d : TracerState) : Type 0 where
  pub was : TracerState
  pub number : ℕ
  pub stood : slice_get (tracers_in before) number ≡ Some was
  pub is : holding_places d [] ≡ trace_again was

-- of actors in order that have all begun again, and of which tracers' pockets were filled
module _ (places : List Place) (before after : List AnyActor) (order : AreInOrder before) (started : HaveStarted places before (map unfilled after) (length before)) where
  -- they are in order
  pub started_order : AreInOrder after
  started_order = alike_order before after (again_alike places before after started) order

  pub mutator_started : (i : ℕ) (m : Mutating) → slice_get (mutators_in after) i ≡ Some m → WasMutator places before i m
  mutator_started i m there =
      let (a, stood, e) = was_at places before after i (any.Mutator m) started (mutator_from after i m started_order there) in
      let (x, kind, same) = mutator_was a (row_in places i) m e in
      record { was = x; stood = mutator_at before i x order (stood ∙ ap Some kind); is = same }

  pub helper_started : (i : ℕ) (d : DecrementerState) → slice_get (decrementers_in after) i ≡ Some d → WasHelper before d
  helper_started i d there =
      let (n, at) = helper_from after i d there in
      let (a, stood, e) = was_at places before after n (any.Decrementer d) started at in
      let (x, kind, same) = helper_was a (row_in places n) d e in
      let old = helper_at before n x (stood ∙ ap Some kind) in
      record { was = x; number = old.number; stood = old.stands; is = same }

  pub tracer_started : (i : ℕ) (d : TracerState) → slice_get (tracers_in after) i ≡ Some d → WasTracer before d
  tracer_started i d there =
      let (n, at) = tracer_from after i d there in
      let (a, stood, e) = was_at places before after n (any.Tracer d) started at in
      let (x, kind, same) = tracer_was a (row_in places n) (holding_places d []) e in
      let old = tracer_at before n x (stood ∙ ap Some kind) in
      record { was = x; number = old.number; stood = old.stands; is = same }

-- a tracer that begins again with places of the heap is one still
filled_tracer : (l : Limits) (was d : TracerState) → IsTracerOf l was → holding_places d [] ≡ trace_again was → length d.pocket.items ≤ 64
    → ((k : ℕ) (place : Place) → slice_get d.pocket.items k ≡ Some place → IsInHeap l.blocks place.0) → IsTracerOf l d
filled_tracer l was d of same few each =
    let regions : d.regions ≡ was.regions = ap (λ (x : TracerState). x.regions) same in
    let room : d.pocket.room ≡ was.pocket.room = ap (λ (x : TracerState). x.pocket.room) same in
    let phase : d.phase ≡ trace_phase.Resting = ap (λ (x : TracerState). x.phase) same in
    let counts : d.regions.counts ≡ region_begin l counts_region = ap (λ r. r.counts) (regions ∙ of.regions) in
    record {
      sound = record {
        indexes = subst HaveIndexes (sym regions) of.sound.indexes;
        pocket = record { room = room ∙ of.sound.pocket.room; few = few };
        places = All-from_get_or (InHeap d.regions) d.pocket.items nil (λ k less.
            let heap = each k (slice_index_or d.pocket.items k nil) (slice_get-get_or d.pocket.items k nil less) in
            let low = heap.0 in let high = heap.1 in
            (low, omega (arith, high, counts)));
        phase = subst (IsTracerIn d.regions) (sym phase) tt;
      };
      regions = regions ∙ of.regions;
    }

-- of the actors of an epoch that may be opened, once all have begun again
module _ (b : Beginning) (before after : List AnyActor) (begins : IsBeginning b) (rest : ActorsRestAfter (limits_of b) b.every b.history before)
    (started : HaveStarted b.space.registers.items before (map unfilled after) (length before)) where
  -- the registers of the space
  are : ArePlacesOf b.abstract_state.at b.space.registers.items b.abstract_state.moment.state.registers
  are = begins.between.safepoint.holds.image.registers

  -- there are 256 for each thread
  many : length b.space.registers.items ≡ REGISTERS * (limits_of b).threads
  many = begins.between.safepoint.holds.as_many.0

  -- they hold places
  places_held : All IsHeld b.space.registers.items
  places_held = all_held (tables_of b.space) b.space.limits.blocks b.abstract_state.at b.abstract_state.moment b.space.registers.items begins.between.safepoint.holds.follows begins.between.safepoint.holds.image.image
      begins.between.safepoint.holds.space.limits.blocks.1 are

  -- each mutator is one of a thread
  below_threads : (i : ℕ) (m : Mutating) → slice_get (mutators_in before) i ≡ Some m → i < (limits_of b).threads
  below_threads i m there = let inside = slice_get_within (mutators_in before) i m there in let all = rest.mutators.as_many in omega (arith, inside, all)

  -- what a mutator was
  abbrev was_mutator : (i : ℕ) (m : Mutating) → slice_get (mutators_in after) i ≡ Some m → WasMutator b.space.registers.items before i m
  was_mutator i m there = mutator_started b.space.registers.items before after rest.helpers.order started i m there

  -- and a helper
  abbrev was_helper : (i : ℕ) (d : DecrementerState) → slice_get (decrementers_in after) i ≡ Some d → WasHelper before d
  was_helper i d there = helper_started b.space.registers.items before after rest.helpers.order started i d there

  -- and a tracer
  abbrev was_tracer : (i : ℕ) (d : TracerState) → slice_get (tracers_in after) i ≡ Some d → WasTracer before d
  was_tracer i d there = tracer_started b.space.registers.items before after rest.helpers.order started i d there

  -- all show what mutators show as an epoch opens
  pub all_start : AllStart b (map (shown_in b.history) (mutators_in after))
  all_start = record {
    as_many = length-map (mutators_in after) (shown_in b.history) ∙ (alike_counts before after (again_alike b.space.registers.items before after started) ∙ rest.mutators.as_many);
    each = λ i v shown.
        let (m, there, same) = mapped_from (shown_in b.history) (mutators_in after) i v shown in
        let old = was_mutator i m there in
        subst (Starts b i) (sym (same ∙ ap (shown_in b.history) old.is)) (again_starts b b.space.registers.items i old.was are many (below_threads i old.was old.stood) (rest.mutators.each i old.was old.stood));
  }

  -- all are mutators still
  pub all_mutators : UnnamedAreNil b.space.registers → (i : ℕ) (m : Mutating) → slice_get (mutators_in after) i ≡ Some m → IsMutatorOf (limits_of b) m
  all_mutators unnamed i m there =
      let old = was_mutator i m there in
      let rests = rest.mutators.each i old.was old.stood in
      let below = below_threads i old.was old.stood in
      let width : b.space.registers.width ≡ old.was.width = begins.between.safepoint.holds.room.registers ∙ sym rests.mutator.width in
      subst (IsMutatorOf (limits_of b)) (sym old.is)
      (again_mutator (limits_of b) old.was (row_in b.space.registers.items i) rests.mutator rests.rests
      (subst (λ w. AreRegisters w (row_in b.space.registers.items i)) width
      (are_registers b.space.registers.items i b.space.registers.width (omega (arith, many, below)) places_held (unnamed i))))

  -- all have told the replies of the history
  pub all_told : (i : ℕ) (m : Mutating) → slice_get (mutators_in after) i ≡ Some m → HasTold b.history m
  all_told i m there =
      let old = was_mutator i m there in
      subst (HasTold b.history) (sym old.is) (again_told (limits_of b) b.every b.history (i + 1) old.was (row_in b.space.registers.items i) (rest.mutators.each i old.was old.stood))

  -- all decrementers are so still
  pub all_helpers : (i : ℕ) (d : DecrementerState) → slice_get (decrementers_in after) i ≡ Some d → IsDecrementerOf (limits_of b) d
  all_helpers i d there =
      let old = was_helper i d there in
      subst (IsDecrementerOf (limits_of b)) (sym old.is) (hints_stay (limits_of b) old.was (rest.helpers.each old.number old.was old.stood).decrementer).again

  -- and all tracers, with what their pockets were filled with, or with empty ones
  pub all_tracers : (o : Option ℕ) → FilledWhileTraced o (tables_of b.space) (limits_of b).blocks (tracers_in after) → (i : ℕ) (d : TracerState) → slice_get (tracers_in after) i ≡ Some d → IsTracerOf (limits_of b) d
  all_tracers None empty i d there =
      let old = was_tracer i d there in
      let was = (rest.helpers.tracers old.number old.was old.stood).tracer in
      let none : d.pocket.items ≡ [] = empty i d there in
      let few : length d.pocket.items ≡ 0 = ap length none in
      filled_tracer (limits_of b) old.was d was old.is (omega (arith, few)) (λ k place at.
      let bad : slice_get [] k ≡ Some place = ap (λ (ps : List Place). slice_get ps k) (sym none) ∙ at in
      absurd (cc))
  all_tracers (Some began) filled i d there =
      let old = was_tracer i d there in
      let was = (rest.helpers.tracers old.number old.was old.stood).tracer in
      filled_tracer (limits_of b) old.was d was old.is (filled.few i d there) (λ k place at.
      let (j, stands) = stands_in_all (tracers_in after) i k d place there at in
      (filled.found j place stands).in_heap)

  -- and rest
  pub helpers_rest : length before < 2 ^ 63 → AllRest (map decrementing_of (decrementers_in after)) (map tracing_of (tracers_in after))
  helpers_rest few = record {
    few =
        let shown = length-map (decrementers_in after) decrementing_of in
        let sum = lengths_add after in
        let as_many = (again_alike b.space.registers.items before after started).as_many in
        omega (arith, shown, sum, as_many, few);
    each = λ i shows at.
        let (d, there, same) = mapped_from decrementing_of (decrementers_in after) i shows at in
        same ∙ ap decrementing_of (was_helper i d there).is;
    tracers = λ i shows at.
        let (d, there, same) = mapped_from tracing_of (tracers_in after) i shows at in
        same ∙ ap (λ (x : TracerState). tracing_in x.phase) (was_tracer i d there).is;
  }

-- what is gray stands outside blocks that are Free
pub grays_used : (g : AbstractState) (before : Space) (actors : List AnyActor) → MayOpen g before actors → AvoidsFree (tables_of before) ToScan
grays_used g before actors may =
    let holds = may.between.safepoint.holds in
    avoids_by_starts (tables_of before) ToScan (starts_used before g.moment g.at holds) holds.bits.grays holds.bits.dones

-- what opening the epoch asks of the space and the actors
pub held_before : (g : AbstractState) (before : Space) (actors : List AnyActor) → MayOpen g before actors → All IsHeld before.registers.items
held_before g before actors may =
    let holds = may.between.safepoint.holds in
    all_held (tables_of before) before.limits.blocks g.at g.moment before.registers.items holds.follows holds.image.image holds.space.limits.blocks.1 holds.image.registers

-- the actors rest, and have given up what they drew
pub may_all_start : (g : AbstractState) (before : Space) (actors : List AnyActor) → MayOpen g before actors → MayAllStart actors
may_all_start g before actors may i (any.Mutator m) there =
    let fits = may.fit.each i m (mutator_at actors i m may.fit.helpers.order there) in
    record { rests = fits.rests; spans = fits.spans }
may_all_start g before actors may i (any.Decrementer d) there = tt
may_all_start g before actors may i (any.Tracer d) there = tt

-- each may name as many registers as a thread of the space
pub may_name_all : (g : AbstractState) (before : Space) (actors : List AnyActor) → MayOpen g before actors → MayNameAll before.registers.width (mutators_in actors)
may_name_all g before actors may i m there = (may.fit.each i m there).mutator.width ∙ sym may.between.safepoint.holds.room.registers

-- once they have begun again, tracers' pockets are empty
pub may_all_fill : (g : AbstractState) (before : Space) (actors begun : List AnyActor) → MayOpen g before actors → HaveStarted before.registers.items actors begun (length actors) → MayAllFill before.limits begun
may_all_fill g before actors begun may is i x there =
    let many = is.as_many in
    let inside = slice_get_within begun i x there in
    let below : i < length actors = omega (arith, many, inside) in
    let was = slice_get-get_or actors i x below in
    let now = is.started i (slice_index_or actors i x) was below in
    subst (MayFill before.limits) (sym (some_same x (started_again (slice_index_or actors i x) (row_in before.registers.items i)) (sym there ∙ now)))
    (by_kind (slice_index_or actors i x) was)
  where
    some_same : (a c : AnyActor) → Some a ≡ Some c → a ≡ c
    some_same a c e = cc

    by_kind : (a : AnyActor) → slice_get actors i ≡ Some a → MayFill before.limits (started_again a (row_in before.registers.items i))
    by_kind (any.Mutator m) at = tt
    by_kind (any.Decrementer d) at = tt
    by_kind (any.Tracer d) at = let old = tracer_at actors i d at in ((tracers_stay before.limits d (may.fit.helpers.tracers old.number d old.stands).tracer).again, refl)

-- what rests after a history fits what it led to
fits_after : (b : Beginning) (t : ℕ) (m : Mutating) → IsBeginning b → 1 ≤ t → t ≤ (limits_of b).threads → RestsAfter (limits_of b) b.every b.history t m → FitsThread (limits_of b) b.abstract_state.moment.state.graph t m
fits_after b t m begins some few rests =
    let thread = rests.thread in
    let h : List Item = b.history in
    let x : Mutating = told_in h m in
    let own : x.thread ≡ t = told_thread h m ∙ thread in
    let told = rest_told (limits_of b) b.every h t m rests in
    let named = named_after (limits_of b).threads h x begins.counted (ap (λ (y : Mutating). y.before) (told_with h m) ∙ rests.began ∙ ap (λ n. objects_before n h) (sym own)) (omega (arith, own, some)) (omega (arith, own, few))
    (ap (λ n. replies_of n h) own ∙ ap (λ n. replies_of n h) (sym thread) ∙ kept_as_told h m (rest_replies (limits_of b) b.every h t m rests)) in
    record {
      mutator = rests.mutator;
      thread = thread;
      log = rests.log;
      spans = rests.spans;
      rests = rests.rests;
      name = subst (λ (z : Moment). next_name z.state.graph t ≡ mutating.next_name m) (sym begins.moment)
          (ap (next_name (moment (limits_of b).threads h).state.graph) (sym own) ∙ named ∙ same_next h m told);
    }

-- so an epoch may be opened
pub may_open : (b : Beginning) (space : Space) (actors : List AnyActor) → Begins b space actors → MayOpen b.abstract_state space actors
may_open b space actors is = subst (λ s. MayOpen b.abstract_state s actors) is.space_is (record {
  between = is.begins.between;
  listed = is.begins.listed;
  fit = record {
    as_many = is.actors_rest.mutators.as_many;
    each = λ i m there.
        let within = slice_get_within (mutators_in actors) i m there in
        let many = is.actors_rest.mutators.as_many in
        fits_after b (i + 1) m is.begins (omega arith) (omega (arith, within, many)) (is.actors_rest.mutators.each i m there);
    helpers = is.actors_rest.helpers;
  };
})

-- the tables have as many words as there are
size_is : (l : Limits) (words : List ℕ) → (tables_in l words).size ≡ length words
unfolding tables_in
size_is l words = refl

-- the epoch state of these tables, thread states, decrementers and tracers
abbrev epoch_state_with : Beginning → Tables → List ThreadState → List Decrementing → List Tracing → EpochState
epoch_state_with b t thread_states ds ts = record { tables = t; thread_states = thread_states; decrementers = ds; tracers = ts; history = b.history; at = b.abstract_state.at; cleared = [] }

-- the epoch state of the execution that begins
epoch_state_opened : (b : Beginning) (after : Space) (actors : List AnyActor) → after.limits ≡ b.space.limits
    → tables_of after ≡ record (tables_of b.space) { cursors = changed (tables_of b.space).cursors PAUSE_WORD 0 }
    → opening_epoch_state b (map (shown_in b.history) (mutators_in actors)) (map decrementing_of (decrementers_in actors)) (map tracing_of (tracers_in actors)) ≡ epoch_state_of b (execution_at b after actors) []
epoch_state_opened b after actors limits tables =
    let same : tables_in b.space.limits after.words ≡ record (tables_of b.space) { cursors = changed (tables_of b.space).cursors PAUSE_WORD 0 } =
    ap (λ l. tables_in l after.words) (sym limits) ∙ tables in
    ap (λ t. epoch_state_with b t (map (shown_in b.history) (mutators_in actors)) (map decrementing_of (decrementers_in actors)) (map tracing_of (tracers_in actors))) (sym same)

-- the invariant of the epoch holds
holds : (b : Beginning) (after : Space) (before now : List AnyActor) → b.space.pauses < 2 ^ 32 → UnnamedAreNil b.space.registers → length before < 2 ^ 63 → Begins b b.space before → Opens b.space after before now
    → HoldsExecution b (execution_at b after now)
holds b after before now pauses unnamed few is opened =
    let limits : after.limits ≡ b.space.limits = ap (λ s. s.limits) opened.space.rest in
    let start = all_start b before now is.begins is.actors_rest opened.actors in
    let epoch = opens b (map (shown_in b.history) (mutators_in now)) (map decrementing_of (decrementers_in now)) (map tracing_of (tracers_in now)) is.begins pauses start (helpers_rest b before now is.begins is.actors_rest opened.actors few) is.few is.unasked in
    let size : (tables_in after.limits after.words).size ≡ region_begin b.space.limits all_regions = ap (λ t. t.size) opened.space.tables ∙ is.begins.between.safepoint.holds.space.size in (
      [],
      record {
        epoch = subst (IsEpoch b) (epoch_state_opened b after now limits opened.space.tables) epoch;
        size = sym (size_is after.limits after.words) ∙ size;
        order = started_order b.space.registers.items before now is.actors_rest.helpers.order opened.actors;
        mutators = all_mutators b before now is.begins is.actors_rest opened.actors unnamed;
        told = all_told b before now is.begins is.actors_rest opened.actors;
        decrementers = all_helpers b before now is.begins is.actors_rest opened.actors;
        tracers = all_tracers b before now is.begins is.actors_rest opened.actors b.space.trace opened.pockets;
      },
    )

-- the same of the space as it stood before, whose number of pauses has 32 bits
pub holds_at : (b : Beginning) (before after : Space) (actors now : List AnyActor) → before.pauses < 2 ^ 32 → UnnamedAreNil before.registers → length actors < 2 ^ 63 → Begins b before actors → Opens before after actors now
    → HoldsExecution b (execution_at b after now)
holds_at b before after actors now pauses unnamed few is opened =
    subst (λ s. s.pauses < 2 ^ 32 → UnnamedAreNil s.registers → Begins b s actors → Opens s after actors now → HoldsExecution b (execution_at b after now)) is.space_is (λ low nils. holds b after actors now low nils few) pauses unnamed is opened

-- what is to be scanned is told by grays and marks alone
places_like : (t u : Tables) (from count : ℕ) → u.grays ≡ t.grays → u.marks ≡ t.marks → places_of u from count ≡ places_of t from count
places_like t u from zero grays marks = refl
places_like t u from (suc count) grays marks =
    let same : is_wanted u ToScan from ≡ is_wanted t ToScan from = ap (λ f. f from && not (u.marks from)) grays ∙ ap (λ f. t.grays from && not (f from)) marks in
    ap (λ b. if b then record { 0 = from + 1 } ∷ places_of u (from + 1) count else places_of u (from + 1) count) same
    ∙ ap (λ (ps : List Place). if is_wanted t ToScan from then record { 0 = from + 1 } ∷ ps else ps) (places_like t u (from + 1) count grays marks)

-- so tracers that hold it in order do so still
order_like : (t u : Tables) (blocks from to : ℕ) (tracers : List TracerState) → u.grays ≡ t.grays → u.marks ≡ t.marks → HoldInOrder u blocks from to tracers → HoldInOrder t blocks from to tracers
order_like t u blocks from to [] grays marks is = is
order_like t u blocks from to (d ∷ tracers) grays marks (next, holds, is) =
    let same = places_like t u from (next - from) grays marks in (
      next,
      record { reached = holds.reached; places = holds.places ∙ same; few = subst (λ (ps : List Place). length ps ≤ 64) same holds.few; full = subst (λ (ps : List Place). length ps < 64 → next ≡ GRANULES_IN_BLOCK * blocks) same holds.full },
      order_like t u blocks next to tracers grays marks is,
    )

-- marks and grays are what they were, so what is to be scanned is
filled_before : (t u : Tables) (blocks : ℕ) (tracers : List TracerState) → u.grays ≡ t.grays → u.marks ≡ t.marks → FillsPockets u blocks tracers → FillsPockets t blocks tracers
filled_before t u blocks tracers grays marks is = record {
  few = is.few;
  found = λ k place there.
      let scan = is.found k place there in
      record { in_heap = scan.in_heap; gray = ap (λ f. f (granule_of place.0)) (sym grays) ∙ scan.gray; unmarked = ap (λ f. f (granule_of place.0)) (sym marks) ∙ scan.unmarked };
  once = is.once;
  all = λ i d there short place scan.
      is.all i d there short place (record { in_heap = scan.in_heap; gray = ap (λ f. f (granule_of place.0)) grays ∙ scan.gray; unmarked = ap (λ f. f (granule_of place.0)) marks ∙ scan.unmarked });
  order = (is.order.0, order_like t u blocks 0 is.order.0 tracers grays marks is.order.1);
}

-- an actor that begins again has an empty pocket
begun_unfilled : (a : AnyActor) (registers : List Place) → unfilled (started_again a registers) ≡ started_again a registers
begun_unfilled (any.Mutator m) registers = refl
begun_unfilled (any.Decrementer d) registers = refl
begun_unfilled (any.Tracer d) registers = refl

-- so actors whose pockets were filled then have begun again, but for these
filled_started : (places : List Place) (actors begun now : List AnyActor) → HaveStarted places actors begun (length actors) → map unfilled now ≡ map unfilled begun → HaveStarted places actors (map unfilled now) (length actors)
filled_started places actors begun now is same = subst (λ z. HaveStarted places actors z (length actors)) (sym same) (record {
  as_many = length-map begun unfilled ∙ is.as_many;
  started = λ i a there below. mapped unfilled begun i (started_again a (row_in places i)) (is.started i a there below) ∙ ap Some (begun_unfilled a (row_in places i));
  others = λ i past.
      let many = is.as_many in
      let as_many = length-map begun unfilled in
      slice_get_past (map unfilled begun) i (omega (arith, many, as_many, past)) ∙ sym (slice_get_past actors i past);
})

-- what a space and actors are opened by, but for pockets
module _ (before after : Space) (actors begun : List AnyActor) (turned : Turns before after (record (tables_of before) { cursors = changed (tables_of before).cursors PAUSE_WORD 0 }))
    (started : HaveStarted after.registers.items actors begun (length actors)) where
  -- the actors began with the registers of the space as it was
  begun_before : HaveStarted before.registers.items actors begun (length actors)
  begun_before = subst (λ places. HaveStarted places actors begun (length actors)) (ap (λ s. s.registers.items) turned.rest) started

  -- whether a trace runs is as it was
  trace_before : after.trace ≡ before.trace
  trace_before = ap (λ (s : Space). s.trace) turned.rest

  -- it is opened, while a trace runs
  pub opened_traced : (now : List AnyActor) (to : ℕ) → IsSome after.trace → HaveFilled (tables_of after) after.limits.blocks to begun now (length begun) → Opens before after actors now
  opened_traced now to runs filled =
      let blocks : after.limits.blocks ≡ before.limits.blocks = ap (λ (s : Space). s.limits.blocks) turned.rest in
      record {
        space = turned;
        actors = filled_started before.registers.items actors begun now begun_before filled.same;
        pockets = by_trace before.trace (subst IsSome trace_before runs)
            (filled_before (tables_of before) (tables_of after) before.limits.blocks (tracers_in now) (ap (λ (t : Tables). t.grays) turned.tables) (ap (λ (t : Tables). t.marks) turned.tables)
            (subst (λ n. FillsPockets (tables_of after) n (tracers_in now)) blocks (pockets_filled (tables_of after) after.limits.blocks to begun now filled)));
      }
    where
      by_trace : (o : Option ℕ) → IsSome o → FillsPockets (tables_of before) before.limits.blocks (tracers_in now) → FilledWhileTraced o (tables_of before) before.limits.blocks (tracers_in now)
      by_trace None runs fills = absurd (cc)
      by_trace (Some began) runs fills = fills

  -- and where none runs
  pub opened_untraced : is_some after.trace ≡ false → MayAllFill before.limits begun → Opens before after actors begun
  opened_untraced none empty = record {
    space = turned;
    actors = filled_started before.registers.items actors begun begun begun_before refl;
    pockets = by_trace before.trace (subst (λ o. is_some o ≡ false) trace_before none) (λ i d there. let from = tracer_from begun i d there in (empty from.0 (any.Tracer d) from.1).1);
  }
    where
      by_trace : (o : Option ℕ) → is_some o ≡ false → HaveEmptyPockets (tracers_in begun) → FilledWhileTraced o (tables_of before) before.limits.blocks (tracers_in begun)
      by_trace None none empty = empty
      by_trace (Some began) none empty = absurd (cc)
