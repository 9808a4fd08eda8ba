-- The steps of a store or a swap behind the barrier.
use Rattle.std.proofs.Common.{◌≡◌, ℕ, zero, suc, ◌+◌, ◌/◌, ◌%◌, arith, Bool, true, false, refl, sym, subst, ap, ◌∙◌, cond, inl, inr, List, [], ◌∷◌, length}
use Rattle.std.specs.Prelude.{Option, Some, IsTrue, nat_eq, nat_le, slice_get, slice_set, if◌then◌else◌}
use Rattle.std.proofs.lemmas.Bool.Decides.{eqb_tells}
use Rattle.lxr_tables.specs.Entries.{all_but, is_set}
use Rattle.lxr_layout.specs.declared.TheConstants.{MOST_GRANULES}
use Rattle.lxr_layout.specs.Places.{field_word, place_in}
use Rattle.lxr_layout.specs.declared.LogEntry.{LogEntry}
use Rattle.lxr_layout.specs.declared.Place.{Place}
use Rattle.lxr_base.specs.Roomy.{Roomy, pushed}
use Rattle.lxr_graph.specs.declared.Op.{Op}
use Rattle.lxr_graph.specs.declared.Op.TheVariants as op
use Rattle.lxr_graph.specs.declared.Reply.TheVariants as reply
use Rattle.lxr_image.specs.Tables.{Tables, changed}
use Rattle.lxr_actor.specs.declared.Action.{Action}
use Rattle.lxr_actor.specs.declared.Kindred.{Kindred}
use Rattle.lxr_actor.specs.declared.Kindred.TheVariants as kind
use Rattle.lxr_barrier.specs.declared.machines.LastStep.{LastStep}
use Rattle.lxr_barrier.specs.declared.machines.LastStep.TheVariants as last_step
use Rattle.lxr_barrier.specs.declared.machines.StorePhase.{StorePhase}
use Rattle.lxr_barrier.specs.declared.machines.StorePhase.TheVariants as store
use Rattle.lxr_barrier.specs.declared.StoreEnd.TheVariants as store_end
use Rattle.lxr_barrier.specs.Storing.{Storing, end_in, entry_of, is_full}
use Rattle.lxr_core_access.specs.declared.TableEntry.TheVariants.{Heap, Unlogged}
use Rattle.lxr_core_access.specs.declared.Access.TheVariants.{ClearUnlogged, Look, PutHeap, SwapHeap}
use Rattle.lxr_mutator.specs.declared.phases.MutatorPhase.TheVariants as phase
use Rattle.lxr_mutator.specs.declared.phases.Stop.TheVariants as stop
use Rattle.lxr_mutator.specs.Mutating.{Mutating, op_now}
use Rattle.lxr_mutator.specs.Operating.{dest_of}
use Rattle.lxr_mutator.specs.Steps.{stored}
use Rattle.lxr_mutator.proofs.NowLemmas.{dest_now}
use Rattle.lxr_model.specs.Belongs.{writes_reference}
use Rattle.lxr_core_invariant.specs.Events.{takes_reference}
use Rattle.lxr_core_invariant.specs.Events as epoch
use Rattle.lxr_core_invariant.specs.Happening.{WritesReference}
use Rattle.lxr_core_invariant.specs.EpochStates.{Beginning, EpochState, limits_of}
use Rattle.lxr_core_sim_mutator.specs.Showing.{IsStoreOf, thread_state_of, written_by}
use Rattle.lxr_core_sim_mutator.specs.Stepping.{ShowsAs, StepIsEvent}
use Rattle.lxr_core_sim_mutator.proofs.KeepingLemmas.{GoesOn, goes_on, no_end_now, now_shown, of_space, thread_state_done, to_done, to_phase, with_log}
use Rattle.lxr_core_sim_mutator.proofs.OutcomeLemmas.{IsEventOf, IsEventTo, by_access, in_phase, is_le, none_more, of_event, on_heap, one_more, some_action, some_op, told_above, told_le}
use Rattle.lxr_core_sim_mutator.proofs.TakingLemmas.{taken_kept, taken_shown}
use Rattle.lxr_core_sim_mutator.proofs.KnowingLemmas.{reference_there}

-- a mutator in a phase of its store
abbrev in_store : Mutating → Storing → StorePhase → Mutating
in_store m st p = in_phase m (phase.Storing (record st { phase = p }))

-- the heap word that it writes
abbrev word_of : Storing → ℕ
word_of st = field_word st.place.0 st.index

-- a store and a swap write a reference
write_written : (last : LastStep) (dest base index source : ℕ) → IsTrue (writes_reference (Some (written_by last dest base index source)))
write_written last_step.Store dest base index source = refl
write_written last_step.Swap dest base index source = refl

-- it shows that it is in one
store_shown : (m : Mutating) (st : Storing) → GoesOn m → IsStoreOf m st → WritesReference (thread_state_of m)
store_shown m st goes is = ap writes_reference (now_shown m goes ∙ ap some_op is.now) ∙ write_written st.last is.dest is.base is.index is.source

-- the store goes on
store_on : (m : Mutating) (st : Storing) (p : StorePhase) (log : Roomy LogEntry) → IsStoreOf m st → IsStoreOf (in_store (record m { log = log }) st p) (record st { phase = p })
store_on m st p log is = record {
  dest = is.dest;
  base = is.base;
  index = is.index;
  source = is.source;
  now = is.now;
  unlogged = is.unlogged;
  place = is.place;
  index_is = is.index_is;
  value = is.value;
}

-- a step on the word of its unlogged bit is that of the bit
on_bit : (m : Mutating) (st : Storing) (k : Kindred) (operand : ℕ) → IsStoreOf m st
    → ◌≡◌ {A = Option Action} (Some (record { kind = k; word = st.unlogged + word_of st / 64; operand = operand })) (Some (record { kind = k; word = m.regions.unlogged + word_of st / 64; operand = operand }))
on_bit m st k operand is = ap (λ (u : ℕ). some_action (record { kind = k; word = u + word_of st / 64; operand = operand })) is.unlogged

-- an element that is put where it stands changes nothing
same_set : {A : Type 0} (xs : List A) (i : ℕ) (x : A) → slice_get xs i ≡ Some x → xs ≡ slice_set xs i x
same_set [] i x e = refl
same_set (y ∷ ys) zero x e = let same : y ≡ x = cc in ap (λ z. z ∷ ys) same
same_set (y ∷ ys) (suc i) x e = ap (λ z. y ∷ z) (same_set ys i x e)

-- ---- it looks at the bit

-- the machine once it has looked at the bit, by the bit and by whether its log is full
abbrev looked_at : Mutating → Storing → Bool → Bool → Mutating
looked_at m st bit full =
    let next = if bit then (if full then store.Ended store_end.LogFull else store.Unlogged) else store.Logged in
    stored m (record st { phase = next }) m.log (end_in next)

-- what it is then is an event
looked : (b : Beginning) (s : EpochState) (words : List ℕ) (i : ℕ) (m : Mutating) (st : Storing) (bit full : Bool) → ShowsAs b s words i (in_store m st store.Begun)
    → s.tables.unlogged (word_of st) ≡ bit → nat_le m.log.room (length m.log.items) ≡ full
    → IsEventTo b s i (in_store m st store.Begun) (Look (Unlogged (word_of st))) (looked_at (in_store m st store.Begun) (record st { phase = store.Begun }) bit full)
looked b s words i m st false full shows clear e =
    let n = in_store m st store.Begun in
    let begun = record st { phase = store.Begun } in
    let goes = goes_on n shows.mutator.sound (λ q. cc) in
    record {
      event = epoch.SeesClear st.place.0 st.index;
      may = record { stage = refl; does = store_shown n begun goes shows.mutator.steady; clear = clear };
      tables = refl;
      thread_states = refl;
      mutator = to_phase (limits_of b) n (phase.Storing (record st { phase = store.Logged })) goes (of_space shows.mutator) (shows.mutator.sound.busy refl) (tt, refl)
          (store_on n begun store.Logged n.log shows.mutator.steady);
      history = none_more _ _ n.replies.items;
      places = refl;
    }
looked b s words i m st true true shows set e =
    let n = in_store m st store.Begun in
    let begun = record st { phase = store.Begun } in
    let goes = goes_on n shows.mutator.sound (λ q. cc) in
    record {
      event = epoch.SeesFull st.place.0 st.index;
      may = record { stage = refl; does = store_shown n begun goes shows.mutator.steady; unlogged = set; full = told_le n.log.room (length n.log.items) e };
      tables = refl;
      thread_states = refl;
      mutator = to_phase (limits_of b) n (phase.GivingUp stop.LogFull) goes (of_space shows.mutator) (shows.mutator.sound.busy refl) tt tt;
      history = none_more _ _ n.replies.items;
      places = refl;
    }
looked b s words i m st true false shows set e =
    let n = in_store m st store.Begun in
    let begun = record st { phase = store.Begun } in
    let goes = goes_on n shows.mutator.sound (λ q. cc) in
    record {
      event = epoch.Stays;
      may = tt;
      tables = refl;
      thread_states = same_set s.thread_states i (thread_state_of n) shows.thread_state;
      mutator = to_phase (limits_of b) n (phase.Storing (record st { phase = store.Unlogged })) goes (of_space shows.mutator) (shows.mutator.sound.busy refl) (told_above n.log.room (length n.log.items) e, refl)
          (store_on n begun store.Unlogged n.log shows.mutator.steady);
      history = none_more _ _ n.replies.items;
      places = refl;
    }

-- a step that looks at the bit is an event
begun_step : (b : Beginning) (s : EpochState) (words : List ℕ) (i : ℕ) (m : Mutating) (st : Storing) → ShowsAs b s words i (in_store m st store.Begun) → StepIsEvent b s words i (in_store m st store.Begun)
begun_step b s words i m st shows =
    let n = in_store m st store.Begun in
    let begun = record st { phase = store.Begun } in
    let at : ℕ = word_of st in
    let word = reference_there b s st.place.0 st.index shows.epoch (shows.epoch.image.placed.knows i (thread_state_of n) shows.thread_state).stands in
    by_access b s words i n (Look (Unlogged at)) shows (on_bit n begun kind.Load 0 shows.mutator.steady) (record { table_entry = word.within; entry = tt })
    (λ old told. of_event b s i n (Look (Unlogged at)) old refl (looked b s words i m st (is_set old (at % 64)) (is_full m.log) shows (sym told) refl))

-- ---- it loads the reference

-- a step that loads the reference is an event
unlogged_step : (b : Beginning) (s : EpochState) (words : List ℕ) (i : ℕ) (m : Mutating) (st : Storing) → ShowsAs b s words i (in_store m st store.Unlogged) → StepIsEvent b s words i (in_store m st store.Unlogged)
unlogged_step b s words i m st shows =
    let n = in_store m st store.Unlogged in
    let before = record st { phase = store.Unlogged } in
    let at : ℕ = word_of st in
    let goes = goes_on n shows.mutator.sound (λ q. cc) in
    let word = reference_there b s st.place.0 st.index shows.epoch (shows.epoch.image.placed.knows i (thread_state_of n) shows.thread_state).stands in
    let room = shows.mutator.sound.phase.0 in
    let found = place_in (s.tables.heap at) in
    by_access b s words i n (Look (Heap at)) shows (on_heap (limits_of b) n.regions kind.Load at 0 shows.mutator.regions) (record { table_entry = word.within; entry = tt })
    (λ old told. subst (IsEventOf b s i n (Look (Heap at))) (sym told) (record {
      accepts = refl;
      event = epoch.LoadsOld st.place.0 st.index;
      may = record { stage = refl; does = store_shown n before goes shows.mutator.steady; room = room };
      tables = refl;
      thread_states = refl;
      mutator = to_phase (limits_of b) n (phase.Storing (record st { phase = store.Loaded found })) goes (of_space shows.mutator) (shows.mutator.sound.busy refl) (room, refl)
          (store_on n before (store.Loaded found) n.log shows.mutator.steady);
      history = none_more _ _ n.replies.items;
      places = refl;
    }))

-- ---- it clears the bit

-- to clear a bit that is clear changes nothing
clear_stays : (t : Tables) (at : ℕ) → t.unlogged at ≡ false → t ≡ record t { unlogged = changed t.unlogged at false }
clear_stays t at clear = λ j. record t { unlogged = λ k. entry k j }
  where
    entry : (k : ℕ) → t.unlogged k ≡ changed t.unlogged at false k
    entry k = elim (eqb_tells k at) as (λ _. t.unlogged k ≡ changed t.unlogged at false k) [
      | inl q ↦ ap t.unlogged q.1 ∙ clear ∙ sym (ap (λ c. cond c false (t.unlogged k)) q.0)
      | inr q ↦ sym (ap (λ c. cond c false (t.unlogged k)) q.0)
    ]

-- the machine once it has cleared the bit, by whether that was set
abbrev cleared_to : Mutating → Storing → Place → Bool → Mutating
cleared_to m st first bit = record m { log = if bit then pushed m.log (entry_of st first) else m.log; phase = phase.Storing (record st { phase = store.Logged }) }

-- what it is then is an event
cleared : (b : Beginning) (s : EpochState) (words : List ℕ) (i : ℕ) (m : Mutating) (st : Storing) (first : Place) (bit : Bool) → ShowsAs b s words i (in_store m st (store.Loaded first))
    → s.tables.unlogged (word_of st) ≡ bit
    → IsEventTo b s i (in_store m st (store.Loaded first)) (ClearUnlogged (word_of st)) (cleared_to (in_store m st (store.Loaded first)) st first bit)
cleared b s words i m st first true shows set =
    let n = in_store m st (store.Loaded first) in
    let before = record st { phase = store.Loaded first } in
    let goes = goes_on n shows.mutator.sound (λ q. cc) in
    let knows = (shows.epoch.image.placed.knows i (thread_state_of n) shows.thread_state).stands in
    let log = pushed n.log (entry_of st first) in
    record {
      event = epoch.ClearsFirst (entry_of st first) knows.name;
      may = record {
        clear = record { stage = refl; does = store_shown n before goes shows.mutator.steady; room = shows.mutator.sound.phase.0; unlogged = set };
        member = knows.member;
        place = knows.stands;
      };
      tables = refl;
      thread_states = refl;
      mutator = to_phase (limits_of b) (record n { log = log }) (phase.Storing (record st { phase = store.Logged })) (with_log n log goes) (of_space shows.mutator) (shows.mutator.sound.busy refl) (tt, refl)
          (store_on n before store.Logged log shows.mutator.steady);
      history = none_more _ _ n.replies.items;
      places = refl;
    }
cleared b s words i m st first false shows clear =
    let n = in_store m st (store.Loaded first) in
    let before = record st { phase = store.Loaded first } in
    let goes = goes_on n shows.mutator.sound (λ q. cc) in
    record {
      event = epoch.ClearsLate (entry_of st first);
      may = record { stage = refl; does = store_shown n before goes shows.mutator.steady; room = shows.mutator.sound.phase.0; unlogged = clear };
      tables = clear_stays s.tables (word_of st) clear;
      thread_states = refl;
      mutator = to_phase (limits_of b) n (phase.Storing (record st { phase = store.Logged })) goes (of_space shows.mutator) (shows.mutator.sound.busy refl) (tt, refl)
          (store_on n before store.Logged n.log shows.mutator.steady);
      history = none_more _ _ n.replies.items;
      places = refl;
    }

-- a step that clears the bit is an event
loaded_step : (b : Beginning) (s : EpochState) (words : List ℕ) (i : ℕ) (m : Mutating) (st : Storing) (first : Place) → ShowsAs b s words i (in_store m st (store.Loaded first))
    → StepIsEvent b s words i (in_store m st (store.Loaded first))
loaded_step b s words i m st first shows =
    let n = in_store m st (store.Loaded first) in
    let before = record st { phase = store.Loaded first } in
    let at : ℕ = word_of st in
    let word = reference_there b s st.place.0 st.index shows.epoch (shows.epoch.image.placed.knows i (thread_state_of n) shows.thread_state).stands in
    by_access b s words i n (ClearUnlogged at) shows (on_bit n before kind.And (all_but (at % 64)) shows.mutator.steady) (record { table_entry = word.within; entry = tt })
    (λ old told. of_event b s i n (ClearUnlogged at) old refl (cleared b s words i m st first (is_set old (at % 64)) shows (sym told)))

-- ---- it stores, or swaps

-- a mutator at the last step of its store
abbrev at_last : Mutating → Storing → LastStep → Mutating
at_last m st last = in_store m (record st { last = last }) store.Logged

-- a step that stores is an event
stores_step : (b : Beginning) (s : EpochState) (words : List ℕ) (i : ℕ) (m : Mutating) (st : Storing) → ShowsAs b s words i (at_last m st last_step.Store) → StepIsEvent b s words i (at_last m st last_step.Store)
stores_step b s words i m st shows =
    let n = at_last m st last_step.Store in
    let l = limits_of b in
    let at : ℕ = word_of st in
    let goes = goes_on n shows.mutator.sound (λ q. cc) in
    let more = shows.mutator.sound.busy refl in
    let is = shows.mutator.steady in
    let word = reference_there b s st.place.0 st.index shows.epoch (shows.epoch.image.placed.knows i (thread_state_of n) shows.thread_state).stands in
    by_access b s words i n (PutHeap at st.value.0) shows (on_heap l n.regions kind.Store at st.value.0 shows.mutator.regions) (record { table_entry = word.within; entry = tt })
    (λ old told. record {
      accepts = refl;
      event = epoch.StoresReference (op_now n) st.place.0 st.index st.value.0;
      may = record {
        stage = refl;
        does = now_shown n goes;
        base = is.base;
        source = is.source;
        stores = is.now ∙ ap (λ (k : ℕ). op.Store is.base k is.source) (sym is.index_is);
        value_is = ap (λ (p : Place). p.0) is.value;
      };
      tables = refl;
      thread_states = ap (slice_set s.thread_states i) (sym (thread_state_done n (op_now n) reply.Stored goes.since (no_end_now n goes more)));
      mutator = to_done l n reply.Stored goes (of_space shows.mutator) more;
      history = one_more _ _ n.replies.items reply.Stored;
      places = refl;
    })

-- the swap of an operation, by its parts
swap_parts : (o : Op) (dest base k index source : ℕ) → o ≡ op.Swap dest base k source → index ≡ k → o ≡ op.Swap (dest_of o) base index source
swap_parts o dest base k index source is same = is ∙ (λ j. op.Swap (sym (ap dest_of is) j) base (sym same j) source)

-- a step that swaps is an event
swaps_step : (b : Beginning) (s : EpochState) (words : List ℕ) (i : ℕ) (m : Mutating) (st : Storing) → ShowsAs b s words i (at_last m st last_step.Swap) → StepIsEvent b s words i (at_last m st last_step.Swap)
swaps_step b s words i m st shows =
    let n = at_last m st last_step.Swap in
    let l = limits_of b in
    let at : ℕ = word_of st in
    let goes = goes_on n shows.mutator.sound (λ q. cc) in
    let more = shows.mutator.sound.busy refl in
    let is = shows.mutator.steady in
    let word = reference_there b s st.place.0 st.index shows.epoch (shows.epoch.image.placed.knows i (thread_state_of n) shows.thread_state).stands in
    let low = word.low in
    let p = place_in (s.tables.heap at) in
    by_access b s words i n (SwapHeap at st.value.0) shows (on_heap l n.regions kind.Swap at st.value.0 shows.mutator.regions) (record { table_entry = word.within; entry = tt })
    (λ old told. subst (IsEventOf b s i n (SwapHeap at st.value.0)) (sym told) (record {
      accepts = is_le (s.tables.heap at) (MOST_GRANULES) low;
      event = epoch.SwapsReference (op_now n) (dest_of (op_now n)) st.place.0 st.index st.value.0;
      may = record {
        stage = refl;
        does = now_shown n goes;
        base = is.base;
        source = is.source;
        swaps = swap_parts (op_now n) is.dest is.base is.index st.index is.source is.now is.index_is;
        value_is = ap (λ (q : Place). q.0) is.value;
      };
      tables = refl;
      thread_states = ap (slice_set s.thread_states i) (sym (taken_shown n p (nat_eq p.0 0) shows.names goes.since (no_end_now n goes more)));
      mutator = taken_kept l n p (nat_eq p.0 0) shows.names (dest_now n shows.mutator.sound) goes (of_space shows.mutator) more (ap takes_reference is.now) (omega (arith, low)) refl;
      history = refl;
      places = refl;
    }))

-- a last step is an event
last_by : (b : Beginning) (s : EpochState) (words : List ℕ) (i : ℕ) (m : Mutating) (st : Storing) (last : LastStep) → ShowsAs b s words i (at_last m st last) → StepIsEvent b s words i (at_last m st last)
last_by b s words i m st last_step.Store shows = stores_step b s words i m st shows
last_by b s words i m st last_step.Swap shows = swaps_step b s words i m st shows

-- a step in a phase of a store is an event
store_step : (b : Beginning) (s : EpochState) (words : List ℕ) (i : ℕ) (m : Mutating) (st : Storing) (p : StorePhase) → ShowsAs b s words i (in_store m st p) → StepIsEvent b s words i (in_store m st p)
store_step b s words i m st store.Begun shows = begun_step b s words i m st shows
store_step b s words i m st store.Unlogged shows = unlogged_step b s words i m st shows
store_step b s words i m st (store.Loaded first) shows = loaded_step b s words i m st first shows
store_step b s words i m st store.Logged shows = last_by b s words i m st st.last shows
store_step b s words i m st (store.Ended how) shows = absurd (let going = shows.mutator.sound.phase.1 in cc)

-- a step of a store
pub storing_step : (b : Beginning) (s : EpochState) (words : List ℕ) (i : ℕ) (m : Mutating) (st : Storing) → ShowsAs b s words i (in_phase m (phase.Storing st)) → StepIsEvent b s words i (in_phase m (phase.Storing st))
storing_step b s words i m st shows = store_step b s words i m st st.phase shows
