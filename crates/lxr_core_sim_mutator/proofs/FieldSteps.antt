-- The steps of loads, gets, puts and adds on the field that they work on.
use Rattle.std.proofs.Common.{◌≡◌, ℕ, arith, refl, sym, subst, ap, ◌∙◌}
use Rattle.std.specs.Prelude.{List, Some, nat_eq, slice_set}
use Rattle.lxr_layout.specs.declared.TheConstants.{MOST_GRANULES}
use Rattle.lxr_layout.specs.declared.Name.{Name}
use Rattle.lxr_layout.specs.declared.Place.{Place}
use Rattle.lxr_layout.specs.Objects.{header_of}
use Rattle.lxr_layout.specs.Places.{field_word, first_word, place_in}
use Rattle.lxr_graph.specs.declared.Op.{Op}
use Rattle.lxr_graph.specs.declared.Op.TheVariants as op
use Rattle.lxr_graph.specs.declared.Reply.{Reply}
use Rattle.lxr_graph.specs.declared.Reply.TheVariants as reply
use Rattle.lxr_graph.specs.State.{shape_of}
use Rattle.lxr_actor.specs.declared.Kindred.TheVariants as kind
use Rattle.lxr_core_access.specs.declared.TableEntry.TheVariants.{Heap}
use Rattle.lxr_core_access.specs.declared.Access.TheVariants.{AddHeap, Look, PutHeap}
use Rattle.lxr_mutator.specs.declared.phases.MutatorPhase.TheVariants as phase
use Rattle.lxr_mutator.specs.Mutating.{Mutating, op_now}
use Rattle.lxr_mutator.specs.Operating.{dest_of, found_reply, index_of, value_of}
use Rattle.lxr_mutator.specs.Steps.{name_told}
use Rattle.lxr_mutator.proofs.NowLemmas.{dest_now}
use Rattle.lxr_core_invariant.specs.Events.{takes_reference, value_word}
use Rattle.lxr_core_invariant.specs.Events as epoch
use Rattle.lxr_core_invariant.specs.EpochStates.{Beginning, EpochState, limits_of, moment_of}
use Rattle.lxr_core_sim_mutator.specs.Showing.{thread_state_of}
use Rattle.lxr_core_sim_mutator.specs.Stepping.{ShowsAs, StepIsEvent}
use Rattle.lxr_core_sim_mutator.proofs.KeepingLemmas.{goes_on, no_end_now, now_shown, of_space, thread_state_done, to_done}
use Rattle.lxr_core_sim_mutator.proofs.OutcomeLemmas.{IsEventOf, by_access, in_phase, is_le, on_heap, one_more}
use Rattle.lxr_core_sim_mutator.proofs.TakingLemmas.{same_found, taken_kept, taken_shown}
use Rattle.lxr_core_sim_mutator.proofs.KnowingLemmas.{few_blocks, header_there, reference_there, told_is_header, value_there}

-- the parts of an operation of a kind
load_parts : (o : Op) → (dest : ℕ) × (base : ℕ) × (index : ℕ) × (o ≡ op.Load dest base index) → (base : ℕ) × (o ≡ op.Load (dest_of o) base (index_of o))
load_parts o is = (is.1, subst (λ z. z ≡ op.Load (dest_of z) is.1 (index_of z)) (sym is.3) refl)

-- so it is of a get
get_parts : (o : Op) → (base : ℕ) × (index : ℕ) × (o ≡ op.Get base index) → (base : ℕ) × (o ≡ op.Get base (index_of o))
get_parts o is = (is.0, subst (λ z. z ≡ op.Get is.0 (index_of z)) (sym is.2) refl)

-- and of a put
put_parts : (o : Op) → (base : ℕ) × (index : ℕ) × (value : ℕ) × (o ≡ op.Put base index value) → (base : ℕ) × (o ≡ op.Put base (index_of o) (value_of o))
put_parts o is = (is.0, subst (λ z. z ≡ op.Put is.0 (index_of z) (value_of z)) (sym is.3) refl)

-- and of an add
add_parts : (o : Op) → (base : ℕ) × (index : ℕ) × (value : ℕ) × (o ≡ op.Add base index value) → (base : ℕ) × (o ≡ op.Add base (index_of o) (value_of o))
add_parts o is = (is.0, subst (λ z. z ≡ op.Add is.0 (index_of z) (value_of z)) (sym is.3) refl)

-- ---- a load takes the reference

-- a step that loads the reference is an event
pub reference_step : (b : Beginning) (s : EpochState) (words : List ℕ) (i : ℕ) (m : Mutating) (base : Place) → ShowsAs b s words i (in_phase m (phase.Reference base))
    → StepIsEvent b s words i (in_phase m (phase.Reference base))
reference_step b s words i m base shows =
    let n = in_phase m (phase.Reference base) in
    let l = limits_of b in
    let is = shows.epoch in
    let goes = goes_on n shows.mutator.sound (λ e. cc) in
    let more = shows.mutator.sound.busy refl in
    let index : ℕ = index_of (op_now n) in
    let at : ℕ = field_word base.0 index in
    let knows = is.image.placed.knows i (thread_state_of n) shows.thread_state in
    let word = reference_there b s base.0 index is knows.stands in
    let low = word.low in
    let p = place_in (s.tables.heap at) in
    by_access b s words i n (Look (Heap at)) shows (on_heap l n.regions kind.Load at 0 shows.mutator.regions) (record { table_entry = word.within; entry = tt })
    (λ old told. subst (IsEventOf b s i n (Look (Heap at))) (sym told) (record {
      accepts = is_le (s.tables.heap at) (MOST_GRANULES) low;
      event = epoch.LoadsReference (op_now n) (dest_of (op_now n)) base.0 index;
      may = record { stage = refl; does = now_shown n goes; loads = load_parts (op_now n) shows.mutator.steady };
      tables = refl;
      thread_states = ap (slice_set s.thread_states i) (sym (taken_shown n p (nat_eq p.0 0) shows.names goes.since (no_end_now n goes more)));
      mutator = taken_kept l n p (nat_eq p.0 0) shows.names (dest_now n shows.mutator.sound) goes (of_space shows.mutator) more (ap takes_reference shows.mutator.steady.3) (omega (arith, low)) refl;
      history = refl;
      places = refl;
    }))

-- ---- and tells the name of what it found

-- a step that loads the header of what was found is an event
pub referent_step : (b : Beginning) (s : EpochState) (words : List ℕ) (i : ℕ) (m : Mutating) (place : Place) → ShowsAs b s words i (in_phase m (phase.Referent place))
    → StepIsEvent b s words i (in_phase m (phase.Referent place))
referent_step b s words i m place shows =
    let n = in_phase m (phase.Referent place) in
    let l = limits_of b in
    let is = shows.epoch in
    let goes = goes_on n shows.mutator.sound (λ e. cc) in
    let more = shows.mutator.sound.busy refl in
    let image = is.image.placed.image in
    let telling = (is.called.each i (thread_state_of n) shows.thread_state).replies in
    let there = image.stands telling.name telling.member in
    let head = header_there s.tables l.blocks s.at (moment_of b s) telling.name there.0 place.0 image (few_blocks b s is) telling.member there.1 telling.stands in
    let at : ℕ = first_word place.0 in
    let name : name_told (header_of (s.tables.heap at)) ≡ telling.name = ap name_told head.told in
    by_access b s words i n (Look (Heap at)) shows (on_heap l n.regions kind.Load at 0 shows.mutator.regions) (record { table_entry = head.word; entry = tt })
    (λ old told. subst (IsEventOf b s i n (Look (Heap at))) (sym told) (record {
      accepts = told_is_header (s.tables.heap at) telling.name (shape_of there.0) head.told;
      event = epoch.TellsName (op_now n) telling.name;
      may = record { place = place.0; shape = shape_of there.0; stage = refl; does = now_shown n goes; told = head.told };
      tables = refl;
      thread_states = ap (slice_set s.thread_states i) (sym (thread_state_done n (op_now n) (found_reply (op_now n) (Some (name_told (header_of (s.tables.heap at))))) goes.since (no_end_now n goes more)
          ∙ ap (λ (k : Name). epoch.done_with (thread_state_of n) (op_now n) (found_reply (op_now n) (Some k))) name
          ∙ ap (epoch.done_with (thread_state_of n) (op_now n)) (same_found (op_now n) (Some telling.name))));
      mutator = to_done l n (found_reply (op_now n) (Some (name_told (header_of (s.tables.heap at))))) goes (of_space shows.mutator) more;
      history = refl;
      places = refl;
    }))

-- ---- gets, puts and adds

-- a step that gets a data word is an event
pub datum_step : (b : Beginning) (s : EpochState) (words : List ℕ) (i : ℕ) (m : Mutating) (base : Place) (refs : ℕ) → ShowsAs b s words i (in_phase m (phase.Datum base refs))
    → StepIsEvent b s words i (in_phase m (phase.Datum base refs))
datum_step b s words i m base refs shows =
    let n = in_phase m (phase.Datum base refs) in
    let l = limits_of b in
    let is = shows.epoch in
    let goes = goes_on n shows.mutator.sound (λ e. cc) in
    let more = shows.mutator.sound.busy refl in
    let index : ℕ = index_of (op_now n) in
    let at : ℕ = value_word base.0 refs index in
    let knows = is.image.placed.knows i (thread_state_of n) shows.thread_state in
    let within = value_there b s base.0 refs index is knows.stands in
    let answer : Reply = reply.Got (s.tables.heap at) in
    by_access b s words i n (Look (Heap at)) shows (on_heap l n.regions kind.Load at 0 shows.mutator.regions) (record { table_entry = within; entry = tt })
    (λ old told. subst (IsEventOf b s i n (Look (Heap at))) (sym told) (record {
      accepts = refl;
      event = epoch.GetsValue (op_now n) base.0 refs index;
      may = record { stage = refl; does = now_shown n goes; gets = get_parts (op_now n) shows.mutator.steady };
      tables = refl;
      thread_states = ap (slice_set s.thread_states i) (sym (thread_state_done n (op_now n) answer goes.since (no_end_now n goes more)));
      mutator = to_done l n answer goes (of_space shows.mutator) more;
      history = one_more _ _ n.replies.items answer;
      places = refl;
    }))

-- a step that puts a data word is an event
pub putting_step : (b : Beginning) (s : EpochState) (words : List ℕ) (i : ℕ) (m : Mutating) (base : Place) (refs : ℕ) → ShowsAs b s words i (in_phase m (phase.Putting base refs))
    → StepIsEvent b s words i (in_phase m (phase.Putting base refs))
putting_step b s words i m base refs shows =
    let n = in_phase m (phase.Putting base refs) in
    let l = limits_of b in
    let is = shows.epoch in
    let goes = goes_on n shows.mutator.sound (λ e. cc) in
    let more = shows.mutator.sound.busy refl in
    let index : ℕ = index_of (op_now n) in
    let value : ℕ = value_of (op_now n) in
    let at : ℕ = value_word base.0 refs index in
    let knows = is.image.placed.knows i (thread_state_of n) shows.thread_state in
    let within = value_there b s base.0 refs index is knows.stands in
    by_access b s words i n (PutHeap at value) shows (on_heap l n.regions kind.Store at value shows.mutator.regions) (record { table_entry = within; entry = tt })
    (λ old told. record {
      accepts = refl;
      event = epoch.PutsValue (op_now n) base.0 refs index value;
      may = record { stage = refl; does = now_shown n goes; puts = put_parts (op_now n) shows.mutator.steady };
      tables = refl;
      thread_states = ap (slice_set s.thread_states i) (sym (thread_state_done n (op_now n) reply.Put goes.since (no_end_now n goes more)));
      mutator = to_done l n reply.Put goes (of_space shows.mutator) more;
      history = one_more _ _ n.replies.items reply.Put;
      places = refl;
    })

-- a step that adds to a data word is an event
pub adding_step : (b : Beginning) (s : EpochState) (words : List ℕ) (i : ℕ) (m : Mutating) (base : Place) (refs : ℕ) → ShowsAs b s words i (in_phase m (phase.Adding base refs))
    → StepIsEvent b s words i (in_phase m (phase.Adding base refs))
adding_step b s words i m base refs shows =
    let n = in_phase m (phase.Adding base refs) in
    let l = limits_of b in
    let is = shows.epoch in
    let goes = goes_on n shows.mutator.sound (λ e. cc) in
    let more = shows.mutator.sound.busy refl in
    let index : ℕ = index_of (op_now n) in
    let value : ℕ = value_of (op_now n) in
    let at : ℕ = value_word base.0 refs index in
    let knows = is.image.placed.knows i (thread_state_of n) shows.thread_state in
    let within = value_there b s base.0 refs index is knows.stands in
    let answer : Reply = reply.Added (s.tables.heap at) in
    by_access b s words i n (AddHeap at value) shows (on_heap l n.regions kind.Add at value shows.mutator.regions) (record { table_entry = within; entry = tt })
    (λ old told. subst (IsEventOf b s i n (AddHeap at value)) (sym told) (record {
      accepts = refl;
      event = epoch.AddsValue (op_now n) base.0 refs index value;
      may = record { stage = refl; does = now_shown n goes; adds = add_parts (op_now n) shows.mutator.steady };
      tables = refl;
      thread_states = ap (slice_set s.thread_states i) (sym (thread_state_done n (op_now n) answer goes.since (no_end_now n goes more)));
      mutator = to_done l n answer goes (of_space shows.mutator) more;
      history = one_more _ _ n.replies.items answer;
      places = refl;
    }))
