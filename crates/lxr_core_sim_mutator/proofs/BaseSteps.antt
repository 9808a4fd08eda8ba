-- The step that reads the header of an operation's base.
use Rattle.std.proofs.Common.{◌≡◌, ℕ, ◌+◌, ◌*◌, ◌<◌, ◌≤◌, Bool, true, false, arith, refl, sym, subst, ap, ◌∙◌}
use Rattle.std.specs.Prelude.{List, Option, Some, None, IsTrue, nat_lt, slice_set, if◌then◌else◌}
use Rattle.lxr_layout.specs.Spaces.{regions_of}
use Rattle.lxr_layout.specs.declared.TheConstants.{WORDS_IN_BLOCK}
use Rattle.lxr_layout.specs.declared.Place.{Place}
use Rattle.lxr_layout.specs.declared.Shape.{Shape}
use Rattle.lxr_layout.specs.declared.limits.Limits.{Limits}
use Rattle.lxr_layout.specs.declared.limits.Regions.{Regions}
use Rattle.lxr_layout.specs.Objects.{header_of, word_count}
use Rattle.lxr_layout.specs.Places.{first_word}
use Rattle.lxr_graph.specs.declared.Op.{Op}
use Rattle.lxr_graph.specs.declared.Op.TheVariants as op
use Rattle.lxr_graph.specs.declared.Reply.TheVariants as reply
use Rattle.lxr_graph.specs.State.{shape_of}
use Rattle.lxr_actor.specs.declared.Kindred.TheVariants as kind
use Rattle.lxr_barrier.specs.declared.machines.LastStep.{LastStep}
use Rattle.lxr_barrier.specs.declared.machines.LastStep.TheVariants as last_step
use Rattle.lxr_barrier.specs.Storing.{begun}
use Rattle.lxr_core_access.specs.declared.TableEntry.TheVariants.{Heap}
use Rattle.lxr_core_access.specs.declared.Access.TheVariants.{Look}
use Rattle.lxr_mutator.specs.declared.phases.MutatorPhase.{MutatorPhase}
use Rattle.lxr_mutator.specs.declared.phases.MutatorPhase.TheVariants as phase
use Rattle.lxr_mutator.specs.Mutating.{Mutating, op_now, register}
use Rattle.lxr_mutator.specs.Operating.{indexed_fields, index_of}
use Rattle.lxr_mutator.specs.Steps.{done_with, reaching, shape_told}
use Rattle.lxr_core_invariant.specs.ThreadStates.{AtReference, AtValue, Works}
use Rattle.lxr_core_invariant.specs.Events.{TellsObject, WorksOn, base_of, indexed, is_for_reference}
use Rattle.lxr_core_invariant.specs.Events as epoch
use Rattle.lxr_core_invariant.specs.Happening.{ReadsHeader, at_stage}
use Rattle.lxr_core_invariant.specs.EpochStates.{Beginning, EpochState, limits_of, moment_of}
use Rattle.lxr_core_invariant.proofs.ActingLemmas.{acts, base_held, same_pair}
use Rattle.lxr_core_sim_mutator.specs.Showing.{IsMutatorOf, stage_in, thread_state_of, written_by}
use Rattle.lxr_core_sim_mutator.specs.Stepping.{ShowsAs, StepIsEvent}
use Rattle.lxr_core_sim_mutator.proofs.KeepingLemmas.{GoesOn, goes_on, no_end_now, now_shown, of_space, thread_state_done, to_done, to_phase}
use Rattle.lxr_core_sim_mutator.proofs.OutcomeLemmas.{IsEventOf, IsEventTo, both, by_access, in_phase, is_le, none_more, of_event, on_heap, one_more, told_from, told_lt}
use Rattle.lxr_core_sim_mutator.proofs.KnowingLemmas.{few_blocks, header_there, told_is_header}

-- an operation without a base names none
no_base : {x : ℕ × ℕ} → ◌≡◌ {A = Option (ℕ × ℕ)} (Some x) None → ⊥
no_base e = cc

-- A mutator that is to read the header at a place, and what the header tells.
record Reads (b : Beginning) (s : EpochState) (words : List ℕ) (i : ℕ) (m : Mutating) (base : Place) (shape : Shape) : Type 0 where
  pub shows : ShowsAs b s words i (in_phase m (phase.Base base))
  pub goes : GoesOn (in_phase m (phase.Base base))
  pub reads : ReadsHeader s.tables (thread_state_of (in_phase m (phase.Base base))) (op_now m) base.0 (index_of (op_now m)) shape

module _ (b : Beginning) (s : EpochState) (words : List ℕ) (i : ℕ) (m : Mutating) (base : Place) (shape : Shape) (is : Reads b s words i m base shape) where
  -- the mutator that reads it
  abbrev reader : Mutating
  reader = in_phase m (phase.Base base)

  -- a reference of that index is there
  finds_reference : (to : MutatorPhase) → IsMutatorOf (limits_of b) (in_phase m to) → Works (AtReference base.0 (index_of (op_now m))) ≡ stage_in (in_phase m to) to → IsTrue (is_for_reference (op_now m))
      → index_of (op_now m) < shape.refs → IsEventTo b s i reader (Look (Heap (first_word base.0))) (in_phase m to)
  finds_reference to kept shown reference within = record {
    event = epoch.FindsReference base.0 (index_of (op_now m));
    may = record { now = op_now m; shape = shape; reads = is.reads; reference = reference; within = within };
    tables = refl;
    thread_states = ap (λ x. slice_set s.thread_states i (at_stage (thread_state_of reader) x)) shown;
    mutator = kept;
    history = none_more _ _ m.replies.items;
    places = refl;
  }

  -- a data word of that index is there
  finds_value : (to : MutatorPhase) → IsMutatorOf (limits_of b) (in_phase m to) → Works (AtValue base.0 shape.refs (index_of (op_now m))) ≡ stage_in (in_phase m to) to → is_for_reference (op_now m) ≡ false
      → index_of (op_now m) < shape.values → IsEventTo b s i reader (Look (Heap (first_word base.0))) (in_phase m to)
  finds_value to kept shown value within = record {
    event = epoch.FindsValue base.0 shape.refs (index_of (op_now m));
    may = record { now = op_now m; shape = shape; reads = is.reads; value = value; refs_are = refl; within = within };
    tables = refl;
    thread_states = ap (λ x. slice_set s.thread_states i (at_stage (thread_state_of reader) x)) shown;
    mutator = kept;
    history = none_more _ _ m.replies.items;
    places = refl;
  }

  -- none is there
  finds_none : indexed (op_now m) shape ≤ index_of (op_now m) → IsEventTo b s i reader (Look (Heap (first_word base.0))) (done_with reader reply.Range)
  finds_none past =
      let more = is.shows.mutator.sound.busy refl in
      record {
        event = epoch.FindsNone (op_now m);
        may = record { place = base.0; index = index_of (op_now m); shape = shape; reads = is.reads; past = past };
        tables = refl;
        thread_states = ap (slice_set s.thread_states i) (sym (thread_state_done reader (op_now m) reply.Range is.goes.since (no_end_now reader is.goes more)));
        mutator = to_done (limits_of b) reader reply.Range is.goes (of_space is.shows.mutator) more;
        history = one_more _ _ m.replies.items reply.Range;
        places = refl;
      }

  -- the machine in a phase of the field, or done
  abbrev reached_as : MutatorPhase → Bool → Mutating
  reached_as to there = if there then in_phase m to else done_with reader reply.Range

  -- a reference of that index is there, or not
  by_reference : (to : MutatorPhase) (there : Bool) → IsMutatorOf (limits_of b) (in_phase m to) → Works (AtReference base.0 (index_of (op_now m))) ≡ stage_in (in_phase m to) to → IsTrue (is_for_reference (op_now m))
      → nat_lt (index_of (op_now m)) shape.refs ≡ there → IsEventTo b s i reader (Look (Heap (first_word base.0))) (reached_as to there)
  by_reference to true kept shown reference e = finds_reference to kept shown reference (told_lt (index_of (op_now m)) shape.refs e)
  by_reference to false kept shown reference e =
      finds_none (subst (λ x. x ≤ index_of (op_now m)) (sym (ap (λ c. if c then shape.refs else shape.values) reference)) (told_from (index_of (op_now m)) shape.refs e))

  -- a data word of that index is there, or not
  by_value : (to : MutatorPhase) (there : Bool) → IsMutatorOf (limits_of b) (in_phase m to) → Works (AtValue base.0 shape.refs (index_of (op_now m))) ≡ stage_in (in_phase m to) to → is_for_reference (op_now m) ≡ false
      → nat_lt (index_of (op_now m)) shape.values ≡ there → IsEventTo b s i reader (Look (Heap (first_word base.0))) (reached_as to there)
  by_value to true kept shown value e = finds_value to kept shown value (told_lt (index_of (op_now m)) shape.values e)
  by_value to false kept shown value e =
      finds_none (subst (λ x. x ≤ index_of (op_now m)) (sym (ap (λ c. if c then shape.refs else shape.values) value)) (told_from (index_of (op_now m)) shape.values e))

  -- a store or a swap begins, where its reference is there
  reaches_store : (last : LastStep) (dest r k source : ℕ) → op_now m ≡ written_by last dest r k source → is_for_reference (op_now m) ≡ true → index_of (op_now m) ≡ k → base_of (op_now m) ≡ Some (r, k)
      → IsEventTo b s i reader (Look (Heap (first_word base.0))) (reached_as (phase.Storing (record (begun m.regions base k (register m source)) { last = last })) (nat_lt k shape.refs))
  reaches_store last dest r k source e reference index named =
      let works = is.shows.mutator.steady in
      let same = same_pair works.register_of works.index r k (sym works.named ∙ named) in
      let st = record (begun m.regions base k (register m source)) { last = last } in
      by_reference (phase.Storing st) (nat_lt k shape.refs)
      (to_phase (limits_of b) reader (phase.Storing st) is.goes (of_space is.shows.mutator) (is.shows.mutator.sound.busy refl) (tt, refl) (record {
        dest = dest;
        base = r;
        index = k;
        source = source;
        now = e;
        unlogged = refl;
        place = works.held ∙ ap (register m) same.0;
        index_is = refl;
        value = refl;
      }))
      (ap (λ (x : ℕ). Works (AtReference base.0 x)) index) reference (ap (λ (x : ℕ). nat_lt x shape.refs) index)

  -- the machine by its operation
  abbrev reached_by : Op → Mutating
  reached_by o = if nat_lt (index_of o) (indexed_fields o shape) then in_phase m (reaching reader base shape o) else done_with reader reply.Range

  -- it goes on at the field, by its operation
  reaches : (o : Op) → op_now m ≡ o → IsEventTo b s i reader (Look (Heap (first_word base.0))) (reached_by o)
  reaches (op.Load dest r k) e =
      let index = ap index_of e in
      by_reference (phase.Reference base) (nat_lt k shape.refs)
      (to_phase (limits_of b) reader (phase.Reference base) is.goes (of_space is.shows.mutator) (is.shows.mutator.sound.busy refl) is.shows.mutator.sound.phase (dest, r, k, e))
      refl (ap is_for_reference e) (ap (λ (x : ℕ). nat_lt x shape.refs) index)
  reaches (op.Store r k source) e = reaches_store last_step.Store 0 r k source e (ap is_for_reference e) (ap index_of e) (ap base_of e)
  reaches (op.Put r k value) e =
      let index = ap index_of e in
      by_value (phase.Putting base shape.refs) (nat_lt k shape.values)
      (to_phase (limits_of b) reader (phase.Putting base shape.refs) is.goes (of_space is.shows.mutator) (is.shows.mutator.sound.busy refl) is.shows.mutator.sound.phase (r, k, value, e))
      refl (ap is_for_reference e) (ap (λ (x : ℕ). nat_lt x shape.values) index)
  reaches (op.Get r k) e =
      let index = ap index_of e in
      by_value (phase.Datum base shape.refs) (nat_lt k shape.values)
      (to_phase (limits_of b) reader (phase.Datum base shape.refs) is.goes (of_space is.shows.mutator) (is.shows.mutator.sound.busy refl) is.shows.mutator.sound.phase (r, k, e))
      refl (ap is_for_reference e) (ap (λ (x : ℕ). nat_lt x shape.values) index)
  reaches (op.Swap dest r k source) e = reaches_store last_step.Swap dest r k source e (ap is_for_reference e) (ap index_of e) (ap base_of e)
  reaches (op.Add r k value) e =
      let index = ap index_of e in
      by_value (phase.Adding base shape.refs) (nat_lt k shape.values)
      (to_phase (limits_of b) reader (phase.Adding base shape.refs) is.goes (of_space is.shows.mutator) (is.shows.mutator.sound.busy refl) is.shows.mutator.sound.phase (r, k, value, e))
      refl (ap is_for_reference e) (ap (λ (x : ℕ). nat_lt x shape.values) index)
  reaches (op.New dest sh) e = absurd (no_base (sym is.shows.mutator.steady.named ∙ ap base_of e))
  reaches (op.Move dest source) e = absurd (no_base (sym is.shows.mutator.steady.named ∙ ap base_of e))
  reaches (op.Nil dest) e = absurd (no_base (sym is.shows.mutator.steady.named ∙ ap base_of e))
  reaches (op.Same left right) e = absurd (no_base (sym is.shows.mutator.steady.named ∙ ap base_of e))
  reaches op.Pause e = absurd (no_base (sym is.shows.mutator.steady.named ∙ ap base_of e))
  reaches op.Collect e = absurd (no_base (sym is.shows.mutator.steady.named ∙ ap base_of e))
  reaches op.End e = absurd (no_base (sym is.shows.mutator.steady.named ∙ ap base_of e))

-- the index of a base is that of the operation
index_named : (o : Op) (r k : ℕ) → base_of o ≡ Some (r, k) → k ≡ index_of o
index_named (op.Load dest a c) r k e = sym (same_pair a c r k e).1
index_named (op.Store a c source) r k e = sym (same_pair a c r k e).1
index_named (op.Put a c value) r k e = sym (same_pair a c r k e).1
index_named (op.Get a c) r k e = sym (same_pair a c r k e).1
index_named (op.Swap dest a c source) r k e = sym (same_pair a c r k e).1
index_named (op.Add a c value) r k e = sym (same_pair a c r k e).1
index_named (op.New dest sh) r k e = absurd (no_base (sym e))
index_named (op.Move dest source) r k e = absurd (no_base (sym e))
index_named (op.Nil dest) r k e = absurd (no_base (sym e))
index_named (op.Same left right) r k e = absurd (no_base (sym e))
index_named op.Pause r k e = absurd (no_base (sym e))
index_named op.Collect r k e = absurd (no_base (sym e))
index_named op.End r k e = absurd (no_base (sym e))

-- what ends within the heap ends before the counts
in_heap : (l : Limits) (r : Regions) (end : ℕ) → r ≡ regions_of l → end ≤ WORDS_IN_BLOCK * l.blocks → end ≤ r.counts
in_heap l r end is below = let counts = ap (λ x. x.counts) is in omega (arith, counts, below)

-- a step that reads the header of the base is an event
pub base_step : (b : Beginning) (s : EpochState) (words : List ℕ) (i : ℕ) (m : Mutating) (base : Place) → ShowsAs b s words i (in_phase m (phase.Base base)) → StepIsEvent b s words i (in_phase m (phase.Base base))
base_step b s words i m base shows =
    let n = in_phase m (phase.Base base) in
    let l = limits_of b in
    let is = shows.epoch in
    let goes = goes_on n shows.mutator.sound (λ e. cc) in
    let works = shows.mutator.steady in
    let at : ℕ = first_word base.0 in
    let word : ℕ = s.tables.heap at in
    let index = index_named (op_now n) works.register_of works.index works.named in
    let on : WorksOn (thread_state_of n) base.0 (index_of (op_now n)) = subst (WorksOn (thread_state_of n) base.0) index (record {
      now = op_now n;
      base = works.register_of;
      is = now_shown n goes;
      named = works.named;
      held = sym (ap (λ (p : Place). p.0) works.held);
      some = works.some;
    }) in
    let found = base_held s.tables l.blocks s.at (moment_of b s) (thread_state_of n) (op_now n) base.0 (index_of (op_now n)) (acts b s i (thread_state_of n) is shows.thread_state) (now_shown n goes) on in
    let head = header_there s.tables l.blocks s.at (moment_of b s) found.name found.object base.0 is.image.placed.image (few_blocks b s is) found.member found.is found.stands in
    let shape = shape_told (header_of word) in
    let same : shape_of found.object ≡ shape = sym (ap shape_told head.told) in
    by_access b s words i n (Look (Heap at)) shows (on_heap l n.regions kind.Load at 0 shows.mutator.regions) (record { table_entry = head.word; entry = tt })
    (λ old told. subst (IsEventOf b s i n (Look (Heap at))) (sym told) (of_event b s i n (Look (Heap at)) word
    (both _ _ (told_is_header word found.name (shape_of found.object) head.told)
    (is_le (at + word_count shape) n.regions.counts (in_heap l n.regions (at + word_count shape) shows.mutator.regions (subst (λ z. at + word_count z ≤ WORDS_IN_BLOCK * l.blocks) same head.within))))
    (reaches b s words i m base shape (record {
      shows = shows;
      goes = goes;
      reads = record { stage = refl; does = now_shown n goes; on = on; name = found.name; told = subst (TellsObject word found.name) same head.told };
    }) (op_now n) refl)))
