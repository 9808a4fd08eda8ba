-- The step that looks at the pause word between two operations, and begins one.
use Rattle.std.proofs.Common.{◌≡◌, ◌≢◌, ℕ, ◌+◌, ◌-◌, ◌/◌, ◌<◌, ◌≤◌, Bool, true, false, arith, refl, sym, subst, ap, ◌∙◌, inl, inr, ◌⊎◌, List, length, replicate}
use Rattle.std.specs.Prelude.{Some, None, ◌&&◌, nat_eq, nat_lt, slice_set, if◌then◌else◌}
use Rattle.lxr_layout.specs.declared.TheConstants.{MOST_GRANULES, PAUSE_WORD, REGISTERS}
use Rattle.lxr_layout.specs.declared.Place.{Place}
use Rattle.lxr_layout.specs.declared.Shape.{Shape}
use Rattle.lxr_layout.specs.Objects.{line_count, word_count}
use Rattle.lxr_alloc.specs.Spans.{FitsSpan, granule_count, rest_of}
use Rattle.lxr_graph.specs.declared.Op.{Op}
use Rattle.lxr_graph.specs.declared.Op.TheVariants as op
use Rattle.lxr_graph.specs.declared.Reply.{Reply}
use Rattle.lxr_graph.specs.declared.Reply.TheVariants as reply
use Rattle.lxr_graph.specs.Step.{IsFormedFor}
use Rattle.lxr_actor.specs.declared.Kindred.TheVariants as kind
use Rattle.lxr_core_access.specs.declared.TableEntry.TheVariants.{Cursor}
use Rattle.lxr_core_access.specs.declared.Access.TheVariants.{Look}
use Rattle.lxr_mutator.specs.declared.phases.MutEnd.TheVariants as ends
use Rattle.lxr_mutator.specs.declared.phases.MutatorPhase.TheVariants as phase
use Rattle.lxr_mutator.specs.Mutating.{Mutating, nil, op_now, register}
use Rattle.lxr_mutator.specs.Mutators.{IsHeld}
use Rattle.lxr_mutator.specs.Operating.{shape_made}
use Rattle.lxr_mutator.specs.Steps.{based, done_with, draws_for, ended, finished, has_room, in_current, in_overflow, is_medium, placed, shape_now, started}
use Rattle.lxr_mutator.proofs.NowLemmas.{formed_now}
use Rattle.lxr_invariant.proofs.BlockLemmas.{other_number}
use Rattle.lxr_invariant.proofs.EntryLemmas.{equal_numbers}
use Rattle.lxr_core_invariant.specs.ThreadStates.{ThreadState, Through, is_end}
use Rattle.lxr_core_invariant.specs.ThreadStates as why
use Rattle.lxr_core_invariant.specs.Events.{Current, Overflow, Source, at_once, bad_at, base_of}
use Rattle.lxr_core_invariant.specs.Events as epoch
use Rattle.lxr_core_invariant.specs.Happening.{MayBegin}
use Rattle.lxr_core_invariant.specs.EpochStates.{Beginning, EpochState, limits_of}
use Rattle.lxr_core_sim_mutator.specs.Showing.{thread_state_of}
use Rattle.lxr_core_sim_mutator.specs.Stepping.{ShowsAs, StepIsEvent}
use Rattle.lxr_core_sim_mutator.proofs.KeepingLemmas.{GoesOn, goes_on, more_to_do, no_end_now, now_shown, of_space, register_held, thread_state_done, to_done, to_end, to_finished, to_phase, with_place}
use Rattle.lxr_core_sim_mutator.proofs.OutcomeLemmas.{IsEventOf, IsEventTo, by_access, in_phase, new_shown, none_more, of_event, on_pause_word, one_more, told_above, told_from, told_le, told_lt}
use Rattle.lxr_core_sim_mutator.proofs.DrawingSteps.{to_current, to_overflow}

-- the last granule that an object takes of a span lies in the heap
front_low : (next end words : ℕ) → 2 ≤ words → words / 2 ≤ end - next → end ≤ MOST_GRANULES → next + 1 ≤ MOST_GRANULES
front_low next end words some room low = omega arith

-- an object has at least two words
some_words : (shape : Shape) → 2 ≤ word_count shape
some_words shape = omega arith

-- A mutator that rests while no pause is asked for.
record Begins (b : Beginning) (s : EpochState) (words : List ℕ) (i : ℕ) (m : Mutating) : Type 0 where
  pub shows : ShowsAs b s words i (in_phase m phase.Ready)
  pub goes : GoesOn (in_phase m phase.Ready)
  pub unasked : s.tables.cursors PAUSE_WORD ≢ 1

module _ (b : Beginning) (s : EpochState) (words : List ℕ) (i : ℕ) (m : Mutating) (is : Begins b s words i m) where
  -- the mutator that begins
  abbrev rested : Mutating
  rested = in_phase m phase.Ready

  -- the step that looks at the pause word is an event, and the machine is this then
  abbrev ToBe : Mutating → Type 0
  ToBe to = IsEventTo b s i rested (Look (Cursor PAUSE_WORD)) to

  -- it may begin
  begin : MayBegin s.tables (thread_state_of rested)
  begin = record { stage = refl; unasked = is.unasked }

  -- an operation that is done at once
  at_once_done : (r : Reply) (registers : List Place) → GoesOn (record rested { registers = registers }) → length m.replies.items < length m.operations
      → at_once (thread_state_of rested) (op_now m) ≡ Some (r, registers) → ToBe (done_with (record rested { registers = registers }) r)
  at_once_done r registers goes more replies = record {
    event = epoch.DoesAtOnce (op_now m) r registers;
    may = record { begin = begin; does = now_shown rested is.goes; replies = replies };
    tables = refl;
    thread_states = ap (slice_set s.thread_states i) (sym (thread_state_done (record rested { registers = registers }) (op_now m) r is.goes.since (no_end_now rested is.goes more)));
    mutator = to_done (limits_of b) (record rested { registers = registers }) r goes (of_space is.shows.mutator) more;
    history = one_more _ _ m.replies.items r;
    places = refl;
  }

  -- the end
  thread_state_ended : is_end (op_now m) ≡ true → epoch.done_with (record (thread_state_of rested) { registers = replicate REGISTERS nil }) (op_now m) reply.Ended ≡ thread_state_of (ended rested)
  thread_state_ended e =
      let since = ap (λ c. if c then m.since else (m.since + 1)) e in
      let stage = ap (λ c. if c then (Through why.Ended) else (if nat_eq (m.since + 1) m.every then (Through why.Turns) else why.Rests)) e in
      λ j. record (thread_state_of (ended rested)) { since = since j; stage = stage j }

  -- a step at which the end is done is an event
  end_done : op_now m ≡ op.End → ToBe (ended rested)
  end_done e = record {
    event = epoch.DoesAtOnce (op_now m) reply.Ended (replicate REGISTERS nil);
    may = record { begin = begin; does = now_shown rested is.goes; replies = ap (at_once (thread_state_of rested)) e };
    tables = refl;
    thread_states = ap (slice_set s.thread_states i) (thread_state_ended (ap is_end e));
    mutator = to_end (limits_of b) rested is.goes (of_space is.shows.mutator);
    history = one_more _ _ m.replies.items reply.Ended;
    places = refl;
  }

  -- ---- a base

  -- an operation with a base, which is nil or not
  based_by : (r k : ℕ) (none : Bool) → base_of (op_now m) ≡ Some (r, k) → at_once (thread_state_of rested) (op_now m) ≡ bad_at (thread_state_of rested) r → length m.replies.items < length m.operations
      → nat_eq (register m r).0 0 ≡ none → ToBe (if none then done_with rested reply.Bad else in_phase m (phase.Base (register m r)))
  based_by r k true named bad more e =
      at_once_done reply.Bad m.registers is.goes more (bad ∙ ap (λ c. if c then Some (reply.Bad, m.registers) else None) e)
  based_by r k false named bad more e =
      let held : IsHeld (register m r) = register_held rested r is.goes in
      let some = other_number (register m r).0 0 e in
      record {
        event = epoch.Begins;
        may = begin;
        tables = refl;
        thread_states = refl;
        mutator = to_phase (limits_of b) rested (phase.Base (register m r)) is.goes (of_space is.shows.mutator) more (omega (arith, some), held)
            (record { register_of = r; index = k; named = named; held = refl; some = some });
        history = none_more _ _ m.replies.items;
        places = refl;
      }

  -- an operation with a base
  based_on : (r k : ℕ) → base_of (op_now m) ≡ Some (r, k) → at_once (thread_state_of rested) (op_now m) ≡ bad_at (thread_state_of rested) r → length m.replies.items < length m.operations → ToBe (based rested (register m r))
  based_on r k named bad more = based_by r k (nat_eq (register m r).0 0) named bad more refl

  -- ---- an object

  module _ (dest : ℕ) (new : (shape : Shape) × (op_now m ≡ op.New dest shape)) (more : length m.replies.items < length m.operations) where
    draws_by : (medium : Bool) → nat_lt 1 (line_count (shape_now m)) ≡ medium → ¬ FitsSpan m.spans.current (shape_now m) → ToBe (in_phase m (if medium then phase.DrawsBlock else phase.DrawsRun))
    draws_by true e full = record {
      event = epoch.BeginsBlock;
      may = (begin, (shape_now m, new_shown rested is.goes (dest, new.0, new.1)));
      tables = refl;
      thread_states = refl;
      mutator = to_phase (limits_of b) rested phase.DrawsBlock is.goes (of_space is.shows.mutator) more full (dest, new.0, new.1);
      history = none_more _ _ m.replies.items;
      places = refl;
    }
    draws_by false e full =
        let small = told_from 1 (line_count (shape_now m)) e in
        let some = some_words (shape_now m) in
        record {
          event = epoch.Begins;
          may = begin;
          tables = refl;
          thread_states = refl;
          mutator = to_phase (limits_of b) rested phase.DrawsRun is.goes (of_space is.shows.mutator) more (small, full) ((dest, new.0, new.1), one (word_count (shape_now m)) some small);
          history = none_more _ _ m.replies.items;
          places = refl;
        }
      where
        one : (count : ℕ) → 2 ≤ count → (count + 31) / 32 ≤ 1 → (count + 31) / 32 ≡ 1
        one count some small = omega arith

    overflow_by : (medium fits : Bool) → nat_lt 1 (line_count (shape_now m)) ≡ medium → has_room m.spans.overflow (shape_now m) ≡ fits → ¬ FitsSpan m.spans.current (shape_now m)
        → ToBe (if medium && fits then in_overflow rested (shape_now m) m.spans.overflow else in_phase m (draws_for (shape_now m)))
    overflow_by true true e f full =
        let room = told_le (granule_count (shape_now m)) (rest_of m.spans.overflow) f in
        record {
          event = epoch.Bumps Overflow (shape_now m);
          may = record { begin = begin; fits = record { does = new_shown rested is.goes (dest, new.0, new.1); room = room; medium = λ _. told_lt 1 (line_count (shape_now m)) e } };
          tables = refl;
          thread_states = refl;
          mutator = to_overflow (limits_of b) rested m.spans.overflow is.goes (of_space is.shows.mutator) more (dest, new.0, new.1) is.goes.spans.1
              (front_low m.spans.overflow.next m.spans.overflow.end (word_count (shape_now m)) (some_words (shape_now m)) room is.goes.spans.1);
          history = none_more _ _ m.replies.items;
          places = refl;
        }
    overflow_by true false e f full = draws_by (is_medium (shape_now m)) refl full
    overflow_by false fits e f full = draws_by (is_medium (shape_now m)) refl full

    current_by : (fits : Bool) → has_room m.spans.current (shape_now m) ≡ fits
        → ToBe (if fits then in_current rested (shape_now m) m.spans.current
        else if is_medium (shape_now m) && has_room m.spans.overflow (shape_now m) then in_overflow rested (shape_now m) m.spans.overflow
        else in_phase m (draws_for (shape_now m)))
    current_by true f =
        let room = told_le (granule_count (shape_now m)) (rest_of m.spans.current) f in
        record {
          event = epoch.Bumps Current (shape_now m);
          may = record { begin = begin; fits = record { does = new_shown rested is.goes (dest, new.0, new.1); room = room; medium = λ q. absurd (cc) } };
          tables = refl;
          thread_states = refl;
          mutator = to_current (limits_of b) rested m.spans.current is.goes (of_space is.shows.mutator) more (dest, new.0, new.1) is.goes.spans.0
              (front_low m.spans.current.next m.spans.current.end (word_count (shape_now m)) (some_words (shape_now m)) room is.goes.spans.0);
          history = none_more _ _ m.replies.items;
          places = refl;
        }
    current_by false f =
        let small = told_above (granule_count (shape_now m)) (rest_of m.spans.current) f in
        overflow_by (is_medium (shape_now m)) (has_room m.spans.overflow (shape_now m)) refl refl (λ room. absurd (let k : granule_count (shape_now m) ≤ rest_of m.spans.current = room in omega (arith, k, small)))

    placed_now : ToBe (placed rested (shape_now m))
    placed_now = current_by (has_room m.spans.current (shape_now m)) refl

  -- ---- all operations

  -- an operation that is no end is one of the script
  more_of : (o : Op) → op_now m ≡ o → o ≢ op.End → length m.replies.items < length m.operations
  more_of o e ne = more_to_do m (λ q. ne (sym e ∙ q))

  -- it asks for a pause next
  asks_next : ((op_now m ≡ op.Pause) ⊎ (op_now m ≡ op.Collect)) → length m.replies.items < length m.operations → ToBe (in_phase m phase.Asking)
  asks_next asks more = record {
    event = epoch.Begins;
    may = begin;
    tables = refl;
    thread_states = refl;
    mutator = to_phase (limits_of b) rested phase.Asking is.goes (of_space is.shows.mutator) more tt asks;
    history = none_more _ _ m.replies.items;
    places = refl;
  }

  -- the operation names registers that it may name
  named : (o : Op) → op_now m ≡ o → IsFormedFor m.width o
  named o e = subst (IsFormedFor m.width) e (formed_now rested is.shows.mutator.sound)

  -- however an operation begins, that is an event
  starts : (o : Op) → op_now m ≡ o → ToBe (started rested o)
  starts (op.New dest shape) e =
      subst (λ z. ToBe (placed rested z)) (ap shape_made e) (placed_now dest (shape, e) (more_of (op.New dest shape) e (λ q. cc)))
  starts (op.Load dest r k) e = based_on r k (ap base_of e) (ap (at_once (thread_state_of rested)) e) (more_of (op.Load dest r k) e (λ q. cc))
  starts (op.Store r k source) e = based_on r k (ap base_of e) (ap (at_once (thread_state_of rested)) e) (more_of (op.Store r k source) e (λ q. cc))
  starts (op.Put r k value) e = based_on r k (ap base_of e) (ap (at_once (thread_state_of rested)) e) (more_of (op.Put r k value) e (λ q. cc))
  starts (op.Get r k) e = based_on r k (ap base_of e) (ap (at_once (thread_state_of rested)) e) (more_of (op.Get r k) e (λ q. cc))
  starts (op.Swap dest r k source) e = based_on r k (ap base_of e) (ap (at_once (thread_state_of rested)) e) (more_of (op.Swap dest r k source) e (λ q. cc))
  starts (op.Add r k value) e = based_on r k (ap base_of e) (ap (at_once (thread_state_of rested)) e) (more_of (op.Add r k value) e (λ q. cc))
  starts (op.Move dest source) e =
      at_once_done reply.Moved (slice_set m.registers dest (register m source)) (with_place rested dest (register m source) (named (op.Move dest source) e).0 is.goes (register_held rested source is.goes))
      (more_of (op.Move dest source) e (λ q. cc)) (ap (at_once (thread_state_of rested)) e)
  starts (op.Nil dest) e =
      at_once_done reply.Cleared (slice_set m.registers dest nil) (with_place rested dest nil (named (op.Nil dest) e) is.goes (omega arith)) (more_of (op.Nil dest) e (λ q. cc)) (ap (at_once (thread_state_of rested)) e)
  starts (op.Same left right) e =
      at_once_done (reply.Same (nat_eq (register m left).0 (register m right).0)) m.registers is.goes (more_of (op.Same left right) e (λ q. cc)) (ap (at_once (thread_state_of rested)) e)
  starts op.Pause e = asks_next (inl e) (more_of op.Pause e (λ q. cc))
  starts op.Collect e = asks_next (inr e) (more_of op.Collect e (λ q. cc))
  starts op.End e = end_done e

-- it sees that a pause is asked for, or begins
ready_by : (b : Beginning) (s : EpochState) (words : List ℕ) (i : ℕ) (m : Mutating) (asked : Bool) → ShowsAs b s words i (in_phase m phase.Ready) → nat_eq (s.tables.cursors PAUSE_WORD) 1 ≡ asked
    → IsEventTo b s i (in_phase m phase.Ready) (Look (Cursor PAUSE_WORD)) (if asked then finished (in_phase m phase.Ready) ends.Asked else started (in_phase m phase.Ready) (op_now m))
ready_by b s words i m true shows e =
    let n = in_phase m phase.Ready in
    let goes = goes_on n shows.mutator.sound (λ q. cc) in
    record {
      event = epoch.Obeys;
      may = (refl, equal_numbers (s.tables.cursors PAUSE_WORD) 1 e);
      tables = refl;
      thread_states = refl;
      mutator = to_finished (limits_of b) n ends.Asked goes (of_space shows.mutator) (λ q. absurd (cc));
      history = none_more _ _ n.replies.items;
      places = refl;
    }
ready_by b s words i m false shows e =
    let n = in_phase m phase.Ready in
    let goes = goes_on n shows.mutator.sound (λ q. cc) in
    starts b s words i m (record { shows = shows; goes = goes; unasked = other_number (s.tables.cursors PAUSE_WORD) 1 e }) (op_now m) refl

-- a step between two operations is an event
pub ready_step : (b : Beginning) (s : EpochState) (words : List ℕ) (i : ℕ) (m : Mutating) → ShowsAs b s words i (in_phase m phase.Ready) → StepIsEvent b s words i (in_phase m phase.Ready)
ready_step b s words i m shows =
    let n = in_phase m phase.Ready in
    let word : ℕ = s.tables.cursors PAUSE_WORD in
    by_access b s words i n (Look (Cursor PAUSE_WORD)) shows (on_pause_word n.regions kind.Load 0) (record { table_entry = omega arith; entry = tt })
    (λ old told. subst (IsEventOf b s i n (Look (Cursor PAUSE_WORD))) (sym told) (of_event b s i n (Look (Cursor PAUSE_WORD)) word refl (ready_by b s words i m (nat_eq word 1) shows refl)))
