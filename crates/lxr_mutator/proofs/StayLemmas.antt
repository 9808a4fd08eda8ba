-- Each step leaves a mutator one.
use Rattle.std.proofs.Common.{◌≡◌, ◌≢◌, ℕ, zero, suc, ◌+◌, ◌<◌, ◌≤◌, ◌⊎◌, List, [], ◌∷◌, Bool, true, false, arith, refl, sym, subst, ap, Some, None, Option, inl, inr, length, ◌∙◌, length-append}
use Rattle.std.specs.Prelude.{◌&&◌, IsTrue, nat_eq, nat_le, nat_lt, if◌then◌else◌, slice_set, slice_index_or}
use Rattle.lxr_layout.specs.declared.TheConstants.{MOST_BLOCKS, MOST_GRANULES}
use Rattle.lxr_tables.specs.Entries.{is_set}
use Rattle.lxr_layout.specs.declared.Place.{Place}
use Rattle.lxr_layout.specs.declared.LogEntry.{LogEntry}
use Rattle.lxr_layout.specs.declared.Run.{Run}
use Rattle.lxr_layout.specs.declared.Shape.{Shape}
use Rattle.lxr_layout.specs.Objects.{header_of, line_count, word_count}
use Rattle.lxr_layout.specs.Places.{IsPlace, place_in}
use Rattle.lxr_base.specs.Roomy.{Roomy}
use Rattle.lxr_graph.specs.declared.Op.{Op}
use Rattle.lxr_graph.specs.declared.Op.TheVariants as op
use Rattle.lxr_graph.specs.declared.Reply.{Reply}
use Rattle.lxr_graph.specs.declared.Reply.TheVariants as reply
use Rattle.lxr_graph.specs.Step.{IsFormedFor}
use Rattle.lxr_alloc.specs.declared.Span.{Span}
use Rattle.lxr_alloc.specs.declared.Spans.{Spans}
use Rattle.lxr_alloc.specs.Spans.{FitsSpan, block_span, front_of, run_span, taken_from}
use Rattle.lxr_barrier.specs.declared.machines.StorePhase.{StorePhase}
use Rattle.lxr_barrier.specs.declared.machines.StorePhase.TheVariants as store_phase
use Rattle.lxr_barrier.specs.declared.StoreEnd.{StoreEnd}
use Rattle.lxr_barrier.specs.declared.StoreEnd.TheVariants as store_end
use Rattle.lxr_barrier.specs.Storing.{Storing, bit_number, end_of, is_full, log_after, log_in, phase_after, store_after, swaps_next}
use Rattle.lxr_barrier.proofs.EndLemmas.{swap_found}
use Rattle.lxr_barrier.specs.Storers.{HasRoomIn}
use Rattle.lxr_mutator.specs.declared.phases.MutEnd.{MutEnd}
use Rattle.lxr_mutator.specs.declared.phases.MutEnd.TheVariants as ends
use Rattle.lxr_mutator.specs.declared.phases.MutatorPhase.{MutatorPhase}
use Rattle.lxr_mutator.specs.declared.phases.MutatorPhase.TheVariants as phase
use Rattle.lxr_mutator.specs.declared.phases.Stop.TheVariants as stop
use Rattle.lxr_mutator.specs.Naming.{unnamed}
use Rattle.lxr_mutator.specs.Operating.{dest_of, found_reply, indexed_fields, index_of, shape_made}
use Rattle.lxr_mutator.specs.Mutating.{Mutating, next_name, nil, op_now, register, rests_in}
use Rattle.lxr_mutator.specs.Steps.{accepts_in, after_in, done_with, draws_for, end_by, ended, finished, has_room, in_current, in_overflow, is_medium, loaded, placed, reaching, referring, run_in, shape_now, shape_told, started, stored, with_register}
use Rattle.lxr_mutator.specs.Mutators.{AreInHeap, AreRegisters, IsHeld, IsIn, IsMutator, IsThrough, MayBeIn, NeedsBlock, NeedsRun}
use Rattle.lxr_mutator.specs.Laws.{MutatorsStaySo}
use Rattle.lxr_mutator.proofs.NowLemmas.{dest_now, few_words, formed_now}
use Rattle.lxr_mutator.proofs.PlacedLemmas.{front_is_place, run_in_heap}
use Rattle.lxr_mutator.proofs.RegisterLemmas.{held_anywhere, registers_cleared, registers_set}
use Rattle.lxr_mutator.proofs.RunLemmas.{FitsRun, fits_run}

-- it may still do an operation, one that is not the end
pub record GoesOn (m : Mutating) : Type 0 where
  pub turn : m.phase ≢ phase.Finished
  pub operation : length m.replies.items < length m.operations

-- it goes on in another phase, with another log, other registers and other spans
pub goes_on : (m : Mutating) (log : Roomy LogEntry) (registers : List Place) (spans : Spans) (p : MutatorPhase) → IsMutator m → GoesOn m
    → AreRegisters m.width registers → AreInHeap spans → IsIn m.regions log spans (shape_now m) p
    → IsMutator (record m { log = log; registers = registers; spans = spans; phase = p })
goes_on m log registers spans p is on are heap may = record {
  setup = is.setup;
  registers = are;
  spans = heap;
  few_replies = is.few_replies;
  replies = inr (let n = on.operation in omega arith);
  busy = λ e. on.operation;
  waits = is.waits;
  since = λ e. is.since on.turn;
  phase = may;
}

-- whether or not it was the last of the epoch
done_by : (m : Mutating) (r : Reply) (b : Bool) → nat_le m.every (m.since + 1) ≡ b → IsMutator m → GoesOn m → length (done_with m r).replies.items ≡ length m.replies.items + 1
    → IsMutator (record (done_with m r) { phase = if b then phase.Finished else phase.Ready; end = Some (if b then ends.Turns else ends.OpDone r) })
done_by m r true e is on one = record {
  setup = is.setup;
  registers = is.registers;
  spans = is.spans;
  few_replies = (let n = on.operation in omega arith);
  replies = inr (let n = on.operation in omega arith);
  busy = λ q. absurd (cc);
  waits = λ q. absurd (cc);
  since = λ q. absurd (q refl);
  phase = tt;
}
done_by m r false e is on one = record {
  setup = is.setup;
  registers = is.registers;
  spans = is.spans;
  few_replies = (let n = on.operation in omega arith);
  replies = inr (let n = on.operation in omega arith);
  busy = λ q. absurd (cc);
  waits = λ q. absurd (cc);
  since = λ q. grind arith;
  phase = tt;
}

-- its operation is done
pub done_stays : (m : Mutating) (r : Reply) → IsMutator m → GoesOn m → IsMutator (done_with m r)
done_stays m r is on = done_by m r (nat_le m.every (m.since + 1)) refl is on (length-append m.replies.items _)

-- a mutator that is not finished has not done its end
not_through : (m : Mutating) → m.phase ≢ phase.Finished → IsThrough m ⊎ (length m.replies.items ≤ length m.operations) → length m.replies.items ≤ length m.operations
not_through m turn (inl through) = absurd (turn through.0)
not_through m turn (inr few) = few

-- its unit ends without a reply
pub finish_stays : (m : Mutating) (how : MutEnd) → IsMutator m → m.phase ≢ phase.Finished → (how ≡ ends.NoRun → length m.replies.items < length m.operations) → IsMutator (finished m how)
finish_stays m how is turn waits = record {
  setup = is.setup;
  registers = is.registers;
  spans = is.spans;
  few_replies = is.few_replies;
  replies = inr (not_through m turn is.replies);
  busy = λ q. absurd (cc);
  waits = λ q. waits (cc);
  since = λ q. absurd (q refl);
  phase = tt;
}

-- its end is done
pub end_stays : (m : Mutating) → IsMutator m → m.phase ≢ phase.Finished → IsMutator (ended m)
end_stays m is turn = let few = not_through m turn is.replies in record {
  setup = is.setup;
  registers = registers_cleared m.width;
  spans = is.spans;
  few_replies = omega (arith, length-append m.replies.items (reply.Ended ∷ []));
  replies = inl (refl, refl);
  busy = λ q. absurd (cc);
  waits = λ q. absurd (cc);
  since = λ q. absurd (q refl);
  phase = tt;
}

-- in a phase of an operation it goes on, and what holds in the phase holds
on_busy : (m : Mutating) (p : MutatorPhase) → IsMutator m → m.phase ≡ p → rests_in p ≡ false → GoesOn m
on_busy m p is e busy =
    let b : rests_in m.phase ≡ false = ap rests_in e ∙ busy in
    record { turn = λ f. let r = ap rests_in f in absurd (cc); operation = is.busy b }

-- it goes on in another phase
go : (m : Mutating) (p : MutatorPhase) → IsMutator m → GoesOn m → MayBeIn m p → IsMutator (record m { phase = p })
go m p is on may = goes_on m m.log m.registers m.spans p is on is.registers is.spans may

-- with another register
register_stays : (m : Mutating) (r : ℕ) (place : Place) → r < m.width → IsMutator m → GoesOn m → IsHeld place → IsMutator (with_register m r place)
register_stays m r place named is on held =
    goes_on m m.log (slice_set m.registers r place) m.spans m.phase is on (registers_set m.width m.registers r place named is.registers held) is.spans is.phase

-- it goes on as before
register_on : (m : Mutating) (r : ℕ) (place : Place) → GoesOn m → GoesOn (with_register m r place)
register_on m r place on = record { turn = on.turn; operation = on.operation }

-- what a register holds is nil or a place
register_held : (m : Mutating) (r : ℕ) → IsMutator m → IsHeld (register m r)
register_held m r is = held_anywhere m.registers r is.registers.held

-- an operation on a base is done or looks at its header
based_stays : (m : Mutating) (base : Place) → IsMutator m → GoesOn m → IsHeld base → (b : Bool) → nat_eq base.0 0 ≡ b
    → IsMutator (if b then done_with m reply.Bad else record m { phase = phase.Base base })
based_stays m base is on held true e = done_stays m reply.Bad is on
based_stays m base is on held false e = go m (phase.Base base) is on (grind arith, held)

-- the name of a place that was found is looked up, or none is told
referring_stays : (m : Mutating) (names : Bool) (place : Place) → IsMutator m → GoesOn m → IsPlace place → IsMutator (referring m names place)
referring_stays m true place is on at = go m (phase.Referent place) is on at
referring_stays m false place is on at = done_stays m (found_reply (op_now m) (Some unnamed)) is on

-- a place was loaded or swapped out, nil or not
loaded_stays : (m : Mutating) (place : Place) (r : Reply) → IsMutator m → GoesOn m → IsHeld place → (b : Bool) → nat_eq place.0 0 ≡ b
    → IsMutator (if b then done_with m r else referring m m.names place)
loaded_stays m place r is on held true e = done_stays m r is on
loaded_stays m place r is on held false e = referring_stays m m.names place is on (grind arith, held)

-- a place was found in a field
found_stays : (m : Mutating) (place : Place) → IsMutator m → GoesOn m → IsHeld place → IsMutator (loaded m place)
found_stays m place is on held =
    loaded_stays (with_register m (dest_of (op_now m)) place) place (found_reply (op_now m) None) (register_stays m (dest_of (op_now m)) place (dest_now m is) is on held) (register_on m (dest_of (op_now m)) place on) held
    (nat_eq place.0 0) refl

-- a field is gone to on a base that is a place
reaching_may : (m : Mutating) (base : Place) (shape : Shape) (o : Op) → IsPlace base → MayBeIn m (reaching m base shape o)
reaching_may m base shape (op.New dest s) at = tt
reaching_may m base shape (op.Load dest b index) at = at
reaching_may m base shape (op.Store b index source) at = (tt, refl)
reaching_may m base shape (op.Put b index value) at = at
reaching_may m base shape (op.Get b index) at = at
reaching_may m base shape (op.Swap dest b index source) at = (tt, refl)
reaching_may m base shape (op.Add b index value) at = at
reaching_may m base shape (op.Move dest source) at = tt
reaching_may m base shape (op.Nil dest) at = tt
reaching_may m base shape (op.Same left right) at = tt
reaching_may m base shape op.Pause at = tt
reaching_may m base shape op.Collect at = tt
reaching_may m base shape op.End at = tt

-- the base has the field, or has not
reached_stays : (m : Mutating) (base : Place) (shape : Shape) → IsMutator m → GoesOn m → IsPlace base → (b : Bool)
    → IsMutator (if b then record m { phase = reaching m base shape (op_now m) } else done_with m reply.Range)
reached_stays m base shape is on at true = go m (reaching m base shape (op_now m)) is on (reaching_may m base shape (op_now m) at)
reached_stays m base shape is on at false = done_stays m reply.Range is on

-- an object is placed at the front of a span
current_stays : (m : Mutating) (shape : Shape) (span : Span) → IsMutator m → GoesOn m → FitsSpan span shape → span.end ≤ MOST_GRANULES → 1 < word_count (shape_now m) → IsMutator (in_current m shape span)
current_stays m shape span is on room within words =
    goes_on m m.log m.registers (record m.spans { current = taken_from span shape }) (phase.Wiping (front_of span) 1) is on is.registers (within, is.spans.1)
    (front_is_place span shape room within, (omega arith, words))

-- so it is in the overflow span
overflow_stays : (m : Mutating) (shape : Shape) (span : Span) → IsMutator m → GoesOn m → FitsSpan span shape → span.end ≤ MOST_GRANULES → 1 < word_count (shape_now m) → IsMutator (in_overflow m shape span)
overflow_stays m shape span is on room within words =
    goes_on m m.log m.registers (record m.spans { overflow = taken_from span shape }) (phase.Wiping (front_of span) 1) is on is.registers (is.spans.0, within)
    (front_is_place span shape room within, (omega arith, words))

-- an object has a word behind its header
some_words : (s : Shape) → 1 < word_count s
some_words s = omega arith

-- what is drawn is drawn for want of room
draws_stays : (m : Mutating) → IsMutator m → GoesOn m → ¬ FitsSpan m.spans.current (shape_now m) → (b : Bool) → is_medium (shape_now m) ≡ b
    → IsMutator (record m { phase = if b then phase.DrawsBlock else phase.DrawsRun })
draws_stays m is on no_room true e = go m phase.DrawsBlock is on no_room
draws_stays m is on no_room false e = go m phase.DrawsRun is on (grind arith, no_room)

-- the overflow span is tried where the current one has no room
behind_stays : (m : Mutating) → IsMutator m → GoesOn m → ¬ FitsSpan m.spans.current (shape_now m) → (a b : Bool) → is_medium (shape_now m) ≡ a → has_room m.spans.overflow (shape_now m) ≡ b
    → IsMutator (if a && b then in_overflow m (shape_now m) m.spans.overflow else record m { phase = draws_for (shape_now m) })
behind_stays m is on no_room true true e f = overflow_stays m (shape_now m) m.spans.overflow is on (grind arith) is.spans.1 (some_words (shape_now m))
behind_stays m is on no_room true false e f = draws_stays m is on no_room (is_medium (shape_now m)) refl
behind_stays m is on no_room false b e f = draws_stays m is on no_room (is_medium (shape_now m)) refl

-- a new object is placed, or something is drawn for it
placed_stays : (m : Mutating) → IsMutator m → GoesOn m → (b : Bool) → has_room m.spans.current (shape_now m) ≡ b
    → IsMutator (if b then in_current m (shape_now m) m.spans.current
    else if is_medium (shape_now m) && has_room m.spans.overflow (shape_now m) then in_overflow m (shape_now m) m.spans.overflow
    else record m { phase = draws_for (shape_now m) })
placed_stays m is on true e = current_stays m (shape_now m) m.spans.current is on (grind arith) is.spans.0 (some_words (shape_now m))
placed_stays m is on false e = behind_stays m is on (λ room. absurd (grind arith)) (is_medium (shape_now m)) (has_room m.spans.overflow (shape_now m)) refl refl

-- an object is placed in a block
block_stays : (m : Mutating) (block : ℕ) → IsMutator m → GoesOn m → block < MOST_BLOCKS → (b : Bool)
    → IsMutator (if b then in_overflow m (shape_now m) (block_span block) else in_current m (shape_now m) (block_span block))
block_stays m block is on lt true = let few = few_words m is in overflow_stays m (shape_now m) (block_span block) is on (omega arith) (omega arith) (some_words (shape_now m))
block_stays m block is on lt false = let few = few_words m is in current_stays m (shape_now m) (block_span block) is on (omega arith) (omega arith) (some_words (shape_now m))

-- a word was wiped
wiped_stays : (m : Mutating) (place : Place) (next : ℕ) → IsMutator m → GoesOn m → IsPlace place → (b : Bool) → nat_lt (next + 1) (word_count (shape_now m)) ≡ b
    → IsMutator (record m { phase = if b then phase.Wiping place (next + 1) else phase.Heading place })
wiped_stays m place next is on at true e = go m (phase.Wiping place (next + 1)) is on (at, (omega arith, grind arith))
wiped_stays m place next is on at false e = go m (phase.Heading place) is on at

-- a number was drawn that is below the number of runs, or is not
runs_stays : (m : Mutating) (number count : ℕ) → IsMutator m → GoesOn m → NeedsRun m.spans (shape_now m) → m.regions.runs + count ≤ m.regions.frees → (b : Bool) → nat_lt number count ≡ b
    → IsMutator (record m { phase = if b then phase.Run number else phase.DrawsBlock })
runs_stays m number count is on needs fits true e = go m (phase.Run number) is on (needs, grind arith)
runs_stays m number count is on needs fits false e = go m phase.DrawsBlock is on needs.1

-- a number was drawn that is below the number of free blocks, or is not
blocks_stays : (m : Mutating) (number count : ℕ) → IsMutator m → GoesOn m → NeedsBlock m.spans (shape_now m) → m.regions.frees + count ≤ m.regions.decs → (b : Bool) → nat_lt number count ≡ b
    → IsMutator (record m { phase = if b then phase.Block number else phase.GivingUp stop.NoRun })
blocks_stays m number count is on needs fits true e = go m (phase.Block number) is on (needs, grind arith)
blocks_stays m number count is on needs fits false e = go m (phase.GivingUp stop.NoRun) is on tt

-- a store that goes on keeps the room in the log that it needs
looked_room : (log : Roomy LogEntry) (a b : Bool) → is_full log ≡ b → HasRoomIn (if a then (if b then store_phase.Ended store_end.LogFull else store_phase.Unlogged) else store_phase.Logged) log
looked_room log true true e = tt
looked_room log true false e = grind arith
looked_room log false b e = tt

-- so it is at each step
store_room : (s : Storing) (log : Roomy LogEntry) (old : ℕ) (p : StorePhase) → HasRoomIn p log → HasRoomIn (phase_after s log old p) (log_in s log old p)
store_room s log old store_phase.Begun room = looked_room log (is_set old (bit_number s)) (is_full log) refl
store_room s log old store_phase.Unlogged room = room
store_room s log old (store_phase.Loaded first) room = tt
store_room s log old store_phase.Logged room = tt
store_room s log old (store_phase.Ended how) room = tt

-- what it is between units with this log
between : (m : Mutating) (log : Roomy LogEntry) → IsMutator m → GoesOn m → IsMutator (record m { log = log; phase = phase.Ready }) × GoesOn (record m { log = log; phase = phase.Ready })
between m log is on = (goes_on m log m.registers m.spans phase.Ready is on is.registers is.spans tt, record { turn = λ f. absurd (cc); operation = on.operation })

-- a store has gone on; where it has swapped, it has found a place, or nil
stored_stays : (m : Mutating) (s : Storing) (log : Roomy LogEntry) → IsMutator m → GoesOn m → HasRoomIn s.phase log → (e : Option StoreEnd) → end_of s ≡ e
    → ((place : Place) → e ≡ Some (store_end.Swapped place) → IsHeld place) → IsMutator (stored m s log e)
stored_stays m s log is on room None end held = goes_on m log m.registers m.spans (phase.Storing s) is on is.registers is.spans (room, end)
stored_stays m s log is on room (Some store_end.Stored) end held = let b = between m log is on in done_stays (record m { log = log; phase = phase.Ready }) reply.Stored b.0 b.1
stored_stays m s log is on room (Some (store_end.Swapped place)) end held = let b = between m log is on in found_stays (record m { log = log; phase = phase.Ready }) place b.0 b.1 (held place refl)
stored_stays m s log is on room (Some store_end.LogFull) end held = goes_on m log m.registers m.spans (phase.GivingUp stop.LogFull) is on is.registers is.spans tt

-- an operation whose turn it is, is none past the last
within_at : (ops : List Op) (i : ℕ) → slice_index_or ops i op.End ≢ op.End → i < length ops
within_at [] i no_end = absurd (no_end refl)
within_at (o ∷ os) zero no_end = omega arith
within_at (o ∷ os) (suc i) no_end = let k = within_at os i no_end in omega arith

-- between units it goes on where an operation is left
on_ready : (m : Mutating) → m.phase ≡ phase.Ready → op_now m ≢ op.End → GoesOn m
on_ready m e no_end = record { turn = λ f. absurd (cc); operation = within_at m.operations (length m.replies.items) no_end }

-- an operation begins
started_stays : (m : Mutating) (o : Op) → IsMutator m → m.phase ≡ phase.Ready → op_now m ≡ o → IsFormedFor m.width o → IsMutator (started m o)
started_stays m (op.New dest shape) is e now formed =
    let on = on_ready m e (λ f. absurd (cc)) in
    let made : shape_now m ≡ shape = ap shape_made now in
    subst (λ s. IsMutator (placed m s)) made (placed_stays m is on (has_room m.spans.current (shape_now m)) refl)
started_stays m (op.Load dest base index) is e now formed = based_stays m (register m base) is (on_ready m e (λ f. absurd (cc))) (register_held m base is) (nat_eq (register m base).0 0) refl
started_stays m (op.Store base index source) is e now formed = based_stays m (register m base) is (on_ready m e (λ f. absurd (cc))) (register_held m base is) (nat_eq (register m base).0 0) refl
started_stays m (op.Put base index value) is e now formed = based_stays m (register m base) is (on_ready m e (λ f. absurd (cc))) (register_held m base is) (nat_eq (register m base).0 0) refl
started_stays m (op.Get base index) is e now formed = based_stays m (register m base) is (on_ready m e (λ f. absurd (cc))) (register_held m base is) (nat_eq (register m base).0 0) refl
started_stays m (op.Swap dest base index source) is e now formed = based_stays m (register m base) is (on_ready m e (λ f. absurd (cc))) (register_held m base is) (nat_eq (register m base).0 0) refl
started_stays m (op.Add base index value) is e now formed = based_stays m (register m base) is (on_ready m e (λ f. absurd (cc))) (register_held m base is) (nat_eq (register m base).0 0) refl
started_stays m (op.Move dest source) is e now formed =
    let on = on_ready m e (λ f. absurd (cc)) in
    done_stays (with_register m dest (register m source)) reply.Moved (register_stays m dest (register m source) formed.0 is on (register_held m source is)) (register_on m dest (register m source) on)
started_stays m (op.Nil dest) is e now formed =
    let on = on_ready m e (λ f. absurd (cc)) in
    done_stays (with_register m dest nil) reply.Cleared (register_stays m dest nil formed is on (omega arith)) (register_on m dest nil on)
started_stays m (op.Same left right) is e now formed = done_stays m _ is (on_ready m e (λ f. absurd (cc)))
started_stays m op.Pause is e now formed = go m phase.Asking is (on_ready m e (λ f. absurd (cc))) tt
started_stays m op.Collect is e now formed = go m phase.Asking is (on_ready m e (λ f. absurd (cc))) tt
started_stays m op.End is e now formed = end_stays m is (λ f. absurd (cc))

-- the pause word was looked at
ready_stays : (m : Mutating) → IsMutator m → m.phase ≡ phase.Ready → (b : Bool) → IsMutator (if b then finished m ends.Asked else started m (op_now m))
ready_stays m is e true = finish_stays m ends.Asked is (λ f. absurd (cc)) (λ q. absurd (cc))
ready_stays m is e false = started_stays m (op_now m) is e refl (formed_now m is)

-- a run of at least one line fits an object of one line
line_fits : (r : Run) (shape : Shape) → FitsRun r → line_count shape ≤ 1 → FitsSpan (run_span r) shape
line_fits r shape f one = omega (arith, f.some)

-- a swap that is accepted found a place, or nil
swapped_held : (old : ℕ) (place : Place) (b : Bool) → IsTrue b → IsTrue (if b then nat_le old (MOST_GRANULES) else true) → place ≡ place_in old → IsHeld place
swapped_held old place true swaps ok is = subst IsHeld (sym is) (grind arith)
swapped_held old place false swaps ok is = absurd (cc)

-- by its phase
stays_in : (m : Mutating) (old : ℕ) (p : MutatorPhase) → IsMutator m → m.phase ≡ p → MayBeIn m p → IsTrue (accepts_in m p old) → IsMutator (after_in m p old)
stays_in m old phase.Ready is e may ok = ready_stays m is e (nat_eq old 1)
stays_in m old phase.Finished is e may ok = is
stays_in m old (phase.Base base) is e may ok = reached_stays m base (shape_told (header_of old)) is (on_busy m (phase.Base base) is e refl) may (nat_lt (index_of (op_now m)) (indexed_fields (op_now m) (shape_told (header_of old))))
stays_in m old (phase.Reference base) is e may ok =
    found_stays m (place_in old) is (on_busy m (phase.Reference base) is e refl) (grind arith)
stays_in m old (phase.Referent place) is e may ok = done_stays m _ is (on_busy m (phase.Referent place) is e refl)
stays_in m old (phase.Datum base refs) is e may ok = done_stays m _ is (on_busy m (phase.Datum base refs) is e refl)
stays_in m old (phase.Putting base refs) is e may ok = done_stays m _ is (on_busy m (phase.Putting base refs) is e refl)
stays_in m old (phase.Adding base refs) is e may ok = done_stays m _ is (on_busy m (phase.Adding base refs) is e refl)
stays_in m old (phase.Storing s) is e may ok =
    stored_stays m (store_after s m.log old) (log_after s m.log old) is (on_busy m (phase.Storing s) is e refl) (store_room s m.log old s.phase may.0) (end_of (store_after s m.log old)) refl
    (λ place swapped. let found = swap_found s m.log old place may.1 swapped in swapped_held old place (swaps_next s) found.0 ok found.1)
stays_in m old phase.DrawsRun is e may ok = go m (phase.RunNumber old) is (on_busy m phase.DrawsRun is e refl) may
stays_in m old (phase.RunNumber number) is e may ok = runs_stays m number old is (on_busy m (phase.RunNumber number) is e refl) may (grind arith) (nat_lt number old) refl
stays_in m old (phase.Run number) is e may ok =
    let f = fits_run (run_in old) ok in
    current_stays m (shape_now m) (run_span (run_in old)) is (on_busy m (phase.Run number) is e refl) (line_fits (run_in old) (shape_now m) f may.0.0) (run_in_heap (run_in old) (f.block, f.within)) (some_words (shape_now m))
stays_in m old phase.DrawsBlock is e may ok = go m (phase.BlockNumber old) is (on_busy m phase.DrawsBlock is e refl) may
stays_in m old (phase.BlockNumber number) is e may ok = blocks_stays m number old is (on_busy m (phase.BlockNumber number) is e refl) may (grind arith) (nat_lt number old) refl
stays_in m old (phase.Block number) is e may ok = block_stays m old is (on_busy m (phase.Block number) is e refl) (grind arith) (is_medium (shape_now m))
stays_in m old (phase.Wiping place next) is e may ok = wiped_stays m place next is (on_busy m (phase.Wiping place next) is e refl) may.0 (nat_lt (next + 1) (word_count (shape_now m))) refl
stays_in m old (phase.Heading place) is e may ok =
    let on = on_busy m (phase.Heading place) is e refl in
    done_stays (with_register m (dest_of (op_now m)) place) (reply.New (next_name m)) (register_stays m (dest_of (op_now m)) place (dest_now m is) is on may.1) (register_on m (dest_of (op_now m)) place on)
stays_in m old phase.Asking is e may ok = done_stays m _ is (on_busy m phase.Asking is e refl)
stays_in m old (phase.GivingUp why) is e may ok =
    let on = on_busy m (phase.GivingUp why) is e refl in
    finish_stays m (end_by why) is on.turn (λ q. on.operation)

-- a word that doesn't tell what a phase looks for comes within a unit
unread_busy : (m : Mutating) (old : ℕ) (p : MutatorPhase) → accepts_in m p old ≡ false → rests_in p ≡ false
unread_busy m old phase.Ready e = absurd (cc)
unread_busy m old phase.Finished e = absurd (cc)
unread_busy m old (phase.Base base) e = refl
unread_busy m old (phase.Reference base) e = refl
unread_busy m old (phase.Referent place) e = refl
unread_busy m old (phase.Datum base refs) e = refl
unread_busy m old (phase.Putting base refs) e = refl
unread_busy m old (phase.Adding base refs) e = refl
unread_busy m old (phase.Storing s) e = refl
unread_busy m old phase.DrawsRun e = refl
unread_busy m old (phase.RunNumber number) e = refl
unread_busy m old (phase.Run number) e = refl
unread_busy m old phase.DrawsBlock e = refl
unread_busy m old (phase.BlockNumber number) e = refl
unread_busy m old (phase.Block number) e = refl
unread_busy m old (phase.Wiping place next) e = refl
unread_busy m old (phase.Heading place) e = refl
unread_busy m old phase.Asking e = refl
unread_busy m old (phase.GivingUp why) e = refl

-- whether or not the word tells that
stays_by : (m : Mutating) (old : ℕ) → IsMutator m → (b : Bool) → accepts_in m m.phase old ≡ b → IsMutator (if b then after_in m m.phase old else done_with m reply.Bad)
stays_by m old is true ok = stays_in m old m.phase is refl is.phase ok
stays_by m old is false e = done_stays m reply.Bad is (on_busy m m.phase is refl (unread_busy m old m.phase e))

-- what holds of a mutator holds of it after each step
pub stay_so : MutatorsStaySo
stay_so m old is next = stays_by m old is (accepts_in m m.phase old) refl
