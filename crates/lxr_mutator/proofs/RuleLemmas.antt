-- When units give up.
use Rattle.std.proofs.Common.{◌≡◌, ℕ, ◌+◌, Bool, true, false, arith, refl, ap, Some, None, Option, inl, inr}
use Rattle.std.specs.Prelude.{◌⊎◌, ◌&&◌, IsTrue, nat_eq, nat_le, nat_lt, if◌then◌else◌}
use Rattle.lxr_layout.specs.Places.{place_in}
use Rattle.lxr_layout.specs.declared.Place.{Place}
use Rattle.lxr_layout.specs.declared.LogEntry.{LogEntry}
use Rattle.lxr_layout.specs.declared.Shape.{Shape}
use Rattle.lxr_layout.specs.Objects.{header_of, word_count}
use Rattle.lxr_base.specs.Roomy.{Roomy}
use Rattle.lxr_graph.specs.declared.Op.{Op}
use Rattle.lxr_graph.specs.declared.Op.TheVariants as op
use Rattle.lxr_graph.specs.declared.Reply.{Reply}
use Rattle.lxr_graph.specs.declared.Reply.TheVariants as reply
use Rattle.lxr_alloc.specs.declared.Span.{Span}
use Rattle.lxr_alloc.specs.Spans.{block_span}
use Rattle.lxr_barrier.specs.declared.StoreEnd.{StoreEnd}
use Rattle.lxr_barrier.specs.declared.StoreEnd.TheVariants as store_end
use Rattle.lxr_barrier.specs.Storing.{Storing, end_of, log_after, store_after}
use Rattle.lxr_mutator.specs.declared.phases.MutEnd.TheVariants as ends
use Rattle.lxr_mutator.specs.declared.phases.MutatorPhase.{MutatorPhase}
use Rattle.lxr_mutator.specs.declared.phases.MutatorPhase.TheVariants as phase
use Rattle.lxr_mutator.specs.declared.phases.Stop.{Stop}
use Rattle.lxr_mutator.specs.declared.phases.Stop.TheVariants as stop
use Rattle.lxr_mutator.specs.Operating.{dest_of, found_reply, indexed_fields, index_of, shape_made}
use Rattle.lxr_mutator.specs.Mutating.{Mutating, op_now, register}
use Rattle.lxr_mutator.specs.Steps.{accepts_in, action_in, after_in, next_in, done_with, draws_for, finished, has_room, in_current, in_overflow, is_medium, loaded, reaching, referring, shape_now, shape_told, started, stored, with_register}
use Rattle.lxr_mutator.specs.Laws.{Finds, IsPastRuns, MutatorsDrawByRule, MutatorsGiveUpByRules}

-- the phases in which a unit gives up, draws a block, or has drawn a number
abbrev halts : MutatorPhase → Bool
halts phase.DrawsBlock = true
halts (phase.RunNumber number) = true
halts (phase.BlockNumber number) = true
halts (phase.GivingUp why) = true
halts p = false

-- the phases in which it gives up, or has drawn a number
abbrev gives_up : MutatorPhase → Bool
gives_up (phase.RunNumber number) = true
gives_up (phase.BlockNumber number) = true
gives_up (phase.GivingUp why) = true
gives_up p = false

-- a unit that is done does neither
done_on : (q : MutatorPhase → Bool) → q phase.Finished ≡ false → q phase.Ready ≡ false → (b : Bool) → q (if b then phase.Finished else phase.Ready) ≡ false
done_on q f r true = f
done_on q f r false = r

-- going on at a field does neither
reaching_on : (m : Mutating) (base : Place) (shape : Shape) (o : Op) → halts (reaching m base shape o) ≡ false
reaching_on m base shape (op.New dest s) = refl
reaching_on m base shape (op.Load dest b index) = refl
reaching_on m base shape (op.Store b index source) = refl
reaching_on m base shape (op.Put b index value) = refl
reaching_on m base shape (op.Get b index) = refl
reaching_on m base shape (op.Swap dest b index source) = refl
reaching_on m base shape (op.Add b index value) = refl
reaching_on m base shape (op.Move dest source) = refl
reaching_on m base shape (op.Nil dest) = refl
reaching_on m base shape (op.Same left right) = refl
reaching_on m base shape op.Pause = refl
reaching_on m base shape op.Collect = refl
reaching_on m base shape op.End = refl

-- whether or not the base has that field
reached_on : (m : Mutating) (base : Place) (shape : Shape) (b : Bool) → halts (if b then record m { phase = reaching m base shape (op_now m) } else done_with m reply.Range).phase ≡ false
reached_on m base shape true = reaching_on m base shape (op_now m)
reached_on m base shape false = done_on halts refl refl (nat_le m.every (m.since + 1))

-- nor does looking a name up, or telling none
referring_on : (m : Mutating) (names : Bool) (place : Place) → halts (referring m names place).phase ≡ false
referring_on m true place = refl
referring_on m false place = done_on halts refl refl (nat_le m.every (m.since + 1))

-- nor does a load or a swap
loaded_on : (m : Mutating) (place : Place) (r : Reply) (b : Bool) → halts (if b then done_with m r else referring m m.names place).phase ≡ false
loaded_on m place r true = done_on halts refl refl (nat_le m.every (m.since + 1))
loaded_on m place r false = referring_on m m.names place

-- so it is of the place that it finds
found_on : (m : Mutating) (place : Place) → halts (loaded m place).phase ≡ false
found_on m place = loaded_on (with_register m (dest_of (op_now m)) place) place (found_reply (op_now m) None) (nat_eq place.0 0)

-- nor wiping
wiped_on : (place : Place) (next : ℕ) (b : Bool) → halts (if b then phase.Wiping place (next + 1) else phase.Heading place) ≡ false
wiped_on place next true = refl
wiped_on place next false = refl

-- nor taking a block
block_on : (m : Mutating) (shape : Shape) (span : Span) (b : Bool) → halts (if b then in_overflow m shape span else in_current m shape span).phase ≡ false
block_on m shape span true = refl
block_on m shape span false = refl

-- the phases of which the rest of this file does not speak
abbrev IsPlain : MutatorPhase → Type 0
IsPlain phase.Ready = ⊥
IsPlain phase.Finished = ⊥
IsPlain (phase.Storing store) = ⊥
IsPlain phase.DrawsRun = ⊥
IsPlain phase.DrawsBlock = ⊥
IsPlain (phase.RunNumber number) = ⊥
IsPlain (phase.BlockNumber number) = ⊥
IsPlain p = Unit {0}

-- no other phase leads to giving up, or to drawing a block
plain_on : (m : Mutating) (old : ℕ) (p : MutatorPhase) → IsPlain p → halts (after_in m p old).phase ≡ false
plain_on m old phase.Ready is = absurd is
plain_on m old phase.Finished is = absurd is
plain_on m old (phase.Base base) is = reached_on m base (shape_told (header_of old)) (nat_lt (index_of (op_now m)) (indexed_fields (op_now m) (shape_told (header_of old))))
plain_on m old (phase.Reference base) is = found_on m (place_in old)
plain_on m old (phase.Referent place) is = done_on halts refl refl (nat_le m.every (m.since + 1))
plain_on m old (phase.Datum base refs) is = done_on halts refl refl (nat_le m.every (m.since + 1))
plain_on m old (phase.Putting base refs) is = done_on halts refl refl (nat_le m.every (m.since + 1))
plain_on m old (phase.Adding base refs) is = done_on halts refl refl (nat_le m.every (m.since + 1))
plain_on m old (phase.Storing store) is = absurd is
plain_on m old phase.DrawsRun is = absurd is
plain_on m old (phase.RunNumber number) is = absurd is
plain_on m old (phase.Run number) is = refl
plain_on m old phase.DrawsBlock is = absurd is
plain_on m old (phase.BlockNumber number) is = absurd is
plain_on m old (phase.Block number) is = block_on m (shape_now m) (block_span old) (is_medium (shape_now m))
plain_on m old (phase.Wiping place next) is = wiped_on place next (nat_lt (next + 1) (word_count (shape_now m)))
plain_on m old (phase.Heading place) is = done_on halts refl refl (nat_le m.every (m.since + 1))
plain_on m old phase.Asking is = done_on halts refl refl (nat_le m.every (m.since + 1))
plain_on m old (phase.GivingUp why) is = refl

-- an operation that begins does not give up
draws_on : (b : Bool) → gives_up (if b then phase.DrawsBlock else phase.DrawsRun) ≡ false
draws_on true = refl
draws_on false = refl

-- a new object finds room in the overflow span or is drawn for
overflow_on : (m : Mutating) (shape : Shape) (b : Bool) → gives_up (if b then in_overflow m shape m.spans.overflow else record m { phase = draws_for shape }).phase ≡ false
overflow_on m shape true = refl
overflow_on m shape false = draws_on (is_medium shape)

-- or finds room in the current one
placed_on : (m : Mutating) (shape : Shape) (b : Bool)
    → gives_up (if b then in_current m shape m.spans.current
    else if is_medium shape && has_room m.spans.overflow shape then in_overflow m shape m.spans.overflow
    else record m { phase = draws_for shape }).phase ≡ false
placed_on m shape true = refl
placed_on m shape false = overflow_on m shape (is_medium shape && has_room m.spans.overflow shape)

-- an operation on a base is done or looks at its header
based_on : (q : MutatorPhase → Bool) → q phase.Finished ≡ false → q phase.Ready ≡ false → (m : Mutating) (base : Place) → q (phase.Base base) ≡ false
    → (b : Bool) → q (if b then done_with m reply.Bad else record m { phase = phase.Base base }).phase ≡ false
based_on q f r m base h true = done_on q f r (nat_le m.every (m.since + 1))
based_on q f r m base h false = h

-- whatever the operation
started_on : (m : Mutating) (o : Op) → gives_up (started m o).phase ≡ false
started_on m (op.New dest shape) = placed_on m shape (has_room m.spans.current shape)
started_on m (op.Load dest base index) = based_on gives_up refl refl m (register m base) refl (nat_eq (register m base).0 0)
started_on m (op.Store base index source) = based_on gives_up refl refl m (register m base) refl (nat_eq (register m base).0 0)
started_on m (op.Put base index value) = based_on gives_up refl refl m (register m base) refl (nat_eq (register m base).0 0)
started_on m (op.Get base index) = based_on gives_up refl refl m (register m base) refl (nat_eq (register m base).0 0)
started_on m (op.Swap dest base index source) = based_on gives_up refl refl m (register m base) refl (nat_eq (register m base).0 0)
started_on m (op.Add base index value) = based_on gives_up refl refl m (register m base) refl (nat_eq (register m base).0 0)
started_on m (op.Move dest source) = done_on gives_up refl refl (nat_le m.every (m.since + 1))
started_on m (op.Nil dest) = done_on gives_up refl refl (nat_le m.every (m.since + 1))
started_on m (op.Same left right) = done_on gives_up refl refl (nat_le m.every (m.since + 1))
started_on m op.Pause = refl
started_on m op.Collect = refl
started_on m op.End = refl

-- and whatever the pause word
ready_on : (m : Mutating) (b : Bool) → gives_up (if b then finished m ends.Asked else started m (op_now m)).phase ≡ false
ready_on m true = refl
ready_on m false = started_on m (op_now m)

-- it draws a block at once only for an object of more than one line
draws_medium : (shape : Shape) (b : Bool) → is_medium shape ≡ b → (if b then phase.DrawsBlock else phase.DrawsRun) ≡ phase.DrawsBlock → IsTrue (is_medium shape)
draws_medium shape true e h = e
draws_medium shape false e h = absurd (cc)

-- where the overflow span has no room
overflow_medium : (m : Mutating) (shape : Shape) (b : Bool) → (if b then in_overflow m shape m.spans.overflow else record m { phase = draws_for shape }).phase ≡ phase.DrawsBlock → IsTrue (is_medium shape)
overflow_medium m shape true h = absurd (cc)
overflow_medium m shape false h = draws_medium shape (is_medium shape) refl h

-- and the current one has none
placed_medium : (m : Mutating) (shape : Shape) (b : Bool)
    → (if b then in_current m shape m.spans.current
    else if is_medium shape && has_room m.spans.overflow shape then in_overflow m shape m.spans.overflow
    else record m { phase = draws_for shape }).phase ≡ phase.DrawsBlock → IsTrue (is_medium shape)
placed_medium m shape true h = absurd (cc)
placed_medium m shape false h = overflow_medium m shape (is_medium shape && has_room m.spans.overflow shape) h

-- what halts is no phase that does not
clash : (q : MutatorPhase → Bool) (p p' : MutatorPhase) → p ≡ p' → q p ≡ false → q p' ≡ true → ⊥
clash q p p' e false_at true_at = let w : q p ≡ q p' = ap q e in cc

-- the phase in which it draws a block
abbrev draws : MutatorPhase → Bool
draws phase.DrawsBlock = true
draws p = false

-- no other operation draws one
started_medium : (m : Mutating) (o : Op) → (started m o).phase ≡ phase.DrawsBlock → IsTrue (is_medium (shape_made o))
started_medium m (op.New dest shape) h = placed_medium m shape (has_room m.spans.current shape) h
started_medium m (op.Load dest base index) h = absurd (clash draws _ _ h (based_on draws refl refl m (register m base) refl (nat_eq (register m base).0 0)) refl)
started_medium m (op.Store base index source) h = absurd (clash draws _ _ h (based_on draws refl refl m (register m base) refl (nat_eq (register m base).0 0)) refl)
started_medium m (op.Put base index value) h = absurd (clash draws _ _ h (based_on draws refl refl m (register m base) refl (nat_eq (register m base).0 0)) refl)
started_medium m (op.Get base index) h = absurd (clash draws _ _ h (based_on draws refl refl m (register m base) refl (nat_eq (register m base).0 0)) refl)
started_medium m (op.Swap dest base index source) h = absurd (clash draws _ _ h (based_on draws refl refl m (register m base) refl (nat_eq (register m base).0 0)) refl)
started_medium m (op.Add base index value) h = absurd (clash draws _ _ h (based_on draws refl refl m (register m base) refl (nat_eq (register m base).0 0)) refl)
started_medium m (op.Move dest source) h = absurd (clash draws _ _ h (done_on draws refl refl (nat_le m.every (m.since + 1))) refl)
started_medium m (op.Nil dest) h = absurd (clash draws _ _ h (done_on draws refl refl (nat_le m.every (m.since + 1))) refl)
started_medium m (op.Same left right) h = absurd (clash draws _ _ h (done_on draws refl refl (nat_le m.every (m.since + 1))) refl)
started_medium m op.Pause h = absurd (cc)
started_medium m op.Collect h = absurd (cc)
started_medium m op.End h = absurd (cc)

-- so it is by the look at the pause word
ready_medium : (m : Mutating) (b : Bool) → (if b then finished m ends.Asked else started m (op_now m)).phase ≡ phase.DrawsBlock → IsTrue (is_medium (shape_now m))
ready_medium m true h = absurd (cc)
ready_medium m false h = started_medium m (op_now m) h

-- a store gives up only for want of room, and draws nothing
stored_full : (m : Mutating) (old : ℕ) (s s' : Storing) (log : Roomy LogEntry) (e : Option StoreEnd) (why : Stop)
    → m.phase ≡ phase.Storing s → end_of (store_after s m.log old) ≡ e → (stored m s' log e).phase ≡ phase.GivingUp why → Finds m old why
stored_full m old s s' log None why is end h = absurd (cc)
stored_full m old s s' log (Some store_end.Stored) why is end h = absurd (clash gives_up _ _ h (done_on gives_up refl refl (nat_le m.every (m.since + 1))) refl)
stored_full m old s s' log (Some (store_end.Swapped place)) why is end h = absurd (clash halts _ _ h (found_on (record m { log = log }) place) refl)
stored_full m old s s' log (Some store_end.LogFull) stop.NoRun is end h = absurd (cc)
stored_full m old s s' log (Some store_end.LogFull) stop.LogFull is end h = (s, is, end)

-- a phase that doesn't halt draws nothing
quiet_draws : (p : MutatorPhase) → halts p ≡ false → draws p ≡ false
quiet_draws phase.DrawsBlock e = absurd (cc)
quiet_draws p e = refl

-- a store draws nothing
stored_draws : (m : Mutating) (s' : Storing) (log : Roomy LogEntry) (e : Option StoreEnd) → draws (stored m s' log e).phase ≡ false
stored_draws m s' log None = refl
stored_draws m s' log (Some store_end.Stored) = done_on draws refl refl (nat_le m.every (m.since + 1))
stored_draws m s' log (Some (store_end.Swapped place)) = quiet_draws (loaded (record m { log = log }) place).phase (found_on (record m { log = log }) place)
stored_draws m s' log (Some store_end.LogFull) = refl

-- a number that was drawn is past the list
runs_past : (m : Mutating) (old number : ℕ) → m.phase ≡ phase.RunNumber number → (b : Bool) → nat_lt number old ≡ b
    → (if b then phase.Run number else phase.DrawsBlock) ≡ phase.DrawsBlock → IsPastRuns m old
runs_past m old number is true e h = absurd (cc)
runs_past m old number is false e h = (number, is, grind arith)

-- past the free blocks it gives up for want of room
blocks_past : (m : Mutating) (old number : ℕ) (why : Stop) → m.phase ≡ phase.BlockNumber number → (b : Bool) → nat_lt number old ≡ b
    → (if b then phase.Block number else phase.GivingUp stop.NoRun) ≡ phase.GivingUp why → Finds m old why
blocks_past m old number why is true e h = absurd (cc)
blocks_past m old number stop.NoRun is false e h = (number, is, grind arith)
blocks_past m old number stop.LogFull is false e h = absurd (cc)

-- past the runs it does not give up
runs_on : (number : ℕ) (b : Bool) → gives_up (if b then phase.Run number else phase.DrawsBlock) ≡ false
runs_on number true = refl
runs_on number false = refl

-- past the free blocks it draws no further one
blocks_on : (number : ℕ) (b : Bool) → draws (if b then phase.Block number else phase.GivingUp stop.NoRun) ≡ false
blocks_on number true = refl
blocks_on number false = refl

-- by its phase: what it finds before it gives up
finds_in : (m : Mutating) (old : ℕ) (why : Stop) (p : MutatorPhase) → m.phase ≡ p → (after_in m p old).phase ≡ phase.GivingUp why → Finds m old why
finds_in m old why phase.Ready is h = absurd (clash gives_up _ _ h (ready_on m (nat_eq old 1)) refl)
finds_in m old why phase.Finished is h = absurd (cc)
finds_in m old why (phase.Base base) is h = absurd (clash halts _ _ h (plain_on m old (phase.Base base) tt) refl)
finds_in m old why (phase.Reference base) is h = absurd (clash halts _ _ h (plain_on m old (phase.Reference base) tt) refl)
finds_in m old why (phase.Referent place) is h = absurd (clash halts _ _ h (plain_on m old (phase.Referent place) tt) refl)
finds_in m old why (phase.Datum base refs) is h = absurd (clash halts _ _ h (plain_on m old (phase.Datum base refs) tt) refl)
finds_in m old why (phase.Putting base refs) is h = absurd (clash halts _ _ h (plain_on m old (phase.Putting base refs) tt) refl)
finds_in m old why (phase.Adding base refs) is h = absurd (clash halts _ _ h (plain_on m old (phase.Adding base refs) tt) refl)
finds_in m old why (phase.Storing s) is h = stored_full m old s (store_after s m.log old) (log_after s m.log old) (end_of (store_after s m.log old)) why is refl h
finds_in m old why phase.DrawsRun is h = absurd (cc)
finds_in m old why (phase.RunNumber number) is h = absurd (clash gives_up _ _ h (runs_on number (nat_lt number old)) refl)
finds_in m old why (phase.Run number) is h = absurd (clash halts _ _ h (plain_on m old (phase.Run number) tt) refl)
finds_in m old why phase.DrawsBlock is h = absurd (cc)
finds_in m old why (phase.BlockNumber number) is h = blocks_past m old number why is (nat_lt number old) refl h
finds_in m old why (phase.Block number) is h = absurd (clash halts _ _ h (plain_on m old (phase.Block number) tt) refl)
finds_in m old why (phase.Wiping place next) is h = absurd (clash halts _ _ h (plain_on m old (phase.Wiping place next) tt) refl)
finds_in m old why (phase.Heading place) is h = absurd (clash halts _ _ h (plain_on m old (phase.Heading place) tt) refl)
finds_in m old why phase.Asking is h = absurd (clash halts _ _ h (plain_on m old phase.Asking tt) refl)
finds_in m old why (phase.GivingUp w) is h = absurd (clash halts _ _ h (plain_on m old (phase.GivingUp w) tt) refl)

-- by its phase: what comes before it draws a block
draws_in : (m : Mutating) (old : ℕ) (p : MutatorPhase) → m.phase ≡ p → (after_in m p old).phase ≡ phase.DrawsBlock → IsPastRuns m old ⊎ ((m.phase ≡ phase.Ready) × IsTrue (is_medium (shape_now m)))
draws_in m old phase.Ready is h = inr (is, ready_medium m (nat_eq old 1) h)
draws_in m old phase.Finished is h = absurd (cc)
draws_in m old (phase.Base base) is h = absurd (clash halts _ _ h (plain_on m old (phase.Base base) tt) refl)
draws_in m old (phase.Reference base) is h = absurd (clash halts _ _ h (plain_on m old (phase.Reference base) tt) refl)
draws_in m old (phase.Referent place) is h = absurd (clash halts _ _ h (plain_on m old (phase.Referent place) tt) refl)
draws_in m old (phase.Datum base refs) is h = absurd (clash halts _ _ h (plain_on m old (phase.Datum base refs) tt) refl)
draws_in m old (phase.Putting base refs) is h = absurd (clash halts _ _ h (plain_on m old (phase.Putting base refs) tt) refl)
draws_in m old (phase.Adding base refs) is h = absurd (clash halts _ _ h (plain_on m old (phase.Adding base refs) tt) refl)
draws_in m old (phase.Storing s) is h = absurd (clash draws _ _ h (stored_draws m (store_after s m.log old) (log_after s m.log old) (end_of (store_after s m.log old))) refl)
draws_in m old phase.DrawsRun is h = absurd (cc)
draws_in m old (phase.RunNumber number) is h = inl (runs_past m old number is (nat_lt number old) refl h)
draws_in m old (phase.Run number) is h = absurd (clash halts _ _ h (plain_on m old (phase.Run number) tt) refl)
draws_in m old phase.DrawsBlock is h = absurd (cc)
draws_in m old (phase.BlockNumber number) is h = absurd (clash draws _ _ h (blocks_on number (nat_lt number old)) refl)
draws_in m old (phase.Block number) is h = absurd (clash halts _ _ h (plain_on m old (phase.Block number) tt) refl)
draws_in m old (phase.Wiping place next) is h = absurd (clash halts _ _ h (plain_on m old (phase.Wiping place next) tt) refl)
draws_in m old (phase.Heading place) is h = absurd (clash halts _ _ h (plain_on m old (phase.Heading place) tt) refl)
draws_in m old phase.Asking is h = absurd (clash halts _ _ h (plain_on m old phase.Asking tt) refl)
draws_in m old (phase.GivingUp w) is h = absurd (clash halts _ _ h (plain_on m old (phase.GivingUp w) tt) refl)

-- whether or not the word tells what the phase looks for
finds_by : (m : Mutating) (old : ℕ) (why : Stop) (b : Bool) → (if b then after_in m m.phase old else done_with m reply.Bad).phase ≡ phase.GivingUp why → Finds m old why
finds_by m old why true h = finds_in m old why m.phase refl h
finds_by m old why false h = absurd (clash halts _ _ h (done_on halts refl refl (nat_le m.every (m.since + 1))) refl)

draws_by : (m : Mutating) (old : ℕ) (b : Bool) → (if b then after_in m m.phase old else done_with m reply.Bad).phase ≡ phase.DrawsBlock → IsPastRuns m old ⊎ ((m.phase ≡ phase.Ready) × IsTrue (is_medium (shape_now m)))
draws_by m old true h = draws_in m old m.phase refl h
draws_by m old false h = absurd (clash halts _ _ h (done_on halts refl refl (nat_le m.every (m.since + 1))) refl)

-- what comes before a mutator gives up, and what it does then
pub give_up_by_rules : MutatorsGiveUpByRules
give_up_by_rules m old = record {
  finds = λ why h. finds_by m old why (accepts_in m m.phase old) h;
  draws_block = λ h. draws_by m old (accepts_in m m.phase old) h;
  asks = λ why is. ap (action_in m) is;
  ends = λ why is. ap (λ p. (next_in m p old).end) is;
}

-- ---- numbers that were drawn

-- the phases in which a number was drawn
abbrev has_number : MutatorPhase → Bool
has_number (phase.RunNumber number) = true
has_number (phase.BlockNumber number) = true
has_number p = false

-- in a phase that doesn't halt none was drawn
quiet_number : (p : MutatorPhase) → halts p ≡ false → has_number p ≡ false
quiet_number (phase.RunNumber number) e = absurd (cc)
quiet_number (phase.BlockNumber number) e = absurd (cc)
quiet_number p e = refl

-- a store draws none
stored_number : (m : Mutating) (s' : Storing) (log : Roomy LogEntry) (e : Option StoreEnd) → has_number (stored m s' log e).phase ≡ false
stored_number m s' log None = refl
stored_number m s' log (Some store_end.Stored) = done_on has_number refl refl (nat_le m.every (m.since + 1))
stored_number m s' log (Some (store_end.Swapped place)) = quiet_number (loaded (record m { log = log }) place).phase (found_on (record m { log = log }) place)
stored_number m s' log (Some store_end.LogFull) = refl

-- nor does the look at how many free blocks there are
blocks_number : (number : ℕ) (b : Bool) → has_number (if b then phase.Block number else phase.GivingUp stop.NoRun) ≡ false
blocks_number number true = refl
blocks_number number false = refl

-- by its phase: a number of a run is the one that was drawn
run_number_in : (m : Mutating) (old number : ℕ) (p : MutatorPhase) → m.phase ≡ p → (after_in m p old).phase ≡ phase.RunNumber number → (m.phase ≡ phase.DrawsRun) × (number ≡ old)
run_number_in m old number phase.Ready is h = absurd (clash gives_up _ _ h (ready_on m (nat_eq old 1)) refl)
run_number_in m old number phase.Finished is h = absurd (cc)
run_number_in m old number (phase.Base base) is h = absurd (clash halts _ _ h (plain_on m old (phase.Base base) tt) refl)
run_number_in m old number (phase.Reference base) is h = absurd (clash halts _ _ h (plain_on m old (phase.Reference base) tt) refl)
run_number_in m old number (phase.Referent place) is h = absurd (clash halts _ _ h (plain_on m old (phase.Referent place) tt) refl)
run_number_in m old number (phase.Datum base refs) is h = absurd (clash halts _ _ h (plain_on m old (phase.Datum base refs) tt) refl)
run_number_in m old number (phase.Putting base refs) is h = absurd (clash halts _ _ h (plain_on m old (phase.Putting base refs) tt) refl)
run_number_in m old number (phase.Adding base refs) is h = absurd (clash halts _ _ h (plain_on m old (phase.Adding base refs) tt) refl)
run_number_in m old number (phase.Storing s) is h = absurd (clash has_number _ _ h (stored_number m (store_after s m.log old) (log_after s m.log old) (end_of (store_after s m.log old))) refl)
run_number_in m old number phase.DrawsRun is h = (is, cc)
run_number_in m old number (phase.RunNumber n) is h = absurd (clash gives_up _ _ h (runs_on n (nat_lt n old)) refl)
run_number_in m old number (phase.Run n) is h = absurd (clash halts _ _ h (plain_on m old (phase.Run n) tt) refl)
run_number_in m old number phase.DrawsBlock is h = absurd (cc)
run_number_in m old number (phase.BlockNumber n) is h = absurd (clash has_number _ _ h (blocks_number n (nat_lt n old)) refl)
run_number_in m old number (phase.Block n) is h = absurd (clash halts _ _ h (plain_on m old (phase.Block n) tt) refl)
run_number_in m old number (phase.Wiping place next) is h = absurd (clash halts _ _ h (plain_on m old (phase.Wiping place next) tt) refl)
run_number_in m old number (phase.Heading place) is h = absurd (clash halts _ _ h (plain_on m old (phase.Heading place) tt) refl)
run_number_in m old number phase.Asking is h = absurd (clash halts _ _ h (plain_on m old phase.Asking tt) refl)
run_number_in m old number (phase.GivingUp w) is h = absurd (clash halts _ _ h (plain_on m old (phase.GivingUp w) tt) refl)

-- by its phase: a number of a free block is the one that was drawn
block_number_in : (m : Mutating) (old number : ℕ) (p : MutatorPhase) → m.phase ≡ p → (after_in m p old).phase ≡ phase.BlockNumber number → (m.phase ≡ phase.DrawsBlock) × (number ≡ old)
block_number_in m old number phase.Ready is h = absurd (clash gives_up _ _ h (ready_on m (nat_eq old 1)) refl)
block_number_in m old number phase.Finished is h = absurd (cc)
block_number_in m old number (phase.Base base) is h = absurd (clash halts _ _ h (plain_on m old (phase.Base base) tt) refl)
block_number_in m old number (phase.Reference base) is h = absurd (clash halts _ _ h (plain_on m old (phase.Reference base) tt) refl)
block_number_in m old number (phase.Referent place) is h = absurd (clash halts _ _ h (plain_on m old (phase.Referent place) tt) refl)
block_number_in m old number (phase.Datum base refs) is h = absurd (clash halts _ _ h (plain_on m old (phase.Datum base refs) tt) refl)
block_number_in m old number (phase.Putting base refs) is h = absurd (clash halts _ _ h (plain_on m old (phase.Putting base refs) tt) refl)
block_number_in m old number (phase.Adding base refs) is h = absurd (clash halts _ _ h (plain_on m old (phase.Adding base refs) tt) refl)
block_number_in m old number (phase.Storing s) is h = absurd (clash has_number _ _ h (stored_number m (store_after s m.log old) (log_after s m.log old) (end_of (store_after s m.log old))) refl)
block_number_in m old number phase.DrawsRun is h = absurd (cc)
block_number_in m old number (phase.RunNumber n) is h = absurd (clash gives_up _ _ h (runs_on n (nat_lt n old)) refl)
block_number_in m old number (phase.Run n) is h = absurd (clash halts _ _ h (plain_on m old (phase.Run n) tt) refl)
block_number_in m old number phase.DrawsBlock is h = (is, cc)
block_number_in m old number (phase.BlockNumber n) is h = absurd (clash has_number _ _ h (blocks_number n (nat_lt n old)) refl)
block_number_in m old number (phase.Block n) is h = absurd (clash halts _ _ h (plain_on m old (phase.Block n) tt) refl)
block_number_in m old number (phase.Wiping place next) is h = absurd (clash halts _ _ h (plain_on m old (phase.Wiping place next) tt) refl)
block_number_in m old number (phase.Heading place) is h = absurd (clash halts _ _ h (plain_on m old (phase.Heading place) tt) refl)
block_number_in m old number phase.Asking is h = absurd (clash halts _ _ h (plain_on m old phase.Asking tt) refl)
block_number_in m old number (phase.GivingUp w) is h = absurd (clash halts _ _ h (plain_on m old (phase.GivingUp w) tt) refl)

-- whether or not the word tells what the phase looks for
pub run_number_by : (m : Mutating) (old number : ℕ) (b : Bool) → (if b then after_in m m.phase old else done_with m reply.Bad).phase ≡ phase.RunNumber number → (m.phase ≡ phase.DrawsRun) × (number ≡ old)
run_number_by m old number true h = run_number_in m old number m.phase refl h
run_number_by m old number false h = absurd (clash halts _ _ h (done_on halts refl refl (nat_le m.every (m.since + 1))) refl)

pub block_number_by : (m : Mutating) (old number : ℕ) (b : Bool) → (if b then after_in m m.phase old else done_with m reply.Bad).phase ≡ phase.BlockNumber number → (m.phase ≡ phase.DrawsBlock) × (number ≡ old)
block_number_by m old number true h = block_number_in m old number m.phase refl h
block_number_by m old number false h = absurd (clash halts _ _ h (done_on halts refl refl (nat_le m.every (m.since + 1))) refl)

-- each number is the one that was drawn in the step before
pub draw_by_rule : MutatorsDrawByRule
draw_by_rule m old = record {
  run = λ number h. (let is = run_number_by m old number (accepts_in m m.phase old) h in (ap (action_in m) is.0, is.1));
  block = λ number h. (let is = block_number_by m old number (accepts_in m m.phase old) h in (ap (action_in m) is.0, is.1));
}
