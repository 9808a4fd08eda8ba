-- What each step does to the unit that it belongs to, case by case.
use Rattle.std.proofs.Common.{◌≡◌, ◌≢◌, ℕ, ◌+◌, Bool, true, false, refl, sym, subst, Some, None, Option, inl, inr}
use Rattle.std.specs.Prelude.{◌&&◌, nat_eq, nat_le, nat_lt, if◌then◌else◌, slice_set}
use Rattle.std.proofs.lemmas.Bool.Decides.{eqb_tells}
use Rattle.lxr_layout.specs.Places.{place_in}
use Rattle.lxr_layout.specs.declared.Place.{Place}
use Rattle.lxr_layout.specs.declared.LogEntry.{LogEntry}
use Rattle.lxr_layout.specs.declared.Shape.{Shape}
use Rattle.lxr_layout.specs.Objects.{header_of, word_count}
use Rattle.lxr_base.specs.Roomy.{Roomy}
use Rattle.lxr_graph.specs.declared.Op.{Op}
use Rattle.lxr_graph.specs.declared.Op.TheVariants as op
use Rattle.lxr_graph.specs.declared.Reply.{Reply}
use Rattle.lxr_graph.specs.declared.Reply.TheVariants as reply
use Rattle.lxr_alloc.specs.declared.Span.{Span}
use Rattle.lxr_alloc.specs.Spans.{block_span}
use Rattle.lxr_barrier.specs.declared.StoreEnd.{StoreEnd}
use Rattle.lxr_barrier.specs.declared.StoreEnd.TheVariants as store_end
use Rattle.lxr_barrier.specs.Storing.{Storing, end_of, log_after, store_after}
use Rattle.lxr_mutator.specs.declared.phases.MutEnd.TheVariants as ends
use Rattle.lxr_mutator.specs.declared.phases.MutatorPhase.{MutatorPhase}
use Rattle.lxr_mutator.specs.declared.phases.MutatorPhase.TheVariants as phase
use Rattle.lxr_mutator.specs.declared.phases.Stop.TheVariants as stop
use Rattle.lxr_mutator.specs.Naming.{unnamed}
use Rattle.lxr_mutator.specs.Operating.{asked_reply, dest_of, found_reply, indexed_fields, index_of}
use Rattle.lxr_mutator.specs.Mutating.{Mutating, next_name, nil, op_now, register, rests_in}
use Rattle.lxr_mutator.specs.Steps.{accepts_in, after_in, done_with, draws_for, finished, has_room, in_current, in_overflow, is_medium, loaded, name_told, reaching, referring, shape_now, shape_told, started, stored, with_register}
use Rattle.lxr_mutator.specs.Laws.{MutatorsStepByRule, StepsByRule}
use Rattle.lxr_mutator.specs.Laws.StepsByRule.{does_one, finds_asked, finds_end, gave_up, goes_on, stands_still}

-- something is drawn for a new object
draws_by : (m : Mutating) (old : ℕ) (b : Bool) → StepsByRule m old (record m { phase = if b then phase.DrawsBlock else phase.DrawsRun })
draws_by m old true = goes_on _ _ _ _ refl
draws_by m old false = goes_on _ _ _ _ refl

-- or it finds room in the overflow span
overflow_by : (m : Mutating) (old : ℕ) (shape : Shape) (b : Bool) → StepsByRule m old (if b then in_overflow m shape m.spans.overflow else record m { phase = draws_for shape })
overflow_by m old shape true = goes_on _ _ _ _ refl
overflow_by m old shape false = draws_by m old (is_medium shape)

-- or in the current one
placed_by : (m : Mutating) (old : ℕ) (shape : Shape) (b : Bool)
    → StepsByRule m old (if b then in_current m shape m.spans.current
    else if is_medium shape && has_room m.spans.overflow shape then in_overflow m shape m.spans.overflow
    else record m { phase = draws_for shape })
placed_by m old shape true = goes_on _ _ _ _ refl
placed_by m old shape false = overflow_by m old shape (is_medium shape && has_room m.spans.overflow shape)

-- an operation on a base is done or looks at its header
based_by : (m : Mutating) (old : ℕ) (base : Place) (b : Bool) → StepsByRule m old (if b then done_with m reply.Bad else record m { phase = phase.Base base })
based_by m old base true = does_one m.log m.registers reply.Bad
based_by m old base false = goes_on _ _ _ _ refl

-- an operation begins, the pause word being no 1
started_by : (m : Mutating) (old : ℕ) → m.phase ≡ phase.Ready → old ≢ 1 → (o : Op) → op_now m ≡ o → StepsByRule m old (started m o)
started_by m old ready unasked (op.New dest shape) is = placed_by m old shape (has_room m.spans.current shape)
started_by m old ready unasked (op.Load dest base index) is = based_by m old (register m base) (nat_eq (register m base).0 0)
started_by m old ready unasked (op.Store base index source) is = based_by m old (register m base) (nat_eq (register m base).0 0)
started_by m old ready unasked (op.Put base index value) is = based_by m old (register m base) (nat_eq (register m base).0 0)
started_by m old ready unasked (op.Get base index) is = based_by m old (register m base) (nat_eq (register m base).0 0)
started_by m old ready unasked (op.Swap dest base index source) is = based_by m old (register m base) (nat_eq (register m base).0 0)
started_by m old ready unasked (op.Add base index value) is = based_by m old (register m base) (nat_eq (register m base).0 0)
started_by m old ready unasked (op.Move dest source) is = does_one m.log (slice_set m.registers dest (register m source)) reply.Moved
started_by m old ready unasked (op.Nil dest) is = does_one m.log (slice_set m.registers dest nil) reply.Cleared
started_by m old ready unasked (op.Same left right) is = does_one m.log m.registers (reply.Same (nat_eq (register m left).0 (register m right).0))
started_by m old ready unasked op.Pause is = goes_on _ _ _ _ refl
started_by m old ready unasked op.Collect is = goes_on _ _ _ _ refl
started_by m old ready unasked op.End is = finds_end ready unasked is

-- the look at the pause word
ready_by : (m : Mutating) (old : ℕ) → m.phase ≡ phase.Ready → StepsByRule m old (if nat_eq old 1 then finished m ends.Asked else started m (op_now m))
ready_by m old ready = elim (eqb_tells old 1) [
  | inl q ↦ subst (λ (b : Bool). StepsByRule m old (if b then finished m ends.Asked else started m (op_now m))) (sym q.0) (finds_asked ready q.1)
  | inr q ↦ subst (λ (b : Bool). StepsByRule m old (if b then finished m ends.Asked else started m (op_now m))) (sym q.0) (started_by m old ready q.1 (op_now m) refl)
]

-- the operation goes on at its field, where the base has it
reached_by : (m : Mutating) (old : ℕ) (base : Place) (shape : Shape) (o : Op) (b : Bool) → nat_lt (index_of o) (indexed_fields o shape) ≡ b
    → StepsByRule m old (if b then record m { phase = reaching m base shape o } else done_with m reply.Range)
reached_by m old base shape o false is = does_one m.log m.registers reply.Range
reached_by m old base shape (op.Load dest b index) true is = goes_on _ _ _ _ refl
reached_by m old base shape (op.Store b index source) true is = goes_on _ _ _ _ refl
reached_by m old base shape (op.Put b index value) true is = goes_on _ _ _ _ refl
reached_by m old base shape (op.Get b index) true is = goes_on _ _ _ _ refl
reached_by m old base shape (op.Swap dest b index source) true is = goes_on _ _ _ _ refl
reached_by m old base shape (op.Add b index value) true is = goes_on _ _ _ _ refl
reached_by m old base shape (op.New dest s) true is = absurd (cc)
reached_by m old base shape (op.Move dest source) true is = absurd (cc)
reached_by m old base shape (op.Nil dest) true is = absurd (cc)
reached_by m old base shape (op.Same left right) true is = absurd (cc)
reached_by m old base shape op.Pause true is = absurd (cc)
reached_by m old base shape op.Collect true is = absurd (cc)
reached_by m old base shape op.End true is = absurd (cc)

-- a place that isn't nil was found, the log being this one: its name is looked up, or none is told
referring_by : (m : Mutating) (old : ℕ) (log : Roomy LogEntry) (dest : ℕ) (place : Place) (names : Bool)
    → StepsByRule m old (referring (with_register (record m { log = log }) dest place) names place)
referring_by m old log dest place true = goes_on _ _ _ _ refl
referring_by m old log dest place false = does_one log (slice_set m.registers dest place) (found_reply (op_now m) (Some unnamed))

-- a place is loaded or swapped out
loaded_by : (m : Mutating) (old : ℕ) (log : Roomy LogEntry) (dest : ℕ) (place : Place) (r : Reply) (b : Bool)
    → StepsByRule m old (if b then done_with (with_register (record m { log = log }) dest place) r else referring (with_register (record m { log = log }) dest place) m.names place)
loaded_by m old log dest place r true = does_one log (slice_set m.registers dest place) r
loaded_by m old log dest place r false = referring_by m old log dest place m.names

-- the place that was found
found_by : (m : Mutating) (old : ℕ) (log : Roomy LogEntry) (place : Place) → StepsByRule m old (loaded (record m { log = log }) place)
found_by m old log place = loaded_by m old log (dest_of (op_now m)) place (found_reply (op_now m) None) (nat_eq place.0 0)

-- a store goes on, is done, or finds the log full
stored_by : (m : Mutating) (old : ℕ) (s : Storing) (log : Roomy LogEntry) (e : Option StoreEnd) → StepsByRule m old (stored m s log e)
stored_by m old s log None = goes_on _ _ _ _ refl
stored_by m old s log (Some store_end.Stored) = does_one log m.registers reply.Stored
stored_by m old s log (Some (store_end.Swapped place)) = found_by m old log place
stored_by m old s log (Some store_end.LogFull) = goes_on _ _ _ _ refl

-- a new object is wiped
wiped_by : (m : Mutating) (old : ℕ) (place : Place) (next : ℕ) (b : Bool) → StepsByRule m old (record m { phase = if b then phase.Wiping place (next + 1) else phase.Heading place })
wiped_by m old place next true = goes_on _ _ _ _ refl
wiped_by m old place next false = goes_on _ _ _ _ refl

-- a number is below the runs, or not
run_by : (m : Mutating) (old number : ℕ) (b : Bool) → StepsByRule m old (record m { phase = if b then phase.Run number else phase.DrawsBlock })
run_by m old number true = goes_on _ _ _ _ refl
run_by m old number false = goes_on _ _ _ _ refl

-- a number is below the free blocks, or not
number_by : (m : Mutating) (old number : ℕ) (b : Bool) → StepsByRule m old (record m { phase = if b then phase.Block number else phase.GivingUp stop.NoRun })
number_by m old number true = goes_on _ _ _ _ refl
number_by m old number false = goes_on _ _ _ _ refl

-- a block is taken
block_by : (m : Mutating) (old : ℕ) (shape : Shape) (span : Span) (b : Bool) → StepsByRule m old (if b then in_overflow m shape span else in_current m shape span)
block_by m old shape span true = goes_on _ _ _ _ refl
block_by m old shape span false = goes_on _ _ _ _ refl

-- by its phase
steps_in : (m : Mutating) (old : ℕ) (p : MutatorPhase) → m.phase ≡ p → StepsByRule m old (after_in m p old)
steps_in m old phase.Ready is = ready_by m old is
steps_in m old phase.Finished is = stands_still is
steps_in m old (phase.Base base) is = reached_by m old base (shape_told (header_of old)) (op_now m) (nat_lt (index_of (op_now m)) (indexed_fields (op_now m) (shape_told (header_of old)))) refl
steps_in m old (phase.Reference base) is = found_by m old m.log (place_in old)
steps_in m old (phase.Referent place) is = does_one m.log m.registers (found_reply (op_now m) (Some (name_told (header_of old))))
steps_in m old (phase.Datum base refs) is = does_one m.log m.registers (reply.Got old)
steps_in m old (phase.Putting base refs) is = does_one m.log m.registers reply.Put
steps_in m old (phase.Adding base refs) is = does_one m.log m.registers (reply.Added old)
steps_in m old (phase.Storing s) is = stored_by m old (store_after s m.log old) (log_after s m.log old) (end_of (store_after s m.log old))
steps_in m old phase.DrawsRun is = goes_on _ _ _ _ refl
steps_in m old (phase.RunNumber number) is = run_by m old number (nat_lt number old)
steps_in m old (phase.Run number) is = goes_on _ _ _ _ refl
steps_in m old phase.DrawsBlock is = goes_on _ _ _ _ refl
steps_in m old (phase.BlockNumber number) is = number_by m old number (nat_lt number old)
steps_in m old (phase.Block number) is = block_by m old (shape_now m) (block_span old) (is_medium (shape_now m))
steps_in m old (phase.Wiping place next) is = wiped_by m old place next (nat_lt (next + 1) (word_count (shape_now m)))
steps_in m old (phase.Heading place) is = does_one m.log (slice_set m.registers (dest_of (op_now m)) place) (reply.New (next_name m))
steps_in m old phase.Asking is = does_one m.log m.registers (asked_reply (op_now m))
steps_in m old (phase.GivingUp why) is = gave_up why is

-- whether or not the word tells what the phase looks for
steps_by : (m : Mutating) (old : ℕ) (b : Bool) → StepsByRule m old (if b then after_in m m.phase old else done_with m reply.Bad)
steps_by m old true = steps_in m old m.phase refl
steps_by m old false = does_one m.log m.registers reply.Bad

-- so it is with each step
pub step_by_rule : MutatorsStepByRule
step_by_rule m old = steps_by m old (accepts_in m m.phase old)

-- an operation that is done ends its unit
pub done_rests : (b : Bool) → rests_in (if b then phase.Finished else phase.Ready) ≡ true
done_rests true = refl
done_rests false = refl

-- where a step doesn't end the unit, no operation is done
pub stays : (m : Mutating) (old : ℕ) (to : Mutating) → StepsByRule m old to → rests_in to.phase ≡ false → (to.since ≡ m.since) × (to.every ≡ m.every)
stays m old to (goes_on log registers spans p busy) on = (refl, refl)
stays m old to (finds_asked ready is) on = absurd (cc)
stays m old to (finds_end ready unasked is) on = absurd (cc)
stays m old to (gave_up why is) on = absurd (cc)
stays m old to (does_one log registers r) on = let rest = done_rests (nat_le m.every (m.since + 1)) in absurd (cc)
stays m old to (stands_still is) on = (refl, refl)
