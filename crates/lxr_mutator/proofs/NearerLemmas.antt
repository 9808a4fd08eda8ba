-- Each step brings a mutator nearer to the end of its unit.
use Rattle.std.proofs.Common.{◌≡◌, ℕ, ◌+◌, ◌-◌, ◌<◌, ◌≤◌, Bool, true, false, arith, refl, ap}
use Rattle.std.specs.Prelude.{nat_le, nat_lt, nat_eq, ◌&&◌, if◌then◌else◌, None, Some}
use Rattle.lxr_tables.specs.Entries.{is_set}
use Rattle.lxr_layout.specs.declared.TheConstants.{GRANULES_IN_BLOCK}
use Rattle.lxr_layout.specs.declared.Place.{Place}
use Rattle.lxr_layout.specs.declared.LogEntry.{LogEntry}
use Rattle.lxr_layout.specs.declared.Shape.{Shape}
use Rattle.lxr_layout.specs.Objects.{header_of, word_count}
use Rattle.lxr_layout.specs.Places.{place_in}
use Rattle.lxr_base.specs.Roomy.{Roomy}
use Rattle.lxr_graph.specs.declared.Op.{Op}
use Rattle.lxr_graph.specs.declared.Op.TheVariants as op
use Rattle.lxr_graph.specs.declared.Reply.{Reply}
use Rattle.lxr_graph.specs.declared.Reply.TheVariants as reply
use Rattle.lxr_actor.specs.Machine.{to_go}
use Rattle.lxr_alloc.specs.declared.Span.{Span}
use Rattle.lxr_alloc.specs.Spans.{block_span}
use Rattle.lxr_barrier.specs.declared.machines.StorePhase.{StorePhase}
use Rattle.lxr_barrier.specs.declared.machines.StorePhase.TheVariants as store_phase
use Rattle.lxr_barrier.specs.declared.StoreEnd.TheVariants as store_end
use Rattle.lxr_barrier.specs.Storing.{Storing, end_in, end_of, phase_after, store_after, log_after, is_full, bit_number}
use Rattle.lxr_barrier.specs.Storers.{steps_left}
use Rattle.lxr_mutator.specs.declared.phases.MutatorPhase.{MutatorPhase}
use Rattle.lxr_mutator.specs.declared.phases.MutatorPhase.TheVariants as phase
use Rattle.lxr_mutator.specs.declared.phases.MutEnd.TheVariants as ends
use Rattle.lxr_mutator.specs.declared.phases.Stop.TheVariants as stop
use Rattle.lxr_mutator.specs.Naming.{unnamed}
use Rattle.lxr_mutator.specs.Operating.{asked_reply, dest_of, found_reply, index_of, indexed_fields}
use Rattle.lxr_mutator.specs.Mutating.{Mutating, next_name, nil, op_now, register, rests_in}
use Rattle.lxr_mutator.specs.Steps.{accepts_in, action, action_in, after, after_in, based, done_with, draws_for, finished, has_room, in_current, in_overflow, is_medium, left_in, loaded, mutator_machine, name_told, next_in, reaching, referring, shape_now, shape_told, started, stored, with_register}
use Rattle.lxr_mutator.specs.Mutators.{IsMutator, MayBeIn}
use Rattle.lxr_mutator.proofs.NowLemmas.{few_words}

-- an operation that is done leaves nothing to do
rests_either : (m : Mutating) (b : Bool) → (if rests_in (if b then phase.Finished else phase.Ready) then 0 else left_in m (if b then phase.Finished else phase.Ready)) ≡ 0
rests_either m true = refl
rests_either m false = refl

pub done_to_go : (m : Mutating) (r : Reply) → to_go mutator_machine (done_with m r) ≡ 0
done_to_go m r = rests_either (done_with m r) (nat_le m.every (m.since + 1))

-- an operation on a base has at most six steps more
based_by : (m : Mutating) (base : Place) (b : Bool) → to_go mutator_machine (if b then done_with m reply.Bad else record m { phase = phase.Base base }) ≤ 6
based_by m base true = omega (arith, done_to_go m reply.Bad)
based_by m base false = omega arith

-- so it is by what the register holds
based_to_go : (m : Mutating) (base : Place) → to_go mutator_machine (based m base) ≤ 6
based_to_go m base = based_by m base (nat_eq base.0 0)

-- what is drawn leads to an object in at most 2,053 steps
draws_by : (m : Mutating) (b : Bool) → to_go mutator_machine (record m { phase = if b then phase.DrawsBlock else phase.DrawsRun }) ≤ 2053
draws_by m true = omega arith
draws_by m false = omega arith

-- so it is where the overflow span has room, and where it has none
overflow_by : (m : Mutating) (shape : Shape) → word_count (shape_now m) ≤ GRANULES_IN_BLOCK → (b : Bool)
    → to_go mutator_machine (if b then in_overflow m shape m.spans.overflow else record m { phase = draws_for shape }) ≤ 2053
overflow_by m shape few true = omega arith
overflow_by m shape few false = draws_by m (is_medium shape)

-- and where the current span has room
placed_by : (m : Mutating) (shape : Shape) → word_count (shape_now m) ≤ GRANULES_IN_BLOCK → (b : Bool)
    → to_go mutator_machine (if b then in_current m shape m.spans.current
    else if is_medium shape && has_room m.spans.overflow shape then in_overflow m shape m.spans.overflow
    else record m { phase = draws_for shape }) ≤ 2053
placed_by m shape few true = omega arith
placed_by m shape few false = overflow_by m shape few (is_medium shape && has_room m.spans.overflow shape)

-- however an operation begins, it takes at most 2,053 steps more
pub started_to_go : (m : Mutating) (o : Op) → word_count (shape_now m) ≤ GRANULES_IN_BLOCK → to_go mutator_machine (started m o) ≤ 2053
started_to_go m (op.New dest shape) few = placed_by m shape few (has_room m.spans.current shape)
started_to_go m (op.Load dest base index) few = omega (arith, based_to_go m (register m base))
started_to_go m (op.Store base index source) few = omega (arith, based_to_go m (register m base))
started_to_go m (op.Put base index value) few = omega (arith, based_to_go m (register m base))
started_to_go m (op.Get base index) few = omega (arith, based_to_go m (register m base))
started_to_go m (op.Swap dest base index source) few = omega (arith, based_to_go m (register m base))
started_to_go m (op.Add base index value) few = omega (arith, based_to_go m (register m base))
started_to_go m (op.Move dest source) few = omega (arith, done_to_go (with_register m dest (register m source)) reply.Moved)
started_to_go m (op.Nil dest) few = omega (arith, done_to_go (with_register m dest nil) reply.Cleared)
started_to_go m (op.Same left right) few = omega (arith, done_to_go m (reply.Same (nat_eq (register m left).0 (register m right).0)))
started_to_go m op.Pause few = omega arith
started_to_go m op.Collect few = omega arith
started_to_go m op.End few = omega arith

-- so the look at the pause word is the first of at most 2,054 steps
asked_by : (m : Mutating) → word_count (shape_now m) ≤ GRANULES_IN_BLOCK → (b : Bool) → to_go mutator_machine (if b then finished m ends.Asked else started m (op_now m)) < 2054
asked_by m few true = omega arith
asked_by m few false = omega (arith, started_to_go m (op_now m) few)

-- at the beginning of a unit
pub ready_nearer : (m : Mutating) (old : ℕ) → word_count (shape_now m) ≤ GRANULES_IN_BLOCK → to_go mutator_machine (after_in m phase.Ready old) < 2054
ready_nearer m old few = asked_by m few (nat_eq old 1)

-- the name of a place that was found is one step away, or isn't told
referring_by : (m : Mutating) (names : Bool) (place : Place) → to_go mutator_machine (referring m names place) ≤ 1
referring_by m true place = omega arith
referring_by m false place = omega (arith, done_to_go m (found_reply (op_now m) (Some unnamed)))

-- a place that was found is nil or not
loaded_by : (m : Mutating) (place : Place) (r : Reply) (b : Bool) → to_go mutator_machine (if b then done_with m r else referring m m.names place) ≤ 1
loaded_by m place r true = omega (arith, done_to_go m r)
loaded_by m place r false = referring_by m m.names place

-- so it is by the place
found_to_go : (m : Mutating) (place : Place) → to_go mutator_machine (loaded m place) ≤ 1
found_to_go m place = loaded_by (with_register m (dest_of (op_now m)) place) place (found_reply (op_now m) None) (nat_eq place.0 0)

-- a store that has gone on takes at most its own steps, and one more where it gives up or has swapped
stored_to_go : (m : Mutating) (s : Storing) (log : Roomy LogEntry) (p : StorePhase) → s.phase ≡ p → to_go mutator_machine (stored m s log (end_in p)) ≤ steps_left p + 1
stored_to_go m s log store_phase.Begun e = omega (arith, ap steps_left e)
stored_to_go m s log store_phase.Unlogged e = omega (arith, ap steps_left e)
stored_to_go m s log (store_phase.Loaded old) e = omega (arith, ap steps_left e)
stored_to_go m s log store_phase.Logged e = omega (arith, ap steps_left e)
stored_to_go m s log (store_phase.Ended store_end.Stored) e = omega (arith, done_to_go (record m { log = log }) reply.Stored)
stored_to_go m s log (store_phase.Ended (store_end.Swapped place)) e = omega (arith, found_to_go (record m { log = log }) place)
stored_to_go m s log (store_phase.Ended store_end.LogFull) e = omega arith

-- a look at the unlogged bit is one of its steps
looked_left : (a b : Bool) → steps_left (if a then (if b then store_phase.Ended store_end.LogFull else store_phase.Unlogged) else store_phase.Logged) < 4
looked_left true true = omega arith
looked_left true false = omega arith
looked_left false b = omega arith

-- each step of a store leaves fewer
phase_left : (s : Storing) (log : Roomy LogEntry) (old : ℕ) (p : StorePhase) → end_in p ≡ None → steps_left (phase_after s log old p) < steps_left p
phase_left s log old store_phase.Begun e = looked_left (is_set old (bit_number s)) (is_full log)
phase_left s log old store_phase.Unlogged e = omega arith
phase_left s log old (store_phase.Loaded first) e = omega arith
phase_left s log old store_phase.Logged e = omega arith
phase_left s log old (store_phase.Ended how) e = absurd (cc)

-- whether or not the word tells what the store looks for
storing_by : (m : Mutating) (s : Storing) (old : ℕ) → end_of s ≡ None → (b : Bool)
    → to_go mutator_machine (if b then after_in m (phase.Storing s) old else done_with m reply.Bad) < steps_left s.phase + 1
storing_by m s old e true =
    let s' = store_after s m.log old in
    omega (arith, stored_to_go m s' (log_after s m.log old) s'.phase refl, phase_left s m.log old s.phase e)
storing_by m s old e false = omega (arith, done_to_go m reply.Bad)

-- a step of a store brings the mutator nearer
pub storing_nearer : (m : Mutating) (s : Storing) (old : ℕ) → end_of s ≡ None → to_go mutator_machine (next_in m (phase.Storing s) old) < steps_left s.phase + 1
storing_nearer m s old e = storing_by m s old e (accepts_in m (phase.Storing s) old)

-- ---- any step

-- where the operation goes on at a field, at most five steps are left
reaching_to_go : (m : Mutating) (base : Place) (shape : Shape) (o : Op) → to_go mutator_machine (record m { phase = reaching m base shape o }) < 6
reaching_to_go m base shape (op.Load dest b index) = omega arith
reaching_to_go m base shape (op.Store b index source) = omega arith
reaching_to_go m base shape (op.Put b index value) = omega arith
reaching_to_go m base shape (op.Get b index) = omega arith
reaching_to_go m base shape (op.Swap dest b index source) = omega arith
reaching_to_go m base shape (op.Add b index value) = omega arith
reaching_to_go m base shape o = omega arith

reached_by : (m : Mutating) (base : Place) (shape : Shape) (b : Bool) → to_go mutator_machine (if b then record m { phase = reaching m base shape (op_now m) } else done_with m reply.Range) < 6
reached_by m base shape true = reaching_to_go m base shape (op_now m)
reached_by m base shape false = omega (arith, done_to_go m reply.Range)

-- there is a run of this number or not
run_by : (m : Mutating) (number : ℕ) (b : Bool) → to_go mutator_machine (record m { phase = if b then phase.Run number else phase.DrawsBlock }) < 2052
run_by m number true = omega arith
run_by m number false = omega arith

-- there is a block of this number or not
block_by : (m : Mutating) (number : ℕ) (b : Bool) → to_go mutator_machine (record m { phase = if b then phase.Block number else phase.GivingUp stop.NoRun }) < 2050
block_by m number true = omega arith
block_by m number false = omega arith

-- an object in a drawn block, in either span
in_block_by : (m : Mutating) (shape : Shape) (span : Span) → word_count (shape_now m) ≤ GRANULES_IN_BLOCK → (b : Bool) → to_go mutator_machine (if b then in_overflow m shape span else in_current m shape span) < 2049
in_block_by m shape span few true = omega arith
in_block_by m shape span few false = omega arith

-- there is a further word to wipe or not
wiped_by : (m : Mutating) (place : Place) (next : ℕ) → next < word_count (shape_now m) → (b : Bool) → nat_lt (next + 1) (word_count (shape_now m)) ≡ b
    → to_go mutator_machine (record m { phase = if b then phase.Wiping place (next + 1) else phase.Heading place }) < word_count (shape_now m) - next + 1
wiped_by m place next below true e = omega arith
wiped_by m place next below false e = omega arith

-- where the word tells what the phase looks for
nearer_in : (m : Mutating) (old : ℕ) (p : MutatorPhase) → MayBeIn m p → word_count (shape_now m) ≤ GRANULES_IN_BLOCK → (action_in m p ≡ None → ⊥) → to_go mutator_machine (after_in m p old) < left_in m p
nearer_in m old phase.Ready may few some = ready_nearer m old few
nearer_in m old phase.Finished may few some = absurd (some refl)
nearer_in m old (phase.Base base) may few some = reached_by m base (shape_told (header_of old)) (nat_lt (index_of (op_now m)) (indexed_fields (op_now m) (shape_told (header_of old))))
nearer_in m old (phase.Reference base) may few some = omega (arith, found_to_go m (place_in old))
nearer_in m old (phase.Referent place) may few some = omega (arith, done_to_go m (found_reply (op_now m) (Some (name_told (header_of old)))))
nearer_in m old (phase.Datum base refs) may few some = omega (arith, done_to_go m (reply.Got old))
nearer_in m old (phase.Putting base refs) may few some = omega (arith, done_to_go m reply.Put)
nearer_in m old (phase.Adding base refs) may few some = omega (arith, done_to_go m (reply.Added old))
nearer_in m old (phase.Storing s) may few some = storing_by m s old may.1 true
nearer_in m old phase.DrawsRun may few some = omega arith
nearer_in m old (phase.RunNumber number) may few some = run_by m number (nat_lt number old)
nearer_in m old (phase.Run number) may few some = omega (arith, few)
nearer_in m old phase.DrawsBlock may few some = omega arith
nearer_in m old (phase.BlockNumber number) may few some = block_by m number (nat_lt number old)
nearer_in m old (phase.Block number) may few some = in_block_by m (shape_now m) (block_span old) few (is_medium (shape_now m))
nearer_in m old (phase.Wiping place next) may few some = wiped_by m place next may.1.1 (nat_lt (next + 1) (word_count (shape_now m))) refl
nearer_in m old (phase.Heading place) may few some = omega (arith, done_to_go (with_register m (dest_of (op_now m)) place) (reply.New (next_name m)))
nearer_in m old phase.Asking may few some = omega (arith, done_to_go m (asked_reply (op_now m)))
nearer_in m old (phase.GivingUp why) may few some = omega arith

-- some steps are left where there is a next one
some_left : (m : Mutating) (p : MutatorPhase) → (action_in m p ≡ None → ⊥) → 0 < left_in m p
some_left m phase.Finished some = absurd (some refl)
some_left m p some = omega arith

-- whether or not it does
read_nearer : (m : Mutating) (old : ℕ) (p : MutatorPhase) → MayBeIn m p → word_count (shape_now m) ≤ GRANULES_IN_BLOCK → (action_in m p ≡ None → ⊥) → (b : Bool)
    → to_go mutator_machine (if b then after_in m p old else done_with m reply.Bad) < left_in m p
read_nearer m old p may few some true = nearer_in m old p may few some
read_nearer m old p may few some false = omega (arith, done_to_go m reply.Bad, some_left m p some)

-- each step of a mutator does so
pub step_nearer : (m : Mutating) (old : ℕ) → IsMutator m → (action m ≡ None → ⊥) → to_go mutator_machine (after m old) < left_in m m.phase
step_nearer m old is some = read_nearer m old m.phase is.phase (few_words m is) some (accepts_in m m.phase old)
