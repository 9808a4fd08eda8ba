-- Each step of a mutator brings its operation into the history, or leaves the number of those that stand there. A load and a swap stand there as
-- they take their reference, before they tell its name.
use Rattle.std.proofs.Common.{◌≡◌, ℕ, ◌+◌, Bool, true, false, List, [], ◌∷◌, ◌++◌, length, length-append, nat_eq, nat_le, nat_lt, arith, refl, ap, ◌∙◌}
use Rattle.std.specs.Prelude.{Some, None, ◌&&◌, if◌then◌else◌}
use Rattle.lxr_tables.specs.Entries.{is_set}
use Rattle.lxr_layout.specs.Places.{place_in}
use Rattle.lxr_layout.specs.declared.Place.{Place}
use Rattle.lxr_layout.specs.declared.LogEntry.{LogEntry}
use Rattle.lxr_layout.specs.declared.Shape.{Shape}
use Rattle.lxr_layout.specs.Objects.{header_of, word_count}
use Rattle.lxr_base.specs.Roomy.{Roomy}
use Rattle.lxr_graph.specs.declared.Op.{Op}
use Rattle.lxr_graph.specs.declared.Op.TheVariants as op
use Rattle.lxr_graph.specs.declared.Reply.{Reply}
use Rattle.lxr_graph.specs.declared.Reply.TheVariants as reply
use Rattle.lxr_actor.specs.Run.{one_if}
use Rattle.lxr_alloc.specs.Spans.{block_span}
use Rattle.lxr_barrier.specs.declared.StoreEnd.TheVariants as store_end
use Rattle.lxr_barrier.specs.declared.machines.LastStep.{LastStep}
use Rattle.lxr_barrier.specs.declared.machines.LastStep.TheVariants as last_step
use Rattle.lxr_barrier.specs.declared.machines.StorePhase.{StorePhase}
use Rattle.lxr_barrier.specs.declared.machines.StorePhase.TheVariants as store_phase
use Rattle.lxr_barrier.specs.Storing.{Storing, bit_number, end_in, is_full, last_end, log_in, phase_after, swaps_in, swaps_next}
use Rattle.lxr_mutator.specs.declared.phases.MutEnd.TheVariants as ends
use Rattle.lxr_mutator.specs.declared.phases.MutatorPhase.{MutatorPhase}
use Rattle.lxr_mutator.specs.declared.phases.MutatorPhase.TheVariants as phase
use Rattle.lxr_mutator.specs.declared.phases.Stop.TheVariants as stop
use Rattle.lxr_mutator.specs.Operating.{asked_reply, dest_of, found_reply, indexed_fields, index_of}
use Rattle.lxr_mutator.specs.Mutating.{Mutating, next_name, nil, op_now, placed_count, placed_in, register}
use Rattle.lxr_mutator.specs.Mutators.{MayBeIn}
use Rattle.lxr_mutator.specs.Naming.{unnamed}
use Rattle.lxr_mutator.specs.Steps.{accepts_in, after_in, based, done_with, draws_for, finished, has_room, in_current, in_overflow, is_medium, loaded, name_told, next_in, placed, reached, reaching, referring, shape_now, shape_told, started, stored, with_register}
use Rattle.lxr_core_sim_mutator.specs.Stepping.{stands_in}

-- what a step of m in a phase has made of it
abbrev pub Places : Mutating → MutatorPhase → Mutating → Type 0
Places m p n = (n.thread ≡ m.thread) × (n.operations ≡ m.operations) × (placed_count n ≡ placed_in m p + one_if (stands_in p m n))

-- the same of a phase in which an operation stands in the history where it has its reply
abbrev Replies : Mutating → Mutating → Type 0
Replies m n = (n.thread ≡ m.thread) × (n.operations ≡ m.operations) × (placed_count n ≡ length m.replies.items + one_if (nat_eq (length n.replies.items) (length m.replies.items + 1)))

-- ---- numbers

-- no reply more is none
pub none_more : (n : ℕ) → n ≡ n + one_if (nat_eq n (n + 1))
none_more n =
    let other : nat_eq n (n + 1) ≡ false = grind arith in
    let e : one_if (nat_eq n (n + 1)) ≡ 0 = ap one_if other in
    omega (arith, e)

-- one more is one
one_more : (rs : List Reply) (r : Reply) → length (rs ++ r ∷ []) ≡ length rs + one_if (nat_eq (length (rs ++ r ∷ [])) (length rs + 1))
one_more rs r =
    let l : length (rs ++ r ∷ []) ≡ length rs + 1 = length-append rs (r ∷ []) in
    let same : nat_eq (length (rs ++ r ∷ [])) (length rs + 1) ≡ true = grind (arith, l) in
    let e : one_if (nat_eq (length (rs ++ r ∷ [])) (length rs + 1)) ≡ 1 = ap one_if same in
    omega (arith, l, e)

-- ---- what becomes of a mutator

-- it goes on in a phase in which it is to tell no name
goes_on : (m : Mutating) (p : MutatorPhase) → placed_in (record m { phase = p }) p ≡ length m.replies.items → Replies m (record m { phase = p })
goes_on m p e = (refl, refl, e ∙ none_more (length m.replies.items))

-- either of two
either : (m x y : Mutating) (b : Bool) → Replies m x → Replies m y → Replies m (if b then x else y)
either m x y true first second = first
either m x y false first second = second

-- either of two phases
either_phase : (m : Mutating) (p q : MutatorPhase) (b : Bool) → Replies m (record m { phase = p }) → Replies m (record m { phase = q }) → Replies m (record m { phase = if b then p else q })
either_phase m p q true first second = first
either_phase m p q false first second = second

-- an operation that is done has a reply more
done_count : (m : Mutating) (r : Reply) → placed_count (done_with m r) ≡ length (m.replies.items ++ r ∷ [])
done_count m r = by (nat_le m.every (m.since + 1))
  where
    by : (b : Bool) → placed_in (record (done_with m r) { phase = if b then phase.Finished else phase.Ready }) (if b then phase.Finished else phase.Ready) ≡ length (m.replies.items ++ r ∷ [])
    by true = refl
    by false = refl

done : (m : Mutating) (r : Reply) → Replies m (done_with m r)
done m r = (refl, refl, done_count m r ∙ one_more m.replies.items r)

-- so much that one stands in the history more
done_one : (m : Mutating) (r : Reply) → placed_count (done_with m r) ≡ length m.replies.items + 1
done_one m r = done_count m r ∙ length-append m.replies.items (r ∷ [])

-- ---- an operation begins

base_first : (m : Mutating) (base : Place) → Replies m (based m base)
base_first m base = either m (done_with m reply.Bad) (record m { phase = phase.Base base }) (nat_eq base.0 0) (done m reply.Bad) (goes_on m (phase.Base base) refl)

draws_first : (m : Mutating) (shape : Shape) → Replies m (record m { phase = draws_for shape })
draws_first m shape = either_phase m phase.DrawsBlock phase.DrawsRun (is_medium shape) (goes_on m phase.DrawsBlock refl) (goes_on m phase.DrawsRun refl)

places_first : (m : Mutating) (shape : Shape) → Replies m (placed m shape)
places_first m shape =
    either m (in_current m shape m.spans.current)
    (if is_medium shape && has_room m.spans.overflow shape then in_overflow m shape m.spans.overflow else record m { phase = draws_for shape })
    (has_room m.spans.current shape) (refl, refl, none_more (length m.replies.items))
    (either m (in_overflow m shape m.spans.overflow) (record m { phase = draws_for shape }) (is_medium shape && has_room m.spans.overflow shape)
    (refl, refl, none_more (length m.replies.items)) (draws_first m shape))

begins : (m : Mutating) (o : Op) → Replies m (started m o)
begins m (op.New dest shape) = places_first m shape
begins m (op.Load dest base index) = base_first m (register m base)
begins m (op.Store base index source) = base_first m (register m base)
begins m (op.Put base index value) = base_first m (register m base)
begins m (op.Get base index) = base_first m (register m base)
begins m (op.Swap dest base index source) = base_first m (register m base)
begins m (op.Add base index value) = base_first m (register m base)
begins m (op.Move dest source) = done (with_register m dest (register m source)) reply.Moved
begins m (op.Nil dest) = done (with_register m dest nil) reply.Cleared
begins m (op.Same left right) = done m (reply.Same (nat_eq (register m left).0 (register m right).0))
begins m op.Pause = goes_on m phase.Asking refl
begins m op.Collect = goes_on m phase.Asking refl
begins m op.End = (refl, refl, one_more m.replies.items reply.Ended)

-- ---- a field is reached

at_field : (m : Mutating) (base : Place) (shape : Shape) (o : Op) → Replies m (record m { phase = reaching m base shape o })
at_field m base shape (op.Load dest b index) = goes_on m (reaching m base shape (op.Load dest b index)) refl
at_field m base shape (op.Store b index source) = goes_on m (reaching m base shape (op.Store b index source)) refl
at_field m base shape (op.Put b index value) = goes_on m (reaching m base shape (op.Put b index value)) refl
at_field m base shape (op.Get b index) = goes_on m (reaching m base shape (op.Get b index)) refl
at_field m base shape (op.Swap dest b index source) = goes_on m (reaching m base shape (op.Swap dest b index source)) refl
at_field m base shape (op.Add b index value) = goes_on m (reaching m base shape (op.Add b index value)) refl
at_field m base shape o = goes_on m phase.Ready refl

finds_base : (m : Mutating) (base : Place) (shape : Shape) → Replies m (reached m base shape)
finds_base m base shape = either m (record m { phase = reaching m base shape (op_now m) }) (done_with m reply.Range) (nat_lt (index_of (op_now m)) (indexed_fields (op_now m) shape)) (at_field m base shape (op_now m)) (done m reply.Range)

-- a reference is taken: the operation stands in the history, whether or not it has a name to tell
abbrev Loads : Mutating → Mutating → Type 0
Loads m n = (n.thread ≡ m.thread) × (n.operations ≡ m.operations) × (placed_count n ≡ length m.replies.items + 1)

refers : (m : Mutating) (place : Place) (names : Bool) → Loads m (referring m names place)
refers m place true = (refl, refl, refl)
refers m place false = (refl, refl, done_one m (found_reply (op_now m) (Some unnamed)))

loads_by : (m : Mutating) (place : Place) (r : Reply) (b : Bool) → Loads m (if b then done_with m r else referring m m.names place)
loads_by m place r true = (refl, refl, done_one m r)
loads_by m place r false = refers m place m.names

loads : (m : Mutating) (place : Place) → Loads m (loaded m place)
loads m place = loads_by (with_register m (dest_of (op_now m)) place) place (found_reply (op_now m) None) (nat_eq place.0 0)

-- ---- a store goes on

-- what a store that was in this phase, with this last step, has made of the mutator
abbrev Stores : Mutating → LastStep → StorePhase → Mutating → Type 0
Stores m last q n =
    (n.thread ≡ m.thread) × (n.operations ≡ m.operations)
    × (placed_count n ≡ length m.replies.items + one_if (if swaps_in last q then true else nat_eq (length n.replies.items) (length m.replies.items + 1)))

-- it has looked at the bit
looks : (m : Mutating) (s : Storing) (log : Roomy LogEntry) (a b : Bool)
    → Replies m (stored m (record s { phase = if a then (if b then store_phase.Ended store_end.LogFull else store_phase.Unlogged) else store_phase.Logged }) log
    (end_in (if a then (if b then store_phase.Ended store_end.LogFull else store_phase.Unlogged) else store_phase.Logged)))
looks m s log true true = (refl, refl, none_more (length m.replies.items))
looks m s log true false = (refl, refl, none_more (length m.replies.items))
looks m s log false b = (refl, refl, none_more (length m.replies.items))

-- its last step is done
ends_store : (m : Mutating) (s : Storing) (log : Roomy LogEntry) (old : ℕ) (last : LastStep)
    → Stores m last store_phase.Logged (stored m (record s { phase = store_phase.Ended (last_end last old) }) log (Some (last_end last old)))
ends_store m s log old last_step.Store = done (record m { log = log }) reply.Stored
ends_store m s log old last_step.Swap = loads (record m { log = log }) (place_in old)

stores : (m : Mutating) (s : Storing) (old : ℕ) (q : StorePhase) → end_in q ≡ None
    → Stores m s.last q (stored m (record s { phase = phase_after s m.log old q }) (log_in s m.log old q) (end_in (phase_after s m.log old q)))
stores m s old store_phase.Begun e = looks m s m.log (is_set old (bit_number s)) (is_full m.log)
stores m s old store_phase.Unlogged e = (refl, refl, none_more (length m.replies.items))
stores m s old (store_phase.Loaded first) e = (refl, refl, none_more (length m.replies.items))
stores m s old store_phase.Logged e = ends_store m s m.log old s.last
stores m s old (store_phase.Ended how) e = absurd (cc)

-- ---- by its phase

either_place : (m : Mutating) (p : MutatorPhase) (x y : Mutating) (b : Bool) → Places m p x → Places m p y → Places m p (if b then x else y)
either_place m p x y true first second = first
either_place m p x y false first second = second

-- a word that is none of those that its phase looks for ends the operation
bad : (m : Mutating) (p : MutatorPhase) → Places m p (done_with m reply.Bad)
bad m (phase.Reference base) = (refl, refl, done_one m reply.Bad)
bad m (phase.Referent place) = (refl, refl, (let e = done_one m reply.Bad in omega (arith, e)))
bad m (phase.Storing s) = (refl, refl, by (swaps_next s))
  where
    by : (b : Bool) → placed_count (done_with m reply.Bad) ≡ length m.replies.items + one_if (if b then true else nat_eq (length (m.replies.items ++ reply.Bad ∷ [])) (length m.replies.items + 1))
    by true = done_one m reply.Bad
    by false = done_count m reply.Bad ∙ one_more m.replies.items reply.Bad
bad m p = done m reply.Bad

-- one that is
right : (m : Mutating) (p : MutatorPhase) (old : ℕ) → m.phase ≡ p → MayBeIn m p → Places m p (after_in m p old)
right m phase.Ready old e may = either m (finished m ends.Asked) (started m (op_now m)) (nat_eq old 1) (refl, refl, none_more (length m.replies.items)) (begins m (op_now m))
right m phase.Finished old e may = (refl, refl, ap (placed_in m) e ∙ none_more (length m.replies.items))
right m (phase.Base base) old e may = finds_base m base (shape_told (header_of old))
right m (phase.Reference base) old e may = loads m (place_in old)
right m (phase.Referent place) old e may =
    let r : Reply = found_reply (op_now m) (Some (name_told (header_of old))) in
    (refl, refl, (let e = done_one m r in omega (arith, e)))
right m (phase.Datum base refs) old e may = done m (reply.Got old)
right m (phase.Putting base refs) old e may = done m reply.Put
right m (phase.Adding base refs) old e may = done m (reply.Added old)
right m (phase.Storing s) old e may = stores m s old s.phase may.1
right m phase.DrawsRun old e may = goes_on m (phase.RunNumber old) refl
right m (phase.RunNumber number) old e may = either_phase m (phase.Run number) phase.DrawsBlock (nat_lt number old) (goes_on m (phase.Run number) refl) (goes_on m phase.DrawsBlock refl)
right m (phase.Run number) old e may = (refl, refl, none_more (length m.replies.items))
right m phase.DrawsBlock old e may = goes_on m (phase.BlockNumber old) refl
right m (phase.BlockNumber number) old e may =
    either_phase m (phase.Block number) (phase.GivingUp stop.NoRun) (nat_lt number old) (goes_on m (phase.Block number) refl) (goes_on m (phase.GivingUp stop.NoRun) refl)
right m (phase.Block number) old e may =
    either m (in_overflow m (shape_now m) (block_span old)) (in_current m (shape_now m) (block_span old)) (is_medium (shape_now m)) (refl, refl, none_more (length m.replies.items)) (refl, refl, none_more (length m.replies.items))
right m (phase.Wiping place next) old e may =
    either_phase m (phase.Wiping place (next + 1)) (phase.Heading place) (nat_lt (next + 1) (word_count (shape_now m))) (goes_on m (phase.Wiping place (next + 1)) refl) (goes_on m (phase.Heading place) refl)
right m (phase.Heading place) old e may = done (with_register m (dest_of (op_now m)) place) (reply.New (next_name m))
right m phase.Asking old e may = done m (asked_reply (op_now m))
right m (phase.GivingUp why) old e may = (refl, refl, none_more (length m.replies.items))

-- a step of a mutator
pub step_places : (m : Mutating) (p : MutatorPhase) (old : ℕ) → m.phase ≡ p → MayBeIn m p → Places m p (next_in m p old)
step_places m p old e may = either_place m p (after_in m p old) (done_with m reply.Bad) (accepts_in m p old) (right m p old e may) (bad m p)
