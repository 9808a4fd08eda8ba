-- A mutator that tells no names makes the steps of one that does, case by case.
use Rattle.std.proofs.Common.{◌≡◌, ◌∙◌, inl, inr, ℕ, ◌+◌, Bool, true, false, refl, sym, ap, subst, Some, None, Option}
use Rattle.std.specs.Prelude.{◌&&◌, cond, nat_eq, nat_le, nat_lt, if◌then◌else◌, List, [], ◌∷◌, ◌++◌, length, map, replicate, ◌<◌, ◌≤◌, slice_index_or}
use Rattle.std.specs.List.{count_by}
use Rattle.std.proofs.lemmas.List.{length-map, map-append}
use Rattle.std.proofs.lemmas.List.Sums.{sum_by-cons}
use Rattle.lxr_layout.specs.declared.TheConstants.{REGISTERS}
use Rattle.lxr_layout.specs.Places.{first_word, place_in}
use Rattle.lxr_layout.specs.declared.Name.{Name}
use Rattle.lxr_layout.specs.declared.Place.{Place}
use Rattle.lxr_layout.specs.declared.LogEntry.{LogEntry}
use Rattle.lxr_layout.specs.declared.Shape.{Shape}
use Rattle.lxr_layout.specs.Objects.{header_of, header_word, word_count}
use Rattle.lxr_base.specs.Roomy.{Roomy}
use Rattle.lxr_graph.specs.declared.Op.{Op}
use Rattle.lxr_graph.specs.declared.Op.TheVariants as op
use Rattle.lxr_graph.specs.declared.Reply.{Reply}
use Rattle.lxr_graph.specs.declared.Reply.TheVariants as reply
use Rattle.lxr_alloc.specs.Spans.{run_span}
use Rattle.lxr_barrier.specs.declared.StoreEnd.{StoreEnd}
use Rattle.lxr_barrier.specs.declared.StoreEnd.TheVariants as store_end
use Rattle.lxr_barrier.specs.Storing.{Storing, end_of, log_after, reference_word, store_after}
use Rattle.lxr_mutator.specs.declared.phases.MutEnd.{MutEnd}
use Rattle.lxr_mutator.specs.declared.phases.MutEnd.TheVariants as ends
use Rattle.lxr_mutator.specs.declared.phases.MutatorPhase.{MutatorPhase}
use Rattle.lxr_mutator.specs.declared.phases.MutatorPhase.TheVariants as phase
use Rattle.lxr_mutator.specs.declared.phases.Stop.{Stop}
use Rattle.lxr_mutator.specs.declared.phases.Stop.TheVariants as stop
use Rattle.lxr_mutator.specs.Operating.{asked_reply, dest_of, found_reply, indexed_fields, index_of, shape_made, value_of}
use Rattle.lxr_mutator.specs.Mutating.{Mutating, is_new, next_name, nil, op_now, register}
use Rattle.lxr_mutator.specs.Naming.{blank, blank_end, looks_up, unnamed, without_names}
use Rattle.lxr_mutator.specs.Steps.{accepts_in, action_in, data_word, loading, storing, adding, after, after_in, based, done_with, end_by, ended, finished, has_room, in_block, in_current, is_header, is_medium, loaded, name_told, next_in, placed, reached, reaching, referring, run_in, shape_now, shape_told, started, stored, wiped, with_register}
use Rattle.lxr_mutator.specs.Mutators.{IsMutator, IsIn}
use Rattle.lxr_mutator.specs.Orders.{has_room_for_order, is_operation, is_ready, ordered_if, takes_order}
use Rattle.lxr_mutator.specs.Laws.{MutatorsAreSoWithoutNames, MutatorsStepWithoutNames, MutatorsTakeOrdersWithoutNames}

-- ---- what names have no part in

-- a blank reply is one to a `new` exactly where the reply is
blank_new : (r : Reply) → is_new (blank r) ≡ is_new r
blank_new (reply.Loaded None) = refl
blank_new (reply.Loaded (Some n)) = refl
blank_new (reply.Swapped None) = refl
blank_new (reply.Swapped (Some n)) = refl
blank_new r = refl

-- as many items of a kind are counted where each is replaced by one that is of the kind exactly where it is
count_kept : {X : Type 0} (p : X → Bool) (f : X → X) → ((x : X) → p (f x) ≡ p x) → (xs : List X) → count_by p (map f xs) ≡ count_by p xs
count_kept p f same [] = refl
count_kept p f same (x ∷ xs) =
    sum_by-cons (λ y. cond (p y) 1 0) (f x) (map f xs)
    ∙ ap (λ b. cond b 1 0 + count_by p (map f xs)) (same x)
    ∙ ap (λ n. cond (p x) 1 0 + n) (count_kept p f same xs)
    ∙ sym (sum_by-cons (λ y. cond (p y) 1 0) x xs)

op_same : (m : Mutating) → op_now m ≡ op_now (without_names m)
op_same m = ap (λ n. slice_index_or m.operations n op.End) (sym (length-map m.replies.items blank))

name_same : (m : Mutating) → next_name (without_names m) ≡ next_name m
name_same m = ap (λ n. record { thread = m.thread; serial = m.before + n + 1 }) (count_kept is_new blank blank_new m.replies.items)

-- ---- what a step leads to

-- Beside one that tells names, of which this is what came of a step, this came: the same without names, and where a name is to be looked up what comes of that.
record Follows (to without : Mutating) : Type 0 where
  same : looks_up to.phase ≡ false → without ≡ without_names to
  spared : (header : ℕ) → looks_up to.phase ≡ true → is_header header ≡ true → without ≡ without_names (after to header)

-- where no name is to be looked up
follows : {to without : Mutating} → looks_up to.phase ≡ false → without ≡ without_names to → Follows to without
follows {to} {without} looks same = record { same = λ _. same; spared = λ header is told. absurd (cc) }

-- no name is looked up once an operation is done
done_looks : (m : Mutating) (b : Bool) → looks_up (if b then phase.Finished else phase.Ready) ≡ false
done_looks m true = refl
done_looks m false = refl

-- an operation is done with a reply, or with that without its name
done : (m : Mutating) (r : Reply) → done_with (without_names m) (blank r) ≡ without_names (done_with m r)
done m r = by_turn (nat_le m.every (m.since + 1)) where
  items_same : map blank m.replies.items ++ blank r ∷ [] ≡ map blank (m.replies.items ++ r ∷ [])
  items_same = sym (map-append blank m.replies.items (r ∷ []))

  by_turn : (b : Bool) → record m { names = false; replies = record m.replies { items = map blank m.replies.items ++ blank r ∷ [] }; since = m.since + 1; phase = if b then phase.Finished else phase.Ready; end = Some (if b then ends.Turns else ends.OpDone (blank r)) }
      ≡ record m { names = false; replies = record m.replies { items = map blank (m.replies.items ++ r ∷ []) }; since = m.since + 1; phase = if b then phase.Finished else phase.Ready; end = blank_end (Some (if b then ends.Turns else ends.OpDone r)) }
  by_turn true = ap (λ items. record m { names = false; replies = record m.replies { items = items }; since = m.since + 1; phase = phase.Finished; end = Some ends.Turns }) items_same
  by_turn false = ap (λ items. record m { names = false; replies = record m.replies { items = items }; since = m.since + 1; phase = phase.Ready; end = Some (ends.OpDone (blank r)) }) items_same

done_so : (m : Mutating) (r : Reply) → Follows (done_with m r) (done_with (without_names m) (blank r))
done_so m r = follows (done_looks m (nat_le m.every (m.since + 1))) (done m r)

-- a choice between two
chosen : (b : Bool) (to to' without without' : Mutating) → Follows to without → Follows to' without' → Follows (if b then to else to') (if b then without else without')
chosen true to to' without without' first second = first
chosen false to to' without without' first second = second

-- ---- beginnings

draws_so : (m : Mutating) (b : Bool) → Follows (record m { phase = if b then phase.DrawsBlock else phase.DrawsRun }) (record (without_names m) { phase = if b then phase.DrawsBlock else phase.DrawsRun })
draws_so m true = follows refl refl
draws_so m false = follows refl refl

placed_so : (m : Mutating) (shape : Shape) → Follows (placed m shape) (placed (without_names m) shape)
placed_so m shape = chosen (has_room m.spans.current shape) _ _ _ _ (follows refl refl)
    (chosen (is_medium shape && has_room m.spans.overflow shape) _ _ _ _ (follows refl refl) (draws_so m (is_medium shape)))

in_block_so : (m : Mutating) (shape : Shape) (block : ℕ) → Follows (in_block m shape block) (in_block (without_names m) shape block)
in_block_so m shape block = chosen (is_medium shape) _ _ _ _ (follows refl refl) (follows refl refl)

based_so : (m : Mutating) (base : Place) → Follows (based m base) (based (without_names m) base)
based_so m base = chosen (nat_eq base.0 0) _ _ _ _ (done_so m reply.Bad) (follows refl refl)

ended_so : (m : Mutating) → Follows (ended m) (ended (without_names m))
ended_so m = follows refl (ap (λ items. record m { names = false; registers = replicate REGISTERS nil; replies = record m.replies { items = items }; phase = phase.Finished; end = Some ends.Ended })
    (sym (map-append blank m.replies.items (reply.Ended ∷ []))))

started_so : (m : Mutating) (o : Op) → Follows (started m o) (started (without_names m) o)
started_so m (op.New dest shape) = placed_so m shape
started_so m (op.Load dest base index) = based_so m (register m base)
started_so m (op.Store base index source) = based_so m (register m base)
started_so m (op.Put base index value) = based_so m (register m base)
started_so m (op.Get base index) = based_so m (register m base)
started_so m (op.Swap dest base index source) = based_so m (register m base)
started_so m (op.Add base index value) = based_so m (register m base)
started_so m (op.Move dest source) = done_so (with_register m dest (register m source)) reply.Moved
started_so m (op.Nil dest) = done_so (with_register m dest nil) reply.Cleared
started_so m (op.Same left right) = done_so m (reply.Same (nat_eq (register m left).0 (register m right).0))
started_so m op.Pause = follows refl refl
started_so m op.Collect = follows refl refl
started_so m op.End = ended_so m

-- ---- fields

reaching_same : (m : Mutating) (base : Place) (shape : Shape) (o : Op) → reaching (without_names m) base shape o ≡ reaching m base shape o
reaching_same m base shape (op.Load dest b index) = refl
reaching_same m base shape o = refl

reaching_looks : (m : Mutating) (base : Place) (shape : Shape) (o : Op) → looks_up (reaching m base shape o) ≡ false
reaching_looks m base shape (op.Load dest b index) = refl
reaching_looks m base shape o = refl

-- the operation goes on at its field, if there is one
abbrev reached_with : Mutating → Place → Shape → Op → Mutating
reached_with m base shape o = if nat_lt (index_of o) (indexed_fields o shape) then record m { phase = reaching m base shape o } else done_with m reply.Range

reached_so : (m : Mutating) (base : Place) (shape : Shape) → Follows (reached m base shape) (reached (without_names m) base shape)
reached_so m base shape = subst (λ o. Follows (reached m base shape) (reached_with (without_names m) base shape o)) (op_same m)
    (chosen (nat_lt (index_of (op_now m)) (indexed_fields (op_now m) shape)) _ _ _ _
    (follows (reaching_looks m base shape (op_now m)) (ap (λ p. record (without_names m) { phase = p }) (reaching_same m base shape (op_now m))))
    (done_so m reply.Range))

found_blank : (o : Op) (n : Name) → blank (found_reply o (Some n)) ≡ found_reply o (Some unnamed)
found_blank (op.Swap dest b index source) n = refl
found_blank o n = refl

none_blank : (o : Op) → blank (found_reply o None) ≡ found_reply o None
none_blank (op.Swap dest b index source) = refl
none_blank o = refl

asked_blank : (o : Op) → blank (asked_reply o) ≡ asked_reply o
asked_blank op.Collect = refl
asked_blank o = refl

-- who tells names looks the name up that who tells none leaves out
named_by : (m : Mutating) (o : Op) (place : Place) (header : ℕ) (b : Bool) → b ≡ true
    → done_with (without_names m) (found_reply o (Some unnamed))
    ≡ without_names (if b then done_with (record m { phase = phase.Referent place }) (found_reply o (Some (name_told (header_of header)))) else done_with (record m { phase = phase.Referent place }) reply.Bad)
named_by m o place header true is = ap (done_with (without_names m)) (sym (found_blank o (name_told (header_of header)))) ∙ done m (found_reply o (Some (name_told (header_of header))))
named_by m o place header false is = absurd (cc)

referring_so : (m : Mutating) (place : Place) → Follows (referring m true place) (done_with (without_names m) (found_reply (op_now m) (Some unnamed)))
referring_so m place = record { same = λ looks. absurd (cc); spared = λ header looks is. named_by m (op_now m) place header (is_header header) is }

-- a place was found in the field of an operation
abbrev loaded_with : Mutating → Op → Bool → Place → Mutating
loaded_with m o names place =
    let m' = with_register m (dest_of o) place in
    if nat_eq place.0 0 then done_with m' (found_reply o None) else if names then record m' { phase = phase.Referent place } else done_with m' (found_reply o (Some unnamed))

loaded_so : (m : Mutating) → m.names ≡ true → (place : Place) → Follows (loaded m place) (loaded (without_names m) place)
loaded_so m names place =
    subst (λ o. Follows (loaded m place) (let m' = with_register (without_names m) (dest_of o) place in if nat_eq place.0 0 then done_with m' (found_reply o None) else done_with m' (found_reply o (Some unnamed)))) (op_same m)
    (let m' = with_register m (dest_of (op_now m)) place in
    chosen (nat_eq place.0 0) _ _ _ _
    (subst (λ r. Follows (done_with m' (found_reply (op_now m) None)) (done_with (without_names m') r)) (none_blank (op_now m)) (done_so m' (found_reply (op_now m) None)))
    (subst (λ b. Follows (referring m' b place) (done_with (without_names m') (found_reply (op_now m) (Some unnamed)))) (sym names) (referring_so m' place)))

stored_so : (m : Mutating) → m.names ≡ true → (store : Storing) (log : Roomy LogEntry) (end : Option StoreEnd) → Follows (stored m store log end) (stored (without_names m) store log end)
stored_so m names store log None = follows refl refl
stored_so m names store log (Some store_end.Stored) = done_so (record m { log = log }) reply.Stored
stored_so m names store log (Some (store_end.Swapped old)) = loaded_so (record m { log = log }) names old
stored_so m names store log (Some store_end.LogFull) = follows refl refl

-- ---- new objects and ends

wiped_by : (m : Mutating) (place : Place) (next : ℕ) (b : Bool)
    → Follows (record m { phase = if b then phase.Wiping place (next + 1) else phase.Heading place }) (record (without_names m) { phase = if b then phase.Wiping place (next + 1) else phase.Heading place })
wiped_by m place next true = follows refl refl
wiped_by m place next false = follows refl refl

run_by : (m : Mutating) (number : ℕ) (b : Bool)
    → Follows (record m { phase = if b then phase.Run number else phase.DrawsBlock }) (record (without_names m) { phase = if b then phase.Run number else phase.DrawsBlock })
run_by m number true = follows refl refl
run_by m number false = follows refl refl

block_by : (m : Mutating) (number : ℕ) (b : Bool)
    → Follows (record m { phase = if b then phase.Block number else phase.GivingUp stop.NoRun }) (record (without_names m) { phase = if b then phase.Block number else phase.GivingUp stop.NoRun })
block_by m number true = follows refl refl
block_by m number false = follows refl refl

gave_up_so : (m : Mutating) (why : Stop) → Follows (finished m (end_by why)) (finished (without_names m) (end_by why))
gave_up_so m stop.NoRun = follows refl refl
gave_up_so m stop.LogFull = follows refl refl

-- ---- each phase

after_so : (m : Mutating) → m.names ≡ true → looks_up m.phase ≡ false → (p : MutatorPhase) → looks_up p ≡ false → (old : ℕ) → Follows (after_in m p old) (after_in (without_names m) p old)
after_so m names here phase.Ready looks old = chosen (nat_eq old 1) _ _ _ _ (follows refl refl)
    (subst (λ o. Follows (started m (op_now m)) (started (without_names m) o)) (op_same m) (started_so m (op_now m)))
after_so m names here phase.Finished looks old = follows here refl
after_so m names here (phase.Base base) looks old = reached_so m base (shape_told (header_of old))
after_so m names here (phase.Reference base) looks old = loaded_so m names (place_in old)
after_so m names here (phase.Referent place) looks old = absurd (cc)
after_so m names here (phase.Datum base refs) looks old = done_so m (reply.Got old)
after_so m names here (phase.Putting base refs) looks old = done_so m reply.Put
after_so m names here (phase.Adding base refs) looks old = done_so m (reply.Added old)
after_so m names here (phase.Storing store) looks old = stored_so m names (store_after store m.log old) (log_after store m.log old) (end_of (store_after store m.log old))
after_so m names here phase.DrawsRun looks old = follows refl refl
after_so m names here (phase.RunNumber number) looks old = run_by m number (nat_lt number old)
after_so m names here (phase.Run number) looks old =
    subst (λ o. Follows (in_current m (shape_now m) (run_span (run_in old))) (in_current (without_names m) (shape_made o) (run_span (run_in old)))) (op_same m) (follows refl refl)
after_so m names here phase.DrawsBlock looks old = follows refl refl
after_so m names here (phase.BlockNumber number) looks old = block_by m number (nat_lt number old)
after_so m names here (phase.Block number) looks old =
    subst (λ o. Follows (in_block m (shape_now m) old) (in_block (without_names m) (shape_made o) old)) (op_same m) (in_block_so m (shape_now m) old)
after_so m names here (phase.Wiping place next) looks old =
    subst (λ o. Follows (wiped m place next) (record (without_names m) { phase = if nat_lt (next + 1) (word_count (shape_made o)) then phase.Wiping place (next + 1) else phase.Heading place })) (op_same m)
    (wiped_by m place next (nat_lt (next + 1) (word_count (shape_now m))))
after_so m names here (phase.Heading place) looks old =
    subst (λ o. Follows (done_with (with_register m (dest_of (op_now m)) place) (reply.New (next_name m))) (done_with (with_register (without_names m) (dest_of o) place) (reply.New (next_name (without_names m))))) (op_same m)
    (subst (λ n. Follows (done_with (with_register m (dest_of (op_now m)) place) (reply.New (next_name m))) (done_with (with_register (without_names m) (dest_of (op_now m)) place) (reply.New n))) (sym (name_same m))
    (done_so (with_register m (dest_of (op_now m)) place) (reply.New (next_name m))))
after_so m names here phase.Asking looks old =
    subst (λ o. Follows (done_with m (asked_reply (op_now m))) (done_with (without_names m) (asked_reply o))) (op_same m)
    (subst (λ r. Follows (done_with m (asked_reply (op_now m))) (done_with (without_names m) r)) (asked_blank (op_now m)) (done_so m (asked_reply (op_now m))))
after_so m names here (phase.GivingUp why) looks old = gave_up_so m why

accepts_same : (m : Mutating) (p : MutatorPhase) (old : ℕ) → accepts_in (without_names m) p old ≡ accepts_in m p old
accepts_same m phase.Ready old = refl
accepts_same m p old = refl

next_so : (m : Mutating) → m.names ≡ true → looks_up m.phase ≡ false → (p : MutatorPhase) → looks_up p ≡ false → (old : ℕ) → Follows (next_in m p old) (next_in (without_names m) p old)
next_so m names here p looks old = subst (λ b. Follows (next_in m p old) (if b then after_in (without_names m) p old else done_with (without_names m) reply.Bad)) (sym (accepts_same m p old))
    (chosen (accepts_in m p old) _ _ _ _ (after_so m names here p looks old) (done_so m reply.Bad))

-- ---- what is about to be done

action_same : (m : Mutating) (p : MutatorPhase) → action_in (without_names m) p ≡ action_in m p
action_same m (phase.Reference base) = ap (λ o. loading (reference_word base (index_of o))) (sym (op_same m))
action_same m (phase.Datum base refs) = ap (λ o. loading (data_word base refs (index_of o))) (sym (op_same m))
action_same m (phase.Putting base refs) = ap (λ o. storing (data_word base refs (index_of o)) (value_of o)) (sym (op_same m))
action_same m (phase.Adding base refs) = ap (λ o. adding (data_word base refs (index_of o)) (value_of o)) (sym (op_same m))
action_same m (phase.Heading place) =
    ap (λ n. storing (first_word place.0) (header_word n (shape_now (without_names m)))) (name_same m)
    ∙ ap (λ o. storing (first_word place.0) (header_word (next_name m) (shape_made o))) (sym (op_same m))
action_same m p = refl

-- ---- the laws

pub steps_without_names : MutatorsStepWithoutNames
steps_without_names m old names looks = (let so = next_so m names looks m.phase looks old in record {
  action = action_same m m.phase;
  same = so.same;
  spared = so.spared;
})

-- an order that is taken or not, without names
abbrev stripped : Mutating × Bool → Mutating × Bool
stripped order = (without_names order.0, order.1)

order_by : (m : Mutating) (o : Op) (b : Bool) → ordered_if (without_names m) o b ≡ stripped (ordered_if m o b)
order_by m o true = refl
order_by m o false = refl

pub orders_without_names : MutatorsTakeOrdersWithoutNames
orders_without_names m o =
    ap (λ n. ordered_if (without_names m) o (is_ready m.phase && (nat_le (length m.operations) n && (is_operation m.width o && has_room_for_order m)))) (length-map m.replies.items blank)
    ∙ order_by m o (takes_order m o)

-- an end without names is no other
end_back : (e : Option MutEnd) → (blank_end e ≡ Some ends.Ended → e ≡ Some ends.Ended) × (blank_end e ≡ Some ends.NoRun → e ≡ Some ends.NoRun)
end_back (Some (ends.OpDone r)) = (λ is. absurd (cc), λ is. absurd (cc))
end_back None = (λ is. is, λ is. is)
end_back (Some e) = (λ is. is, λ is. is)

count_same : (m : Mutating) → length m.replies.items ≡ length (map blank m.replies.items)
count_same m = sym (length-map m.replies.items blank)

so_without : (m : Mutating) → IsMutator m → IsMutator (without_names m)
so_without m is = record {
  setup = record { thread = is.setup.thread; width = is.setup.width; operations = is.setup.operations; few = is.setup.few; room = is.setup.room; most = is.setup.most; indexes = is.setup.indexes; every = is.setup.every; before = is.setup.before };
  registers = is.registers;
  spans = is.spans;
  few_replies = subst (λ n. n ≤ length m.operations + 1) (count_same m) is.few_replies;
  replies = elim is.replies [
    | inl through ↦ inl (through.0, ap blank_end through.1)
    | inr few ↦ inr (subst (λ n. n ≤ length m.operations) (count_same m) few)
  ];
  busy = λ rests. subst (λ n. n < length m.operations) (count_same m) (is.busy rests);
  waits = λ end. subst (λ n. n < length m.operations) (count_same m) (is.waits ((end_back m.end).1 end));
  since = is.since;
  phase = subst (λ o. IsIn m.regions m.log m.spans (shape_made o) m.phase) (op_same m) is.phase;
}

so_with : (m : Mutating) → IsMutator (without_names m) → IsMutator m
so_with m is = record {
  setup = record { thread = is.setup.thread; width = is.setup.width; operations = is.setup.operations; few = is.setup.few; room = is.setup.room; most = is.setup.most; indexes = is.setup.indexes; every = is.setup.every; before = is.setup.before };
  registers = is.registers;
  spans = is.spans;
  few_replies = subst (λ n. n ≤ length m.operations + 1) (sym (count_same m)) is.few_replies;
  replies = elim is.replies [
    | inl through ↦ inl (through.0, (end_back m.end).0 through.1)
    | inr few ↦ inr (subst (λ n. n ≤ length m.operations) (sym (count_same m)) few)
  ];
  busy = λ rests. subst (λ n. n < length m.operations) (sym (count_same m)) (is.busy rests);
  waits = λ end. subst (λ n. n < length m.operations) (sym (count_same m)) (is.waits (ap blank_end end));
  since = is.since;
  phase = subst (λ o. IsIn m.regions m.log m.spans (shape_made o) m.phase) (sym (op_same m)) is.phase;
}

pub so_without_names : MutatorsAreSoWithoutNames
so_without_names m = (so_without m, so_with m)
