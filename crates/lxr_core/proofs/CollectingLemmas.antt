-- What mutators give up, one after another, and what a space has of it.
use Rattle.std.proofs.Common.{◌≡◌, ℕ, zero, suc, ◌+◌, ◌-◌, ◌*◌, ◌/◌, ◌<◌, ◌≤◌, refl, sym, ap, subst, ◌∙◌, inl, inr, arith, List, [], ◌∷◌, ◌++◌, append_assoc, length, mul-le-mul_right, take, drop, length-append}
use Rattle.std.specs.Prelude.{⊤, if◌then◌else◌, Some, slice_get, slice_index_or, slice_set}
use Rattle.std.proofs.lemmas.List.Sums.{count_by-le-length}
use Rattle.std.proofs.lemmas.List.{append-nil, drop_all, flat_map_more, length-drop, length-set, take_all}
use Rattle.std.proofs.lemmas.Slice.{drop-append-drop}
use Rattle.std.proofs.lemmas.Option.{get_or_from_slice_get, slice_get-get_or, slice_get_within}
use Rattle.std.proofs.Math.Seq.{take-append_seam, take-suc}
use Rattle.std.proofs.lemmas.Bool.Decides.{eqb_tells, leb_tells}
use Rattle.lxr_layout.specs.declared.TheConstants.{REGISTERS}
use Rattle.lxr_layout.specs.declared.runs.LogEntry.{LogEntry}
use Rattle.lxr_layout.specs.declared.Place.{Place}
use Rattle.lxr_base.specs.Roomy.{Roomy, emptied, pushed}
use Rattle.lxr_image.specs.declared.space.Space.{Space}
use Rattle.lxr_image.specs.Registers.{with_row}
use Rattle.lxr_core.specs.declared.actors.AnyActor.{AnyActor}
use Rattle.lxr_core.specs.declared.actors.AnyActor.TheVariants as any
use Rattle.lxr_core.specs.Actors.{AreInOrder, mutators_in}
use Rattle.lxr_core.specs.Collecting.{ActorMayGive, HaveGiven, MayAllGive, MayGive, MayTakeOf, actor_given_up, all_entries, all_registers, holding, loads_of, news_of, stores_of, taken_of, taken_of_actor}
use Rattle.lxr_core.proofs.OrderLemmas.{first_many, mutator_at, mutator_of_first, mutators_of_both}
use Rattle.lxr_alloc.specs.declared.TheConstants.{MOST_OPERATIONS}
use Rattle.lxr_mutator.specs.Dialogues.{most_operations}
use Rattle.lxr_mutator.proofs.MostLemmas.{few_operations}
use Rattle.lxr_mutator.specs.Mutating.{Mutating, is_loaded, is_new, is_stored, tally_of}
use Rattle.lxr_actor.proofs.Runs.{slice_get-set_other, slice_get-set_same}
use Rattle.lxr_layout.specs.declared.limits.Limits.{Limits}

-- ---- lists

-- a list with other items, in the same room
abbrev pub with_items : {X : Type 0} → Roomy X → List X → Roomy X
with_items l items = record l { items = items }

-- one item more of a list
pub take_one_more : {X : Type 0} (ys : List X) (n : ℕ) (x : X) → slice_get ys n ≡ Some x → take (n + 1) ys ≡ take n ys ++ x ∷ []
take_one_more ys n x e =
    ap (λ z. take z ys) (let k : n + 1 ≡ suc n = omega arith in k) ∙ take-suc ys n x (slice_get_within ys n x e) ∙ ap (λ z. take n ys ++ z ∷ []) (get_or_from_slice_get ys n x x e)

-- the next item is pushed after a beginning of a list
pub push_next : {X : Type 0} (l now : Roomy X) (ys : List X) (n : ℕ) (x : X) → now ≡ with_items l (l.items ++ take n ys) → slice_get ys n ≡ Some x → pushed now x ≡ with_items l (l.items ++ take (n + 1) ys)
push_next l now ys n x is e =
    ap (λ z. pushed z x) is ∙ ap (with_items l) (append_assoc l.items (take n ys) (x ∷ []) ∙ ap (λ z. l.items ++ z) (sym (take_one_more ys n x e)))

-- ---- what mutators give

-- each of these mutators may give up what it has
abbrev pub EachGives : Limits → List Mutating → Type 0
EachGives l mutators = (i : ℕ) (m : Mutating) → slice_get mutators i ≡ Some m → MayGive l m

-- 256 registers of each
registers_many : (l : Limits) (mutators : List Mutating) → EachGives l mutators → length (all_registers mutators) ≡ REGISTERS * length mutators
registers_many l [] each = refl
registers_many l (m ∷ mutators) each =
    let here = (each 0 m refl).as_many in
    let rest = registers_many l mutators (λ i x e. each (suc i) x e) in
    omega (arith, length-append m.registers (all_registers mutators), here, rest)

-- no more entries of each than a log has room for
entries_few : (l : Limits) (mutators : List Mutating) → EachGives l mutators → length (all_entries mutators) ≤ length mutators * l.log
entries_few l [] each = omega arith
entries_few l (m ∷ mutators) each =
    let here = (each 0 m refl).log in
    let rest = entries_few l mutators (λ i x e. each (suc i) x e) in
    let more : suc (length mutators) * l.log ≡ length mutators * l.log + l.log = one_times (length mutators) l.log in
    omega (arith, length-append m.log.items (all_entries mutators), here, rest, more)
  where
    one_times : (a b : ℕ) → suc a * b ≡ a * b + b
    one_times a b = grind arith

-- how many replies mutators have
abbrev replied : List Mutating → ℕ
replied [] = 0
replied (m ∷ mutators) = length m.replies.items + replied mutators

-- no more replies of a kind than there are
news_few : (mutators : List Mutating) → news_of mutators ≤ replied mutators
news_few [] = omega arith
news_few (m ∷ mutators) = let few = count_by-le-length is_new m.replies.items in let rest = news_few mutators in omega (arith, few, rest)

-- so it is with loads
loads_few : (mutators : List Mutating) → loads_of mutators ≤ replied mutators
loads_few [] = omega arith
loads_few (m ∷ mutators) = let few = count_by-le-length is_loaded m.replies.items in let rest = loads_few mutators in omega (arith, few, rest)

-- and with stores
stores_few : (mutators : List Mutating) → stores_of mutators ≤ replied mutators
stores_few [] = omega arith
stores_few (m ∷ mutators) = let few = count_by-le-length is_stored m.replies.items in let rest = stores_few mutators in omega (arith, few, rest)

-- the most replies of the first so many threads: each has one for each of its operations, one for its end, and one to spare
abbrev most_replied : ℕ → ℕ
most_replied zero = 0
most_replied (suc n) = most_replied n + (most_operations (n + 1) + 2)

most_by : (n : ℕ) → most_replied n ≤ 67108866 * (n - (n - 16)) + 4194306 * (n - 16)
most_by zero = omega arith
most_by (suc n) =
    let rest = most_by n in
    elim (leb_tells (n + 1) 16) [
      | inl c ↦ let low = c.1 in let few = few_operations (n + 1) in omega (arith, rest, low, few)
      | inr c ↦ let high = c.1 in let few : most_operations (n + 1) ≡ 4194304 = ap (λ is. if is then MOST_OPERATIONS else MOST_OPERATIONS / 16) c.0 in omega (arith, rest, high, few)
    ]

-- mutators of threads from one on have no more than these threads may have
replied_few : (l : Limits) (from : ℕ) (mutators : List Mutating) → EachGives l mutators → ((i : ℕ) (m : Mutating) → slice_get mutators i ≡ Some m → m.thread ≡ from + i + 1)
    → most_replied from + replied mutators ≤ most_replied (from + length mutators)
replied_few l from [] each threads = ap_le most_replied from (from + 0) (omega arith)
  where
    ap_le : (f : ℕ → ℕ) (a b : ℕ) → a ≡ b → f a + 0 ≤ f b
    ap_le f a b e = let same = ap f e in omega (arith, same)
replied_few l from (m ∷ mutators) each threads =
    let thread : m.thread ≡ from + 1 = threads 0 m refl ∙ (let e : from + 0 + 1 ≡ from + 1 = omega arith in e) in
    let here = subst (λ t. length m.replies.items ≤ most_operations t + 2) thread (each 0 m refl).replies in
    let rest = replied_few l (from + 1) mutators (λ i x e. each (suc i) x e) (λ i x e. threads (suc i) x e ∙ (let k : from + suc i + 1 ≡ from + 1 + i + 1 = omega arith in k)) in
    let last : most_replied (from + 1 + length mutators) ≡ most_replied (from + suc (length mutators)) = ap most_replied (let k : from + 1 + length mutators ≡ from + suc (length mutators) = omega arith in k) in
    let next : most_replied (from + 1) ≡ most_replied from + (most_operations (from + 1) + 2) = ap most_replied (let k : from + 1 ≡ suc from = omega arith in k) in
    omega (arith, here, rest, last, next)

-- the sums with one mutator more
news_more : (mutators : List Mutating) (m : Mutating) → news_of (mutators ++ m ∷ []) ≡ news_of mutators + (tally_of m.replies.items).news
news_more [] m = omega arith
news_more (x ∷ mutators) m = let rest = news_more mutators m in omega (arith, rest)

-- so it is with loads
loads_more : (mutators : List Mutating) (m : Mutating) → loads_of (mutators ++ m ∷ []) ≡ loads_of mutators + (tally_of m.replies.items).loads
loads_more [] m = omega arith
loads_more (x ∷ mutators) m = let rest = loads_more mutators m in omega (arith, rest)

-- and with stores
stores_more : (mutators : List Mutating) (m : Mutating) → stores_of (mutators ++ m ∷ []) ≡ stores_of mutators + (tally_of m.replies.items).stores
stores_more [] m = omega arith
stores_more (x ∷ mutators) m = let rest = stores_more mutators m in omega (arith, rest)

-- a space with the registers, the entries and the sums of some mutators
abbrev pub holding_these : Space → List Place → List LogEntry → ℕ → ℕ → ℕ → Space
holding_these s registers entries news loads stores = record s {
  registers = record s.registers { items = registers };
  logged = record s.logged { items = entries };
  tally = record s.tally { news = news; loads = loads; stores = stores };
}

-- a space with these entries in which no operation is counted
abbrev pub cleared_of : Space → Roomy LogEntry → Space
cleared_of s logged = record s { logged = logged; tally = record s.tally { news = 0; loads = 0; stores = 0 } }

-- a row that is put behind so many others stands in place of the one that was there
row_behind : (rows row old : List Place) (n : ℕ) → length rows ≡ REGISTERS * n → with_row (rows ++ drop (REGISTERS * n) old) n row ≡ rows ++ row ++ drop (REGISTERS * (n + 1)) old
row_behind rows row old n many =
    let first : take (REGISTERS * n) (rows ++ drop (REGISTERS * n) old) ≡ rows = ap (λ k. take k (rows ++ drop (REGISTERS * n) old)) (sym many) ∙ take-append_seam rows (drop (REGISTERS * n) old) in
    let last : drop (REGISTERS * n + REGISTERS) (rows ++ drop (REGISTERS * n) old) ≡ drop (REGISTERS * n + REGISTERS) old = drop-append-drop (REGISTERS * n) old rows (REGISTERS * n + REGISTERS) (omega arith) many in
    ap (λ z. z ++ row ++ drop (REGISTERS * n + REGISTERS) (rows ++ drop (REGISTERS * n) old)) first
    ∙ ap (λ z. rows ++ row ++ z) last
    ∙ ap (λ k. rows ++ row ++ drop k old) (let k : REGISTERS * n + REGISTERS ≡ REGISTERS * (n + 1) = omega arith in k)

-- the registers with those of the mutators of the first threads, and then with those of the next thread's
registers_more : (l : Limits) (old : List Place) (mutators : List Mutating) (m : Mutating) → EachGives l mutators → m.thread ≡ length mutators + 1
    → with_row (all_registers mutators ++ drop (REGISTERS * length mutators) old) (m.thread - 1) m.registers
    ≡ all_registers (mutators ++ m ∷ []) ++ drop (REGISTERS * length (mutators ++ m ∷ [])) old
registers_more l old mutators m each thread =
    let number : m.thread - 1 ≡ length mutators = omega (arith, thread) in
    let more : length mutators + 1 ≡ length (mutators ++ m ∷ []) = sym (length-append mutators (m ∷ [])) in
    ap (λ n. with_row (all_registers mutators ++ drop (REGISTERS * length mutators) old) n m.registers) number
    ∙ row_behind (all_registers mutators) m.registers old (length mutators) (registers_many l mutators each)
    ∙ ap (λ z. z ++ drop (REGISTERS * (length mutators + 1)) old) (flat_map_more (λ (x : Mutating). x.registers) [] mutators m)
    ∙ ap (λ n. all_registers (mutators ++ m ∷ []) ++ drop (REGISTERS * n) old) more

-- a space that takes what one mutator more has, of the next thread
takes_mutator : (start : Space) (mutators : List Mutating) (m : Mutating) → EachGives start.limits mutators → m.thread ≡ length mutators + 1 → taken_of (holding start mutators) m ≡ holding start (mutators ++ m ∷ [])
takes_mutator start mutators m each thread =
    let now : List Mutating = mutators ++ m ∷ [] in
    let news : ℕ = (tally_of m.replies.items).news in
    let loads : ℕ = (tally_of m.replies.items).loads in
    let stores : ℕ = (tally_of m.replies.items).stores in
    let registers = registers_more start.limits start.registers.items mutators m each thread in
    let entries : all_entries mutators ++ m.log.items ≡ all_entries now = flat_map_more (λ (x : Mutating). x.log.items) [] mutators m in
    ap (λ z. holding_these start z (all_entries mutators ++ m.log.items) (news_of mutators + news) (loads_of mutators + loads) (stores_of mutators + stores)) registers
    ∙ ap (λ z. holding_these start (all_registers now ++ drop (REGISTERS * length now) start.registers.items) z (news_of mutators + news) (loads_of mutators + loads) (stores_of mutators + stores)) entries
    ∙ ap (λ z. holding_these start (all_registers now ++ drop (REGISTERS * length now) start.registers.items) (all_entries now) z (loads_of mutators + loads) (stores_of mutators + stores)) (sym (news_more mutators m))
    ∙ ap (λ z. holding_these start (all_registers now ++ drop (REGISTERS * length now) start.registers.items) (all_entries now) (news_of now) z (stores_of mutators + stores)) (sym (loads_more mutators m))
    ∙ ap (λ z. holding_these start (all_registers now ++ drop (REGISTERS * length now) start.registers.items) (all_entries now) (news_of now) (loads_of now) z) (sym (stores_more mutators m))

-- the next of these actors, where it is a mutator, is that of the next thread
abbrev IsOfNext : List AnyActor → AnyActor → Type 0
IsOfNext actors (any.Mutator m) = m.thread ≡ length (mutators_in actors) + 1
IsOfNext actors (any.Decrementer d) = ⊤
IsOfNext actors (any.Tracer d) = ⊤

-- and what one actor more has: of a helper it takes nothing
takes_more : (start : Space) (actors : List AnyActor) (a : AnyActor) → EachGives start.limits (mutators_in actors) → IsOfNext actors a
    → taken_of_actor (holding start (mutators_in actors)) a ≡ holding start (mutators_in (actors ++ a ∷ []))
takes_more start actors (any.Mutator m) each next = takes_mutator start (mutators_in actors) m each next ∙ ap (holding start) (sym (mutators_of_both actors (any.Mutator m ∷ [])))
takes_more start actors (any.Decrementer d) each next =
    ap (holding start) (sym (mutators_of_both actors (any.Decrementer d ∷ []) ∙ append-nil (mutators_in actors)))
takes_more start actors (any.Tracer d) each next =
    ap (holding start) (sym (mutators_of_both actors (any.Tracer d ∷ []) ∙ append-nil (mutators_in actors)))

-- once it has the registers of all threads, nothing is left of those that it had
pub holds_all : (s : Space) (mutators : List Mutating) → length s.registers.items ≡ REGISTERS * length mutators → (holding s mutators).registers.items ≡ all_registers mutators
holds_all s mutators many =
    ap (λ z. all_registers mutators ++ z) (drop_all (REGISTERS * length mutators) s.registers.items (omega (arith, many))) ∙ append-nil (all_registers mutators)

-- ---- one actor after another

-- a space that has nothing of mutators yet
pub none_held : (start : Space) (logged : Roomy LogEntry) → logged ≡ emptied start.logged → cleared_of start logged ≡ holding start []
none_held start logged is = ap (cleared_of start) is

-- at first none has given up what it has
pub none_given : (start : Space) (before : List AnyActor) (now : Space) → now ≡ holding start (mutators_in (take 0 before)) → HaveGiven start before now before 0
none_given start before now is = record { as_many = refl; given = λ i a h less. absurd (omega (arith, less)); others = λ i h. refl; space = is }

-- the next actor is what it was
next_was : (start : Space) (before : List AnyActor) (now : Space) (after : List AnyActor) (n : ℕ) (d : AnyActor) → HaveGiven start before now after n → n < length before → slice_get before n ≡ Some (slice_index_or after n d)
next_was start before now after n d is less =
    let many = is.as_many in
    let inside : n < length after = omega (arith, many, less) in
    sym (is.others n (omega arith)) ∙ slice_get-get_or after n d inside

-- so it may give up what it has
gives_at : (l : Limits) (actors : List AnyActor) (n : ℕ) (a : AnyActor) → AreInOrder actors → EachGives l (mutators_in actors) → slice_get actors n ≡ Some a → ActorMayGive l a
gives_at l actors n (any.Mutator m) order each there = each n m (mutator_at actors n m order there)
gives_at l actors n (any.Decrementer d) order each there = tt
gives_at l actors n (any.Tracer d) order each there = tt

pub next_gives : (start : Space) (before : List AnyActor) (now : Space) (after : List AnyActor) (n : ℕ) (d : AnyActor) → HaveGiven start before now after n → n < length before → MayAllGive start before
    → ActorMayGive now.limits (slice_index_or after n d)
next_gives start before now after n d is less may =
    subst (λ (l : Limits). ActorMayGive l (slice_index_or after n d)) (sym (ap (λ (z : Space). z.limits) is.space))
    (gives_at start.limits before n (slice_index_or after n d) may.order may.each (next_was start before now after n d is less))

-- those before it may
first_give : (start : Space) (before : List AnyActor) (n : ℕ) → MayAllGive start before → EachGives start.limits (mutators_in (take n before))
first_give start before n may i x e = may.each i x (mutator_of_first before n i x e)

-- where it is a mutator, it is that of the next thread
next_thread : (start : Space) (before : List AnyActor) (n : ℕ) (a : AnyActor) → MayAllGive start before → slice_get before n ≡ Some a → IsOfNext (take n before) a
next_thread start before n (any.Mutator m) may there = may.threads n m (mutator_at before n m may.order there) ∙ ap (λ k. k + 1) (sym (first_many before n m may.order there))
next_thread start before n (any.Decrementer d) may there = tt
next_thread start before n (any.Tracer d) may there = tt

-- and the space, which has what those before it had, may take it
takes_at : (start : Space) (before : List AnyActor) (n : ℕ) (a : AnyActor) → MayAllGive start before → slice_get before n ≡ Some a → MayTakeOf (holding start (mutators_in (take n before))) a
takes_at start before n (any.Mutator m) may there =
    let room = start.limits.log in
    let first = mutators_in (take n before) in
    let stands = mutator_at before n m may.order there in
    let inside = slice_get_within (mutators_in before) n m stands in
    let many = first_many before n m may.order there in
    let each : EachGives start.limits first = first_give start before n may in
    let log = (may.each n m stands).log in
    let thread = may.threads n m stands in
    let registers = registers_many start.limits first each in
    let all = may.registers in
    let behind = length-drop (REGISTERS * length first) start.registers.items in
    let both = length-append (all_registers first) (drop (REGISTERS * length first) start.registers.items) in
    let entries = entries_few start.limits first each in
    let all_few = replied_few start.limits 0 first each (λ i x e. may.threads i x (mutator_of_first before n i x e) ∙ (let k : i + 1 ≡ 0 + i + 1 = omega arith in k)) in
    let most = most_by (0 + length first) in
    let news = news_few first in
    let loads = loads_few first in
    let stores = stores_few first in
    let few = may.few in
    let logged_room = may.logged in
    let less : length first < length (mutators_in before) = omega (arith, many, inside) in
    let rows : length first * room + room ≤ length (mutators_in before) * room = whole_rows (length first) (length (mutators_in before)) room less in
    record {
      registers = (omega (arith, thread), omega (arith, thread, many, registers, all, behind, both, less));
      width = may.width;
      logged = omega (arith, entries, log, rows, logged_room);
      news = omega (arith, news, all_few, most, few, less);
      loads = omega (arith, loads, all_few, most, few, less);
      stores = omega (arith, stores, all_few, most, few, less);
    }
  where
    whole_rows : (n many room : ℕ) → n < many → n * room + room ≤ many * room
    whole_rows n many room less = let k : (n + 1) * room ≤ many * room = mul-le-mul_right room (let h : n + 1 ≤ many = omega (arith, less) in h) in let e : (n + 1) * room ≡ n * room + room = grind arith in omega (arith, k, e)
takes_at start before n (any.Decrementer d) may there = tt
takes_at start before n (any.Tracer d) may there = tt

pub next_takes : (start : Space) (before : List AnyActor) (now : Space) (after : List AnyActor) (n : ℕ) (d : AnyActor) → HaveGiven start before now after n → n < length before → MayAllGive start before
    → MayTakeOf now (slice_index_or after n d)
next_takes start before now after n d is less may =
    subst (λ z. MayTakeOf z (slice_index_or after n d)) (sym is.space) (takes_at start before n (slice_index_or after n d) may (next_was start before now after n d is less))

-- one more has given up what it had
pub one_more_given : (start : Space) (before : List AnyActor) (now later : Space) (after : List AnyActor) (n : ℕ) (d x : AnyActor) → HaveGiven start before now after n → n < length before → MayAllGive start before
    → later ≡ taken_of_actor now (slice_index_or after n d) → x ≡ actor_given_up (slice_index_or after n d) → HaveGiven start before later (slice_set after n x) (n + 1)
one_more_given start before now later after n d x is less may takes made =
    let many = is.as_many in
    let inside : n < length after = omega (arith, many, less) in
    let was = next_was start before now after n d is less in
    record {
      as_many = length-set after n x ∙ is.as_many;
      given = λ i a there below. elim (eqb_tells i n) [
        | inl q ↦
            let same : Some a ≡ Some (slice_index_or after n d) = sym there ∙ (ap (slice_get before) q.1 ∙ was) in
            let same_actor : slice_index_or after n d ≡ a = cc in
            ap (slice_get (slice_set after n x)) q.1 ∙ (slice_get-set_same after n x inside ∙ (ap Some made ∙ ap (λ y. Some (actor_given_up y)) same_actor))
        | inr q ↦ let other = q.1 in slice_get-set_other after n i x other ∙ is.given i a there (omega (arith, other, below))
      ];
      others = λ i past. slice_get-set_other after n i x (λ e. omega (arith, e, past)) ∙ is.others i (omega (arith, past));
      space = takes ∙ ap (λ z. taken_of_actor z (slice_index_or after n d)) is.space
          ∙ takes_more start (take n before) (slice_index_or after n d) (first_give start before n may) (next_thread start before n (slice_index_or after n d) may was)
          ∙ ap (λ z. holding start (mutators_in z)) (sym (take_one_more before n (slice_index_or after n d) was));
    }

-- the first of all actors are all
pub all_given : (start : Space) (before : List AnyActor) (now : Space) (after : List AnyActor) → HaveGiven start before now after (length before) → now ≡ holding start (mutators_in before)
all_given start before now after is = is.space ∙ ap (λ z. holding start (mutators_in z)) (take_all (length before) before (omega arith))
