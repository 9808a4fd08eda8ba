-- An object is made: its words are wiped, and its header makes it a member.
use Rattle.std.proofs.Common.{◌≡◌, ℕ, zero, suc, ◌+◌, ◌-◌, ◌*◌, ◌/◌, ◌<◌, ◌≤◌, refl, sym, ap, subst, ◌∙◌, inl, inr, ◌⊎◌, arith, true, false, cond, List, [], ◌∷◌, ◌++◌, length, take, nat_eq}
use Rattle.std.specs.Prelude.{Some, None, IsTrue, slice_get, slice_set, replicate}
use Rattle.std.proofs.lemmas.Bool.Decides.{leb_tells, eqb_tells}
use Rattle.std.proofs.lemmas.Bool.{or_left, or_right}
use Rattle.std.proofs.lemmas.List.{length-take, length_push}
use Rattle.std.proofs.lemmas.Option.{slice_get_within}
use Rattle.lxr_layout.specs.declared.TheConstants.{GRANULES_IN_BLOCK, GRANULES_IN_LINE, LINES_IN_BLOCK}
use Rattle.lxr_layout.specs.declared.Name.{Name}
use Rattle.lxr_layout.specs.declared.Shape.{Shape}
use Rattle.lxr_layout.specs.Objects.{header_word, word_count}
use Rattle.lxr_layout.specs.Places.{first_word}
use Rattle.lxr_graph.specs.declared.Op.{Op}
use Rattle.lxr_graph.specs.declared.Op.TheVariants as op
use Rattle.lxr_graph.specs.declared.Reply.{Reply}
use Rattle.lxr_graph.specs.declared.Reply.TheVariants as reply
use Rattle.lxr_graph.specs.History.{Item, Call, Pause, Renew, calls_of}
use Rattle.lxr_graph.specs.Names.{has, insert_name, same_name}
use Rattle.lxr_graph.specs.State.{Graph, Object, State, first_serial, next_name, object_at, opening, row_of, shape_of, with_new}
use Rattle.lxr_graph.specs.Step.{fresh, state_after, step}
use Rattle.lxr_graph.proofs.NameSets.{insert_cases, same_itself, same_names}
use Rattle.lxr_graph.proofs.RowCounts.{step_rows}
use Rattle.lxr_graph.proofs.RowLemmas.{next_none, object_at-with_new}
use Rattle.lxr_image.specs.Tables.{Tables}
use Rattle.lxr_image.specs.Reads.{IsName, granule_of}
use Rattle.lxr_image.specs.Image.{IsImage, granules_of}
use Rattle.lxr_image.specs.ImageLaws.{IsOutside, IsRoom, IsUnheld, WritesNew, placed, with_heap}
use Rattle.lxr_image.proofs.ImageLemmas.{Rewrites, just_at, not_at, outside_keeps_image, rewrites, member_stands}
use Rattle.lxr_image.proofs.NewLemmas.{new_keeps_image}
use Rattle.lxr_alloc.specs.Spans.{granule_count}
use Rattle.lxr_model.specs.Moments.{Moment, moment}
use Rattle.lxr_invariant.specs.AbstractState.{members}
use Rattle.lxr_invariant.proofs.MemberLemmas.{member_refers}
use Rattle.lxr_invariant.proofs.NameLemmas.{in_either, in_first, in_second}
use Rattle.lxr_invariant.proofs.FrameLemmas.{image_still}
use Rattle.lxr_core_invariant.specs.ThreadStates.{ThreadState, Makes, Works, all_of}
use Rattle.lxr_core_invariant.specs.EpochStates.{Beginning, EpochState, limits_of, moment_of, objects_before, opening_tables}
use Rattle.lxr_core_invariant.specs.Epoch.{IsEpoch}
use Rattle.lxr_core_invariant.specs.Drawn.{Drawers, LieInDrawn}
use Rattle.lxr_core_invariant.specs.Called.{waiting_in}
use Rattle.lxr_core_invariant.specs.Events.{done_with}
use Rattle.lxr_core_invariant.specs.Happening.{intends, shows, stands}
use Rattle.lxr_core_invariant.specs.Imaged.{IsPlacedIn, IsWipedTo, Knows}
use Rattle.lxr_core_invariant.proofs.ActingLemmas.{acts}
use Rattle.lxr_core_invariant.proofs.ObjectLemmas.{extends_before, renewed_row}
use Rattle.lxr_core_inv_heap.proofs.ImageKnowLemmas.{KeepsMembers, all_kept, knows_done, still_placed}
use Rattle.lxr_core_inv_heap.proofs.ImageStayLemmas.{call_members, next_moment, opening_member, world_member}
use Rattle.lxr_core_inv_heap.proofs.ImageWordLemmas.{IsWordOf, MakesAt, maker_apart, makers_apart, words_even, wiped_beside, wiped_still, zero_written}

-- ---- a word is wiped

-- a word of the object that a mutator makes is outside all members
making_outside : (b : Beginning) (s : EpochState) (i place : ℕ) (shape : Shape) (word : ℕ) → IsEpoch b s → MakesAt s i place shape → IsWordOf place shape word
    → IsOutside s.at (moment_of b s).state.graph (members (moment_of b s)) word
making_outside b s i place shape word is makes within n o member there =
    let standing = member_stands s.tables (limits_of b).blocks s.at (moment_of b s).state.graph (members (moment_of b s)) n o is.image.placed.image member there in
    elim (leb_tells (first_word (s.at n)) word) [
      | inr h ↦ inl h.1
      | inl h ↦ elim (leb_tells (first_word (s.at n) + word_count (shape_of o)) word) [
        | inl k ↦ inr k.1
        | inr k ↦ absurd (maker_apart b s i place shape n o word is.drawn makes member there standing.placed within (record { first = h.1; behind = k.1 }))
      ]
    ]

-- one more word is wiped
wiped_more : (t : Tables) (place : ℕ) (shape : Shape) (wiped : ℕ) → wiped + 1 < word_count shape → IsWipedTo t place shape wiped → IsWipedTo (with_heap t (first_word place + 1 + wiped) 0) place shape (wiped + 1)
wiped_more t place shape wiped more is = record {
  within = omega arith;
  zeros = λ k h. elim (eqb_tells k wiped) [
    | inl q ↦ let e = q.1 in just_at t.heap (first_word place + 1 + wiped) 0 (first_word place + 1 + k) (omega (arith, e))
    | inr q ↦ let ne = q.1 in zero_written t (first_word place + 1 + wiped) (first_word place + 1 + k) (is.zeros k (omega (arith, ne, h)))
  ];
}

-- objects stay placed where a mutator wipes a word
pub wipe_placed : (b : Beginning) (s : EpochState) (i : ℕ) (v : ThreadState) (place : ℕ) (shape : Shape) (wiped : ℕ) → IsEpoch b s → slice_get s.thread_states i ≡ Some v → v.stage ≡ Works (Makes place shape wiped)
    → wiped + 1 < word_count shape → IsPlacedIn b (record (shows s i (intends v (Makes place shape (wiped + 1)))) { tables = with_heap s.tables (first_word place + 1 + wiped) 0 })
wipe_placed b s i v place shape wiped is shown stage more =
    let m : Moment = moment_of b s in
    let word : ℕ = first_word place + 1 + wiped in
    let knows : IsWipedTo s.tables place shape wiped = subst (Knows s.tables m s.at v) stage (is.image.placed.knows i v shown) in
    let outside = making_outside b s i place shape word is (record { thread_state = v; shows = shown; wiped = wiped; stage = stage }) (record { first = omega arith; behind = omega arith }) in
    still_placed b s (record (shows s i (intends v (Makes place shape (wiped + 1)))) { tables = with_heap s.tables word 0 }) i v (intends v (Makes place shape (wiped + 1))) is.image.placed shown
    (world_member m is.lives) (opening_member b s is) (outside_keeps_image s.tables (limits_of b).blocks s.at m.state.graph (members m) word 0 is.image.placed.image outside)
    (all_kept m s.at) (λ j u differ e. wiped_still s.tables word u.stage) (wiped_more s.tables place shape wiped more knows) refl

-- ---- the next name of a thread

-- the state after a call is the state before it or that of a step
state_steps : (s : State) (t : ℕ) (o : Op) (r : Reply) → (state_after s t o r ≡ s) ⊎ (state_after s t o r ≡ (step s t o).0)
state_steps s t (op.New dest shape) reply.Full = inl refl
state_steps s t (op.New dest shape) r = inr refl
state_steps s t o r = inr refl

-- rows without objects
no_row : (n j : ℕ) → length (row_of (replicate n []) j) ≡ 0
no_row zero j = refl
no_row (suc n) zero = refl
no_row (suc n) (suc j) = no_row n j

-- no thread has an object as a run opens
opening_row : (threads t : ℕ) → 1 ≤ t → length (row_of (opening threads).graph t) ≡ 0
opening_row threads zero some = absurd (omega arith)
opening_row threads (suc j) some = no_row threads j

-- another thread's call is none of this one, and its own is one more
calls_more : (t u : ℕ) (o : Op) (r : Reply) (h : List Item) → (t ≡ u → length (calls_of t (Call u o r ∷ h)) ≡ length (calls_of t h) + 1) × (length (calls_of t h) ≤ length (calls_of t (Call u o r ∷ h)))
calls_more t u o r h = elim (eqb_tells t u) [
  | inl q ↦
      let e : length (calls_of t (Call u o r ∷ h)) ≡ length (calls_of t h) + 1 = ap (λ b. length (cond b (calls_of t h ++ o ∷ []) (calls_of t h))) q.0 ∙ length_push (calls_of t h) o in
      (λ same. e, omega (arith, e))
  | inr q ↦
      let e : length (calls_of t (Call u o r ∷ h)) ≡ length (calls_of t h) = ap (λ b. length (cond b (calls_of t h ++ o ∷ []) (calls_of t h))) q.0 in
      (λ same. absurd (q.1 same), omega (arith, e))
]

-- a thread has made no more objects than it has had calls
rows_called : (threads t : ℕ) (h : List Item) → 1 ≤ t → length (row_of (moment threads h).state.graph t) ≤ objects_before t h + length (calls_of t h)
rows_called threads t [] some = let e = opening_row threads t some in omega (arith, e)
rows_called threads t (Renew ns ∷ h) some = let e = renewed_row threads ns (moment threads h).state.graph t some in omega (arith, e)
rows_called threads t (Pause report ∷ h) some = rows_called threads t h some
rows_called threads t (Call u o r ∷ h) some =
    let s : State = (moment threads h).state in
    let before = rows_called threads t h some in
    let calls = calls_more t u o r h in
    let more = calls.1 in
    elim (state_steps s u o r) [
      | inl e ↦ let same : length (row_of (state_after s u o r).graph t) ≡ length (row_of s.graph t) = ap (λ (z : State). length (row_of z.graph t)) e in omega (arith, same, before, more)
      | inr e ↦
          let rows = step_rows s u o in
          let same : length (row_of (state_after s u o r).graph t) ≡ length (row_of (step s u o).0.graph t) = ap (λ (z : State). length (row_of z.graph t)) e in
          elim (eqb_tells t u) [
            | inl q ↦
                let one : length (row_of (step s u o).0.graph t) ≤ length (row_of s.graph t) + 1 =
                subst (λ z. length (row_of (step s u o).0.graph z) ≤ length (row_of s.graph z) + 1) (sym q.1) rows.one_made in
                let own = calls.0 q.1 in omega (arith, same, one, before, own)
            | inr q ↦ let kept = rows.others t q.1 in omega (arith, same, kept, before, more)
          ]
    ]

-- serials begin at 0 or 1
first_small : (t : ℕ) → first_serial t ≤ 1
first_small t = elim (nat_eq t 0) as (λ b. cond b 0 1 ≤ 1) [ true ↦ omega arith | false ↦ omega arith ]

-- a mutator is one of the threads
few_threads : (b : Beginning) (s : EpochState) (i : ℕ) (v : ThreadState) → IsEpoch b s → slice_get s.thread_states i ≡ Some v → v.thread ≤ (limits_of b).threads
few_threads b s i v is shown =
    let number = is.called.threads i v shown in
    let within = slice_get_within s.thread_states i v shown in
    let thread_states = is.called.as_many in
    omega (arith, number, within, thread_states)

-- the name of the next object of a thread is one that a header can say
name_small : (b : Beginning) (s : EpochState) (i : ℕ) (v : ThreadState) → IsEpoch b s → slice_get s.thread_states i ≡ Some v → IsName (next_name (moment_of b s).state.graph v.thread)
name_small b s i v is shown =
    let called = is.called.each i v shown in
    let known = acts b s i v is shown in
    let row = rows_called (limits_of b).threads v.thread s.history known.thread in
    let before = extends_before (limits_of b).threads b.every b.history s.history v.thread is.extends ∙ sym called.began in
    let few_before = called.few_began in
    let calls : length (calls_of v.thread s.history) ≡ length (take (length v.replies + waiting_in v.stage) (all_of v.operations)) = ap length called.calls in
    let taken : length (take (length v.replies + waiting_in v.stage) (all_of v.operations)) ≤ length (all_of v.operations) =
    let e = length-take (length v.replies + waiting_in v.stage) (all_of v.operations) in omega (arith, e) in
    let all : length (all_of v.operations) ≡ length v.operations + 1 = length_push v.operations op.End in
    let few = called.few in
    let first = first_small v.thread in
    let number = is.called.threads i v shown in
    let within = slice_get_within s.thread_states i v shown in
    let thread_states = is.called.as_many in
    let threads = is.begins.between.safepoint.holds.space.limits.threads.1 in
    record { thread = omega (arith, number, within, thread_states, threads); serial = omega (arith, row, before, few_before, calls, taken, all, few, first) }

-- ---- the room of a new object

-- what lies in a run of lines lies in one block of the heap
run_room : (a c block line lines blocks : ℕ) → block < blocks → line + lines ≤ LINES_IN_BLOCK → 1 ≤ c → GRANULES_IN_BLOCK * block + GRANULES_IN_LINE * line ≤ a → a + c ≤ GRANULES_IN_BLOCK * block + GRANULES_IN_LINE * (line + lines)
    → (a + c ≤ GRANULES_IN_BLOCK * blocks) × (a / GRANULES_IN_BLOCK ≡ (a + c - 1) / GRANULES_IN_BLOCK)
run_room a c block line lines blocks low within some first end = (omega arith, omega arith)

-- and so does what lies in a block
block_room : (a c block blocks : ℕ) → block < blocks → 1 ≤ c → GRANULES_IN_BLOCK * block ≤ a → a + c ≤ GRANULES_IN_BLOCK * (block + 1) → (a + c ≤ GRANULES_IN_BLOCK * blocks) × (a / GRANULES_IN_BLOCK ≡ (a + c - 1) / GRANULES_IN_BLOCK)
block_room a c block blocks low some first end = (omega arith, omega arith)

-- an object has a granule
some_granule : (s : Shape) → 1 ≤ granule_count s
some_granule s = omega arith

-- what is drawn lies in one block of the heap
drawn_room : (b : Beginning) (s : EpochState) (d : Drawers) (t a : ℕ) (shape : Shape) → IsEpoch b s → LieInDrawn b d t a (a + granule_count shape)
    → (a + granule_count shape ≤ GRANULES_IN_BLOCK * (limits_of b).blocks) × (a / GRANULES_IN_BLOCK ≡ (a + granule_count shape - 1) / GRANULES_IN_BLOCK)
drawn_room b s d t a shape is (inl q) =
    let free = q.lists.run.run in
    run_room a (granule_count shape) q.run.block q.run.line q.run.lines (limits_of b).blocks free.block free.within (some_granule shape) q.within.0 q.within.1
drawn_room b s d t a shape is (inr q) =
    block_room a (granule_count shape) ((opening_tables b).frees q.number) (limits_of b).blocks (is.begins.listed.blocks q.number q.listed).block (some_granule shape) q.within.0 q.within.1

-- a first granule of one object that lies in another one begins with a word of both
begins_in : (p q c w : ℕ) → 1 ≤ p → 1 ≤ q → w ≡ 2 * c → p - 1 ≤ q - 1 → q - 1 < p - 1 + c → (2 * (p - 1) ≤ 2 * (q - 1)) × (2 * (q - 1) < 2 * (p - 1) + w)
begins_in p q c w some_p some_q even first behind = (omega arith, omega arith)

-- the granules of a member are apart from those of the object that a mutator makes
member_apart : (b : Beginning) (s : EpochState) (i place : ℕ) (shape : Shape) (n : Name) (o : Object) → IsEpoch b s → MakesAt s i place shape → 1 ≤ place → IsTrue (has (members (moment_of b s)) n)
    → object_at (moment_of b s).state.graph n ≡ Some o → (granule_of (s.at n) + granules_of o ≤ granule_of place) ⊎ (granule_of place + granule_count shape ≤ granule_of (s.at n))
member_apart b s i place shape n o is makes some member there =
    let st = member_stands s.tables (limits_of b).blocks s.at (moment_of b s).state.graph (members (moment_of b s)) n o is.image.placed.image member there in
    elim (leb_tells (granule_of (s.at n) + granules_of o) (granule_of place)) [
      | inl h ↦ inl h.1
      | inr h ↦ elim (leb_tells (granule_of place + granule_count shape) (granule_of (s.at n))) [
        | inl k ↦ inr k.1
        | inr k ↦ absurd (elim (leb_tells (granule_of place) (granule_of (s.at n))) [
          | inl l ↦
              let at_n = begins_in place (s.at n) (granule_count shape) (word_count shape) some st.placed (words_even shape) l.1 k.1 in
              maker_apart b s i place shape n o (first_word (s.at n)) is.drawn makes member there st.placed (record { first = at_n.0; behind = at_n.1 }) (own_word (s.at n) (shape_of o))
          | inr l ↦
              let at_p = begins_in (s.at n) place (granules_of o) (word_count (shape_of o)) st.placed some (words_even (shape_of o)) (let less = l.1 in omega (arith, less)) h.1 in
              maker_apart b s i place shape n o (first_word place) is.drawn makes member there st.placed (own_word place shape) (record { first = at_p.0; behind = at_p.1 })
        ])
      ]
    ]
  where
    own_word : (p : ℕ) (s : Shape) → IsWordOf p s (first_word p)
    own_word p s = record { first = omega arith; behind = omega arith }

-- the object that a mutator makes has room
making_room : (b : Beginning) (s : EpochState) (i : ℕ) (v : ThreadState) (place : ℕ) (shape : Shape) (wiped : ℕ) → IsEpoch b s → slice_get s.thread_states i ≡ Some v → v.stage ≡ Works (Makes place shape wiped)
    → IsRoom (limits_of b).blocks s.at (moment_of b s).state.graph (members (moment_of b s)) place shape
making_room b s i v place shape wiped is shown stage =
    let makes = is.drawn.makes i v place shape wiped shown stage in
    let room = drawn_room b s is.drawn.drawers (i + 1) (granule_of place) shape is makes.drawn in
    record {
      placed = makes.placed;
      in_heap = room.0;
      in_block = room.1;
      free = λ n o member there. member_apart b s i place shape n o is (record { thread_state = v; shows = shown; wiped = wiped; stage = stage }) makes.placed member there;
    }

-- ---- a header makes a member

-- all other words of the object are wiped
header_writes : (t : Tables) (place : ℕ) (n : Name) (shape : Shape) (wiped : ℕ) → wiped + 1 ≡ word_count shape → IsWipedTo t place shape wiped
    → WritesNew t (with_heap t (first_word place) (header_word n shape)) place n shape
header_writes t place n shape wiped all is = record {
  header = just_at t.heap (first_word place) (header_word n shape) (first_word place) refl;
  zeros = λ i h. not_at t.heap (first_word place) (header_word n shape) (first_word place + 1 + i) (λ e. omega (arith, e)) ∙ is.zeros i (below i shape wiped h all);
  others = λ k out. not_at t.heap (first_word place) (header_word n shape) k (λ e. outside place shape k e out);
}
  where
    below : (i : ℕ) (s : Shape) (wiped : ℕ) → i < s.refs + s.values → wiped + 1 ≡ word_count s → i < wiped
    below i s wiped h all = omega arith

    outside : (place : ℕ) (s : Shape) (k : ℕ) → k ≡ first_word place → (k < first_word place) ⊎ (first_word place + word_count s ≤ k) → ⊥
    outside place s k e (inl h) = omega arith
    outside place s k e (inr h) = omega arith

-- a member isn't the next name
not_next : (t : Tables) (blocks : ℕ) (at : Name → ℕ) (g : Graph) (ms : List Name) (row : ℕ) (n : Name) → IsImage t blocks at g ms → IsTrue (has ms n) → n ≡ next_name g row → ⊥
not_next t blocks at g ms row n image member e =
    let a = image.stands n member in
    let k : None ≡ Some a.0 = sym (next_none g row) ∙ ap (object_at g) (sym e) ∙ a.1 in cc

-- another name keeps its place
placed_other : (at : Name → ℕ) (n : Name) (p : ℕ) (m : Name) → (m ≡ n → ⊥) → placed at n p m ≡ at m
placed_other at n p m differ = elim (same_name m n) as (λ b. same_name m n ≡ b → cond b p (at m) ≡ at m) [
  | true ↦ λ k. absurd (differ (same_names m n k))
  | false ↦ λ k. refl
] refl

-- members keep their places and objects beside a new one
new_kept : (t : Tables) (blocks : ℕ) (at : Name → ℕ) (m : Moment) (row dest place : ℕ) (shape : Shape) → IsImage t blocks at m.state.graph (members m) → row < length m.state.graph
    → KeepsMembers m (next_moment m row (op.New dest shape)) at (placed at (next_name m.state.graph row) place)
new_kept t blocks at m row dest place shape image small =
    let g : Graph = m.state.graph in
    let n : Name = next_name g row in
    let which : Rewrites g (with_new g row (fresh shape)) n (fresh shape) = rewrites g (with_new g row (fresh shape)) n (fresh shape) (λ q. object_at-with_new g row (fresh shape) q small) in
    record {
      member = λ q h. call_members m row (op.New dest shape) (reply.New n) q h;
      place = λ q h. placed_other at n place q (not_next t blocks at g (members m) row q image h);
      object = λ q o h e. elim (which q) [
        | inl r ↦ absurd (not_next t blocks at g (members m) row q image h r.0)
        | inr r ↦ (o, r.1 ∙ e, refl)
      ];
    }

-- a member is the new one or an old one
new_member : (m : Moment) (row dest : ℕ) (shape : Shape) (q : Name) → let n : Name = next_name m.state.graph row in IsTrue (has (members (next_moment m row (op.New dest shape))) q) → IsTrue (has (n ∷ members m) q)
new_member m row dest shape q h =
    let n : Name = next_name m.state.graph row in
    elim (in_either m.unreclaimed (insert_name n m.made) q h) [
      | inl k ↦ or_right (same_name q n) (has (members m) q) (in_first m.unreclaimed m.made q k)
      | inr k ↦ elim (insert_cases n m.made q k) [
        | inl e ↦ or_left (same_name q n) (has (members m) q) (ap (λ z. same_name z n) e ∙ same_itself n)
        | inr a ↦ or_right (same_name q n) (has (members m) q) (in_second m.unreclaimed m.made q a)
      ]
    ]

-- what there is once a mutator has made an object at a place
abbrev made : Beginning → EpochState → ℕ → ThreadState → ℕ → ℕ → Shape → EpochState
made b s i v dest place shape =
    let name = next_name (moment_of b s).state.graph v.thread in
    record (stands b s i v (op.New dest shape) (done_with (record v { registers = slice_set v.registers dest (record { 0 = place }) }) (op.New dest shape) (reply.New name))
    (with_heap s.tables (first_word place) (header_word name shape))) { at = placed s.at name place }

-- objects stay placed where a mutator makes one
pub make_placed : (b : Beginning) (s : EpochState) (i : ℕ) (v : ThreadState) (dest place : ℕ) (shape : Shape) (wiped : ℕ) → IsEpoch b s → slice_get s.thread_states i ≡ Some v → v.stage ≡ Works (Makes place shape wiped)
    → wiped + 1 ≡ word_count shape → IsPlacedIn b (made b s i v dest place shape)
make_placed b s i v dest place shape wiped is shown stage all =
    let o : Op = op.New dest shape in
    let m : Moment = moment_of b s in
    let g : Graph = m.state.graph in
    let k : Moment = next_moment m v.thread o in
    let n : Name = next_name g v.thread in
    let blocks : ℕ = (limits_of b).blocks in
    let before : IsImage s.tables blocks s.at g (members m) = is.image.placed.image in
    let known = acts b s i v is shown in
    let maker : MakesAt s i place shape = record { thread_state = v; shows = shown; wiped = wiped; stage = stage } in
    let knows : IsWipedTo s.tables place shape wiped = subst (Knows s.tables m s.at v) stage (is.image.placed.knows i v shown) in
    let word : ℕ = first_word place in
    let u : Tables = with_heap s.tables word (header_word n shape) in
    let unheld : IsUnheld g (members m) n = λ q a j in_q there e. not_next s.tables blocks s.at g (members m) v.thread n before (member_refers m q n a j is.lives in_q there e) refl in
    let image = new_keeps_image s.tables u blocks s.at g (members m) v.thread shape place before known.row (is.drawn.makes i v place shape wiped shown stage).fits (name_small b s i v is shown) unheld
    (making_room b s i v place shape wiped is shown stage) (header_writes s.tables place n shape wiped all knows) in
    let w : ThreadState = record v { registers = slice_set v.registers dest (record { 0 = place }) } in
    still_placed b s (made b s i v dest place shape) i v (done_with w o (reply.New n)) is.image.placed shown (world_member m is.lives) (opening_member b s is)
    (image_still u u blocks (placed s.at n place) k.state.graph (n ∷ members m) (members k) refl (new_member m v.thread dest shape) image)
    (new_kept s.tables blocks s.at m v.thread dest place shape before known.row)
    (λ j x differ shows. wiped_beside s.tables word (header_word n shape) x.stage (λ p a done e within.
    differ (makers_apart b s j i p place a shape word is.drawn (record { thread_state = x; shows = shows; wiped = done; stage = e }) maker within (record { first = omega arith; behind = omega arith }))))
    (knows_done u k (placed s.at n place) (done_with w o (reply.New n)) w o) refl
