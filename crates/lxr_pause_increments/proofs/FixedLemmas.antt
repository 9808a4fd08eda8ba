-- References that hold the place where their object stands, which won't change any more; and what a write of one leaves.
use Rattle.std.proofs.Common.{◌≡◌, ◌≢◌, ℕ, ◌+◌, ◌<◌, ◌≤◌, refl, sym, ap, subst, ◌∙◌, inl, inr, ◌⊎◌, arith, false, List, length}
use Rattle.std.specs.Prelude.{Some, None, Option, IsTrue, slice_get, slice_set, slice_index_or}
use Rattle.std.proofs.lemmas.Option.{get_or_from_slice_get, slice_get-get_or, slice_get_within}
use Rattle.lxr_layout.specs.declared.Name.{Name}
use Rattle.lxr_layout.specs.declared.Place.{Place}
use Rattle.lxr_layout.specs.Objects.{word_count}
use Rattle.lxr_layout.specs.Places.{first_word}
use Rattle.lxr_graph.specs.Names.{has, same_name}
use Rattle.lxr_graph.specs.State.{Object, object_at, refs_of, shape_of}
use Rattle.lxr_graph.proofs.NameSets.{same_names, union_right}
use Rattle.lxr_image.specs.declared.space.Space.{Space}
use Rattle.lxr_image.specs.Tables.{Tables}
use Rattle.lxr_image.specs.Spaces.{Turns, tables_of}
use Rattle.lxr_image.specs.Reads.{granule_of}
use Rattle.lxr_image.specs.Image.{place_word}
use Rattle.lxr_image.specs.ImageLaws.{with_heap}
use Rattle.lxr_image.proofs.ImageLemmas.{words_cover, words_even}
use Rattle.lxr_model.specs.Moments.{Field, Moment}
use Rattle.lxr_model_counting.specs.Distinct.{has_field}
use Rattle.lxr_model_counting.specs.Following.{FollowsPause}
use Rattle.lxr_model_counting.proofs.DistinctLemmas.{tested}
use Rattle.lxr_invariant.specs.AbstractState.{members}
use Rattle.lxr_invariant.specs.Copied.{HasWord}
use Rattle.lxr_invariant.specs.Raised.{with_promoted}
use Rattle.lxr_invariant.specs.Standing.{word_of_field}
use Rattle.lxr_invariant.proofs.EntryLemmas.{changed_cases, changed_here}
use Rattle.lxr_invariant.proofs.NameLemmas.{in_first, in_second}
use Rattle.lxr_pause_promote.specs.Either.{HoldEither, HoldsEither, StandsNow}
use Rattle.lxr_pause_promote.proofs.EitherLemmas.{held_still, hold_written, stands_same, whole_on}
use Rattle.lxr_pause_increments.specs.Accounted.{IsFixed, IsRegisterFixed, references_at}
use Rattle.lxr_pause_increments.specs.Increments.{IncrementStage}
use Rattle.lxr_pause_increments.specs.Moving.{IsMoving}
use Rattle.lxr_pause_increments.proofs.MovingLemmas.{AreMade, apart_now, known_member, unreclaimed_still}
use Rattle.lxr_pause_increments.proofs.StayingLemmas.{StaysMoving, moving_with}

-- ---- a step that moves and writes nothing

-- what it leaves: counts only grow from 0
pub record LeavesMoving (a b : Space) : Type 0 where
  pub limits : b.limits ≡ a.limits
  pub heap : (tables_of b).heap ≡ (tables_of a).heap
  pub outs : (tables_of b).outs ≡ (tables_of a).outs
  pub reuse : (tables_of b).reuse ≡ (tables_of a).reuse
  pub states : (tables_of b).states ≡ (tables_of a).states
  pub counts : (k : ℕ) → (tables_of a).counts k ≢ 0 → (tables_of b).counts k ≢ 0
  pub registers : b.registers.items ≡ a.registers.items
  pub deferred : b.deferred.items ≡ a.deferred.items
  pub rest : (b.rest_next ≡ a.rest_next) × (b.rest_end ≡ a.rest_end)

-- objects stand in a space with the same heap, where registers hold places of what they are to hold
stays_same : (a b found : Space) (m : Moment) (at now : Name → ℕ) (ps : List Name) → b.limits ≡ a.limits → (tables_of b).heap ≡ (tables_of a).heap → HoldEither at now b.registers.items m.state.registers
    → IsMoving a found m at now ps → StaysMoving b found m at now ps
stays_same a b found m at now ps limits heap registers is = record {
  stands = λ n member.
      let x = is.stands n member in
      let there : StandsNow (tables_of b) a.limits.blocks at now n x.0 = stands_same (tables_of a) (tables_of b) a.limits.blocks at now n x.0 heap x.2 in
      (x.0, x.1, subst (λ l. StandsNow (tables_of b) l.blocks at now n x.0) (sym limits) there);
  left_behind = λ n h moved. ap (λ f. f (first_word (at n))) heap ∙ is.left_behind n h moved;
  registers = registers;
  heap = λ w made promoted written. ap (λ f. f w) heap ∙ is.heap w made promoted written;
}

pub moving_left : (a b found : Space) (m : Moment) (at now : Name → ℕ) (ps : List Name) → LeavesMoving a b → IsMoving a found m at now ps → IsMoving b found m at now ps
moving_left a b found m at now ps leaves is = moving_with a b found m at now ps (record {
  limits = leaves.limits;
  outs = leaves.outs;
  reuse = leaves.reuse;
  states = leaves.states;
  counts = leaves.counts;
  deferred = leaves.deferred;
  rest = leaves.rest;
}) (stays_same a b found m at now ps leaves.limits leaves.heap (subst (λ x. HoldEither at now x m.state.registers) (sym leaves.registers) is.registers) is) is

-- a later stage at which the same is promoted, and stands where it stood
pub record IsSameStage (st later : IncrementStage) : Type 0 where
  pub promoted : later.promoted ≡ st.promoted
  pub now : later.now ≡ st.now

pub fixed_left : (a b : Space) (m : Moment) (st later : IncrementStage) → IsSameStage st later → (tables_of b).heap ≡ (tables_of a).heap → (u : Name) (i : ℕ) → IsFixed a m st u i → IsFixed b m later u i
fixed_left a b m st later same heap u i fixed = record {
  holder = subst (λ ps. IsTrue (has (with_promoted m ps) u)) (sym same.promoted) fixed.holder;
  within = fixed.within;
  holds = subst (λ now. (tables_of b).heap (word_of_field now u i) ≡ place_word now (slice_index_or (references_at m u) i None)) (sym same.now) (ap (λ h. h (word_of_field st.now u i)) heap ∙ fixed.holds);
  known = λ o e. subst (λ ps. IsTrue (has (with_promoted m ps) o)) (sym same.promoted) (fixed.known o e);
}

pub register_left : (a b : Space) (m : Moment) (st later : IncrementStage) → IsSameStage st later → b.registers.items ≡ a.registers.items → (k : ℕ) → IsRegisterFixed a m st k → IsRegisterFixed b m later k
register_left a b m st later same registers k fixed = record {
  place = fixed.place;
  held = fixed.held;
  place_is = subst (λ xs. slice_get xs k ≡ Some fixed.place) (sym registers) fixed.place_is;
  held_is = fixed.held_is;
  holds = subst (λ now. fixed.place.0 ≡ place_word now fixed.held) (sym same.now) fixed.holds;
  known = λ o e. subst (λ ps. IsTrue (has (with_promoted m ps) o)) (sym same.promoted) (fixed.known o e);
}

-- ---- one reference is written

-- a word that is written holds what is written, and another what it held
word_cases : (a b : Space) (k w j : ℕ) → Turns a b (with_heap (tables_of a) k w) → ((j ≡ k) × ((tables_of b).heap j ≡ w)) ⊎ ((j ≢ k) × ((tables_of b).heap j ≡ (tables_of a).heap j))
word_cases a b k w j turns =
    let e : (tables_of b).heap j ≡ (with_heap (tables_of a) k w).heap j = ap (λ t. t.heap j) turns.tables in
    elim (changed_cases (tables_of a).heap k w j) [ inl q ↦ inl (q.0, e ∙ q.1) | inr q ↦ inr (q.0, e ∙ q.1) ]

pub word_written : (a b : Space) (k w : ℕ) → Turns a b (with_heap (tables_of a) k w) → (tables_of b).heap k ≡ w
word_written a b k w turns = ap (λ t. t.heap k) turns.tables ∙ changed_here (tables_of a).heap k w k refl

-- reference i of u's object is written with the place where what it is to hold stands now
module _ (a b : Space) (m : Moment) (at : Name → ℕ) (st : IncrementStage) (is : IsMoving a st.found m at st.now st.promoted) (u : Name) (i : ℕ) (member : IsTrue (has (members m) u))
    (within : i < length (references_at m u)) (turns : Turns a b (with_heap (tables_of a) (word_of_field st.now u i) (place_word st.now (slice_index_or (references_at m u) i None)))) where
  abbrev the_word : ℕ
  the_word = word_of_field st.now u i

  abbrev the_held : Option Name
  the_held = slice_index_or (references_at m u) i None

  -- only u's object has that word
  own_word : (n : Name) (o : Object) (j : ℕ) → IsTrue (has (members m) n) → object_at m.state.graph n ≡ Some o → first_word (st.now n) ≤ j → j < first_word (st.now n) + word_count (shape_of o) → j ≡ the_word → n ≡ u
  own_word n o j in_n has_o first behind e = elim (tested (same_name n u)) [
    | inl same ↦ same_names n u same
    | inr differ ↦
        let x = is.stands u member in
        let size : length (references_at m u) ≡ length x.0.refs = ap (λ z. length (refs_of z)) x.1 in
        let cover = words_cover x.0 in
        let even_n = words_even o in
        let even_u = words_even x.0 in
        elim (apart_now a st.found m at st.now st.promoted is n u o x.0 in_n member differ has_o x.1) [
          | inl h ↦ absurd (omega (arith, h, first, behind, e, even_n))
          | inr h ↦ absurd (omega (arith, h, first, e, even_u, cover, size, within))
        ]
  ]

  -- u's words begin there, and end behind its references
  word_within : (o : Object) → object_at m.state.graph u ≡ Some o → (first_word (st.now u) + 1 ≤ the_word) × (the_word < first_word (st.now u) + 1 + length o.refs) × (the_word < first_word (st.now u) + word_count (shape_of o))
  word_within o has_o =
      let size : length (references_at m u) ≡ length o.refs = ap (λ z. length (refs_of z)) has_o in
      let cover = words_cover o in
      (omega arith, omega (arith, size, within), omega (arith, size, within, cover))

  stands_written : (n : Name) (o : Object) → IsTrue (has (members m) n) → object_at m.state.graph n ≡ Some o → StandsNow (tables_of a) a.limits.blocks at st.now n o → StandsNow (tables_of b) a.limits.blocks at st.now n o
  stands_written n o in_n has_o stands =
      let cover = words_cover o in
      let first : ℕ = first_word (st.now n) in
      record {
        placed = stands.placed;
        whole = whole_on (tables_of a) (tables_of b) a.limits.blocks (granule_of (st.now n)) n (shape_of o) (elim (word_cases a b the_word (place_word st.now the_held) first turns) [
          | inl q ↦ absurd (
              let same : n ≡ u = own_word n o first in_n has_o (omega arith) (omega (arith, cover)) q.0 in
              let after = (word_within o (ap (object_at m.state.graph) (sym same) ∙ has_o)).0 in
              let e = q.0 in
              let there : st.now n ≡ st.now u = ap st.now same in
              omega (arith, after, e, there))
          | inr q ↦ q.1
        ]) stands.whole;
        refs = λ j r e.
            let low = slice_get_within o.refs j r e in
            elim (word_cases a b the_word (place_word st.now the_held) (first + 1 + j) turns) [
              | inl q ↦
                  let same : n ≡ u = own_word n o (first + 1 + j) in_n has_o (omega arith) (omega (arith, cover, low)) q.0 in
                  let there : st.now n ≡ st.now u = ap st.now same in
                  let word = q.0 in
                  let index : j ≡ i = omega (arith, there, word) in
                  let refs : references_at m u ≡ o.refs = ap (λ z. refs_of z) (ap (object_at m.state.graph) (sym same) ∙ has_o) in
                  let held : the_held ≡ r = ap (λ xs. slice_index_or xs i None) refs ∙ get_or_from_slice_get o.refs i r None (ap (slice_get o.refs) (sym index) ∙ e) in
                  inl (q.1 ∙ ap (place_word st.now) held)
              | inr q ↦ subst (λ w. HoldsEither at st.now w r) (sym q.1) (stands.refs j r e)
            ];
        values = λ j v e.
            let low = slice_get_within o.values j v e in
            elim (word_cases a b the_word (place_word st.now the_held) (first + 1 + length o.refs + j) turns) [
              | inl q ↦ absurd (
                  let same : n ≡ u = own_word n o (first + 1 + length o.refs + j) in_n has_o (omega arith) (omega (arith, cover, low)) q.0 in
                  let there : st.now n ≡ st.now u = ap st.now same in
                  let word = q.0 in
                  let before = (word_within o (ap (object_at m.state.graph) (sym same) ∙ has_o)).1 in
                  omega (arith, before, word, there))
              | inr q ↦ q.1 ∙ stands.values j v e
            ];
      }

  -- a place that was left is no word of u's object
  left_written : AreMade m st.promoted → (n : Name) → IsTrue (has st.promoted n) → st.now n ≢ at n → first_word (at n) ≢ the_word
  left_written made n promoted moved e =
      let in_n : IsTrue (has (members m) n) = in_second m.unreclaimed m.made n (made n promoted) in
      let x = is.stands n in_n in
      let y = is.stands u member in
      let inside = word_within y.0 y.1 in
      let from = inside.0 in
      let end = inside.2 in
      let even = words_even y.0 in
      let even_n = words_even x.0 in
      let cover = words_cover x.0 in
      elim (is.apart n u x.0 y.0 (at n) (st.now u) in_n member x.1 y.1 (inl refl) (inr refl) (λ same.
      let one : n ≡ u = is.own n u (at n) in_n member (inl refl) (inr same) in
      moved (ap st.now one ∙ sym same))) [
        | inl h ↦ omega (arith, h, e, from, even_n, cover)
        | inr h ↦ omega (arith, h, e, end, even)
      ]

  -- the word is one of a promoted object, or of a reference that was stored to
  heap_written : FollowsPause m → AreMade m st.promoted → IsTrue (has st.promoted u) ⊎ IsTrue (has_field m.written (u, i)) → (w : ℕ) → ((n : Name) → IsTrue (has st.promoted n) → ¬ HasWord m.state.graph st.now n w)
      → ((field : Field) → IsTrue (has_field m.written field) → w ≢ word_of_field at field.0 field.1) → w ≢ the_word
  heap_written follows made may w promoted written e = elim may [
    | inl h ↦
        let x = is.stands u member in
        let inside = word_within x.0 x.1 in
        let from = inside.0 in
        let end = inside.2 in
        promoted u h (record { object = x.0; is = x.1; first = omega (arith, from, e); behind = omega (arith, end, e) })
    | inr h ↦
        let still : st.now u ≡ at u = unreclaimed_still a st.found m at st.now st.promoted is made follows.apart u (follows.written u i h).0 in
        written (u, i) h (e ∙ ap (λ p. first_word p + 1 + i) still)
  ]

  -- it is one of a promoted object, or was stored to
  pub moving_written : FollowsPause m → AreMade m st.promoted → IsTrue (has st.promoted u) ⊎ IsTrue (has_field m.written (u, i)) → IsMoving b st.found m at st.now st.promoted
  moving_written follows made may = moving_with a b st.found m at st.now st.promoted (record {
    limits = ap (λ s. s.limits) turns.rest;
    outs = ap (λ t. t.outs) turns.tables;
    reuse = ap (λ t. t.reuse) turns.tables;
    states = ap (λ t. t.states) turns.tables;
    counts = λ k ne. subst (λ (t : Tables). t.counts k ≢ 0) (sym turns.tables) ne;
    deferred = ap (λ s. s.deferred.items) turns.rest;
    rest = (ap (λ s. s.rest_next) turns.rest, ap (λ s. s.rest_end) turns.rest);
  }) (record {
    stands = λ n in_n.
        let x = is.stands n in_n in
        (x.0, x.1, subst (λ s. StandsNow (tables_of b) s.limits.blocks at st.now n x.0) (sym turns.rest) (stands_written n x.0 in_n x.1 x.2));
    left_behind = λ n h moved. elim (word_cases a b the_word (place_word st.now the_held) (first_word (at n)) turns) [
      | inl q ↦ absurd (left_written made n h moved q.0)
      | inr q ↦ q.1 ∙ is.left_behind n h moved
    ];
    registers = subst (λ (s : Space). HoldEither at st.now s.registers.items m.state.registers) (sym turns.rest) is.registers;
    heap = λ w new promoted written. elim (word_cases a b the_word (place_word st.now the_held) w turns) [
      | inl q ↦ absurd (heap_written follows made may w promoted written q.0)
      | inr q ↦ q.1 ∙ is.heap w new promoted written
    ];
  }) is

  -- and what was fixed stays so
  pub fixed_written : AreMade m st.promoted → (v : Name) (j : ℕ) → IsFixed a m st v j → IsFixed b m st v j
  fixed_written made v j fixed =
      let in_v = known_member m st.promoted made v fixed.holder in
      let x = is.stands v in_v in
      let size : length (references_at m v) ≡ length x.0.refs = ap (λ z. length (refs_of z)) x.1 in
      let low = fixed.within in
      let cover = words_cover x.0 in
      record {
        holder = fixed.holder;
        within = fixed.within;
        holds = elim (word_cases a b the_word (place_word st.now the_held) (word_of_field st.now v j) turns) [
          | inl q ↦
              let same : v ≡ u = own_word v x.0 (word_of_field st.now v j) in_v x.1 (omega arith) (omega (arith, cover, low, size)) q.0 in
              let there : st.now v ≡ st.now u = ap st.now same in
              let word = q.0 in
              let index : j ≡ i = omega (arith, there, word) in
              q.1 ∙ (λ k. place_word st.now (slice_index_or (references_at m (sym same k)) (sym index k) None))
          | inr q ↦ q.1 ∙ fixed.holds
        ];
        known = fixed.known;
      }

-- ---- a register is written

pub moving_register : (a b found : Space) (m : Moment) (at now : Name → ℕ) (ps : List Name) (k : ℕ) (p : Place) (held : Option Name) → IsMoving a found m at now ps
    → slice_get m.state.registers k ≡ Some held → p.0 ≡ place_word now held → b ≡ record a { registers = record a.registers { items = slice_set a.registers.items k p } } → IsMoving b found m at now ps
moving_register a b found m at now ps k p held is has_k place same =
    let tables : tables_of b ≡ tables_of a = ap tables_of same in
    let limits : b.limits ≡ a.limits = ap (λ s. s.limits) same in
    let registers : b.registers.items ≡ slice_set a.registers.items k p = ap (λ s. s.registers.items) same in
    moving_with a b found m at now ps (record {
      limits = limits;
      outs = ap (λ t. t.outs) tables;
      reuse = ap (λ t. t.reuse) tables;
      states = ap (λ t. t.states) tables;
      counts = λ j ne. subst (λ (t : Tables). t.counts j ≢ 0) (sym tables) ne;
      deferred = ap (λ s. s.deferred.items) same;
      rest = (ap (λ s. s.rest_next) same, ap (λ s. s.rest_end) same);
    }) (stays_same a b found m at now ps limits (ap (λ t. t.heap) tables)
    (subst (λ x. HoldEither at now x m.state.registers) (sym registers) (hold_written at now a.registers.items m.state.registers k p held has_k place is.registers)) is) is

-- ---- references that are fixed from the start

-- one of an unreclaimed object that wasn't stored to refers to an unreclaimed object
unwritten_kept : (m : Moment) → FollowsPause m → (u o : Name) (i : ℕ) → IsTrue (has m.unreclaimed u) → has_field m.written (u, i) ≡ false → slice_get (references_at m u) i ≡ Some (Some o) → IsTrue (has m.unreclaimed o)
unwritten_kept m follows u o i kept unwritten refers = follows.closed u o kept (i, sym (follows.unwritten u i kept unwritten) ∙ refers)

pub fixed_unwritten : (s : Space) (m : Moment) (at : Name → ℕ) (st : IncrementStage) → IsMoving s st.found m at st.now st.promoted → FollowsPause m → AreMade m st.promoted
    → (u : Name) (i : ℕ) → IsTrue (has m.unreclaimed u) → i < length (references_at m u) → has_field m.written (u, i) ≡ false → IsFixed s m st u i
fixed_unwritten s m at st is follows made u i kept within unwritten =
    let x = is.stands u (in_first m.unreclaimed m.made u kept) in
    let held : Option Name = slice_index_or (references_at m u) i None in
    let there : slice_get (references_at m u) i ≡ Some held = slice_get-get_or (references_at m u) i None within in
    let in_refs : slice_get x.0.refs i ≡ Some held = ap (λ z. slice_get (refs_of z) i) (sym x.1) ∙ there in
    let known : (o : Name) → held ≡ Some o → IsTrue (has m.unreclaimed o) = λ o e. unwritten_kept m follows u o i kept unwritten (there ∙ ap Some e) in
    record {
      holder = union_right st.promoted m.unreclaimed u kept;
      within = within;
      holds = held_still at st.now ((tables_of s).heap (word_of_field st.now u i)) held (λ o e. unreclaimed_still s st.found m at st.now st.promoted is made follows.apart o (known o e)) (x.2.refs i held in_refs);
      known = λ o e. union_right st.promoted m.unreclaimed o (known o e);
    }
