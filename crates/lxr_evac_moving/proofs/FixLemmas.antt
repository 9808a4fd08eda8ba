-- A reference of an object is written with the place where what it holds stands now.
use Rattle.std.proofs.Common.{◌≡◌, ◌≢◌, ℕ, ◌+◌, ◌*◌, ◌<◌, ◌≤◌, refl, sym, ap, subst, ◌∙◌, inl, inr, ◌⊎◌, arith, length}
use Rattle.std.specs.Prelude.{None, Option, Some, IsTrue, slice_get, slice_index_or}
use Rattle.std.proofs.lemmas.Bool.Decides.{eqb_tells}
use Rattle.std.proofs.lemmas.Option.{get_or_from_slice_get, slice_get-get_or, slice_get_within}
use Rattle.lxr_layout.specs.declared.Name.{Name}
use Rattle.lxr_layout.specs.Objects.{word_count}
use Rattle.lxr_layout.specs.declared.TheConstants.{WORDS_IN_BLOCK}
use Rattle.lxr_layout.specs.Places.{field_word, first_word}
use Rattle.lxr_graph.specs.Names.{has, same_name}
use Rattle.lxr_graph.specs.State.{Object, object_at, refs_of, shape_of}
use Rattle.lxr_graph.proofs.NameSets.{same_names}
use Rattle.lxr_image.specs.declared.space.Space.{Space}
use Rattle.lxr_image.specs.Tables.{Tables}
use Rattle.lxr_image.specs.Spaces.{Turns, tables_of}
use Rattle.lxr_image.specs.Image.{place_word}
use Rattle.lxr_image.specs.ImageLaws.{with_heap}
use Rattle.lxr_image.proofs.ImageLemmas.{words_cover, words_even}
use Rattle.lxr_image.proofs.SpaceLemmas.{still_space}
use Rattle.lxr_model.specs.Moments.{Moment}
use Rattle.lxr_model_counting.proofs.DistinctLemmas.{tested}
use Rattle.lxr_invariant.specs.Standing.{word_of_field}
use Rattle.lxr_invariant.proofs.EntryLemmas.{changed_cases, changed_here}
use Rattle.lxr_pause_promote.specs.Either.{HoldEither, HoldsEither, StandsNow}
use Rattle.lxr_evac_moving.specs.Evacuation.{RefersToOne}
use Rattle.lxr_evac_moving.specs.Stages.{EvacuationStage, HasHeap, HasMoved, IsEvacuating, moved_names}
use Rattle.lxr_evac_moving.specs.Steps.{FixesField, HoldsMember, IsHolder, KeepsFixed}
use Rattle.lxr_evac_moving.proofs.FrameLemmas.{bits_same, evacuating_with, lines_same, turned_changes, turned_outs, turned_tables}
use Rattle.lxr_evac_moving.proofs.FollowLemmas.{field_member}
use Rattle.lxr_evac_moving.proofs.StageLemmas.{moved_in}
use Rattle.lxr_evac_moving.proofs.StandingLemmas.{field_holds, field_within}

-- what has moved if either place isn't the one
pub either_moved : (m : Moment) (st : EvacuationStage) (w : ℕ) (held : Option Name) → HoldsEither st.at st.now w held → w ≢ place_word st.now held → (n : Name) × (held ≡ Some n) × HasMoved st n
either_moved m st w None (inl e) other = absurd (other e)
either_moved m st w None (inr e) other = absurd (other e)
either_moved m st w (Some n) (inl e) other = absurd (other e)
either_moved m st w (Some n) (inr e) other = (n, refl, λ still. other (e ∙ sym still))

-- a word that is written holds what is written, and another what it held
word_cases : (a b : Space) (k w j : ℕ) → Turns a b (with_heap (tables_of a) k w) → ((j ≡ k) × ((tables_of b).heap j ≡ w)) ⊎ ((j ≢ k) × ((tables_of b).heap j ≡ (tables_of a).heap j))
word_cases a b k w j turns =
    let e : (tables_of b).heap j ≡ (with_heap (tables_of a) k w).heap j = ap (λ t. t.heap j) turns.tables in
    elim (changed_cases (tables_of a).heap k w j) [ inl q ↦ inl (q.0, e ∙ q.1) | inr q ↦ inr (q.0, e ∙ q.1) ]

word_written : (a b : Space) (k w : ℕ) → Turns a b (with_heap (tables_of a) k w) → (tables_of b).heap k ≡ w
word_written a b k w turns = ap (λ t. t.heap k) turns.tables ∙ changed_here (tables_of a).heap k w k refl

-- reference i of u's object is written
module _ (a b : Space) (m : Moment) (st : EvacuationStage) (is : IsEvacuating a m st) (u : Name) (i : ℕ) (member : IsTrue (has m.unreclaimed u)) (within : i < length (refs_of (object_at m.state.graph u)))
    (turns : Turns a b (with_heap (tables_of a) (word_of_field st.now u i) (place_word st.now (slice_index_or (refs_of (object_at m.state.graph u)) i None)))) where
  abbrev the_word : ℕ
  the_word = word_of_field st.now u i

  abbrev the_held : Option Name
  the_held = slice_index_or (refs_of (object_at m.state.graph u)) i None

  abbrev cases : (j : ℕ) → ((j ≡ the_word) × ((tables_of b).heap j ≡ place_word st.now the_held)) ⊎ ((j ≢ the_word) × ((tables_of b).heap j ≡ (tables_of a).heap j))
  cases j = word_cases a b the_word (place_word st.now the_held) j turns

  -- only u's object has that word
  own_word : (n : Name) (o : Object) (j : ℕ) → IsTrue (has m.unreclaimed n) → object_at m.state.graph n ≡ Some o → first_word (st.now n) ≤ j → j < first_word (st.now n) + word_count (shape_of o) → j ≡ the_word → n ≡ u
  own_word n o j in_n has_o first behind e = elim (tested (same_name n u)) [
    | inl same ↦ same_names n u same
    | inr differ ↦
        let x = is.heap.stands u member in
        let size : length (refs_of (object_at m.state.graph u)) ≡ length x.0.refs = ap (λ z. length (refs_of z)) x.1 in
        let cover = words_cover x.0 in
        let even_n = words_even o in
        let even_u = words_even x.0 in
        elim (eqb_tells (st.now n) (st.now u)) [
          | inl same ↦ is.apart.own n u (st.now n) in_n member (inr refl) (inr same.1)
          | inr other ↦ elim (is.apart.apart n u o x.0 (st.now n) (st.now u) in_n member has_o x.1 (inr refl) (inr refl) other.1) [
            | inl h ↦ absurd (omega (arith, h, first, behind, e, even_n))
            | inr h ↦ absurd (omega (arith, h, first, e, even_u, cover, size, within))
          ]
        ]
  ]

  -- u's words begin before it, and end behind its references
  word_within : (o : Object) → object_at m.state.graph u ≡ Some o → (first_word (st.now u) + 1 ≤ the_word) × (the_word < first_word (st.now u) + 1 + length o.refs) × (the_word < first_word (st.now u) + word_count (shape_of o))
  word_within o has_o =
      let size : length (refs_of (object_at m.state.graph u)) ≡ length o.refs = ap (λ z. length (refs_of z)) has_o in
      let cover = words_cover o in
      (omega arith, omega (arith, size, within), omega (arith, size, within, cover))

  stands_written : (n : Name) (o : Object) → IsTrue (has m.unreclaimed n) → object_at m.state.graph n ≡ Some o → StandsNow (tables_of a) a.limits.blocks st.at st.now n o → StandsNow (tables_of b) a.limits.blocks st.at st.now n o
  stands_written n o in_n has_o stood =
      let cover = words_cover o in
      let first : ℕ = first_word (st.now n) in
      record {
        placed = stood.placed;
        whole = record {
          name = stood.whole.name;
          shape = stood.whole.shape;
          header = elim (cases first) [
            | inl q ↦ absurd (
                let same : n ≡ u = own_word n o first in_n has_o (omega arith) (omega (arith, cover)) q.0 in
                let after = (word_within o (ap (object_at m.state.graph) (sym same) ∙ has_o)).0 in
                let e = q.0 in
                let there : st.now n ≡ st.now u = ap st.now same in
                omega (arith, after, e, there))
            | inr q ↦ q.1 ∙ stood.whole.header
          ];
          in_heap = stood.whole.in_heap;
          in_block = stood.whole.in_block;
        };
        refs = λ j r e.
            let low = slice_get_within o.refs j r e in
            elim (cases (first + 1 + j)) [
              | inl q ↦
                  let same : n ≡ u = own_word n o (first + 1 + j) in_n has_o (omega arith) (omega (arith, cover, low)) q.0 in
                  let there : st.now n ≡ st.now u = ap st.now same in
                  let word = q.0 in
                  let index : j ≡ i = omega (arith, there, word) in
                  let refs : refs_of (object_at m.state.graph u) ≡ o.refs = ap (λ z. refs_of z) (ap (object_at m.state.graph) (sym same) ∙ has_o) in
                  let held : the_held ≡ r = ap (λ xs. slice_index_or xs i None) refs ∙ get_or_from_slice_get o.refs i r None (ap (slice_get o.refs) (sym index) ∙ e) in
                  inl (q.1 ∙ ap (place_word st.now) held)
              | inr q ↦ subst (λ w. HoldsEither st.at st.now w r) (sym q.1) (stood.refs j r e)
            ];
        values = λ j v e.
            let low = slice_get_within o.values j v e in
            elim (cases (first + 1 + length o.refs + j)) [
              | inl q ↦ absurd (
                  let same : n ≡ u = own_word n o (first + 1 + length o.refs + j) in_n has_o (omega arith) (omega (arith, cover, low)) q.0 in
                  let there : st.now n ≡ st.now u = ap st.now same in
                  let word = q.0 in
                  let before = (word_within o (ap (object_at m.state.graph) (sym same) ∙ has_o)).1 in
                  omega (arith, before, word, there))
              | inr q ↦ q.1 ∙ stood.values j v e
            ];
      }

  -- a place that was left is no word of u's object
  left_written : (n : Name) → HasMoved st n → first_word (st.at n) ≢ the_word
  left_written n moved e =
      let in_n = (is.apart.moved n moved).0 in
      let x = is.heap.stands n in_n in
      let y = is.heap.stands u member in
      let inside = word_within y.0 y.1 in
      let from = inside.0 in
      let end = inside.2 in
      let even = words_even y.0 in
      let even_n = words_even x.0 in
      let cover = words_cover x.0 in
      elim (is.apart.apart n u x.0 y.0 (st.at n) (st.now u) in_n member x.1 y.1 (inl refl) (inr refl) (λ same.
      let one : n ≡ u = is.apart.own n u (st.at n) in_n member (inl refl) (inr same) in
      moved (ap st.now one ∙ sym same))) [
        | inl h ↦ omega (arith, h, e, from, even_n, cover)
        | inr h ↦ omega (arith, h, e, end, even)
      ]

  -- a word that led to no moved object is written with what it held
  unmoved_written : ¬ RefersToOne m st.now (moved_names m st) the_word → (tables_of a).heap the_word ≡ place_word st.now the_held
  unmoved_written none = elim (eqb_tells ((tables_of a).heap the_word) (place_word st.now the_held)) [
    | inl e ↦ e.1
    | inr e ↦
        let x = either_moved m st ((tables_of a).heap the_word) the_held (field_holds a m st is u i member within) e.1 in
        absurd (none (record {
          holder = u;
          held = x.0;
          index = i;
          member = member;
          holds = slice_get-get_or (refs_of (object_at m.state.graph u)) i None within ∙ ap Some x.1;
          one = moved_in m st x.0 (is.apart.moved x.0 x.2).0 x.2;
          word = refl;
        }))
  ]

  heap_written : HasHeap (tables_of b) a.limits.blocks m st
  heap_written = record {
    stands = λ n in_n. let x = is.heap.stands n in_n in (x.0, x.1, stands_written n x.0 in_n x.1 x.2);
    left_behind = λ n moved. elim (cases (first_word (st.at n))) [
      | inl q ↦ absurd (left_written n moved q.0)
      | inr q ↦ q.1 ∙ is.heap.left_behind n moved
    ];
    others = λ w new unfixed. elim (cases w) [
      | inl q ↦
          let here : ¬ RefersToOne m st.now (moved_names m st) the_word = λ refers. unfixed (subst (λ z. RefersToOne m st.now (moved_names m st) z) (sym q.0) refers) in
          q.1 ∙ sym (unmoved_written here) ∙ ap (tables_of a).heap (sym q.0) ∙ is.heap.others w new unfixed
      | inr q ↦ q.1 ∙ is.heap.others w new unfixed
    ];
  }

  pub evacuating_written : IsEvacuating b m st
  evacuating_written =
      let t : Tables = with_heap (tables_of a) the_word (place_word st.now the_held) in
      let outs = turned_outs a b t turns refl refl refl in
      evacuating_with a b m st st.cleared is (turned_tables a b t turns refl) (turned_changes a b t turns) (record {
        space = still_space a b t is.space turns refl;
        heap = subst (λ l. HasHeap (tables_of b) l.blocks m st) (sym outs.limits) heap_written;
        bits = bits_same (tables_of a) (tables_of b) m st (ap (λ x. x.starts) turns.tables) (ap (λ x. x.marks) turns.tables) (ap (λ x. x.grays) turns.tables) (ap (λ x. x.counts) turns.tables)
            (ap (λ x. x.unlogged) turns.tables) is.bits;
        lines = lines_same a b m st outs (ap (λ x. x.counts) turns.tables) is.lines;
        registers = subst (λ (s : Space). HoldEither st.at st.now s.registers.items m.state.registers) (sym turns.rest) is.registers;
        deferred = subst (λ (s : Space). HoldEither st.at st.now s.deferred.items m.last.registers) (sym turns.rest) is.deferred;
      })

  -- what was fixed stays so
  fixed_written : KeepsFixed a b m st
  fixed_written v j fixed =
      let x = is.heap.stands v fixed.member in
      let size : length (refs_of (object_at m.state.graph v)) ≡ length x.0.refs = ap (λ z. length (refs_of z)) x.1 in
      let low = fixed.within in
      let cover = words_cover x.0 in
      record {
        member = fixed.member;
        within = fixed.within;
        holds = elim (cases (word_of_field st.now v j)) [
          | inl q ↦
              let same : v ≡ u = own_word v x.0 (word_of_field st.now v j) fixed.member x.1 (omega arith) (omega (arith, cover, low, size)) q.0 in
              let there : st.now v ≡ st.now u = ap st.now same in
              let word = q.0 in
              let index : j ≡ i = omega (arith, there, word) in
              q.1 ∙ (λ k. place_word st.now (slice_index_or (refs_of (object_at m.state.graph (sym same k))) (sym index k) None))
          | inr q ↦ q.1 ∙ fixed.holds
        ];
      }

  pub field_fixed : FixesField a b m st u i
  field_fixed = record {
    evacuating = evacuating_written;
    fixed = record { member = member; within = within; holds = word_written a b the_word (place_word st.now the_held) turns };
    keeps = fixed_written;
  }

-- where it holds that already, it is fixed
pub field_was_fixed : (s : Space) (m : Moment) (st : EvacuationStage) (n : Name) (i : ℕ) → IsEvacuating s m st → IsTrue (has m.unreclaimed n) → i < length (refs_of (object_at m.state.graph n))
    → (tables_of s).heap (word_of_field st.now n i) ≡ place_word st.now (slice_index_or (refs_of (object_at m.state.graph n)) i None) → FixesField s s m st n i
field_was_fixed s m st n i is member within holds = record { evacuating = is; fixed = record { member = member; within = within; holds = holds }; keeps = λ v j fixed. fixed }

-- ---- as code does it

module _ (s : Space) (m : Moment) (st : EvacuationStage) (is : IsEvacuating s m st) (n : Name) (p i k w : ℕ) (holder : IsHolder m st n p) (within : i < length (refs_of (object_at m.state.graph n))) (here : k ≡ field_word p i) where
  field_there : k ≡ word_of_field st.now n i
  field_there = here ∙ ap (λ z. field_word z i) holder.stands

  -- what is read there
  pub field_read : w ≡ (tables_of s).heap k → w ≡ (tables_of s).heap (word_of_field st.now n i)
  field_read read = read ∙ ap (tables_of s).heap field_there

  -- is either place of what the reference holds
  pub read_member : w ≡ (tables_of s).heap k → HoldsMember m st w (slice_index_or (refs_of (object_at m.state.graph n)) i None)
  read_member read = field_member s m st is n i w holder.member within
      (subst (λ z. HoldsEither st.at st.now z (slice_index_or (refs_of (object_at m.state.graph n)) i None)) (sym (field_read read)) (field_holds s m st is n i holder.member within))

  -- and what is written there is where that stands now
  pub field_put : (b : Space) → w ≡ place_word st.now (slice_index_or (refs_of (object_at m.state.graph n)) i None) → Turns s b (with_heap (tables_of s) k w) → FixesField s b m st n i
  field_put b word turns = field_fixed s b m st is n i holder.member within
      (subst (λ z. Turns s b (with_heap (tables_of s) z (place_word st.now (slice_index_or (refs_of (object_at m.state.graph n)) i None)))) field_there (subst (λ z. Turns s b (with_heap (tables_of s) k z)) word turns))

  -- unless it is there
  pub field_kept : w ≡ (tables_of s).heap k → w ≡ place_word st.now (slice_index_or (refs_of (object_at m.state.graph n)) i None) → FixesField s s m st n i
  field_kept read word = field_was_fixed s m st n i is holder.member within (sym (field_read read) ∙ word)

  pub field_in_heap : k < WORDS_IN_BLOCK * s.limits.blocks
  field_in_heap = let h = field_within s m st is n i p holder.member within (inr holder.stands) in omega (arith, h, here)
