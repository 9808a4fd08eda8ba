-- Words and registers that hold the place of what is held, where it stands now or still where it stood, while objects are copied.
use Rattle.std.proofs.Common.{◌≡◌, ℕ, ◌+◌, ◌*◌, ◌^◌, ◌%◌, ◌/◌, ◌<◌, ◌≤◌, refl, sym, ap, subst, ◌∙◌, inl, inr, ◌⊎◌, arith, true, cond, List, length, map, nat_le}
use Rattle.std.specs.Prelude.{None, Option, Some, slice_get, slice_set}
use Rattle.std.proofs.Math.ListN.{length-map, length-set}
use Rattle.std.proofs.lemmas.Bool.{cases_Bool}
use Rattle.std.proofs.lemmas.Bool.Decides.{nat_tests}
use Rattle.std.proofs.lemmas.Option.{slice_get-map, slice_get_within}
use Rattle.lxr_layout.specs.declared.Header.TheVariants.{Moved, Object as AnObject}
use Rattle.lxr_layout.specs.declared.Name.{Name}
use Rattle.lxr_layout.specs.declared.Place.{Place}
use Rattle.lxr_layout.specs.declared.Shape.{Shape}
use Rattle.lxr_layout.specs.Objects.{header_of, moved_word, word_count}
use Rattle.lxr_layout.specs.Places.{first_word}
use Rattle.lxr_graph.specs.Names.{same_name}
use Rattle.lxr_graph.specs.State.{Object, shape_of}
use Rattle.lxr_graph.proofs.NameSets.{same_names}
use Rattle.lxr_graph.proofs.RowLemmas.{set_cases}
use Rattle.lxr_image.specs.Tables.{Tables}
use Rattle.lxr_image.specs.Reads.{StandsWhole, granule_of}
use Rattle.lxr_image.specs.Image.{ArePlacesOf, granules_of, place_word}
use Rattle.lxr_image.specs.ImageLaws.{placed}
use Rattle.lxr_image.proofs.ImageLemmas.{words_cover}
use Rattle.lxr_image.proofs.NewLemmas.{placed_here, placed_other}
use Rattle.lxr_pause_promote.specs.Either.{HoldEither, HoldsEither, IsPlaceOf, StandsNow}

-- ---- an object

-- it has a granule
pub some_granules : (o : Object) → 1 ≤ granules_of o
some_granules o = omega arith

-- the word that is left behind tells a place
pub moved_unpacked : (p : ℕ) → p < 2 ^ 32 → header_of (moved_word p) ≡ Moved (record { 0 = p })
moved_unpacked p small =
    let w : ℕ = moved_word p in
    let moved : nat_le (2 ^ 63) w ≡ true = grind (arith, nat_tests) in
    let place : w % 2 ^ 32 ≡ p = omega arith in
    ap (λ b. cond b (Moved (record { 0 = w % 2 ^ 32 })) (AnObject (record { thread = w / 2 ^ 52 % 2 ^ 8; serial = w / 2 ^ 20 % 2 ^ 32 }) (record { refs = w / 2 ^ 10 % 2 ^ 10; values = w % 2 ^ 10 }))) moved ∙ ap (λ q. Moved (record { 0 = q })) place

-- ---- an object whose words are as they were

pub whole_on : (t u : Tables) (blocks g : ℕ) (n : Name) (shape : Shape) → u.heap (2 * g) ≡ t.heap (2 * g) → StandsWhole t blocks g n shape → StandsWhole u blocks g n shape
whole_on t u blocks g n shape header is = record { name = is.name; shape = is.shape; header = header ∙ is.header; in_heap = is.in_heap; in_block = is.in_block }

-- it stands at a place where the words behind its header are those that they were, under a map of places that agrees on what it holds
pub stands_moved : (t u : Tables) (blocks : ℕ) (at now to : Name → ℕ) (n : Name) (o : Object) → 1 ≤ to n → StandsWhole u blocks (granule_of (to n)) n (shape_of o)
    → ((i : ℕ) → 1 ≤ i → i < word_count (shape_of o) → u.heap (first_word (to n) + i) ≡ t.heap (first_word (now n) + i))
    → ((w : ℕ) (r : Option Name) → HoldsEither at now w r → HoldsEither at to w r) → StandsNow t blocks at now n o → StandsNow u blocks at to n o
stands_moved t u blocks at now to n o placed whole words holds is =
    let cover = words_cover o in
    record {
      placed = placed;
      whole = whole;
      refs = λ i r e.
          let within = slice_get_within o.refs i r e in
          let there = words (1 + i) (omega arith) (omega (arith, within, cover)) in
          let one : (p : ℕ) → first_word p + (1 + i) ≡ first_word p + 1 + i = λ p. omega arith in
          let same : u.heap (first_word (to n) + 1 + i) ≡ t.heap (first_word (now n) + 1 + i) = sym (ap u.heap (one (to n))) ∙ there ∙ ap t.heap (one (now n)) in
          subst (λ w. HoldsEither at to w r) (sym same) (holds (t.heap (first_word (now n) + 1 + i)) r (is.refs i r e));
      values = λ i v e.
          let within = slice_get_within o.values i v e in
          let there = words (1 + length o.refs + i) (omega arith) (omega (arith, within, cover)) in
          let one : (p : ℕ) → first_word p + (1 + length o.refs + i) ≡ first_word p + 1 + length o.refs + i = λ p. omega arith in
          sym (ap u.heap (one (to n))) ∙ there ∙ ap t.heap (one (now n)) ∙ is.values i v e;
    }

-- so it does where the heap is as it was
pub stands_same : (t u : Tables) (blocks : ℕ) (at now : Name → ℕ) (n : Name) (o : Object) → u.heap ≡ t.heap → StandsNow t blocks at now n o → StandsNow u blocks at now n o
stands_same t u blocks at now n o heap is =
    stands_moved t u blocks at now now n o is.placed (whole_on t u blocks (granule_of (now n)) n (shape_of o) (ap (λ h. h (2 * granule_of (now n))) heap) is.whole)
    (λ i some low. ap (λ h. h (first_word (now n) + i)) heap) (λ w r h. h) is

-- ---- one more place

-- a place is one that it was, or the new one
pub place_split : (at now : Name → ℕ) (o : Name) (p : ℕ) (n : Name) (r : ℕ) → IsPlaceOf at (placed now o p) n r → IsPlaceOf at now n r ⊎ ((n ≡ o) × (r ≡ p))
place_split at now o p n r (inl e) = inl (inl e)
place_split at now o p n r (inr e) = elim (cases_Bool (same_name n o)) [
  | inl same ↦ let one = same_names n o same in inr (one, e ∙ ap (placed now o p) one ∙ placed_here now o p)
  | inr differ ↦ inl (inr (e ∙ placed_other now o p n differ))
]

-- a word that holds either place does so then, where what is placed stood where it was
pub holds_placed : (at now : Name → ℕ) (o : Name) (p w : ℕ) (r : Option Name) → now o ≡ at o → HoldsEither at now w r → HoldsEither at (placed now o p) w r
holds_placed at now o p w r still (inr e) = inr e
holds_placed at now o p w None still (inl e) = inl e
holds_placed at now o p w (Some v) still (inl e) = elim (cases_Bool (same_name v o)) [
  | inl same ↦ let one = same_names v o same in inr (e ∙ ap now one ∙ still ∙ ap at (sym one))
  | inr differ ↦ inl (e ∙ sym (placed_other now o p v differ))
]

-- ---- what stands where it stood

-- nothing has moved, so either place is the same
pub place_began : (at : Name → ℕ) (n : Name) (p : ℕ) → IsPlaceOf at at n p → p ≡ at n
place_began at n p (inl e) = e
place_began at n p (inr e) = e

-- where what is held stands where it stood, either place is the one
pub held_still : (at now : Name → ℕ) (w : ℕ) (held : Option Name) → ((o : Name) → held ≡ Some o → now o ≡ at o) → HoldsEither at now w held → w ≡ place_word now held
held_still at now w held still (inl e) = e
held_still at now w None still (inr e) = e
held_still at now w (Some o) still (inr e) = e ∙ sym (still o refl)

-- registers hold either place where nothing has moved
pub held_began : (at : Name → ℕ) (places : List Place) (names : List (Option Name)) → ArePlacesOf at places names → HoldEither at at places names
held_began at places names is = record {
  as_many = sym (length-map places (λ p. p.0)) ∙ ap length is ∙ length-map names (place_word at);
  each = λ k p r e f.
      let a : slice_get (map (λ (q : Place). q.0) places) k ≡ Some p.0 = slice_get-map (λ (q : Place). q.0) places k ∙ ap (λ x. option_place x) e in
      let b : slice_get (map (place_word at) names) k ≡ Some (place_word at r) = slice_get-map (place_word at) names k ∙ ap (λ x. option_word at x) f in
      let same : Some p.0 ≡ Some (place_word at r) = sym a ∙ ap (λ xs. slice_get xs k) is ∙ b in
      inl (cc);
}
  where
    option_place : Option Place → Option ℕ
    option_place x = elim x [ None ↦ None | Some q ↦ Some q.0 ]

    option_word : (Name → ℕ) → Option (Option Name) → Option ℕ
    option_word to x = elim x [ None ↦ None | Some q ↦ Some (place_word to q) ]

-- ---- a register is written

-- with the place where what it is to hold stands now
pub hold_written : (at now : Name → ℕ) (places : List Place) (held : List (Option Name)) (k : ℕ) (p : Place) (r : Option Name) → slice_get held k ≡ Some r → p.0 ≡ place_word now r → HoldEither at now places held
    → HoldEither at now (slice_set places k p) held
hold_written at now places held k p r has_k place is =
    let low = slice_get_within held k r has_k in
    let many = is.as_many in
    record {
      as_many = length-set places k p ∙ is.as_many;
      each = λ j q x place_is held_is. elim (set_cases places k p j q (omega (arith, low, many)) place_is) [
        | inl c ↦
            let same : Some r ≡ Some x = sym has_k ∙ ap (slice_get held) (sym c.0) ∙ held_is in
            let one : r ≡ x = cc in
            inl (ap (λ y. y.0) (sym c.1) ∙ place ∙ ap (place_word now) one)
        | inr c ↦ is.each j q x c.1 held_is
      ];
    }
