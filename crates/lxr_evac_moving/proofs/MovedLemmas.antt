-- An object is moved: it stands where it was copied to, and all others stand where they stood.
use Rattle.std.proofs.Common.{◌≡◌, ◌≢◌, ℕ, ◌+◌, ◌/◌, ◌<◌, ◌≤◌, refl, sym, ap, subst, ◌∙◌, inl, inr, ◌⊎◌, arith, true, false, List}
use Rattle.std.specs.Prelude.{Option, Some, IsTrue}
use Rattle.std.proofs.lemmas.Bool.Decides.{leb_tells}
use Rattle.lxr_layout.specs.declared.Name.{Name}
use Rattle.lxr_layout.specs.declared.Place.{Place}
use Rattle.lxr_layout.specs.declared.Shape.{Shape}
use Rattle.lxr_layout.specs.declared.TheConstants.{GRANULES_IN_BLOCK, GRANULES_IN_LINE}
use Rattle.lxr_layout.specs.Objects.{moved_word, word_count}
use Rattle.lxr_layout.specs.Places.{first_word}
use Rattle.lxr_graph.specs.Names.{has, same_name}
use Rattle.lxr_graph.specs.State.{Object, object_at, shape_of}
use Rattle.lxr_graph.proofs.NameSets.{same_itself, same_names}
use Rattle.lxr_image.specs.declared.space.Space.{Space}
use Rattle.lxr_image.specs.Tables.{Tables}
use Rattle.lxr_image.specs.Spaces.{tables_of}
use Rattle.lxr_image.specs.Reads.{StandsWhole, granule_of}
use Rattle.lxr_image.specs.Image.{granules_of}
use Rattle.lxr_image.specs.ImageLaws.{placed}
use Rattle.lxr_image.proofs.ImageLemmas.{words_cover, words_even}
use Rattle.lxr_image.proofs.NewLemmas.{placed_here, placed_other}
use Rattle.lxr_blocks.specs.declared.states.BlockState.TheVariants.{Chosen}
use Rattle.lxr_blocks.specs.Kept.{IsAmong, IsKeptGranule, KeepsGranules}
use Rattle.lxr_blocks.specs.Placing.{IsFull}
use Rattle.lxr_blocks.specs.States.{state_in}
use Rattle.lxr_blocks.proofs.BesideLemmas.{was_open}
use Rattle.lxr_model.specs.Moments.{Moment}
use Rattle.lxr_model_counting.proofs.DistinctLemmas.{tested}
use Rattle.lxr_invariant.specs.Copied.{CopiesLieOnFreeLines, HasCopy, HasWord}
use Rattle.lxr_invariant.specs.Lines.{Covers}
use Rattle.lxr_invariant.specs.Standing.{place_of}
use Rattle.lxr_invariant.specs.Tracing.{IsInChosen}
use Rattle.lxr_invariant.proofs.BlockLemmas.{still_not}
use Rattle.lxr_invariant.proofs.PlaceLemmas.{same_object}
use Rattle.lxr_pause_promote.specs.Either.{HoldEither, IsPlaceOf, StandsNow}
use Rattle.lxr_pause_promote.proofs.CopyLemmas.{StandsBeside}
use Rattle.lxr_pause_promote.proofs.EitherLemmas.{holds_placed, place_split, some_granules, stands_moved, whole_on}
use Rattle.lxr_pause_promote.proofs.FewerLemmas.{Grows, state_back, states_joined, handed_on}
use Rattle.lxr_pause_promote.proofs.WordLemmas.{ranges_apart}
use Rattle.lxr_evac_moving.specs.Stages.{AreMovedApart, EvacuationStage, HasBitsAndCounts, HasHeap, HasLines, HasMoved, HasPlace, IsMovingAway, IsTaken, kept_names, moved_names, with_changed_tables, with_changes}
use Rattle.lxr_evac_moving.specs.Steps.{with_taken_over}
use Rattle.lxr_evac_moving.proofs.LookedLemmas.{looked_to}
use Rattle.lxr_evac_moving.proofs.StageLemmas.{moved_in, moved_parts, place_has, place_is, stands}
use Rattle.lxr_blocks.proofs.FreeLemmas.{free_joined}

-- the stage once an object is moved to a place
abbrev pub moved_to : EvacuationStage → Name → ℕ → EvacuationStage
moved_to st o p = looked_to st (granule_of (st.at o) + 1) (placed st.now o p)

-- An object of a Chosen block was copied to a place, and has its bits and its count there.
pub record IsMovedTo (a c : Space) (m : Moment) (st : EvacuationStage) (o : Name) (q : Place) (object : Object) : Type 0 where
  pub moving : IsMovingAway a m st
  pub member : IsTrue (has m.unreclaimed o)
  pub is : object_at m.state.graph o ≡ Some object
  pub still : st.now o ≡ st.at o
  pub unlooked : st.looked ≤ granule_of (st.at o)
  pub chosen : IsInChosen (tables_of st.found) st.at o
  pub beside : StandsBeside a c (with_taken_over (tables_of a) (st.at o) q.0 (shape_of object)) (IsTaken m st) (place_of st.at o) q o (shape_of object)
  pub grows : Grows (tables_of a) (tables_of c)
  -- what had no room has none then
  pub full : (w : Shape) → IsFull a w → IsFull c w

module _ (a c : Space) (m : Moment) (st : EvacuationStage) (o : Name) (q : Place) (object : Object) (is : IsMovedTo a c m st o q object) where
  abbrev now' : Name → ℕ
  now' = placed st.now o q.0

  abbrev later : EvacuationStage
  later = moved_to st o q.0

  limits_then : c.limits ≡ a.limits
  limits_then = ap (λ s. s.limits) is.beside.space

  -- ---- places

  -- where an object is, nothing is placed
  pub taken_apart : (n : Name) (x : Object) (r : ℕ) → IsTrue (has m.unreclaimed n) → object_at m.state.graph n ≡ Some x → IsPlaceOf st.at st.now n r
      → (granule_of r + granules_of x ≤ granule_of q.0) ⊎ (granule_of q.0 + granules_of object ≤ granule_of r)
  taken_apart n x r in_n has_x place = ranges_apart (granule_of r) (granules_of x) (granule_of q.0) (granules_of object) (some_granules x) (some_granules object) (λ k here. is.beside.apart k (record {
    name = n;
    object = x;
    place = r;
    member = in_n;
    is = has_x;
    has_place = place_has st n r is.moving.uncleared place;
    among = here;
  }))

  pub not_there : (n : Name) (r : ℕ) → IsTrue (has m.unreclaimed n) → IsPlaceOf st.at st.now n r → granule_of r ≢ granule_of q.0
  not_there n r in_n place e =
      let x = is.moving.evacuating.heap.stands n in_n in
      let some = some_granules x.0 in
      let other = some_granules object in
      elim (taken_apart n x.0 r in_n x.1 place) [ inl h ↦ omega (arith, h, e, some) | inr h ↦ omega (arith, h, e, other) ]

  not_at : (n : Name) (r : ℕ) → IsTrue (has m.unreclaimed n) → IsPlaceOf st.at st.now n r → r ≢ q.0
  not_at n r in_n place e = not_there n r in_n place (ap granule_of e)

  split : (n : Name) (r : ℕ) → IsPlaceOf st.at now' n r → IsPlaceOf st.at st.now n r ⊎ ((n ≡ o) × (r ≡ q.0))
  split n r place = place_split st.at st.now o q.0 n r place

  -- a place where bits stand is one where they stood, or the new one
  pub has_split : (n : Name) (r : ℕ) → HasPlace later n r → HasPlace st n r ⊎ ((n ≡ o) × (r ≡ q.0))
  has_split n r place = elim (split n r (place_is later n r place)) [ inl old ↦ inl (place_has st n r is.moving.uncleared old) | inr new ↦ inr new ]

  pub has_still : (n : Name) (r : ℕ) → HasPlace st n r → HasPlace later n r
  has_still n r (inr there) = inr there
  has_still n r (inl e) = elim (tested (same_name n o)) [
    | inl same ↦ let one = same_names n o same in inr (e ∙ ap st.now one ∙ is.still ∙ ap st.at (sym one), let none = is.moving.uncleared in omega (arith, none))
    | inr differ ↦ inl (e ∙ sym (placed_other st.now o q.0 n differ))
  ]

  pub has_new : HasPlace later o q.0
  has_new = inl (sym (placed_here st.now o q.0))

  -- o has moved
  moved_then : HasMoved later o
  moved_then e = not_at o (st.at o) is.member (inl refl) (sym e ∙ placed_here st.now o q.0)

  -- and what had moved has, which isn't o
  moved_differs : (n : Name) → HasMoved st n → same_name n o ≡ false
  moved_differs n moved = elim (tested (same_name n o)) [
    | inl same ↦ let one = same_names n o same in absurd (moved (ap st.now one ∙ is.still ∙ ap st.at (sym one)))
    | inr differ ↦ differ
  ]

  moved_still : (n : Name) → HasMoved st n → HasMoved later n
  moved_still n moved e = moved (sym (placed_other st.now o q.0 n (moved_differs n moved)) ∙ e)

  moved_split : (n : Name) → HasMoved later n → (n ≡ o) ⊎ (HasMoved st n × (now' n ≡ st.now n))
  moved_split n moved = elim (tested (same_name n o)) [
    | inl same ↦ inl (same_names n o same)
    | inr differ ↦ let there = placed_other st.now o q.0 n differ in inr (λ e. moved (there ∙ e), there)
  ]

  names_still : (n : Name) → IsTrue (has (moved_names m st) n) → IsTrue (has (moved_names m later) n)
  names_still n h = let p = moved_parts m st n h in moved_in m later n p.0 (moved_still n p.1)

  names_split : (n : Name) → IsTrue (has (moved_names m later) n) → (n ≡ o) ⊎ (IsTrue (has (moved_names m st) n) × (now' n ≡ st.now n))
  names_split n h = let p = moved_parts m later n h in elim (moved_split n p.1) [ inl e ↦ inl e | inr old ↦ inr (moved_in m st n p.0 old.0, old.1) ]

  names_new : IsTrue (has (moved_names m later) o)
  names_new = moved_in m later o is.member moved_then

  -- o's object is the one that was moved
  pub is_object : (n : Name) (x : Object) → object_at m.state.graph n ≡ Some x → n ≡ o → x ≡ object
  is_object n x has_x same = same_object m.state.graph o x object (ap (object_at m.state.graph) (sym same) ∙ has_x) is.is

  covers_elsewhere : (n : Name) (x : Object) (k : ℕ) → now' n ≡ st.now n → Covers m.state.graph now' n x k → Covers m.state.graph st.now n x k
  covers_elsewhere n x k there covers =
      let first = covers.first in
      let behind = covers.behind in
      record { object = covers.object; first = omega (arith, first, there); behind = omega (arith, behind, there) }

  covers_here : (n : Name) (x : Object) (k : ℕ) → n ≡ o → Covers m.state.graph now' n x k → IsAmong (granule_of q.0) (granules_of object) k
  covers_here n x k one covers =
      let here : now' n ≡ q.0 = ap now' one ∙ placed_here st.now o q.0 in
      let size : granules_of x ≡ granules_of object = ap granules_of (is_object n x covers.object one) in
      let first = covers.first in
      let behind = covers.behind in
      (omega (arith, first, here), omega (arith, behind, here, size))

  -- ---- where objects stand

  apart_then : AreMovedApart m later
  apart_then = record {
    moved = λ n moved. elim (moved_split n moved) [
      | inl one ↦ subst (λ z. IsTrue (has m.unreclaimed z) × IsInChosen (tables_of st.found) st.at z × (granule_of (st.at z) < granule_of (st.at o) + 1)) (sym one) (is.member, is.chosen, omega arith)
      | inr old ↦
          let was = is.moving.evacuating.apart.moved n old.0 in
          let low = was.2 in
          let unlooked = is.unlooked in
          (was.0, was.1, omega (arith, low, unlooked))
    ];
    away = λ n moved. elim (moved_split n moved) [
      | inl one ↦ λ e. away_then (subst (λ p. state_in (tables_of st.found) (granule_of p / GRANULES_IN_BLOCK) ≡ Chosen) (ap now' one ∙ placed_here st.now o q.0) e)
      | inr old ↦ λ e. is.moving.evacuating.apart.away n old.0 (subst (λ p. state_in (tables_of st.found) (granule_of p / GRANULES_IN_BLOCK) ≡ Chosen) old.1 e)
    ];
    onto = onto_then;
    own = own_then;
    apart = places_apart;
  }
    where
      away_then : state_in (tables_of st.found) (granule_of q.0 / GRANULES_IN_BLOCK) ≢ Chosen
      away_then = still_not (tables_of a) (tables_of st.found) (granule_of q.0 / GRANULES_IN_BLOCK) Chosen refl
          (state_back (tables_of st.found) (tables_of a) (granule_of q.0 / GRANULES_IN_BLOCK) (is.moving.evacuating.lines.states (granule_of q.0 / GRANULES_IN_BLOCK))) is.beside.unchosen

      onto_then : CopiesLieOnFreeLines st.found m st.at now' (moved_names m later)
      onto_then n x k h moved covers = elim (names_split n h) [
        | inl one ↦ was_open st.found a is.moving.kept_before k (is.beside.onto k (covers_here n x k one covers))
        | inr old ↦ is.moving.evacuating.apart.onto n x k old.0 (λ e. moved (old.1 ∙ e)) (covers_elsewhere n x k old.1 covers)
      ]

      own_then : (n u : Name) (r : ℕ) → IsTrue (has m.unreclaimed n) → IsTrue (has m.unreclaimed u) → IsPlaceOf st.at now' n r → IsPlaceOf st.at now' u r → n ≡ u
      own_then n u r in_n in_u here there = elim (split n r here) [
        | inl old ↦ elim (split u r there) [
          | inl other ↦ is.moving.evacuating.apart.own n u r in_n in_u old other
          | inr new ↦ absurd (not_at n r in_n old new.1)
        ]
        | inr new ↦ elim (split u r there) [
          | inl other ↦ absurd (not_at u r in_u other new.1)
          | inr other ↦ new.0 ∙ sym other.0
        ]
      ]

      places_apart : (n u : Name) (x y : Object) (r z : ℕ) → IsTrue (has m.unreclaimed n) → IsTrue (has m.unreclaimed u) → object_at m.state.graph n ≡ Some x → object_at m.state.graph u ≡ Some y
          → IsPlaceOf st.at now' n r → IsPlaceOf st.at now' u z → r ≢ z → (granule_of r + granules_of x ≤ granule_of z) ⊎ (granule_of z + granules_of y ≤ granule_of r)
      places_apart n u x y r z in_n in_u has_x has_y here there ne = elim (split n r here) [
        | inl old ↦ elim (split u z there) [
          | inl other ↦ is.moving.evacuating.apart.apart n u x y r z in_n in_u has_x has_y old other ne
          | inr new ↦
              let size : granules_of y ≡ granules_of object = ap granules_of (is_object u y has_y new.0) in
              let place = new.1 in
              elim (taken_apart n x r in_n has_x old) [ inl h ↦ inl (omega (arith, h, place)) | inr h ↦ inr (omega (arith, h, place, size)) ]
        ]
        | inr new ↦ elim (split u z there) [
          | inl other ↦
              let size : granules_of x ≡ granules_of object = ap granules_of (is_object n x has_x new.0) in
              let place = new.1 in
              elim (taken_apart u y z in_u has_y other) [ inl h ↦ inr (omega (arith, h, place)) | inr h ↦ inl (omega (arith, h, place, size)) ]
          | inr other ↦ absurd (ne (new.1 ∙ sym other.1))
        ]
      ]

  -- ---- the heap

  -- the words of another object are as they were
  words_stay : (n : Name) (x : Object) (r i : ℕ) → IsTrue (has m.unreclaimed n) → object_at m.state.graph n ≡ Some x → IsPlaceOf st.at st.now n r → r ≢ st.at o → i < word_count (shape_of x)
      → (tables_of c).heap (first_word r + i) ≡ (tables_of a).heap (first_word r + i)
  words_stay n x r i in_n has_x place elsewhere low =
      let even = words_even x in
      let even_o = words_even object in
      let cover = words_cover object in
      is.beside.others (first_word r + i)
      (λ e. elim (is.moving.evacuating.apart.apart n o x object r (st.at o) in_n is.member has_x is.is place (inl refl) elsewhere) [
        | inl h ↦ omega (arith, h, e, low, even, even_o, cover)
        | inr h ↦ omega (arith, h, e, even, even_o, cover)
      ])
      (elim (taken_apart n x r in_n has_x place) [ inl h ↦ inl (omega (arith, h, low, even)) | inr h ↦ inr (omega (arith, h, even_o)) ])

  -- it stands elsewhere than o
  other_place : (n : Name) (r : ℕ) → IsTrue (has m.unreclaimed n) → IsPlaceOf st.at st.now n r → same_name n o ≡ false → r ≢ st.at o
  other_place n r in_n place differ e =
      let same : n ≡ o = is.moving.evacuating.apart.own n o r in_n is.member place (inl e) in
      let told : same_name n o ≡ true = ap (same_name n) (sym same) ∙ same_itself n in
      cc

  header_stays : (n : Name) (x : Object) (r : ℕ) → IsTrue (has m.unreclaimed n) → object_at m.state.graph n ≡ Some x → IsPlaceOf st.at st.now n r → same_name n o ≡ false
      → (tables_of c).heap (first_word r) ≡ (tables_of a).heap (first_word r)
  header_stays n x r in_n has_x place differ =
      let cover = words_cover x in
      let first : first_word r + 0 ≡ first_word r = omega arith in
      ap (tables_of c).heap (sym first) ∙ words_stay n x r 0 in_n has_x place (other_place n r in_n place differ) (omega (arith, cover)) ∙ ap (tables_of a).heap first

  -- o stands at the new place
  copy_stands : StandsNow (tables_of c) c.limits.blocks st.at now' o object
  copy_stands =
      let was : StandsNow (tables_of a) c.limits.blocks st.at st.now o object = subst (λ l. StandsNow (tables_of a) l.blocks st.at st.now o object) (sym limits_then)
      (stands a m st is.moving.evacuating o object is.member is.is) in
      let here : now' o ≡ q.0 = placed_here st.now o q.0 in
      stands_moved (tables_of a) (tables_of c) c.limits.blocks st.at st.now now' o object (subst (λ z. 1 ≤ z) (sym here) is.beside.stands.placed)
      (subst (λ z. StandsWhole (tables_of c) c.limits.blocks (granule_of z) o (shape_of object)) (sym here) is.beside.stands.whole)
      (λ i some low. ap (λ z. (tables_of c).heap (first_word z + i)) here ∙ is.beside.words i some low ∙ ap (λ z. (tables_of a).heap (first_word z + i)) (sym is.still))
      (λ w r. holds_placed st.at st.now o q.0 w r is.still) was

  -- and others where they stood
  other_stands : (n : Name) (x : Object) → IsTrue (has m.unreclaimed n) → object_at m.state.graph n ≡ Some x → same_name n o ≡ false → StandsNow (tables_of a) a.limits.blocks st.at st.now n x
      → StandsNow (tables_of c) a.limits.blocks st.at now' n x
  other_stands n x in_n has_x differ whole =
      let there : now' n ≡ st.now n = placed_other st.now o q.0 n differ in
      stands_moved (tables_of a) (tables_of c) a.limits.blocks st.at st.now now' n x (subst (λ z. 1 ≤ z) (sym there) whole.placed)
      (subst (λ z. StandsWhole (tables_of c) a.limits.blocks (granule_of z) n (shape_of x)) (sym there)
      (whole_on (tables_of a) (tables_of c) a.limits.blocks (granule_of (st.now n)) n (shape_of x) (header_stays n x (st.now n) in_n has_x (inr refl) differ) whole.whole))
      (λ i some low. ap (λ z. (tables_of c).heap (first_word z + i)) there ∙ words_stay n x (st.now n) i in_n has_x (inr refl) (other_place n (st.now n) in_n (inr refl) differ) low)
      (λ w r. holds_placed st.at st.now o q.0 w r is.still) whole

  -- a heap word that is none of those is as it was
  unfixed_then : (w : ℕ) → ((n : Name) → IsTrue (has (moved_names m later) n) → (w ≢ first_word (st.at n)) × ¬ HasWord m.state.graph now' n w) → (tables_of c).heap w ≡ (tables_of st.found).heap w
  unfixed_then w outside =
      is.beside.others w (outside o names_new).0 (beyond w (outside o names_new).1)
      ∙ is.moving.unfixed w (λ n h. ((outside n (names_still n h)).0, words_before w n h (outside n (names_still n h)).1))
    where
      beyond : (w : ℕ) → ¬ HasWord m.state.graph now' o w → (w < first_word q.0) ⊎ (first_word q.0 + word_count (shape_of object) ≤ w)
      beyond w none = elim (leb_tells (first_word q.0) w) [
        | inr low ↦ let l = low.1 in inl (omega (arith, l))
        | inl from ↦ elim (leb_tells (first_word q.0 + word_count (shape_of object)) w) [
          | inl high ↦ inr high.1
          | inr below ↦
              let here : now' o ≡ q.0 = placed_here st.now o q.0 in
              let first = from.1 in
              let end = below.1 in
              absurd (none (record { object = object; is = is.is; first = omega (arith, first, here); behind = omega (arith, end, here) }))
        ]
      ]

      words_before : (w : ℕ) (n : Name) → IsTrue (has (moved_names m st) n) → ¬ HasWord m.state.graph now' n w → ¬ HasWord m.state.graph st.now n w
      words_before w n h none word =
          let there = placed_other st.now o q.0 n (moved_differs n (moved_parts m st n h).1) in
          let first = word.first in
          let end = word.behind in
          none (record { object = word.object; is = word.is; first = omega (arith, first, there); behind = omega (arith, end, there) })

  heap_then : HasHeap (tables_of c) c.limits.blocks m later
  heap_then = record {
    stands = λ n in_n. elim (tested (same_name n o)) [
      | inl same ↦ subst (λ v. (x : Object) × (object_at m.state.graph v ≡ Some x) × StandsNow (tables_of c) c.limits.blocks st.at now' v x) (sym (same_names n o same)) (object, is.is, copy_stands)
      | inr differ ↦ let x = is.moving.evacuating.heap.stands n in_n in
          (x.0, x.1, subst (λ l. StandsNow (tables_of c) l.blocks st.at now' n x.0) (sym limits_then) (other_stands n x.0 in_n x.1 differ x.2))
    ];
    left_behind = λ n moved. elim (moved_split n moved) [
      | inl one ↦ ap (λ v. (tables_of c).heap (first_word (st.at v))) one ∙ is.beside.moved ∙ ap moved_word (sym (ap now' one ∙ placed_here st.now o q.0))
      | inr old ↦
          let in_n = (is.moving.evacuating.apart.moved n old.0).0 in
          let x = is.moving.evacuating.heap.stands n in_n in
          header_stays n x.0 (st.at n) in_n x.1 (inl refl) (moved_differs n old.0) ∙ is.moving.evacuating.heap.left_behind n old.0 ∙ ap moved_word (sym old.1)
    ];
    others = λ w outside unfixed. unfixed_then w outside;
  }

  -- ---- lines

  kept_then : KeepsGranules c (IsTaken m later)
  kept_then = record { lines = λ k taken. is.beside.kept.lines k (taken_split k taken); rest = λ k taken. is.beside.kept.rest k (taken_split k taken) }
    where
      taken_split : (k : ℕ) → IsTaken m later k → IsTaken m st k ⊎ IsAmong (granule_of q.0) (granules_of object) k
      taken_split k taken = elim (has_split taken.name taken.place taken.has_place) [
        | inl old ↦ inl (record { name = taken.name; object = taken.object; place = taken.place; member = taken.member; is = taken.is; has_place = old; among = taken.among })
        | inr new ↦
            let size : granules_of taken.object ≡ granules_of object = ap granules_of (is_object taken.name taken.object taken.is new.0) in
            let place = new.1 in
            let first = taken.among.0 in
            let behind = taken.among.1 in
            inr (omega (arith, first, place), omega (arith, behind, place, size))
      ]

  copy_more : (line : ℕ) → HasCopy m.state.graph st.at st.now (moved_names m st) line → HasCopy m.state.graph st.at now' (moved_names m later) line
  copy_more line copy =
      let there : now' copy.name ≡ st.now copy.name = placed_other st.now o q.0 copy.name (moved_differs copy.name copy.moved) in
      let first = copy.covers.first in
      let behind = copy.covers.behind in
      record {
        name = copy.name;
        promoted_is = names_still copy.name copy.promoted_is;
        moved = λ e. copy.moved (sym there ∙ e);
        object = copy.object;
        granule = copy.granule;
        covers = record { object = copy.covers.object; first = omega (arith, first, there); behind = omega (arith, behind, there) };
        line_is = copy.line_is;
      }

  copy_new : (line k : ℕ) → IsAmong (granule_of q.0) (granules_of object) k → k / GRANULES_IN_LINE ≡ line → HasCopy m.state.graph st.at now' (moved_names m later) line
  copy_new line k among line_is =
      let here : now' o ≡ q.0 = placed_here st.now o q.0 in
      let first = among.0 in
      let behind = among.1 in
      record {
        name = o;
        promoted_is = names_new;
        moved = moved_then;
        object = object;
        granule = k;
        covers = record { object = is.is; first = omega (arith, first, here); behind = omega (arith, behind, here) };
        line_is = line_is;
      }

  copy_split : (line : ℕ) → HasCopy m.state.graph st.at now' (moved_names m later) line
      → HasCopy m.state.graph st.at st.now (moved_names m st) line ⊎ ((k : ℕ) × IsAmong (granule_of q.0) (granules_of object) k × (k / GRANULES_IN_LINE ≡ line))
  copy_split line copy = elim (names_split copy.name copy.promoted_is) [
    | inl one ↦ inr (copy.granule, covers_here copy.name copy.object copy.granule one copy.covers, copy.line_is)
    | inr old ↦ inl (record {
      name = copy.name;
      promoted_is = old.0;
      moved = λ e. copy.moved (old.1 ∙ e);
      object = copy.object;
      granule = copy.granule;
      covers = covers_elsewhere copy.name copy.object copy.granule old.1 copy.covers;
      line_is = copy.line_is;
    })
  ]

  lines_then : kept_names m later ≡ kept_names m st → HasLines c m later
  lines_then same = record {
    rest = is.beside.is_rest;
    kept = kept_then;
    outs = λ line. (
      λ out. elim ((is.beside.outs line).0 out) [
        | inl old ↦ elim ((lines.outs line).0 old) [ inl was ↦ inl was | inr copy ↦ inr (copy_more line copy) ]
        | inr new ↦ inr (copy_new line new.0 new.1 new.2)
      ],
      λ out. (is.beside.outs line).1 (elim out [
        | inl was ↦ inl ((lines.outs line).1 (inl was))
        | inr copy ↦ elim (copy_split line copy) [ inl old ↦ inl ((lines.outs line).1 (inr old)) | inr new ↦ inr new ]
      ]),
    );
    reuse = λ line. is.beside.reuse line
        ∙ handed_on ((tables_of c).outs line) ((tables_of a).outs line) ((tables_of st.found).outs line) ((tables_of a).reuse line) ((tables_of st.found).reuse line) (is.grows.outs line)
        (λ was. (lines.outs line).1 (inl was)) (lines.reuse line);
    states = λ b. states_joined (tables_of st.found) (tables_of a) (tables_of c) b (lines.states b) (is.beside.states b);
    free = free_joined (tables_of st.found) (tables_of a) (tables_of c) lines.free is.beside.free;
    wanting = λ n x kept has_x. is.full (shape_of x) (lines.wanting n x (subst (λ ns. IsTrue (has ns n)) same kept) has_x);
  }
    where
      lines : HasLines a m st
      lines = is.moving.evacuating.lines

  -- ---- registers

  hold_then : (places : List Place) (held : List (Option Name)) → HoldEither st.at st.now places held → HoldEither st.at now' places held
  hold_then places held hold = record { as_many = hold.as_many; each = λ k p r e f. holds_placed st.at st.now o q.0 p.0 r is.still (hold.each k p r e f) }

  -- ---- all else

  tables_then : tables_of c ≡ with_changed_tables (tables_of st.found) (tables_of c)
  tables_then =
      let t : Tables = tables_of c in
      is.beside.tables
      ∙ ap (λ (x : Tables). record (with_taken_over x (st.at o) q.0 (shape_of object)) { heap = t.heap; outs = t.outs; reuse = t.reuse; states = t.states }) is.moving.evacuating.tables
      ∙ ap (λ (x : Tables). record (with_changed_tables (tables_of st.found) x) { heap = t.heap; outs = t.outs; reuse = t.reuse; states = t.states }) (sym is.beside.tables)

  changes_then : c ≡ with_changes st.found c
  changes_then =
      is.beside.space
      ∙ ap (λ (x : Space). record x { words = c.words; rest_next = c.rest_next; rest_end = c.rest_end }) is.moving.evacuating.changes
      ∙ ap (λ (x : Space). record (with_changes st.found x) { words = c.words; rest_next = c.rest_next; rest_end = c.rest_end }) (sym is.beside.space)

  -- ---- an object is moved

  pub moving_then : HasBitsAndCounts (tables_of c) m later → kept_names m later ≡ kept_names m st → KeepsGranules c (IsKeptGranule st.found) → IsMovingAway c m later
  moving_then bits same kept_before = record {
    evacuating = record {
      can = is.moving.evacuating.can;
      space = is.beside.stands.space;
      apart = apart_then;
      heap = heap_then;
      bits = bits;
      lines = lines_then same;
      registers = subst (λ xs. HoldEither st.at now' xs m.state.registers) (sym (ap (λ s. s.registers.items) is.beside.space)) (hold_then a.registers.items m.state.registers is.moving.evacuating.registers);
      deferred = subst (λ xs. HoldEither st.at now' xs m.last.registers) (sym (ap (λ s. s.deferred.items) is.beside.space)) (hold_then a.deferred.items m.last.registers is.moving.evacuating.deferred);
      tables = tables_then;
      changes = changes_then;
    };
    uncleared = is.moving.uncleared;
    unfixed = unfixed_then;
    kept_before = kept_before;
  }
