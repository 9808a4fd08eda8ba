-- A new object is promoted where it was made, or copied to where nothing stood: objects move on.
use Rattle.std.proofs.Common.{◌≡◌, ◌≢◌, ℕ, ◌+◌, ◌*◌, ◌/◌, ◌%◌, ◌^◌, ◌<◌, ◌≤◌, refl, sym, ap, subst, ◌∙◌, inl, inr, ◌⊎◌, arith, true, false, List, ◌∷◌}
use Rattle.std.specs.Prelude.{◌↔◌, ◌&&◌, not, if◌then◌else◌, Some, IsTrue}
use Rattle.std.proofs.lemmas.Bool.{or_cases, or_left, or_right}
use Rattle.std.proofs.lemmas.Bool.Decides.{leb_tells}
use Rattle.lxr_layout.specs.declared.Name.{Name}
use Rattle.lxr_layout.specs.declared.Place.{Place}
use Rattle.lxr_layout.specs.declared.TheConstants.{GRANULES_IN_BLOCK, GRANULES_IN_LINE}
use Rattle.lxr_layout.specs.declared.runs.Run.{Run}
use Rattle.lxr_layout.specs.Objects.{line_count, moved_word, word_count}
use Rattle.lxr_layout.specs.Places.{first_word}
use Rattle.lxr_graph.specs.Names.{has, same_name}
use Rattle.lxr_graph.specs.State.{Object, object_at, shape_of}
use Rattle.lxr_graph.proofs.NameSets.{same_itself, same_names, union_cases, union_left, union_right}
use Rattle.lxr_image.specs.declared.space.Space.{Space}
use Rattle.lxr_image.specs.Tables.{Tables}
use Rattle.lxr_image.specs.Spaces.{Turns, tables_of}
use Rattle.lxr_image.specs.Reads.{StandsWhole, granule_of}
use Rattle.lxr_image.specs.Image.{ArePlacesOf, granules_of}
use Rattle.lxr_image.specs.ImageLaws.{placed}
use Rattle.lxr_image.proofs.ImageLemmas.{words_cover, words_even}
use Rattle.lxr_image.proofs.NewLemmas.{placed_here, placed_other}
use Rattle.lxr_blocks.specs.Kept.{IsAmong, IsKeptGranule, KeepsGranules}
use Rattle.lxr_blocks.specs.Placing.{IsFull}
use Rattle.lxr_blocks.specs.declared.states.BlockState.TheVariants.{Chosen}
use Rattle.lxr_blocks.specs.States.{IsOpenRun, state_in}
use Rattle.lxr_blocks.proofs.BesideLemmas.{was_open}
use Rattle.lxr_blocks.proofs.FreeLemmas.{free_joined}
use Rattle.lxr_model.specs.Moments.{Field, Moment}
use Rattle.lxr_model_counting.specs.Distinct.{has_field}
use Rattle.lxr_model_counting.proofs.DistinctLemmas.{or_false, tested}
use Rattle.lxr_invariant.specs.AbstractState.{members}
use Rattle.lxr_invariant.specs.Copied.{CopiesLieOnFreeLines, HasCopy, HasWord}
use Rattle.lxr_invariant.specs.Lines.{AvoidChosen, Covers}
use Rattle.lxr_invariant.specs.Raised.{with_promoted}
use Rattle.lxr_invariant.specs.Standing.{place_of, word_of_field}
use Rattle.lxr_invariant.proofs.BlockLemmas.{still_not}
use Rattle.lxr_invariant.proofs.NameLemmas.{in_second}
use Rattle.lxr_invariant.proofs.PlaceLemmas.{same_object}
use Rattle.lxr_pause_promote.specs.Either.{HoldEither, IsPlaceOf, StandsNow}
use Rattle.lxr_pause_promote.specs.Promotion.{with_promotion}
use Rattle.lxr_pause_promote.proofs.CopyLemmas.{StandsBeside}
use Rattle.lxr_pause_promote.proofs.EitherLemmas.{holds_placed, place_split, some_granules, stands_moved, whole_on}
use Rattle.lxr_pause_promote.proofs.FewerLemmas.{HasFewerLines, beside_fewer, handed_on, marked_grows, promotion_fewer, states_joined, was_open_run}
use Rattle.lxr_pause_promote.proofs.WordLemmas.{ranges_apart}
use Rattle.lxr_pause_increments.specs.Moving.{IsMoving, IsTaken}
use Rattle.lxr_pause_increments.proofs.FixedLemmas.{moving_left}
use Rattle.lxr_pause_increments.proofs.MovingLemmas.{AreMade}

-- ---- one more place

-- a name that is known differs from one that isn't
pub known_differs : (m : Moment) (ps : List Name) (o n : Name) → has (with_promoted m ps) o ≡ false → IsTrue (has (with_promoted m ps) n) → same_name n o ≡ false
known_differs m ps o n unknown known = elim (tested (same_name n o)) [
  | inl same ↦ absurd (let e : has (with_promoted m ps) n ≡ has (with_promoted m ps) o = ap (has (with_promoted m ps)) (same_names n o same) in cc)
  | inr differ ↦ differ
]

pub placed_known : (m : Moment) (now : Name → ℕ) (ps : List Name) (o : Name) (p : ℕ) → has (with_promoted m ps) o ≡ false → (n : Name) → IsTrue (has (with_promoted m ps) n) → placed now o p n ≡ now n
placed_known m now ps o p unknown n known = placed_other now o p n (known_differs m ps o n unknown known)

-- it is known from then on, with all that was
pub known_more : (m : Moment) (ps : List Name) (o n : Name) → IsTrue (has (with_promoted m ps) n) → IsTrue (has (with_promoted m (o ∷ ps)) n)
known_more m ps o n known = elim (union_cases ps m.unreclaimed n known) [
  | inl h ↦ union_left (o ∷ ps) m.unreclaimed n (or_right (same_name n o) (has ps n) h)
  | inr h ↦ union_right (o ∷ ps) m.unreclaimed n h
]

pub known_now : (m : Moment) (ps : List Name) (o : Name) → IsTrue (has (with_promoted m (o ∷ ps)) o)
known_now m ps o = union_left (o ∷ ps) m.unreclaimed o (or_left (same_name o o) (has ps o) (same_itself o))

-- ---- it stays where it was made

-- a promoted object that stands where it did joins the others
joined_there : (s found : Space) (m : Moment) (at now : Name → ℕ) (ps : List Name) (o : Name) → IsMoving s found m at now ps → now o ≡ at o
    → ((x : Object) (q : Run) → object_at m.state.graph o ≡ Some x → IsOpenRun (tables_of s) s.limits.blocks q → q.lines < line_count (shape_of x)) → IsMoving s found m at now (o ∷ ps)
joined_there s found m at now ps o is still full = record {
  stands = is.stands;
  others = λ n h. is.others n (or_false (same_name n o) (has ps n) h).1;
  left_behind = λ n h moved. is.left_behind n (other n h moved) moved;
  stood = is.stood;
  own = is.own;
  apart = is.apart;
  rest = is.rest;
  kept = is.kept;
  kept_before = is.kept_before;
  onto = λ n x k h moved covers. is.onto n x k (other n h moved) moved covers;
  registers = is.registers;
  deferred = is.deferred;
  world = is.world;
  outs = λ line. (
    λ out. elim ((is.outs line).0 out) [ inl was ↦ inl was | inr copy ↦ inr (more line copy) ],
    λ out. (is.outs line).1 (elim out [ inl was ↦ inl was | inr copy ↦ inr (fewer line copy) ]),
  );
  reuse = is.reuse;
  heap = λ w left promoted written. is.heap w (λ n h moved. left n (or_right (same_name n o) (has ps n) h) moved) (λ n h. promoted n (or_right (same_name n o) (has ps n) h)) written;
  states = is.states;
  free = is.free;
  unchosen = is.unchosen;
  stay = λ n x q h place has_x run. elim (or_cases (same_name n o) (has ps n) h) [
    | inl same ↦ full x q (ap (object_at m.state.graph) (sym (same_names n o same)) ∙ has_x) run
    | inr old ↦ is.stay n x q old place has_x run
  ];
}
  where
    other : (n : Name) → IsTrue (has (o ∷ ps) n) → now n ≢ at n → IsTrue (has ps n)
    other n h moved = elim (or_cases (same_name n o) (has ps n) h) [
      | inl same ↦ absurd (moved (ap now (same_names n o same) ∙ still ∙ ap at (sym (same_names n o same))))
      | inr old ↦ old
    ]

    more : (line : ℕ) → HasCopy m.state.graph at now ps line → HasCopy m.state.graph at now (o ∷ ps) line
    more line copy = record {
      name = copy.name;
      promoted_is = or_right (same_name copy.name o) (has ps copy.name) copy.promoted_is;
      moved = copy.moved;
      object = copy.object;
      granule = copy.granule;
      covers = copy.covers;
      line_is = copy.line_is;
    }

    fewer : (line : ℕ) → HasCopy m.state.graph at now (o ∷ ps) line → HasCopy m.state.graph at now ps line
    fewer line copy = record {
      name = copy.name;
      promoted_is = other copy.name copy.promoted_is copy.moved;
      moved = copy.moved;
      object = copy.object;
      granule = copy.granule;
      covers = copy.covers;
      line_is = copy.line_is;
    }

pub moving_there : (a b found : Space) (m : Moment) (at now : Name → ℕ) (ps : List Name) (o : Name) (object : Object) → IsMoving a found m at now ps → now o ≡ at o → object_at m.state.graph o ≡ Some object
    → IsFull a (shape_of object) → Turns a b (with_promotion (tables_of a) (at o) (shape_of object)) → IsMoving b found m at now (o ∷ ps)
moving_there a b found m at now ps o object is still has_o full turns =
    let fewer = promotion_fewer a b (at o) (shape_of object) turns in
    let states : (tables_of b).states ≡ (tables_of a).states = ap (λ t. t.states) turns.tables in
    let limits : b.limits ≡ a.limits = ap (λ s. s.limits) turns.rest in
    let left = moving_left a b found m at now ps (record {
      limits = limits;
      heap = ap (λ t. t.heap) turns.tables;
      outs = ap (λ t. t.outs) turns.tables;
      reuse = ap (λ t. t.reuse) turns.tables;
      states = states;
      counts = fewer.grows.counts;
      registers = ap (λ s. s.registers.items) turns.rest;
      deferred = ap (λ s. s.deferred.items) turns.rest;
      rest = (ap (λ s. s.rest_next) turns.rest, ap (λ s. s.rest_end) turns.rest);
    }) is in
    joined_there b found m at now ps o left still (λ x q has_x run.
    let before = was_open_run a b q fewer run in
    let same : object ≡ x = same_object m.state.graph o object x has_o has_x in
    subst (λ z. q.lines < line_count (shape_of z)) same (elim (leb_tells (line_count (shape_of object)) q.lines) [ inl c ↦ absurd (full.lines q before c.1) | inr c ↦ let few = c.1 in omega (arith, few) ]))

-- ---- it is copied

module _ (a b found : Space) (m : Moment) (at now : Name → ℕ) (ps : List Name) (o : Name) (q : Place) (object : Object) (is : IsMoving a found m at now ps) (member : IsTrue (has (members m) o))
    (unpromoted : has ps o ≡ false) (has_o : object_at m.state.graph o ≡ Some object)
    (beside : StandsBeside a b (with_promotion (tables_of a) q.0 (shape_of object)) (IsTaken m at now) (place_of at o) q o (shape_of object)) where
  abbrev later : Name → ℕ
  later = placed now o q.0

  still_there : now o ≡ at o
  still_there = is.others o unpromoted

  same_limits : b.limits ≡ a.limits
  same_limits = ap (λ s. s.limits) beside.space

  -- where an object is, nothing is placed
  pub taken_apart : (n : Name) (x : Object) (r : ℕ) → IsTrue (has (members m) n) → object_at m.state.graph n ≡ Some x → IsPlaceOf at now n r
      → (granule_of r + granules_of x ≤ granule_of q.0) ⊎ (granule_of q.0 + granules_of object ≤ granule_of r)
  taken_apart n x r in_n has_x place = ranges_apart (granule_of r) (granules_of x) (granule_of q.0) (granules_of object) (some_granules x) (some_granules object)
      (λ k here. beside.apart k (record { name = n; object = x; place = r; member = in_n; is = has_x; place_is = place; among = here }))

  not_there : (n : Name) (r : ℕ) → IsTrue (has (members m) n) → IsPlaceOf at now n r → r ≢ q.0
  not_there n r in_n place e =
      let x = is.stands n in_n in
      let some = some_granules x.0 in
      let other = some_granules object in
      elim (taken_apart n x.0 r in_n x.1 place) [ inl h ↦ omega (arith, h, e, some) | inr h ↦ omega (arith, h, e, other) ]

  -- the words of another object are as they were
  pub words_stay : (n : Name) (x : Object) (r i : ℕ) → IsTrue (has (members m) n) → object_at m.state.graph n ≡ Some x → IsPlaceOf at now n r → r ≢ at o → i < word_count (shape_of x)
      → (tables_of b).heap (first_word r + i) ≡ (tables_of a).heap (first_word r + i)
  words_stay n x r i in_n has_x place elsewhere low =
      let even = words_even x in
      let even_o = words_even object in
      let cover = words_cover object in
      beside.others (first_word r + i)
      (λ e. elim (is.apart n o x object r (at o) in_n member has_x has_o place (inl refl) elsewhere) [ inl h ↦ omega (arith, h, e, low, even, even_o, cover) | inr h ↦ omega (arith, h, e, even, even_o, cover) ])
      (elim (taken_apart n x r in_n has_x place) [ inl h ↦ inl (omega (arith, h, low, even)) | inr h ↦ inr (omega (arith, h, even_o)) ])

  -- it stands elsewhere than o
  pub other_place : (n : Name) (r : ℕ) → IsTrue (has (members m) n) → IsPlaceOf at now n r → same_name n o ≡ false → r ≢ at o
  other_place n r in_n place differ e =
      let same : n ≡ o = is.own n o r in_n member place (inl e) in
      let told : same_name n o ≡ true = ap (same_name n) (sym same) ∙ same_itself n in
      cc

  -- o stands at the new place
  copy_stands : StandsNow (tables_of b) b.limits.blocks at later o object
  copy_stands =
      let x = is.stands o member in
      let was : StandsNow (tables_of a) b.limits.blocks at now o object = subst (λ l. StandsNow (tables_of a) l.blocks at now o object) (sym same_limits)
      (subst (λ z. StandsNow (tables_of a) a.limits.blocks at now o z) (same_object m.state.graph o x.0 object x.1 has_o) x.2) in
      let here : later o ≡ q.0 = placed_here now o q.0 in
      stands_moved (tables_of a) (tables_of b) b.limits.blocks at now later o object (subst (λ z. 1 ≤ z) (sym here) beside.stands.placed)
      (subst (λ z. StandsWhole (tables_of b) b.limits.blocks (granule_of z) o (shape_of object)) (sym here) beside.stands.whole)
      (λ i some low. ap (λ z. (tables_of b).heap (first_word z + i)) here ∙ beside.words i some low ∙ ap (λ z. (tables_of a).heap (first_word z + i)) (sym still_there))
      (λ w r h. holds_placed at now o q.0 w r still_there h) was

  -- and others where they stood
  other_stands : (n : Name) (x : Object) → IsTrue (has (members m) n) → object_at m.state.graph n ≡ Some x → same_name n o ≡ false → StandsNow (tables_of a) a.limits.blocks at now n x → StandsNow (tables_of b) a.limits.blocks at later n x
  other_stands n x in_n has_x differ stands =
      let there : later n ≡ now n = placed_other now o q.0 n differ in
      let elsewhere = other_place n (now n) in_n (inr refl) differ in
      let cover = words_cover x in
      let first : first_word (now n) + 0 ≡ first_word (now n) = omega arith in
      let header : (tables_of b).heap (first_word (now n)) ≡ (tables_of a).heap (first_word (now n)) =
      ap (tables_of b).heap (sym first) ∙ words_stay n x (now n) 0 in_n has_x (inr refl) elsewhere (omega (arith, cover)) ∙ ap (tables_of a).heap first in
      stands_moved (tables_of a) (tables_of b) a.limits.blocks at now later n x (subst (λ z. 1 ≤ z) (sym there) stands.placed)
      (subst (λ z. StandsWhole (tables_of b) a.limits.blocks (granule_of z) n (shape_of x)) (sym there) (whole_on (tables_of a) (tables_of b) a.limits.blocks (granule_of (now n)) n (shape_of x) header stands.whole))
      (λ i some low. ap (λ z. (tables_of b).heap (first_word z + i)) there ∙ words_stay n x (now n) i in_n has_x (inr refl) elsewhere low)
      (λ w r h. holds_placed at now o q.0 w r still_there h) stands

  stands_later : (n : Name) → IsTrue (has (members m) n) → (x : Object) × (object_at m.state.graph n ≡ Some x) × StandsNow (tables_of b) b.limits.blocks at later n x
  stands_later n in_n = elim (tested (same_name n o)) [
    | inl same ↦ subst (λ v. (x : Object) × (object_at m.state.graph v ≡ Some x) × StandsNow (tables_of b) b.limits.blocks at later v x) (sym (same_names n o same)) (object, has_o, copy_stands)
    | inr differ ↦ let x = is.stands n in_n in (x.0, x.1, subst (λ l. StandsNow (tables_of b) l.blocks at later n x.0) (sym same_limits) (other_stands n x.0 in_n x.1 differ x.2))
  ]

  left_later : AreMade m ps → (n : Name) → IsTrue (has (o ∷ ps) n) → later n ≢ at n → (tables_of b).heap (first_word (at n)) ≡ moved_word (later n)
  left_later made n h moved = elim (tested (same_name n o)) [
    | inl same ↦
        let one = same_names n o same in
        ap (λ v. (tables_of b).heap (first_word (at v))) one ∙ beside.moved ∙ ap moved_word (sym (ap later one ∙ placed_here now o q.0))
    | inr differ ↦
        let there : later n ≡ now n = placed_other now o q.0 n differ in
        let old : IsTrue (has ps n) = elim (or_cases (same_name n o) (has ps n) h) [ inl same ↦ absurd (cc) | inr k ↦ k ] in
        let in_n = in_second m.unreclaimed m.made n (made n old) in
        let x = is.stands n in_n in
        let cover = words_cover x.0 in
        let first : first_word (at n) + 0 ≡ first_word (at n) = omega arith in
        ap (tables_of b).heap (sym first) ∙ words_stay n x.0 (at n) 0 in_n x.1 (inl refl) (other_place n (at n) in_n (inl refl) differ) (omega (arith, cover)) ∙ ap (tables_of a).heap first
        ∙ is.left_behind n old (λ e. moved (there ∙ e)) ∙ ap moved_word (sym there)
  ]

  own_later : (n u : Name) (r : ℕ) → IsTrue (has (members m) n) → IsTrue (has (members m) u) → IsPlaceOf at later n r → IsPlaceOf at later u r → n ≡ u
  own_later n u r in_n in_u here there = elim (place_split at now o q.0 n r here) [
    | inl old ↦ elim (place_split at now o q.0 u r there) [
      | inl other ↦ is.own n u r in_n in_u old other
      | inr new ↦ absurd (not_there n r in_n old new.1)
    ]
    | inr new ↦ elim (place_split at now o q.0 u r there) [
      | inl other ↦ absurd (not_there u r in_u other new.1)
      | inr other ↦ new.0 ∙ sym other.0
    ]
  ]

  -- o's object is the one that was placed
  is_object : (n : Name) (x : Object) → object_at m.state.graph n ≡ Some x → n ≡ o → x ≡ object
  is_object n x has_x same = same_object m.state.graph o x object (ap (object_at m.state.graph) (sym same) ∙ has_x) has_o

  apart_later : (n u : Name) (x y : Object) (r z : ℕ) → IsTrue (has (members m) n) → IsTrue (has (members m) u) → object_at m.state.graph n ≡ Some x → object_at m.state.graph u ≡ Some y
      → IsPlaceOf at later n r → IsPlaceOf at later u z → r ≢ z → (granule_of r + granules_of x ≤ granule_of z) ⊎ (granule_of z + granules_of y ≤ granule_of r)
  apart_later n u x y r z in_n in_u has_x has_y here there ne = elim (place_split at now o q.0 n r here) [
    | inl old ↦ elim (place_split at now o q.0 u z there) [
      | inl other ↦ is.apart n u x y r z in_n in_u has_x has_y old other ne
      | inr new ↦
          let size : granules_of y ≡ granules_of object = ap granules_of (is_object u y has_y new.0) in
          let place = new.1 in
          elim (taken_apart n x r in_n has_x old) [ inl h ↦ inl (omega (arith, h, place)) | inr h ↦ inr (omega (arith, h, place, size)) ]
    ]
    | inr new ↦ elim (place_split at now o q.0 u z there) [
      | inl other ↦
          let size : granules_of x ≡ granules_of object = ap granules_of (is_object n x has_x new.0) in
          let place = new.1 in
          elim (taken_apart u y z in_u has_y other) [ inl h ↦ inr (omega (arith, h, place)) | inr h ↦ inl (omega (arith, h, place, size)) ]
      | inr other ↦ absurd (ne (new.1 ∙ sym other.1))
    ]
  ]

  kept_later : KeepsGranules b (IsTaken m at later)
  kept_later = record { lines = λ k taken. beside.kept.lines k (split k taken); rest = λ k taken. beside.kept.rest k (split k taken) }
    where
      split : (k : ℕ) → IsTaken m at later k → IsTaken m at now k ⊎ IsAmong (granule_of q.0) (granules_of object) k
      split k taken = elim (place_split at now o q.0 taken.name taken.place taken.place_is) [
        | inl old ↦ inl (record { name = taken.name; object = taken.object; place = taken.place; member = taken.member; is = taken.is; place_is = old; among = taken.among })
        | inr new ↦
            let size : granules_of taken.object ≡ granules_of object = ap granules_of (is_object taken.name taken.object taken.is new.0) in
            let place = new.1 in
            let first = taken.among.0 in
            let behind = taken.among.1 in
            inr (omega (arith, first, place), omega (arith, behind, place, size))
      ]

  -- what was promoted before isn't o
  promoted_differs : (n : Name) → IsTrue (has ps n) → same_name n o ≡ false
  promoted_differs n h = elim (tested (same_name n o)) [
    | inl same ↦ absurd (let e : has ps n ≡ has ps o = ap (has ps) (same_names n o same) in cc)
    | inr differ ↦ differ
  ]

  -- o has moved
  moved_later : later o ≢ at o
  moved_later e = not_there o (at o) member (inl refl) (sym e ∙ placed_here now o q.0)

  -- a granule of an object is one of where it stands
  covers_elsewhere : (n : Name) (x : Object) (k : ℕ) → later n ≡ now n → Covers m.state.graph later n x k → Covers m.state.graph now n x k
  covers_elsewhere n x k there covers =
      let first = covers.first in
      let behind = covers.behind in
      record { object = covers.object; first = omega (arith, first, there); behind = omega (arith, behind, there) }

  covers_here : (n : Name) (x : Object) (k : ℕ) → n ≡ o → Covers m.state.graph later n x k → IsAmong (granule_of q.0) (granules_of object) k
  covers_here n x k one covers =
      let here : later n ≡ q.0 = ap later one ∙ placed_here now o q.0 in
      let size : granules_of x ≡ granules_of object = ap granules_of (is_object n x covers.object one) in
      let first = covers.first in
      let behind = covers.behind in
      (omega (arith, first, here), omega (arith, behind, here, size))

  -- copies lie on what was open as increments began
  onto_later : CopiesLieOnFreeLines found m at later (o ∷ ps)
  onto_later n x k h moved covers = elim (or_cases (same_name n o) (has ps n) h) [
    | inl same ↦ was_open found a is.kept_before k (beside.onto k (covers_here n x k (same_names n o same) covers))
    | inr old ↦
        let there : later n ≡ now n = placed_other now o q.0 n (promoted_differs n old) in
        is.onto n x k old (λ e. moved (there ∙ e)) (covers_elsewhere n x k there covers)
  ]

  -- ---- lines that are out

  copy_more : (line : ℕ) → HasCopy m.state.graph at now ps line → HasCopy m.state.graph at later (o ∷ ps) line
  copy_more line copy =
      let there : later copy.name ≡ now copy.name = placed_other now o q.0 copy.name (promoted_differs copy.name copy.promoted_is) in
      let first = copy.covers.first in
      let behind = copy.covers.behind in
      record {
        name = copy.name;
        promoted_is = or_right (same_name copy.name o) (has ps copy.name) copy.promoted_is;
        moved = λ e. copy.moved (sym there ∙ e);
        object = copy.object;
        granule = copy.granule;
        covers = record { object = copy.covers.object; first = omega (arith, first, there); behind = omega (arith, behind, there) };
        line_is = copy.line_is;
      }

  copy_new : (line k : ℕ) → IsAmong (granule_of q.0) (granules_of object) k → k / GRANULES_IN_LINE ≡ line → HasCopy m.state.graph at later (o ∷ ps) line
  copy_new line k among line_is =
      let here : later o ≡ q.0 = placed_here now o q.0 in
      let first = among.0 in
      let behind = among.1 in
      record {
        name = o;
        promoted_is = or_left (same_name o o) (has ps o) (same_itself o);
        moved = moved_later;
        object = object;
        granule = k;
        covers = record { object = has_o; first = omega (arith, first, here); behind = omega (arith, behind, here) };
        line_is = line_is;
      }

  copy_split : (line : ℕ) → HasCopy m.state.graph at later (o ∷ ps) line → HasCopy m.state.graph at now ps line ⊎ ((k : ℕ) × IsAmong (granule_of q.0) (granules_of object) k × (k / GRANULES_IN_LINE ≡ line))
  copy_split line copy = elim (or_cases (same_name copy.name o) (has ps copy.name) copy.promoted_is) [
    | inl same ↦ inr (copy.granule, covers_here copy.name copy.object copy.granule (same_names copy.name o same) copy.covers, copy.line_is)
    | inr old ↦
        let there : later copy.name ≡ now copy.name = placed_other now o q.0 copy.name (promoted_differs copy.name old) in
        inl (record {
          name = copy.name;
          promoted_is = old;
          moved = λ e. copy.moved (there ∙ e);
          object = copy.object;
          granule = copy.granule;
          covers = covers_elsewhere copy.name copy.object copy.granule there copy.covers;
          line_is = copy.line_is;
        })
  ]

  outs_later : (line : ℕ) → IsTrue ((tables_of b).outs line) ↔ (IsTrue ((tables_of found).outs line) ⊎ HasCopy m.state.graph at later (o ∷ ps) line)
  outs_later line = (
    λ out. elim ((beside.outs line).0 out) [
      | inl old ↦ elim ((is.outs line).0 old) [ inl was ↦ inl was | inr copy ↦ inr (copy_more line copy) ]
      | inr new ↦ inr (copy_new line new.0 new.1 new.2)
    ],
    λ out. (beside.outs line).1 (elim out [
      | inl was ↦ inl ((is.outs line).1 (inl was))
      | inr copy ↦ elim (copy_split line copy) [ inl old ↦ inl ((is.outs line).1 (inr old)) | inr new ↦ inr new ]
    ]),
  )

  fewer_later : HasFewerLines a b
  fewer_later = beside_fewer a b (with_promotion (tables_of a) q.0 (shape_of object)) (IsTaken m at now) (place_of at o) q o (shape_of object) beside (λ k some. marked_grows (tables_of a).counts _ _ k some)

  reuse_later : (line : ℕ) → (tables_of b).reuse line ≡ if (tables_of b).outs line && not ((tables_of found).outs line) then (((tables_of found).reuse line + 1) % 2 ^ 32) else (tables_of found).reuse line
  reuse_later line = beside.reuse line
      ∙ handed_on ((tables_of b).outs line) ((tables_of a).outs line) ((tables_of found).outs line) ((tables_of a).reuse line) ((tables_of found).reuse line) (fewer_later.grows.outs line) (λ was. (is.outs line).1 (inl was)) (is.reuse line)

  -- a heap word that is none of those is as it was
  heap_later : (w : ℕ) → ((n : Name) → IsTrue (has (o ∷ ps) n) → later n ≢ at n → w ≢ first_word (at n)) → ((n : Name) → IsTrue (has (o ∷ ps) n) → ¬ HasWord m.state.graph later n w)
      → ((field : Field) → IsTrue (has_field m.written field) → w ≢ word_of_field at field.0 field.1) → (tables_of b).heap w ≡ (tables_of found).heap w
  heap_later w left promoted written = beside.others w behind outside ∙ is.heap w left_before before written
    where
      behind : w ≢ first_word (at o)
      behind = left o (or_left (same_name o o) (has ps o) (same_itself o)) moved_later

      outside : (w < first_word q.0) ⊎ (first_word q.0 + word_count (shape_of object) ≤ w)
      outside = elim (leb_tells (first_word q.0) w) [
        | inr c ↦ let low = c.1 in inl (omega (arith, low))
        | inl c ↦ elim (leb_tells (first_word q.0 + word_count (shape_of object)) w) [
          | inl d ↦ inr d.1
          | inr d ↦
              let here : later o ≡ q.0 = placed_here now o q.0 in
              let first = c.1 in
              let end = d.1 in
              absurd (promoted o (or_left (same_name o o) (has ps o) (same_itself o)) (record { object = object; is = has_o; first = omega (arith, first, here); behind = omega (arith, end, here) }))
        ]
      ]

      left_before : (n : Name) → IsTrue (has ps n) → now n ≢ at n → w ≢ first_word (at n)
      left_before n h moved = left n (or_right (same_name n o) (has ps n) h) (λ e. moved (sym (placed_other now o q.0 n (promoted_differs n h)) ∙ e))

      before : (n : Name) → IsTrue (has ps n) → ¬ HasWord m.state.graph now n w
      before n h word =
          let there : later n ≡ now n = placed_other now o q.0 n (promoted_differs n h) in
          let first = word.first in
          let end = word.behind in
          promoted n (or_right (same_name n o) (has ps n) h) (record { object = word.object; is = word.is; first = omega (arith, first, there); behind = omega (arith, end, there) })

  -- the copy stands outside Chosen blocks, as other new objects do
  unchosen_later : AvoidChosen (tables_of b) later m.made
  unchosen_later n made = elim (tested (same_name n o)) [
    | inl same ↦ subst (outside (tables_of b)) (sym (ap later (same_names n o same) ∙ placed_here now o q.0)) (still q.0 beside.unchosen)
    | inr differ ↦ subst (outside (tables_of b)) (sym (placed_other now o q.0 n differ)) (still (now n) (is.unchosen n made))
  ]
    where
      outside : Tables → ℕ → Type 0
      outside t p = state_in t (granule_of p / GRANULES_IN_BLOCK) ≢ Chosen

      still : (p : ℕ) → outside (tables_of a) p → outside (tables_of b) p
      still p = still_not (tables_of a) (tables_of b) (granule_of p / GRANULES_IN_BLOCK) Chosen refl (beside.states (granule_of p / GRANULES_IN_BLOCK))

  pub moving_copied : AreMade m ps → KeepsGranules b (IsKeptGranule found) → IsMoving b found m at later (o ∷ ps)
  moving_copied all_made kept_before = record {
    stands = stands_later;
    others = λ n h. let parts = or_false (same_name n o) (has ps n) h in placed_other now o q.0 n parts.0 ∙ is.others n parts.1;
    left_behind = left_later all_made;
    stood = λ n x in_n has_x. subst (λ l. (1 ≤ at n) × (granule_of (at n) + granules_of x ≤ GRANULES_IN_BLOCK * l.blocks)) (sym same_limits) (is.stood n x in_n has_x);
    own = own_later;
    apart = apart_later;
    rest = beside.is_rest;
    kept = kept_later;
    kept_before = kept_before;
    onto = onto_later;
    registers = subst (λ xs. HoldEither at later xs m.state.registers) (sym (ap (λ s. s.registers.items) beside.space))
        (record { as_many = is.registers.as_many; each = λ k p r e f. holds_placed at now o q.0 p.0 r still_there (is.registers.each k p r e f) });
    deferred = subst (λ xs. ArePlacesOf at xs m.last.registers) (sym (ap (λ s. s.deferred.items) beside.space)) is.deferred;
    world = is.world;
    outs = outs_later;
    reuse = reuse_later;
    heap = heap_later;
    states = λ k. states_joined (tables_of found) (tables_of a) (tables_of b) k (is.states k) (beside.states k);
    free = free_joined (tables_of found) (tables_of a) (tables_of b) is.free beside.free;
    unchosen = unchosen_later;
    stay = λ n x r h place has_x run. elim (tested (same_name n o)) [
      | inl same ↦
          let one = same_names n o same in
          absurd (moved_later (ap later (sym one) ∙ place ∙ ap at one))
      | inr differ ↦
          let old : IsTrue (has ps n) = elim (or_cases (same_name n o) (has ps n) h) [ inl same ↦ absurd (cc) | inr k ↦ k ] in
          is.stay n x r old (sym (placed_other now o q.0 n differ) ∙ place) has_x (was_open_run a b r fewer_later run)
    ];
  }
