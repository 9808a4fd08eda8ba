-- An object is moved: it has its bits, its count and its line marks at its new place too.
use Rattle.std.proofs.Common.{◌≡◌, ◌≢◌, ℕ, ◌+◌, ◌-◌, ◌%◌, ◌<◌, ◌≤◌, refl, sym, ap, ◌∙◌, inl, inr, arith, Bool, true, false, cond}
use Rattle.std.specs.Prelude.{◌↔◌, Some, IsTrue, length}
use Rattle.std.proofs.lemmas.Bool.{false_from_ne_true}
use Rattle.lxr_layout.specs.declared.Name.{Name}
use Rattle.lxr_layout.specs.declared.Place.{Place}
use Rattle.lxr_layout.specs.declared.TheConstants.{GRANULES_IN_LINE, STUCK}
use Rattle.lxr_layout.specs.Places.{first_word}
use Rattle.lxr_graph.specs.Names.{has}
use Rattle.lxr_graph.specs.State.{Object, object_at, refs_of}
use Rattle.lxr_image.specs.declared.space.Space.{Space}
use Rattle.lxr_image.specs.Tables.{Tables, changed}
use Rattle.lxr_image.specs.Spaces.{tables_of}
use Rattle.lxr_image.specs.Reads.{granule_of}
use Rattle.lxr_image.specs.Image.{granules_of}
use Rattle.lxr_model.specs.Moments.{Moment}
use Rattle.lxr_blocks.specs.Lines.{line_behind, next_line}
use Rattle.lxr_invariant.proofs.EntryLemmas.{changed_cases, changed_here, changed_other}
use Rattle.lxr_invariant.proofs.PlaceLemmas.{BeginsLine}
use Rattle.lxr_pause_promote.specs.Promotion.{marked_between, set_between}
use Rattle.lxr_evac_moving.specs.Stages.{EvacuationStage, HasBitsAndCounts, HasPlace, IsMarkAt, IsReferenceAt}
use Rattle.lxr_evac_moving.proofs.MovedLemmas.{IsMovedTo, has_new, has_split, has_still, is_object, moved_to, not_there, taken_apart}
use Rattle.lxr_evac_moving.proofs.RangeLemmas.{marked_cases, set_cases}
use Rattle.lxr_evac_moving.proofs.StageLemmas.{place_is}

-- ---- a bit that is taken over

abbrev taken : (ℕ → Bool) → ℕ → ℕ → ℕ → Bool
taken f p q = cond (f p) (changed f q true) f

-- it stands at the new place where it stands at the old one, and stays elsewhere
taken_here : (f : ℕ → Bool) (p q : ℕ) → f q ≡ false → taken f p q q ≡ f p
taken_here f p q clear = elim (f p) as (λ b. cond b (changed f q true) f q ≡ b) [ true ↦ changed_here f q true q refl | false ↦ clear ]

taken_elsewhere : (f : ℕ → Bool) (p q k : ℕ) → k ≢ q → taken f p q k ≡ f k
taken_elsewhere f p q k ne = elim (f p) as (λ b. cond b (changed f q true) f k ≡ f k) [ true ↦ changed_other f q true k ne | false ↦ refl ]

-- the first granule of a further line of an object of so many granules
further_line : (g many k : ℕ) → k % GRANULES_IN_LINE ≡ 0 → g < k → k < g + many → BeginsLine (next_line g) (line_behind g many) k
further_line g many k begins behind within = record { begins = begins; from = omega (arith, begins, behind); below = omega (arith, begins, within) }

further_behind : (g many k : ℕ) → BeginsLine (next_line g) (line_behind g many) k → (g < k) × (k < g + many)
further_behind g many k is = let begins = is.begins in let from = is.from in let below = is.below in (omega (arith, begins, from), omega (arith, begins, below))

module _ (a c : Space) (m : Moment) (st : EvacuationStage) (o : Name) (q : Place) (object : Object) (is : IsMovedTo a c m st o q object) where
  abbrev t : Tables
  t = tables_of a

  abbrev gp : ℕ
  gp = granule_of (st.at o)

  abbrev gq : ℕ
  gq = granule_of q.0

  abbrev later : EvacuationStage
  later = moved_to st o q.0

  was : HasBitsAndCounts (tables_of a) m st
  was = is.moving.evacuating.bits

  -- ---- what tables tell then

  starts_then : (k : ℕ) → (tables_of c).starts k ≡ changed t.starts gq true k
  starts_then k = ap (λ x. x.starts k) is.beside.tables

  marks_then : (k : ℕ) → (tables_of c).marks k ≡ taken t.marks gp gq k
  marks_then k = ap (λ x. x.marks k) is.beside.tables

  grays_then : (k : ℕ) → (tables_of c).grays k ≡ taken t.grays gp gq k
  grays_then k = ap (λ x. x.grays k) is.beside.tables

  counts_then : (k : ℕ) → (tables_of c).counts k ≡ marked_between (changed t.counts gq (t.counts gp)) (next_line gq) (line_behind gq (granules_of object)) k
  counts_then k = ap (λ x. x.counts k) is.beside.tables

  unlogged_then : (w : ℕ) → (tables_of c).unlogged w ≡ set_between t.unlogged (first_word q.0 + 1) (first_word q.0 + 1 + length object.refs) w
  unlogged_then w = ap (λ x. x.unlogged w) is.beside.tables

  -- ---- the new place

  -- o stood where its bits are
  old_place : HasPlace st o (st.at o)
  old_place = inr (refl, let none = is.moving.uncleared in omega (arith, none))

  -- no object began there
  none_there : t.starts gq ≡ false
  none_there = false_from_ne_true (t.starts gq) (λ start. let u = was.starts_only gq start in not_there a c m st o q object is u.0 u.1 u.2 (place_is st u.0 u.1 u.3) u.4)

  unmarked_there : (f : ℕ → Bool) → ((k : ℕ) → IsTrue (f k) → IsTrue (t.starts k)) → f gq ≡ false
  unmarked_there f only = false_from_ne_true (f gq) (λ set. let start = only gq set in let none = none_there in cc)

  elsewhere : (n : Name) (r : ℕ) → IsTrue (has m.unreclaimed n) → HasPlace st n r → granule_of r ≢ gq
  elsewhere n r in_n place = not_there a c m st o q object is n r in_n (place_is st n r place)

  -- nor does a further line of o's object at its new place begin where another object is
  no_line : (n : Name) (x : Object) (r k : ℕ) → IsTrue (has m.unreclaimed n) → object_at m.state.graph n ≡ Some x → HasPlace st n r → granule_of r ≤ k → k < granule_of r + granules_of x
      → BeginsLine (next_line gq) (line_behind gq (granules_of object)) k → ⊥
  no_line n x r k in_n has_x place from below line =
      let within = further_behind gq (granules_of object) k line in
      let after = within.0 in
      let before = within.1 in
      elim (taken_apart a c m st o q object is n x r in_n has_x (place_is st n r place)) [ inl h ↦ omega (arith, h, below, after) | inr h ↦ omega (arith, h, from, before) ]

  -- ---- counts

  count_old : (n : Name) (r : ℕ) → IsTrue (has m.unreclaimed n) → HasPlace st n r → (tables_of c).counts (granule_of r) ≡ t.counts (granule_of r)
  count_old n r in_n place =
      let x = is.moving.evacuating.heap.stands n in_n in
      let some : 1 ≤ granules_of x.0 = omega arith in
      counts_then (granule_of r) ∙ elim (marked_cases (changed t.counts gq (t.counts gp)) (next_line gq) (line_behind gq (granules_of object)) (granule_of r)) [
        | inl h ↦ absurd (no_line n x.0 r (granule_of r) in_n x.1 place (omega arith) (omega (arith, some)) h.0)
        | inr h ↦ h.1 ∙ changed_other t.counts gq (t.counts gp) (granule_of r) (elsewhere n r in_n place)
      ]

  count_new : (tables_of c).counts gq ≡ t.counts gp
  count_new = counts_then gq ∙ elim (marked_cases (changed t.counts gq (t.counts gp)) (next_line gq) (line_behind gq (granules_of object)) gq) [
    | inl h ↦ absurd (let after = (further_behind gq (granules_of object) gq h.0).0 in omega (arith, after))
    | inr h ↦ h.1 ∙ changed_here t.counts gq (t.counts gp) gq refl
  ]

  -- a line mark stays where it was
  line_old : (k : ℕ) → IsMarkAt m st k → (tables_of c).counts k ≡ STUCK
  line_old k mark = counts_then k ∙ elim (marked_cases (changed t.counts gq (t.counts gp)) (next_line gq) (line_behind gq (granules_of object)) k) [
    | inl h ↦ h.1
    | inr h ↦
        let behind = mark.behind in
        let within = mark.within in
        let some : 1 ≤ granules_of object = omega arith in
        h.1
        ∙ changed_other t.counts gq (t.counts gp) k (λ e. elim (taken_apart a c m st o q object is mark.name mark.object mark.place mark.member mark.is (place_is st mark.name mark.place mark.has_place)) [
          | inl f ↦ omega (arith, f, within, e)
          | inr f ↦ omega (arith, f, behind, e, some)
        ])
        ∙ was.lines k mark
  ]

  mark_still : (k : ℕ) → IsMarkAt m st k → IsMarkAt m later k
  mark_still k mark = record {
    name = mark.name;
    object = mark.object;
    place = mark.place;
    member = mark.member;
    is = mark.is;
    has_place = has_still a c m st o q object is mark.name mark.place mark.has_place;
    begins = mark.begins;
    behind = mark.behind;
    within = mark.within;
  }

  mark_new : (k : ℕ) → BeginsLine (next_line gq) (line_behind gq (granules_of object)) k → IsMarkAt m later k
  mark_new k line =
      let within = further_behind gq (granules_of object) k line in
      record {
        name = o;
        object = object;
        place = q.0;
        member = is.member;
        is = is.is;
        has_place = has_new a c m st o q object is;
        begins = line.begins;
        behind = within.0;
        within = within.1;
      }

  -- ---- unlogged bits

  size : length (refs_of (object_at m.state.graph o)) ≡ length object.refs
  size = ap (λ z. length (refs_of z)) is.is

  reference_still : (w : ℕ) → IsReferenceAt m st w → IsReferenceAt m later w
  reference_still w r = record {
    name = r.name;
    index = r.index;
    place = r.place;
    member = r.member;
    within = r.within;
    has_place = has_still a c m st o q object is r.name r.place r.has_place;
    word = r.word;
  }

  logged_then : (w : ℕ) → IsTrue ((tables_of c).unlogged w) ↔ IsReferenceAt m later w
  logged_then w = (
    λ set. elim (set_cases t.unlogged (first_word q.0 + 1) (first_word q.0 + 1 + length object.refs) w) [
      | inl h ↦
          let from = h.0 in
          let below = h.1 in
          let long = size in
          record {
            name = o;
            index = w - (first_word q.0 + 1);
            place = q.0;
            member = is.member;
            within = omega (arith, from, below, long);
            has_place = has_new a c m st o q object is;
            word = omega (arith, from);
          }
      | inr h ↦ reference_still w ((was.unlogged w).0 (sym h.1 ∙ sym (unlogged_then w) ∙ set))
    ],
    λ r. unlogged_then w ∙ elim (set_cases t.unlogged (first_word q.0 + 1) (first_word q.0 + 1 + length object.refs) w) [
      | inl h ↦ h.2
      | inr h ↦ elim (has_split a c m st o q object is r.name r.place r.has_place) [
        | inl old ↦ h.1 ∙ (was.unlogged w).1 (record { name = r.name; index = r.index; place = r.place; member = r.member; within = r.within; has_place = old; word = r.word })
        | inr new ↦
            let long : length (refs_of (object_at m.state.graph r.name)) ≡ length object.refs = ap (λ z. length (refs_of (object_at m.state.graph z))) new.0 ∙ size in
            let word = r.word in
            let place = new.1 in
            let within = r.within in
            absurd (h.0 (omega (arith, word, place)) (omega (arith, word, place, within, long)))
      ]
    ],
  )

  -- ---- all of them

  pub bits_then : HasBitsAndCounts (tables_of c) m later
  bits_then = record {
    starts = λ n r in_n place. starts_then (granule_of r) ∙ elim (has_split a c m st o q object is n r place) [
      | inl old ↦ changed_other t.starts gq true (granule_of r) (elsewhere n r in_n old) ∙ was.starts n r in_n old
      | inr new ↦ changed_here t.starts gq true (granule_of r) (ap granule_of new.1)
    ];
    starts_only = λ k start. elim (changed_cases t.starts gq true k) [
      | inl here ↦ (o, q.0, is.member, has_new a c m st o q object is, sym here.0)
      | inr other ↦ let u = was.starts_only k (sym other.1 ∙ sym (starts_then k) ∙ start) in (u.0, u.1, u.2, has_still a c m st o q object is u.0 u.1 u.3, u.4)
    ];
    marks = λ n r in_n place. taken_over t.marks (tables_of c).marks (tables_of st.found).marks marks_then was.marks_only was.marks n r in_n place;
    marks_only = only_starts t.marks (tables_of c).marks marks_then was.marks_only;
    grays = λ n r in_n place. taken_over t.grays (tables_of c).grays (tables_of st.found).grays grays_then was.grays_only was.grays n r in_n place;
    grays_only = only_starts t.grays (tables_of c).grays grays_then was.grays_only;
    counts = λ n r in_n place. elim (has_split a c m st o q object is n r place) [
      | inl old ↦ count_old n r in_n old ∙ was.counts n r in_n old
      | inr new ↦ ap (λ z. (tables_of c).counts (granule_of z)) new.1 ∙ count_new ∙ was.counts o (st.at o) is.member old_place ∙ ap (λ z. (tables_of st.found).counts (granule_of (st.at z))) (sym new.0)
    ];
    lines = λ k mark. elim (has_split a c m st o q object is mark.name mark.place mark.has_place) [
      | inl old ↦ line_old k (record {
        name = mark.name;
        object = mark.object;
        place = mark.place;
        member = mark.member;
        is = mark.is;
        has_place = old;
        begins = mark.begins;
        behind = mark.behind;
        within = mark.within;
      })
      | inr new ↦
          let many : granules_of mark.object ≡ granules_of object = ap granules_of (is_object a c m st o q object is mark.name mark.object mark.is new.0) in
          let place = new.1 in
          let behind = mark.behind in
          let within = mark.within in
          counts_then k ∙ elim (marked_cases (changed t.counts gq (t.counts gp)) (next_line gq) (line_behind gq (granules_of object)) k) [
            | inl h ↦ h.1
            | inr h ↦ absurd (h.0 (further_line gq (granules_of object) k mark.begins (omega (arith, behind, place)) (omega (arith, within, place, many))))
          ]
    ];
    counts_only = λ k nobody nothing. counts_then k ∙ elim (marked_cases (changed t.counts gq (t.counts gp)) (next_line gq) (line_behind gq (granules_of object)) k) [
      | inl h ↦ absurd (nothing (mark_new k h.0))
      | inr h ↦ h.1 ∙ changed_other t.counts gq (t.counts gp) k (λ e. nobody o q.0 is.member (has_new a c m st o q object is) (sym e))
          ∙ was.counts_only k (λ n r in_n place. nobody n r in_n (has_still a c m st o q object is n r place)) (λ mark. nothing (mark_still k mark))
    ];
    unlogged = logged_then;
  }
    where
      taken_over : (f h found : ℕ → Bool) → ((k : ℕ) → h k ≡ taken f gp gq k) → ((k : ℕ) → IsTrue (f k) → IsTrue (t.starts k))
          → ((n : Name) (r : ℕ) → IsTrue (has m.unreclaimed n) → HasPlace st n r → f (granule_of r) ≡ found (granule_of (st.at n))) → (n : Name) (r : ℕ) → IsTrue (has m.unreclaimed n) → HasPlace later n r
          → h (granule_of r) ≡ found (granule_of (st.at n))
      taken_over f h found tells only before n r in_n place = tells (granule_of r) ∙ elim (has_split a c m st o q object is n r place) [
        | inl old ↦ taken_elsewhere f gp gq (granule_of r) (elsewhere n r in_n old) ∙ before n r in_n old
        | inr new ↦ ap (λ z. taken f gp gq (granule_of z)) new.1 ∙ taken_here f gp gq (unmarked_there f only) ∙ before o (st.at o) is.member old_place ∙ ap (λ z. found (granule_of (st.at z))) (sym new.0)
      ]

      only_starts : (f h : ℕ → Bool) → ((k : ℕ) → h k ≡ taken f gp gq k) → ((k : ℕ) → IsTrue (f k) → IsTrue (t.starts k)) → (k : ℕ) → IsTrue (h k) → IsTrue ((tables_of c).starts k)
      only_starts f h tells only k set = starts_then k ∙ elim (changed_cases t.starts gq true k) [
        | inl here ↦ here.1
        | inr other ↦ other.1 ∙ only k (sym (taken_elsewhere f gp gq k other.0) ∙ sym (tells k) ∙ set)
      ]
