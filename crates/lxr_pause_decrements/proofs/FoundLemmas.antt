-- What is handled is found from the drawn entries of the list of decrements, and from what is found.
use Rattle.std.proofs.Common.{◌≡◌, ◌≢◌, ℕ, zero, suc, ◌+◌, ◌*◌, ◌<◌, ◌≤◌, refl, sym, ap, subst, ◌∙◌, inl, inr, arith, Bool, true, false, cond, List, [], ◌∷◌, ◌++◌, IsTrue, length, nat_eq, nat_le}
use Rattle.std.specs.Prelude.{not, ◌&&◌, ◌||◌, Option, Some, None, map, reverse, slice_get}
use Rattle.std.proofs.lemmas.Bool.{false_from_ne_true, not-true, or_cases, or_right}
use Rattle.std.proofs.lemmas.Bool.Decides.{eqb_tells, nat_tests}
use Rattle.std.proofs.lemmas.List.{length-map, length-reverse}
use Rattle.std.proofs.lemmas.Map.Views.{any-filter_same}
use Rattle.std.proofs.lemmas.Option.{slice_get_within}
use Rattle.lxr_layout.specs.declared.TheConstants.{DECREMENT_COUNT, DECREMENT_CURSOR, GRANULES_IN_BLOCK, MOST_GRANULES}
use Rattle.lxr_layout.specs.declared.Name.{Name}
use Rattle.lxr_layout.specs.declared.Place.{Place}
use Rattle.lxr_layout.specs.Places.{field_word}
use Rattle.lxr_graph.specs.Names.{has, same_name}
use Rattle.lxr_graph.proofs.NameSets.{in_without, not_both, same_names}
use Rattle.lxr_graph.proofs.RowLemmas.{slice_get-mapped}
use Rattle.lxr_image.specs.declared.space.Space.{Space}
use Rattle.lxr_image.specs.Tables.{Tables}
use Rattle.lxr_image.specs.Spaces.{tables_of}
use Rattle.lxr_image.specs.Reads.{granule_of}
use Rattle.lxr_image.specs.Image.{place_word}
use Rattle.lxr_model.specs.Dead.{Dead}
use Rattle.lxr_model.specs.Moments.{Moment}
use Rattle.lxr_model.specs.Reachable.{Holds, Refers}
use Rattle.lxr_model.proofs.CountLemmas.{references_none, references_zero}
use Rattle.lxr_model.proofs.DrainLemmas.{at_index}
use Rattle.lxr_model.proofs.ReachableLemmas.{dead_parts, dead_within}
use Rattle.lxr_model_counting.proofs.DistinctLemmas.{tested}
use Rattle.lxr_invariant.specs.Counting.{entries_between, is_done, undone}
use Rattle.lxr_invariant.specs.Standing.{place_of}
use Rattle.lxr_invariant.proofs.EntryLemmas.{passing_few, unlike_number}
use Rattle.lxr_pause_decrements.specs.Cascade.{CascadeStage, HasField, IsHandling, Keeps, drawn_count, held_by, kept}
use Rattle.lxr_pause_decrements.specs.Handled.{AllAreThrough, AllHoldUndone, AreThrough, DrawnAreUndone, FirstAreUndone}
use Rattle.lxr_pause_decrements.specs.Steps.{ReclaimsSomeHandled}
use Rattle.lxr_pause_decrements.proofs.CascadeLemmas.{has_reversed, in_heap, started}
use Rattle.lxr_pause_decrements.proofs.DrainLemmas.{member_header, member_place, member_reads}
use Rattle.lxr_pause_decrements.proofs.HandledLemmas.{all_hold_still}
use Rattle.lxr_pause_decrements.proofs.HandlingLemmas.{listed_none}

-- ---- lists

-- where no entry is this one, it stands nowhere
no_entry : (f : ℕ → ℕ) (n p : ℕ) → ((k : ℕ) → k < n → f k ≢ p) → entries_between f 0 n p ≡ 0
no_entry f zero p none = refl
no_entry f (suc n) p none =
    let last : nat_eq (f n) p ≡ false = unlike_number (f n) p (none n (omega arith)) in
    let least : nat_le 0 n ≡ true = grind (arith, nat_tests) in
    let rest = no_entry f n p (λ k within. none k (omega (arith, within))) in
    let head : entries_between f 0 (suc n) p ≡ cond (true && false) 1 0 + entries_between f 0 n p = λ i. cond (least i && last i) 1 0 + entries_between f 0 n p in
    omega (arith, head, rest)

-- the place of a name of these is one of their places
place_listed : (f : Name → Place) (ns : List Name) (r : Name) → IsTrue (has ns r) → (j : ℕ) × (slice_get (map f ns) j ≡ Some (f r))
place_listed f [] r h = absurd (cc)
place_listed f (n ∷ ns) r h = elim (or_cases (same_name r n) (has ns r) h) [
  | inl k ↦ (0, ap (λ z. Some (f z)) (sym (same_names r n k)))
  | inr k ↦ let x = place_listed f ns r k in (suc x.0, x.1)
]

pub first_stay : {A : Type 0} (xs ys : List A) (j : ℕ) → j < length xs → slice_get (xs ++ ys) j ≡ slice_get xs j
first_stay [] ys j within = absurd (omega (arith, within))
first_stay (x ∷ xs) ys zero within = refl
first_stay (x ∷ xs) ys (suc j) within = first_stay xs ys j (omega (arith, within))

-- ---- the drawn entries

-- the place of an entry is a place
pub entry_place : (s : Space) (st : CascadeStage) (k : ℕ) → IsHandling s st → k < (tables_of s).cursors DECREMENT_COUNT
    → (1 ≤ (tables_of s).decs k) × ((tables_of s).decs k ≤ MOST_GRANULES) × ((tables_of s).decs k ≤ GRANULES_IN_BLOCK * s.limits.blocks)
entry_place s st k is within =
    let left = is.handling.remains in
    let x = left.decrements.places k within in
    member_place s ((tables_of s).decs k) st x.0 is.space left.ground x.1 x.2

-- one entry more is looked at
pub first_more : (a b : Space) (k place : ℕ) → Keeps a b → ReclaimsSomeHandled a b → place ≡ (tables_of a).decs k → FirstAreUndone (tables_of a) k → (tables_of b).dones (granule_of place) ≡ false
    → FirstAreUndone (tables_of b) (k + 1)
first_more a b k place keeps some is was undone j within =
    let entry : (tables_of b).decs j ≡ (tables_of a).decs j = ap (λ f. f j) keeps.leaves.tables.decs in
    ap (λ z. (tables_of b).dones (granule_of z)) entry ∙ (elim (eqb_tells j k) [
      | inl q ↦ ap (λ z. (tables_of b).dones (granule_of z)) (ap (tables_of a).decs q.1 ∙ sym is) ∙ undone
      | inr q ↦ let ne = q.1 in some.dones _ (was j (omega (arith, within, ne)))
    ])

-- the drawn entries stay looked at
pub drawn_still : (a b : Space) → Keeps a b → ReclaimsSomeHandled a b → DrawnAreUndone (tables_of a) → DrawnAreUndone (tables_of b)
drawn_still a b keeps some was j within =
    let entry : (tables_of b).decs j ≡ (tables_of a).decs j = ap (λ f. f j) keeps.leaves.tables.decs in
    let cursor : (tables_of b).cursors DECREMENT_CURSOR ≡ (tables_of a).cursors DECREMENT_CURSOR = ap (λ f. f DECREMENT_CURSOR) keeps.cursors in
    let count : (tables_of b).cursors DECREMENT_COUNT ≡ (tables_of a).cursors DECREMENT_COUNT = ap (λ f. f DECREMENT_COUNT) keeps.cursors in
    ap (λ z. (tables_of b).dones (granule_of z)) entry ∙ some.dones _ (was j (omega (arith, within, cursor, count)))

-- ---- references

-- what a reference holds is nil or a place
held_step : (s : Space) (st : CascadeStage) (r : Name) (i word : ℕ) (ref : Option Name) → IsHandling s st → IsTrue (has st.moment.unreclaimed r) → slice_get (held_by st r) i ≡ Some ref → word ≢ 0
    → word ≡ place_word st.at ref → (1 ≤ word) × (word ≤ MOST_GRANULES) × (word ≤ GRANULES_IN_BLOCK * s.limits.blocks)
held_step s st r i word None is in_r e some reads = absurd (some reads)
held_step s st r i word (Some n) is in_r e some reads =
    let ground = is.handling.remains.ground in
    member_place s word st n is.space ground (ground.closed r n in_r (i, e)) reads

pub held_place : (s : Space) (place i word : ℕ) (st : CascadeStage) (r : Name) → IsHandling s st → HasField place i st r → word ≢ 0 → word ≡ (tables_of s).heap (field_word place i)
    → (1 ≤ word) × (word ≤ MOST_GRANULES) × (word ≤ GRANULES_IN_BLOCK * s.limits.blocks)
held_place s place i word st r is field some reads =
    let g = member_reads s place i word st r is.handling.remains.ground field reads in
    held_step s st r i word g.0 is field.member g.1 some g.2

-- ---- the worklist

-- what lies in the worklist is the place of a dead object
pub listed_dead : (s : Space) (st : CascadeStage) (j : ℕ) (p : Place) → IsHandling s st → slice_get s.work.items j ≡ Some p
    → (r : Name) × Dead st.moment.last st.moment.unreclaimed st.moment.stuck r × (p.0 ≡ st.at r)
listed_dead s st j p is e =
    let x = slice_get-mapped (place_of st.at) (reverse st.gone) j p (ap (λ z. slice_get z j) (sym is.handling.places) ∙ e) in
    (x.0, is.handling.dead x.0 (sym (has_reversed st.gone x.0) ∙ at_index (reverse st.gone) j x.0 x.1), ap (λ z. z.0) x.2)

-- it has no more places than the heap has granules
pub few_listed : (s : Space) (st : CascadeStage) → IsHandling s st → length s.work.items ≤ GRANULES_IN_BLOCK * s.limits.blocks
few_listed s st is =
    let fewer = is.handling.remains.fewer in
    let few = passing_few st.was.starts (GRANULES_IN_BLOCK * s.limits.blocks) in
    let long = ap length is.handling.places ∙ length-map (reverse st.gone) (place_of st.at) ∙ length-reverse st.gone in
    omega (arith, fewer, few, long)

-- the references of one object more are looked at
pub through_more : (a b : Space) (from : ℕ) (p : Place) → Keeps a b → ReclaimsSomeHandled a b → slice_get a.work.items from ≡ Some p → AreThrough (tables_of a) a.work.items from → AllHoldUndone (tables_of b) p.0
    → AreThrough (tables_of b) b.work.items (from + 1)
through_more a b from p keeps some here was undone j q within e =
    let inside = slice_get_within a.work.items from p here in
    let before : slice_get a.work.items j ≡ Some q = sym (first_stay a.work.items some.added.0 j (omega (arith, within, inside))) ∙ ap (λ z. slice_get z j) (sym some.added.1) ∙ e in
    elim (eqb_tells j from) [
      | inl k ↦
          let same : Some p ≡ Some q = sym here ∙ ap (slice_get a.work.items) (sym k.1) ∙ before in
          let one : p ≡ q = cc in
          subst (λ z. AllHoldUndone (tables_of b) z.0) one undone
      | inr k ↦ let ne = k.1 in all_hold_still a b q.0 keeps some (was j q (omega (arith, within, ne)) before)
    ]

-- behind the last all are
pub through_all : (s : Space) (from : ℕ) → length s.work.items ≤ from → AreThrough (tables_of s) s.work.items from → AllAreThrough (tables_of s) s.work.items
through_all s from past was j p e = let within = slice_get_within s.work.items j p e in was j p (omega (arith, within, past)) e

-- ---- all is found

in_undone : (t : Tables) (at : Name → ℕ) (us : List Name) (u : Name) → IsTrue (has us u) → is_done t at u ≡ false → IsTrue (has (undone t at us) u)
in_undone t at us u h clear =
    any-filter_same (same_name u) (λ n. not (is_done t at n)) true (λ n e. ap (λ z. not (is_done t at z)) (sym (same_names u n e)) ∙ ap not clear) us ∙ h

module _ (s : Space) (st : CascadeStage) (is : IsHandling s st) (drawn : DrawnAreUndone (tables_of s)) (through : AllAreThrough (tables_of s) s.work.items) where
  abbrev t : Tables
  t = tables_of s

  abbrev m : Moment
  m = st.moment

  -- what a reclaimed object referred to isn't done
  by_gone : (u o : Name) → IsTrue (has st.gone u) → Refers m.last.graph u o → is_done t st.at o ≡ false
  by_gone u o went (i, e) =
      let ground = is.handling.remains.ground in
      let d = is.handling.dead u went in
      let in_u = (dead_parts d).member in
      let x = place_listed (place_of st.at) (reverse st.gone) u (has_reversed st.gone u ∙ went) in
      let h = member_header s (st.at u) st u ground in_u refl in
      let within = slice_get_within (held_by st u) i (Some o) e in
      let reads : t.heap (field_word (st.at u) i) ≡ st.at o = ground.fields u i (Some o) d e in
      let some = (in_heap t.heap s.limits.blocks m st.at ground o (ground.closed u o in_u (i, e))).0 in
      let told = through x.0 (place_of st.at u) (ap (λ z. slice_get z x.0) is.handling.places ∙ x.1) u h.0 h.1 i (omega (arith, within, h.2)) (λ nil. omega (arith, nil, reads, some)) in
      ap (λ z. t.dones (granule_of z)) (sym reads) ∙ told

  -- it is reclaimed, or not done
  abbrev is_found : Name → Bool
  is_found o = has st.gone o || not (is_done t st.at o)

  -- where all that refer to it are, it would have a count if it were done and left
  finds : (o : Name) → IsTrue (has m.unreclaimed o) → has m.stuck o ≡ false → (Holds m.last o → ⊥) → ((u : Name) → IsTrue (has m.unreclaimed u) → Refers m.last.graph u o → IsTrue (is_found u)) → IsTrue (is_found o)
  finds o in_o loose unheld each = elim (tested (is_done t st.at o)) [
    | inr k ↦ or_right (has st.gone o) (not (is_done t st.at o)) (ap not k)
    | inl k ↦
        let h = is.handling in
        let zero = h.done_zero o in_o k in
        let exact = h.exact o in_o loose in
        let nobody = (references_zero m.last (undone t st.at (kept st)) o (omega (arith, exact, zero))).1 in
        let refs = references_none m.last m.unreclaimed o unheld (λ u in_u refers. elim (tested (has st.gone u)) [
          | inl g ↦ not_both (is_done t st.at o) k (by_gone u o g refers)
          | inr left ↦
              nobody u (in_undone t st.at (kept st) u (in_without m.unreclaimed st.gone u in_u (λ g. not_both (has st.gone u) g left))
              (elim (or_cases (has st.gone u) (not (is_done t st.at u)) (each u in_u refers)) [
                | inl g ↦ not_both (has st.gone u) g left
                | inr clear ↦ not-true (is_done t st.at u) clear
              ])) refers
        ]) in
        let early = no_entry t.decs (drawn_count t) (st.at o) (λ j within e. not_both (is_done t st.at o) k (ap (λ z. t.dones (granule_of z)) (sym e) ∙ drawn j within)) in
        let listed = listed_none t.decs (t.cursors DECREMENT_CURSOR) (t.cursors DECREMENT_COUNT) (st.at o) early (omega (arith, exact, zero)) in
        absurd (h.held o in_o loose (omega (arith, refs, listed)))
  ]

  -- so nothing is done
  pub all_found : (k : ℕ) → t.dones k ≡ false
  all_found k = false_from_ne_true (t.dones k) (λ done.
      let left = is.handling.remains in
      let x = started s.limits t s.report.dead st k left (left.bits.dones k done) in
      let so : is_done t st.at x.0 ≡ true = ap t.dones x.1.granule ∙ done in
      elim (or_cases (has st.gone x.0) (not (is_done t st.at x.0)) (dead_within m.last m.unreclaimed m.stuck is_found finds x.0 (is.handling.done_dead x.0 x.1.member so))) [
        | inl g ↦ not_both (has st.gone x.0) g x.1.left
        | inr clear ↦ not_both (is_done t st.at x.0) so (not-true (is_done t st.at x.0) clear)
      ])
