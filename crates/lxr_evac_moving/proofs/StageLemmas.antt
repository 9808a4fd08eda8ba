-- What holds of names and places at each stage: which names have moved, where objects lie, and that places tell them apart.
use Rattle.std.proofs.Common.{◌≡◌, ◌≢◌, ℕ, ◌+◌, ◌-◌, ◌*◌, ◌/◌, ◌<◌, ◌≤◌, sym, ap, subst, ◌∙◌, inl, inr, ◌⊎◌, arith, true, false, nat_eq}
use Rattle.std.specs.Prelude.{not, Some, IsTrue}
use Rattle.std.proofs.lemmas.Bool.Decides.{eqb_tells, nat_tests}
use Rattle.lxr_layout.specs.declared.Name.{Name}
use Rattle.lxr_layout.specs.declared.TheConstants.{GRANULES_IN_BLOCK, MOST_GRANULES, WORDS_IN_BLOCK}
use Rattle.lxr_layout.specs.Places.{first_word}
use Rattle.lxr_graph.specs.Names.{has}
use Rattle.lxr_graph.specs.State.{Object, object_at, shape_of}
use Rattle.lxr_image.specs.declared.space.Space.{Space}
use Rattle.lxr_image.specs.Tables.{Tables}
use Rattle.lxr_image.specs.Spaces.{tables_of}
use Rattle.lxr_image.specs.Reads.{granule_of}
use Rattle.lxr_image.specs.Image.{Stands, granules_of}
use Rattle.lxr_model.specs.Moments.{Moment}
use Rattle.lxr_invariant.specs.AbstractState.{members}
use Rattle.lxr_invariant.specs.Standing.{place_of}
use Rattle.lxr_invariant.proofs.NameLemmas.{in_first}
use Rattle.lxr_invariant.proofs.PlaceLemmas.{same_object}
use Rattle.lxr_pause_promote.specs.Copying.{StandsAt}
use Rattle.lxr_pause_promote.specs.Either.{IsPlaceOf, StandsNow}
use Rattle.lxr_pause_promote.proofs.EitherLemmas.{some_granules}
use Rattle.lxr_evac_moving.specs.Stages.{EvacuationStage, HasMoved, HasPlace, IsEvacuating, granules, moved_names}
use Rattle.lxr_evac_moving.proofs.FilterLemmas.{filter_parts, in_filter}

-- ---- names that have moved

test_moved : (a b : ℕ) → a ≢ b → not (nat_eq a b) ≡ true
test_moved a b e = let t : nat_eq a b ≡ false = grind (arith, nat_tests) in ap not t

moved_test : (a b : ℕ) → not (nat_eq a b) ≡ true → a ≢ b
moved_test a b e same = let t : nat_eq a b ≡ true = grind (arith, nat_tests) in let no : true ≡ false = sym e ∙ ap not t in cc

pub moved_in : (m : Moment) (st : EvacuationStage) (n : Name) → IsTrue (has m.unreclaimed n) → HasMoved st n → IsTrue (has (moved_names m st) n)
moved_in m st n member moved = in_filter (λ u. not (nat_eq (st.now u) (st.at u))) m.unreclaimed n member (test_moved (st.now n) (st.at n) moved)

pub moved_parts : (m : Moment) (st : EvacuationStage) (n : Name) → IsTrue (has (moved_names m st) n) → IsTrue (has m.unreclaimed n) × HasMoved st n
moved_parts m st n h = let p = filter_parts (λ u. not (nat_eq (st.now u) (st.at u))) m.unreclaimed n h in (p.0, moved_test (st.now n) (st.at n) p.1)

-- an object has moved, or stands where it stood
pub moved_or_still : (st : EvacuationStage) (n : Name) → HasMoved st n ⊎ (st.now n ≡ st.at n)
moved_or_still st n = elim (eqb_tells (st.now n) (st.at n)) [ inl e ↦ inr e.1 | inr e ↦ inl e.1 ]

-- ---- places

-- a place where an object's bits stand is one where it stands or stood; where nothing is cleared, all of these are
pub place_is : (st : EvacuationStage) (n : Name) (p : ℕ) → HasPlace st n p → IsPlaceOf st.at st.now n p
place_is st n p (inl e) = inr e
place_is st n p (inr (e, left)) = inl e

pub place_has : (st : EvacuationStage) (n : Name) (p : ℕ) → st.cleared ≡ 0 → IsPlaceOf st.at st.now n p → HasPlace st n p
place_has st n p none (inl e) = inr (e, omega (arith, none))
place_has st n p none (inr e) = inl e

module _ (s : Space) (m : Moment) (st : EvacuationStage) (is : IsEvacuating s m st) where
  pub same_limits : s.limits ≡ st.found.limits
  same_limits = ap (λ (x : Space). x.limits) is.changes

  pub same_cursors : (tables_of s).cursors ≡ (tables_of st.found).cursors
  same_cursors = ap (λ (t : Tables). t.cursors) is.tables

  pub same_remembered : (tables_of s).remembered ≡ (tables_of st.found).remembered
  same_remembered = ap (λ (t : Tables). t.remembered) is.tables

  in_members : (n : Name) → IsTrue (has m.unreclaimed n) → IsTrue (has (members m) n)
  in_members n h = in_first m.unreclaimed m.made n h

  -- where an object stood it stood whole
  pub stood : (n : Name) (o : Object) → IsTrue (has m.unreclaimed n) → object_at m.state.graph n ≡ Some o → Stands (tables_of st.found) st.found.limits.blocks st.at n o
  stood n o member has_o =
      let x = is.can.holds.image.image.stands n (in_members n member) in
      subst (Stands (tables_of st.found) st.found.limits.blocks st.at n) (same_object m.state.graph n x.0 o x.1 has_o) x.2

  -- and it stands
  pub stands : (n : Name) (o : Object) → IsTrue (has m.unreclaimed n) → object_at m.state.graph n ≡ Some o → StandsNow (tables_of s) s.limits.blocks st.at st.now n o
  stands n o member has_o =
      let x = is.heap.stands n member in
      subst (StandsNow (tables_of s) s.limits.blocks st.at st.now n) (same_object m.state.graph n x.0 o x.1 has_o) x.2

  pub stands_at : (n : Name) (o : Object) → IsTrue (has m.unreclaimed n) → object_at m.state.graph n ≡ Some o → StandsAt s (place_of st.now n) n (shape_of o)
  stands_at n o member has_o = let x = stands n o member has_o in record { space = is.space; placed = x.placed; whole = x.whole }

  -- an object lies in the heap, in one block, wherever it stands or stood
  pub place_within : (n : Name) (o : Object) (p : ℕ) → IsTrue (has m.unreclaimed n) → object_at m.state.graph n ≡ Some o → IsPlaceOf st.at st.now n p
      → (1 ≤ p) × (granule_of p + granules_of o ≤ granules s) × (granule_of p / GRANULES_IN_BLOCK ≡ (granule_of p + granules_of o - 1) / GRANULES_IN_BLOCK)
  place_within n o p member has_o (inl e) =
      let x = stood n o member has_o in
      subst (λ z. (1 ≤ z) × (granule_of z + granules_of o ≤ granules s) × (granule_of z / GRANULES_IN_BLOCK ≡ (granule_of z + granules_of o - 1) / GRANULES_IN_BLOCK)) (sym e)
      (x.placed, subst (λ l. granule_of (st.at n) + granules_of o ≤ GRANULES_IN_BLOCK * l.blocks) (sym same_limits) x.whole.in_heap, x.whole.in_block)
  place_within n o p member has_o (inr e) =
      let x = stands n o member has_o in
      subst (λ z. (1 ≤ z) × (granule_of z + granules_of o ≤ granules s) × (granule_of z / GRANULES_IN_BLOCK ≡ (granule_of z + granules_of o - 1) / GRANULES_IN_BLOCK)) (sym e)
      (x.placed, x.whole.in_heap, x.whole.in_block)

  -- so its place is one of the heap
  pub place_some : (n : Name) (p : ℕ) → IsTrue (has m.unreclaimed n) → IsPlaceOf st.at st.now n p → (1 ≤ p) × (p ≤ MOST_GRANULES) × (granule_of p < granules s) × (first_word p < WORDS_IN_BLOCK * s.limits.blocks)
  place_some n p member place =
      let x = is.heap.stands n member in
      let within = place_within n x.0 p member x.1 place in
      let first = within.0 in
      let end = within.1 in
      let some = some_granules x.0 in
      let few = is.space.limits.blocks.1 in
      (first, omega (arith, some, first, end, few), omega (arith, some, end), omega (arith, some, first, end))

  -- a granule at which two objects begin tells them to be one
  pub one_begins : (n u : Name) (p q : ℕ) → IsTrue (has m.unreclaimed n) → IsTrue (has m.unreclaimed u) → IsPlaceOf st.at st.now n p → IsPlaceOf st.at st.now u q → granule_of p ≡ granule_of q → (n ≡ u) × (p ≡ q)
  one_begins n u p q in_n in_u here there same =
      let some_p = (place_some n p in_n here).0 in
      let some_q = (place_some u q in_u there).0 in
      let one : p ≡ q = omega (arith, some_p, some_q, same) in
      (is.apart.own n u p in_n in_u here (subst (IsPlaceOf st.at st.now u) (sym one) there), one)
