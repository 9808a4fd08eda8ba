-- What follows from counts and pending decrements at one moment: what has a decrement in hand has a count, what has none left is dead,
-- and what a decrementer reads of a dead object is what that referred to at the last pause.
use Rattle.std.proofs.Common.{◌≡◌, ◌≢◌, ℕ, ◌-◌, ◌<◌, ◌≤◌, refl, sym, ap, subst, ◌∙◌, inl, inr, arith, Bool, true, false, cond, List, [], ◌∷◌, IsTrue, get_or}
use Rattle.std.specs.Prelude.{not, Option, Some, None, slice_get}
use Rattle.std.proofs.lemmas.Option.{slice_get-get_or}
use Rattle.lxr_layout.specs.declared.limits.Limits.{Limits}
use Rattle.lxr_layout.specs.declared.Name.{Name}
use Rattle.lxr_layout.specs.declared.TheConstants.{STUCK}
use Rattle.lxr_layout.specs.Places.{field_word}
use Rattle.lxr_graph.specs.Names.{has, same_name}
use Rattle.lxr_graph.specs.State.{object_at, refs_of}
use Rattle.lxr_graph.proofs.NameSets.{not_both, same_itself, same_names}
use Rattle.lxr_image.specs.Tables.{Tables}
use Rattle.lxr_image.specs.Reads.{granule_of}
use Rattle.lxr_image.specs.Image.{place_word}
use Rattle.lxr_model.specs.Dead.{Dead, dead}
use Rattle.lxr_model.specs.Moments.{Moment}
use Rattle.lxr_model.proofs.CountLemmas.{references_zero}
use Rattle.lxr_model_counting.proofs.DistinctLemmas.{first_has, later_has, has_split, tested}
use Rattle.lxr_invariant.specs.Counting.{count_at, is_done, undone}
use Rattle.lxr_invariant.proofs.EntryLemmas.{one_if, same_number, unlike_number}
use Rattle.lxr_core_access.specs.Decrementers.{Decrementing}
use Rattle.lxr_core_invariant.specs.Counted.{AreCounted, IsHandledAt, StandsAt, in_hand, one_at, references_at}
use Rattle.lxr_core_invariant.proofs.FieldLemmas.{name_found}
use Rattle.lxr_core_inv_counts.proofs.HandLemmas.{hand_in_hands}
use Rattle.lxr_core_inv_counts.proofs.GroundLemmas.{IsGround}

-- a name of a list that isn't done is one of those that count
undone_has : (t : Tables) (at : Name → ℕ) (us : List Name) (u : Name) → IsTrue (has us u) → is_done t at u ≡ false → IsTrue (has (undone t at us) u)
undone_has t at [] u member clear = absurd (let k : false ≡ true = member in cc)
undone_has t at (x ∷ us) u member clear = elim (has_split x us u member) [
  | inl e ↦ subst (λ z. IsTrue (has (undone t at (x ∷ us)) z)) (sym e) (subst (λ b. IsTrue (has (cond (not b) (x ∷ undone t at us) (undone t at us)) x)) (sym (ap (is_done t at) (sym e) ∙ clear)) (first_has x (undone t at us)))
  | inr k ↦ behind (is_done t at x) (undone_has t at us u k clear)
]
  where
    behind : (done : Bool) → IsTrue (has (undone t at us) u) → IsTrue (has (cond (not done) (x ∷ undone t at us) (undone t at us)) u)
    behind true h = h
    behind false h = later_has x (undone t at us) u h

-- a word that isn't nil is the place of an object
pub word_of_some : (at : Name → ℕ) (held : Option Name) → place_word at held ≢ 0 → (v : Name) × (held ≡ Some v)
word_of_some at None some = absurd (some refl)
word_of_some at (Some v) some = (v, refl)

module _ (l : Limits) (t : Tables) (ds : List Decrementing) (m : Moment) (at : Name → ℕ) (ground : IsGround l t m at) (was : AreCounted l.blocks t ds m at) where
  -- ---- places

  -- places and granules count from one, and from zero
  granule_tells : (p q : ℕ) → 1 ≤ p → 1 ≤ q → p - 1 ≡ q - 1 → p ≡ q
  granule_tells p q some_p some_q e = omega arith

  -- what begins at one granule is one
  pub one_granule : (n o : Name) → IsTrue (has m.unreclaimed n) → IsTrue (has m.unreclaimed o) → granule_of (at n) ≡ granule_of (at o) → n ≡ o
  one_granule n o in_n in_o e = ground.one n o in_n in_o (granule_tells (at n) (at o) (ground.stands n in_n).placed (ground.stands o in_o).placed e)

  -- two unreclaimed objects begin at two granules
  pub differ : (n o : Name) → IsTrue (has m.unreclaimed n) → IsTrue (has m.unreclaimed o) → same_name n o ≡ false → granule_of (at n) ≢ granule_of (at o)
  differ n o in_n in_o other e = not_both (same_name n o) (subst (λ z. IsTrue (same_name z o)) (sym (one_granule n o in_n in_o e)) (same_itself o)) other

  -- what begins at the granule of a place stands there
  pub stands_at : (place : ℕ) → 1 ≤ place → IsTrue (t.starts (granule_of place)) → StandsAt m at place
  stands_at place some started =
      let x = ground.starts.only (granule_of place) started in
      record { name = x.0; member = x.1; stands = granule_tells place (at x.0) some (ground.stands x.0 x.1).placed (sym x.2) }

  -- the references of what stands at a place
  pub refs_there : (place : ℕ) (n : Name) → IsTrue (has m.unreclaimed n) → place ≡ at n → references_at m at place ≡ refs_of (object_at m.last.graph n)
  refs_there place n member there = ap (λ z. refs_of (object_at m.last.graph z)) (name_found at m.unreclaimed n place member (λ x h e. ground.one x n h member e) there)

  -- one for what stands at a place, and for no other
  pub one_is : (place : ℕ) (v n : Name) → IsTrue (has m.unreclaimed v) → IsTrue (has m.unreclaimed n) → place ≡ at v → one_at at place n ≡ one_if (same_name n v)
  one_is place v n in_v in_n there = elim (tested (same_name n v)) [
    | inl k ↦ ap one_if (same_number place (at n) (there ∙ ap at (sym (same_names n v k))) ∙ sym k)
    | inr k ↦ ap one_if (unlike_number place (at n) (λ e. not_both (same_name n v) (subst (λ z. IsTrue (same_name z v)) (ground.one v n in_v in_n (sym there ∙ e)) (same_itself v)) k) ∙ sym k)
  ]

  -- ---- counts

  -- decrements in hand are counted
  pub in_hand_counts : (i : ℕ) (d : Decrementing) (n : Name) → slice_get ds i ≡ Some d → IsTrue (has m.unreclaimed n) → has m.stuck n ≡ false → in_hand t m at d n ≤ count_at t at n
  in_hand_counts i d n shows member loose = let a = was.exact n member loose in let b = hand_in_hands t m at ds i d n shows in omega (arith, a, b)

  -- what is stuck has no count 0
  stuck_some : (n : Name) → IsTrue (has m.unreclaimed n) → IsTrue (has m.stuck n) → count_at t at n ≡ 0 → ⊥
  stuck_some n member stuck zero = let a = was.stuck n member stuck in omega (arith, a, zero)

  -- so what has a decrement in hand has no count 0
  pub in_hand_some : (i : ℕ) (d : Decrementing) (n : Name) → slice_get ds i ≡ Some d → IsTrue (has m.unreclaimed n) → 1 ≤ in_hand t m at d n → count_at t at n ≢ 0
  in_hand_some i d n shows member some zero = elim (tested (has m.stuck n)) [
    | inl k ↦ stuck_some n member k zero
    | inr k ↦ let a = in_hand_counts i d n shows member k in omega (arith, a, some, zero)
  ]

  -- a count that isn't STUCK is that of a name that isn't stuck, and one that is, of one that is
  pub is_loose : (n : Name) → IsTrue (has m.unreclaimed n) → count_at t at n ≢ STUCK → has m.stuck n ≡ false
  is_loose n member differs = elim (tested (has m.stuck n)) [ inl k ↦ absurd (differs (was.stuck n member k)) | inr k ↦ k ]

  pub is_stuck : (n : Name) → IsTrue (has m.unreclaimed n) → count_at t at n ≡ STUCK → IsTrue (has m.stuck n)
  is_stuck n member full = elim (tested (has m.stuck n)) [ inl k ↦ k | inr k ↦ let a = was.below n member k in absurd (omega (arith, a, full)) ]

  -- a name with no count is dead: only what is done refers to it
  pub uncounted_dead : (n : Name) → IsTrue (has m.unreclaimed n) → count_at t at n ≡ 0 → Dead m.last m.unreclaimed m.stuck n
  uncounted_dead n member zero =
      let loose = is_loose n member (λ e. omega (arith, e, zero)) in
      let exact = was.exact n member loose in
      let none = references_zero m.last (undone t at m.unreclaimed) n (omega (arith, exact, zero)) in
      dead member loose none.0 (λ u in_u refers. elim (tested (is_done t at u)) [
        | inl k ↦ was.dead u in_u k
        | inr k ↦ absurd (none.1 u (undone_has t at m.unreclaimed u in_u k) refers)
      ])

  -- ---- what is read of a dead object

  -- a reference that was read: what it held at the last pause, which is nil or unreclaimed
  pub record HasRead (place index : ℕ) : Type 0 where
    pub held : Option Name
    pub reference : slice_get (references_at m at place) index ≡ Some held
    pub word : t.heap (field_word place index) ≡ place_word at held
    pub member : (v : Name) → held ≡ Some v → IsTrue (has m.unreclaimed v)

  pub has_read : (place refs index : ℕ) → IsHandledAt t m at place refs → index < refs → HasRead place index
  has_read place refs index is within =
      let n : Name = is.done.name in
      let rs : List (Option Name) = references_at m at place in
      let same = refs_there place n is.done.member is.done.stands in
      let e = is.refs_are in
      let got = slice_get-get_or rs index None (omega (arith, e, within)) in
      let there : slice_get (refs_of (object_at m.last.graph n)) index ≡ Some (get_or rs index None) = ap (λ z. slice_get z index) (sym same) ∙ got in
      record {
        held = get_or rs index None;
        reference = got;
        word = ap (λ p. t.heap (field_word p index)) is.done.stands ∙ ground.fields n index (get_or rs index None) (was.dead n is.done.member is.done.done) there;
        member = λ v k. ground.follows.closed n v is.done.member (index, there ∙ ap Some k);
      }

  -- nil is no place of an object
  pub word_of_nil : (held : Option Name) → ((v : Name) → held ≡ Some v → IsTrue (has m.unreclaimed v)) → place_word at held ≡ 0 → held ≡ None
  word_of_nil None member e = refl
  word_of_nil (Some v) member e = let a = (ground.stands v (member v refl)).placed in absurd (omega (arith, a, e))
