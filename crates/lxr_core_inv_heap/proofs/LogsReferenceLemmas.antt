-- What the unlogged bit of a reference tells the mutator that works on it, and what the reference holds.
use Rattle.std.proofs.Common.{◌≡◌, ℕ, ◌%◌, ◌^◌, ◌<◌, ◌≤◌, sym, ap, subst, ◌∙◌, inl, inr, arith, true, false, List, ◌∷◌, length, get_or}
use Rattle.std.specs.Prelude.{Option, Some, None, IsTrue, slice_get}
use Rattle.std.proofs.lemmas.Option.{get_or_from_slice_get, slice_get-get_or}
use Rattle.lxr_layout.specs.declared.TheConstants.{MOST_BLOCKS}
use Rattle.lxr_layout.specs.Places.{field_word}
use Rattle.lxr_layout.specs.declared.Name.{Name}
use Rattle.lxr_graph.specs.Names.{has}
use Rattle.lxr_graph.specs.State.{Object, object_at, refs_of}
use Rattle.lxr_graph.proofs.NameSets.{not_both}
use Rattle.lxr_image.specs.Tables.{Tables, changed}
use Rattle.lxr_image.specs.Image.{IsImage, place_word}
use Rattle.lxr_model.specs.Moments.{Field, Moment, same_field}
use Rattle.lxr_model_counting.specs.Distinct.{has_field}
use Rattle.lxr_model_counting.specs.Following.{FollowsPause}
use Rattle.lxr_model_counting.proofs.DistinctLemmas.{field_split, first_field, or_false, tested}
use Rattle.lxr_invariant.specs.AbstractState.{members}
use Rattle.lxr_invariant.specs.Standing.{HasBits, IsUnwritten, entry_of, word_of_field}
use Rattle.lxr_invariant.proofs.EntryLemmas.{changed_cases}
use Rattle.lxr_invariant.proofs.NameLemmas.{in_first}
use Rattle.lxr_core_invariant.specs.Happening.{entry_with, with_logged}
use Rattle.lxr_core_invariant.specs.Imaged.{IsReferenceAt}
use Rattle.lxr_core_invariant.specs.Logged.{with_cleared}
use Rattle.lxr_core_invariant.proofs.HeldLemmas.{reference_held}
use Rattle.lxr_core_invariant.proofs.TellingLemmas.{one_place, small_place}
use Rattle.lxr_invariant.proofs.FieldLemmas.{field_found}

-- members stand in the heap
abbrev pub ImageOf : Tables → ℕ → (Name → ℕ) → Moment → Type 0
ImageOf t blocks at m = IsImage t blocks at m.state.graph (members m)

-- ---- the reference that a mutator works on

-- the object of a name that stands at the place is that of the reference
pub within_object : (t : Tables) (blocks : ℕ) (at : Name → ℕ) (m : Moment) (place index : ℕ) (n : Name) → ImageOf t blocks at m → IsReferenceAt m at place index → IsTrue (has (members m) n) → place ≡ at n
    → index < length (refs_of (object_at m.state.graph n))
within_object t blocks at m place index n image is member here =
    let same : is.name ≡ n = one_place t blocks at m.state.graph (members m) is.name n image is.member member (sym is.stands ∙ here) in
    subst (λ z. index < length (refs_of (object_at m.state.graph z))) same (subst (λ z. index < length (refs_of z)) (sym is.is) is.within)

-- a clear bit: the reference, if it is an unreclaimed object's, is cleared
pub clear_is_cleared : (t : Tables) (blocks : ℕ) (at : Name → ℕ) (m : Moment) (cleared : List Field) (place index : ℕ) (n : Name) → ImageOf t blocks at m → HasBits t (with_cleared m cleared) at m.unreclaimed
    → IsReferenceAt m at place index → t.unlogged (field_word place index) ≡ false → IsTrue (has m.unreclaimed n) → place ≡ at n → IsTrue (has_field cleared (n, index))
clear_is_cleared t blocks at m cleared place index n image bits is clear member here = elim (tested (has_field cleared (n, index))) [
  | inl h ↦ h
  | inr h ↦
      let set = (bits.unlogged (field_word place index)).1 (
        n,
        index,
        record {
          member = member;
          index = within_object t blocks at m place index n image is (in_first m.unreclaimed m.made n member) here;
          unwritten = h;
          word = ap (λ z. field_word z index) here;
        },
      ) in not_both (t.unlogged (field_word place index)) set clear
]

-- a set bit: the object of a name that stands at the place is unreclaimed, and the reference isn't cleared
pub set_is_uncleared : (t : Tables) (blocks : ℕ) (at : Name → ℕ) (m : Moment) (cleared : List Field) (place index : ℕ) (n : Name) → ImageOf t blocks at m → HasBits t (with_cleared m cleared) at m.unreclaimed
    → IsReferenceAt m at place index → t.unlogged (field_word place index) ≡ true → IsTrue (has (members m) n) → place ≡ at n
    → IsTrue (has m.unreclaimed n) × (has_field cleared (n, index) ≡ false)
set_is_uncleared t blocks at m cleared place index n image bits is set member here =
    let u = (bits.unlogged (field_word place index)).0 set in
    let q : Name = u.0 in let j : ℕ = u.1 in
    let kept = in_first m.unreclaimed m.made q u.2.member in
    let within = within_object t blocks at m place index n image is member here in
    let one = field_found t blocks at m.state.graph (members m) image q n j index kept member u.2.index within (sym u.2.word ∙ ap (λ z. field_word z index) here) in (
      subst (λ z. IsTrue (has m.unreclaimed z)) one.0 u.2.member,
      sym (ap (λ z. has_field cleared (z, j)) one.0 ∙ ap (λ z. has_field cleared (n, z)) one.1) ∙ u.2.unwritten,
    )

-- ---- what a reference holds

-- a place fits the reference word
small_number : (p : ℕ) → p < 2 ^ 32 → p % 2 ^ 32 ≡ p
small_number p h = omega arith

-- an unreclaimed object's reference that isn't stored to holds what it held at the last pause
pub old_is_read : (t : Tables) (blocks : ℕ) (at : Name → ℕ) (m : Moment) (place index : ℕ) (n : Name) → ImageOf t blocks at m → blocks ≤ MOST_BLOCKS → FollowsPause m → IsReferenceAt m at place index
    → IsTrue (has m.unreclaimed n) → place ≡ at n → has_field m.written (n, index) ≡ false → entry_with t place index ≡ entry_of m at (n, index)
old_is_read t blocks at m place index n image few follows is kept here unwritten =
    let member = in_first m.unreclaimed m.made n kept in
    let a = image.stands n member in
    let o : Object = a.0 in
    let within : index < length o.refs = subst (λ z. index < length (refs_of z)) a.1 (within_object t blocks at m place index n image is member here) in
    let r : Option Name = get_or o.refs index None in
    let there = slice_get-get_or o.refs index None within in
    let word : t.heap (field_word place index) ≡ place_word at r = ap (λ z. t.heap (field_word z index)) here ∙ a.2.refs index r there in
    let old : slice_get (refs_of (object_at m.last.graph n)) index ≡ Some r = sym (follows.unwritten n index kept unwritten) ∙ ap (λ z. slice_get (refs_of z) index) a.1 ∙ there in
    let was : get_or (refs_of (object_at m.last.graph n)) index None ≡ r = get_or_from_slice_get (refs_of (object_at m.last.graph n)) index r None old in
    let fits = small_number (place_word at r) (small_place t blocks at m r image few (reference_held m n o index r follows member a.1 there)) in
    ap (λ z. record { place = record { 0 = z }; index = index; old = record { 0 = t.heap (field_word place index) % 2 ^ 32 } }) here
    ∙ ap (λ z. record { place = record { 0 = at n }; index = index; old = record { 0 = z } }) (ap (λ z. z % 2 ^ 32) word ∙ fits ∙ sym (ap (place_word at) was))

-- ---- a bit is cleared

-- a field that is another than the one that joins the list
other_field : (ws : List Field) (w x : Field) → has_field ws x ≡ false → (x ≡ w → ⊥) → has_field (w ∷ ws) x ≡ false
other_field ws w x none differ = elim (tested (has_field (w ∷ ws) x)) [
  | inr h ↦ h
  | inl h ↦ elim (field_split w ws x h) [ inl e ↦ absurd (differ e) | inr k ↦ not_both (has_field ws x) k none ]
]

-- the other references' bits are as they were
pub cleared_bits : (t : Tables) (blocks : ℕ) (at : Name → ℕ) (m : Moment) (cleared : List Field) (place index : ℕ) (n : Name) → ImageOf t blocks at m → HasBits t (with_cleared m cleared) at m.unreclaimed
    → IsReferenceAt m at place index → IsTrue (has m.unreclaimed n) → place ≡ at n
    → HasBits (with_logged t (field_word place index)) (with_cleared m ((n, index) ∷ cleared)) at m.unreclaimed
cleared_bits t blocks at m cleared place index n image bits is kept here = record {
  starts = record { each = bits.starts.each; only = bits.starts.only };
  marks = bits.marks;
  grays = bits.grays;
  dones = bits.dones;
  unlogged = λ w. elim (changed_cases t.unlogged (field_word place index) false w) [
    | inl q ↦ (λ bit. not_both (changed t.unlogged (field_word place index) false w) bit q.1, λ u. absurd (own w q.0 u))
    | inr q ↦ (
      λ bit. let u = (bits.unlogged w).0 (sym q.1 ∙ bit) in (
        u.0,
        u.1,
        record {
          member = u.2.member;
          index = u.2.index;
          word = u.2.word;
          unwritten = other_field cleared (n, index) (u.0, u.1) u.2.unwritten (λ e. q.0 (u.2.word ∙ ap (λ (z : Field). word_of_field at z.0 z.1) e ∙ ap (λ z. field_word z index) (sym here)));
        },
      ),
      λ u. q.1 ∙ (bits.unlogged w).1 (
        u.0,
        u.1,
        record { member = u.2.member; index = u.2.index; word = u.2.word; unwritten = (or_false (same_field (u.0, u.1) (n, index)) (has_field cleared (u.0, u.1)) u.2.unwritten).1 },
      ),
    )
  ];
}
  where
    -- the reference itself is cleared
    own : (w : ℕ) → w ≡ field_word place index → IsUnwritten (with_cleared m ((n, index) ∷ cleared)) at m.unreclaimed w → ⊥
    own w e (q, j, u) =
        let within = within_object t blocks at m place index n image is (in_first m.unreclaimed m.made n kept) here in
        let one = field_found t blocks at m.state.graph (members m) image q n j index (in_first m.unreclaimed m.made q u.member) (in_first m.unreclaimed m.made n kept) u.index within
        (sym u.word ∙ e ∙ ap (λ z. field_word z index) here) in
        let none : has_field ((n, index) ∷ cleared) (n, index) ≡ false = sym (ap (λ z. has_field ((n, index) ∷ cleared) (z, j)) one.0 ∙ ap (λ z. has_field ((n, index) ∷ cleared) (n, z)) one.1) ∙ u.unwritten in
        not_both (has_field ((n, index) ∷ cleared) (n, index)) (first_field (n, index) cleared) none
