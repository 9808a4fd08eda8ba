-- Objects that stand apart have no more references than the heap has words: each granule is one object's at most, and an object has at
-- most two references for each of its granules.
use Rattle.std.proofs.Common.{◌≡◌, ℕ, zero, suc, ◌+◌, ◌*◌, ◌<◌, ◌≤◌, refl, sym, ap, subst, ◌∙◌, inl, inr, arith, Bool, true, false, List, [], ◌∷◌, IsTrue, length, min, nat_le}
use Rattle.std.specs.Prelude.{◌&&◌, ◌||◌, nat_lt, Some}
use Rattle.std.specs.Option.{option_map_or}
use Rattle.std.proofs.lemmas.Bool.{false_from_ne_true, or_cases}
use Rattle.std.proofs.lemmas.Bool.Decides.{leb_tells}
use Rattle.std.proofs.lemmas.List.Sums.{sum_by-cons}
use Rattle.lxr_layout.specs.declared.Name.{Name}
use Rattle.lxr_layout.specs.declared.TheConstants.{GRANULES_IN_BLOCK}
use Rattle.lxr_graph.specs.Names.{has, same_name}
use Rattle.lxr_graph.specs.State.{Graph, Object, object_at, refs_of}
use Rattle.lxr_graph.proofs.NameSets.{not_both, same_names}
use Rattle.lxr_image.specs.Tables.{Tables}
use Rattle.lxr_image.specs.Reads.{granule_of}
use Rattle.lxr_image.specs.Image.{IsImage, granules_of}
use Rattle.lxr_model.specs.References.{reference_slots}
use Rattle.lxr_model_counting.specs.Distinct.{IsDistinct}
use Rattle.lxr_model_counting.proofs.DistinctLemmas.{first_has, later_has}
use Rattle.lxr_invariant.specs.Counting.{passing}
use Rattle.lxr_invariant.proofs.EntryLemmas.{one_if, passing_few}

-- ---- numbers that pass

-- the numbers from one on and below another
abbrev pub is_from : ℕ → ℕ → ℕ → Bool
is_from a b k = nat_le a k && nat_lt k b

from_counts : (a b k : ℕ) → a ≤ k → k < b → one_if (is_from a b k) ≡ 1
from_counts a b k low high = let e : is_from a b k ≡ true = grind arith in ap one_if e

from_parts : (a b k : ℕ) → is_from a b k ≡ true → (a ≤ k) × (k < b)
from_parts a b k e = (grind arith, grind arith)

passing_from : (a b n : ℕ) → min b n ≤ passing (is_from a b) n + a
passing_from a b zero = omega arith
passing_from a b (suc k) =
    let before = passing_from a b k in
    elim (leb_tells a k) [
      | inr early ↦ let e = early.1 in omega (arith, e)
      | inl low ↦ elim (leb_tells b k) [
        | inl late ↦ let e = late.1 in omega (arith, before, e)
        | inr high ↦
            let e = high.1 in
            let f = low.1 in
            let one = from_counts a b k f (omega (arith, e)) in
            omega (arith, before, one)
      ]
    ]

-- what passes one of two tests that exclude each other passes either
passing_both : (f h e : ℕ → Bool) (n : ℕ) → ((k : ℕ) → one_if (f k) + one_if (h k) ≤ one_if (e k)) → passing f n + passing h n ≤ passing e n
passing_both f h e zero each = omega arith
passing_both f h e (suc k) each = let before = passing_both f h e k each in let here = each k in omega (arith, before, here)

one_of : (a b : Bool) → (IsTrue a → IsTrue b → ⊥) → one_if a + one_if b ≤ one_if (b || a)
one_of true true never = absurd (never refl refl)
one_of true false never = omega arith
one_of false true never = omega arith
one_of false false never = omega arith

-- ---- objects

-- a granule is of the object of a name, and of an object of some names
abbrev pub is_of : (Name → ℕ) → Graph → Name → ℕ → Bool
is_of at g n k = option_map_or (λ o. is_from (granule_of (at n)) (granule_of (at n) + granules_of o) k) (object_at g n) false

abbrev pub is_taken : (Name → ℕ) → Graph → List Name → ℕ → Bool
is_taken at g [] k = false
is_taken at g (n ∷ ns) k = is_of at g n k || is_taken at g ns k

few_references : (o : Object) → length o.refs ≤ 2 * granules_of o
few_references o = omega arith

module _ (t : Tables) (blocks : ℕ) (at : Name → ℕ) (g : Graph) (ms : List Name) (image : IsImage t blocks at g ms) where
  is_of_object : (n : Name) (o : Object) → object_at g n ≡ Some o → is_of at g n ≡ is_from (granule_of (at n)) (granule_of (at n) + granules_of o)
  is_of_object n o there = ap (λ z k. option_map_or (λ x. is_from (granule_of (at n)) (granule_of (at n) + granules_of x) k) z false) there

  -- no granule is of two objects
  of_one : (n x : Name) (k : ℕ) → IsTrue (has ms n) → IsTrue (has ms x) → same_name n x ≡ false → IsTrue (is_of at g n k) → IsTrue (is_of at g x k) → ⊥
  of_one n x k in_n in_x differ of_n of_x =
      let a = image.stands n in_n in
      let b = image.stands x in_x in
      let p = from_parts (granule_of (at n)) (granule_of (at n) + granules_of a.0) k (sym (ap (λ f. f k) (is_of_object n a.0 a.1)) ∙ of_n) in
      let q = from_parts (granule_of (at x)) (granule_of (at x) + granules_of b.0) k (sym (ap (λ f. f k) (is_of_object x b.0 b.1)) ∙ of_x) in
      elim (image.apart n x a.0 b.0 in_n in_x differ a.1 b.1) [ inl h ↦ omega (arith, h, p, q) | inr h ↦ omega (arith, h, p, q) ]

  -- names that are other members than one
  abbrev AreOthers : Name → List Name → Type 0
  AreOthers n ns = (x : Name) → IsTrue (has ns x) → IsTrue (has ms x) × (same_name n x ≡ false)

  none_taken : (n : Name) (ns : List Name) (k : ℕ) → IsTrue (has ms n) → AreOthers n ns → IsTrue (is_of at g n k) → IsTrue (is_taken at g ns k) → ⊥
  none_taken n [] k in_n others of_n taken = let e : false ≡ true = taken in cc
  none_taken n (x ∷ ns) k in_n others of_n taken = elim (or_cases (is_of at g x k) (is_taken at g ns k) taken) [
    | inl of_x ↦ let is = others x (first_has x ns) in of_one n x k in_n is.0 is.1 of_n of_x
    | inr rest ↦ none_taken n ns k in_n (λ y h. others y (later_has x ns y h)) of_n rest
  ]

  -- an object has two references at most for each of its granules
  object_fits : (n : Name) → IsTrue (has ms n) → length (refs_of (object_at g n)) ≤ 2 * passing (is_of at g n) (GRANULES_IN_BLOCK * blocks)
  object_fits n in_n =
      let there = image.stands n in_n in
      let first = granule_of (at n) in
      let size = granules_of there.0 in
      let fits : first + size ≤ GRANULES_IN_BLOCK * blocks = there.2.whole.in_heap in
      let counted = passing_from first (first + size) (GRANULES_IN_BLOCK * blocks) in
      let same : passing (is_of at g n) (GRANULES_IN_BLOCK * blocks) ≡ passing (is_from first (first + size)) (GRANULES_IN_BLOCK * blocks) = ap (λ f. passing f (GRANULES_IN_BLOCK * blocks)) (is_of_object n there.0 there.1) in
      let few = few_references there.0 in
      let own : length (refs_of (object_at g n)) ≡ length there.0.refs = ap (λ z. length (refs_of z)) there.1 in
      enough (length (refs_of (object_at g n))) (length there.0.refs) first size (GRANULES_IN_BLOCK * blocks) (passing (is_of at g n) (GRANULES_IN_BLOCK * blocks)) (passing (is_from first (first + size)) (GRANULES_IN_BLOCK * blocks)) own few fits counted same
    where
      enough : (refs own first size all count counted : ℕ) → refs ≡ own → own ≤ 2 * size → first + size ≤ all → min (first + size) all ≤ counted + first → count ≡ counted → refs ≤ 2 * count
      enough refs own first size all count counted a b c d e = omega arith

  packed : (ns : List Name) → IsDistinct ns → ((x : Name) → IsTrue (has ns x) → IsTrue (has ms x)) → reference_slots g ns ≤ 2 * passing (is_taken at g ns) (GRANULES_IN_BLOCK * blocks)
  packed [] once within = omega arith
  packed (n ∷ ns) once within =
      let step = sum_by-cons (λ u. length (refs_of (object_at g u))) n ns in
      let rest = packed ns once.1 (λ x h. within x (later_has n ns x h)) in
      let here = object_fits n (within n (first_has n ns)) in
      let others : AreOthers n ns = λ x h. (within x (later_has n ns x h), false_from_ne_true (same_name n x) (λ e. not_both (has ns x) h (subst (λ z. has ns z ≡ false) (same_names n x e) once.0))) in
      let both = passing_both (is_taken at g ns) (is_of at g n) (is_taken at g (n ∷ ns)) (GRANULES_IN_BLOCK * blocks)
      (λ k. one_of (is_taken at g ns k) (is_of at g n k) (λ taken of_n. none_taken n ns k (within n (first_has n ns)) others of_n taken)) in
      omega (arith, step, rest, here, both)

  pub references_fit : (ns : List Name) → IsDistinct ns → ((x : Name) → IsTrue (has ns x) → IsTrue (has ms x)) → reference_slots g ns ≤ 2 * (GRANULES_IN_BLOCK * blocks)
  references_fit ns once within = let a = packed ns once within in let b = passing_few (is_taken at g ns) (GRANULES_IN_BLOCK * blocks) in omega (arith, a, b)
