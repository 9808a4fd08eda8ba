-- Names put in order are the same names, each once.
use Rattle.std.proofs.Common.{◌≡◌, ◌+◌, refl, sym, ap, subst, ◌∙◌, arith, true, false, cond, List, [], ◌∷◌, IsTrue, length}
use Rattle.std.specs.Prelude.{◌↔◌}
use Rattle.std.proofs.lemmas.List.Sums.{sum_by-cons}
use Rattle.lxr_layout.specs.declared.Name.{Name}
use Rattle.std.specs.Ordering.{is_lt}
use Rattle.lxr_graph.specs.Names.{AreInOrder, IsSetOf, has, insert_name, name_order, same_name, union}
use Rattle.lxr_graph.specs.State.{Graph, object_at, refs_of}
use Rattle.lxr_graph.proofs.NameSets.{has-union, in_order-none, in_order-union}
use Rattle.lxr_model.specs.References.{reference_slots, references_from}
use Rattle.lxr_model_counting.specs.Distinct.{IsDistinct}
use Rattle.lxr_model_counting.proofs.DistinctLemmas.{or_false}
use Rattle.lxr_model_counting.proofs.BalanceLemmas.{references_union}
use Rattle.lxr_invariant.proofs.NameLemmas.{or_nothing}

pub has_in_order : (ns : List Name) (n : Name) → has (union ns []) n ≡ has ns n
has_in_order ns n = has-union ns [] n ∙ or_nothing (has ns n)

pub are_in_order : (ns : List Name) → AreInOrder (union ns [])
are_in_order ns = in_order-union ns [] in_order-none

-- what a list of names has, the list put in order is the set of
pub set_in_order : (ns : List Name) (P : Name → Type 0) → ((n : Name) → IsTrue (has ns n) ↔ P n) → IsSetOf (union ns []) P
set_in_order ns P are = record {
  in_order = are_in_order ns;
  members = λ n. (λ h. (are n).0 (sym (has_in_order ns n) ∙ h), λ p. has_in_order ns n ∙ (are n).1 p);
}

-- the references from names are as many in any order
pub references_in_order : (g : Graph) (ns : List Name) (o : Name) → IsDistinct ns → references_from g (union ns []) o ≡ references_from g ns o
references_in_order g ns o once = let e = references_union g ns [] o once (λ n h. refl) in omega (arith, e)

pub none_in_order : (ns : List Name) → ns ≡ [] → union ns [] ≡ []
none_in_order ns e = ap (λ xs. union xs []) e

-- so are the references that they have
slots_insert : (g : Graph) (n : Name) (ms : List Name) → has ms n ≡ false → reference_slots g (insert_name n ms) ≡ length (refs_of (object_at g n)) + reference_slots g ms
slots_insert g n [] h = sum_by-cons (λ u. length (refs_of (object_at g u))) n []
slots_insert g n (m ∷ ms) h =
    let size = λ (u : Name). length (refs_of (object_at g u)) in
    let parts = or_false (same_name n m) (has ms n) h in
    let rest = slots_insert g n ms parts.1 in
    let first = sum_by-cons size m ms in
    elim (is_lt (name_order m n)) as (λ b. reference_slots g (cond b (m ∷ insert_name n ms) (cond (same_name n m) (m ∷ ms) (n ∷ m ∷ ms))) ≡ size n + reference_slots g (m ∷ ms)) [
      | true ↦ let front = sum_by-cons size m (insert_name n ms) in omega (arith, rest, first, front)
      | false ↦ subst (λ b. reference_slots g (cond b (m ∷ ms) (n ∷ m ∷ ms)) ≡ size n + reference_slots g (m ∷ ms)) (sym parts.0) (sum_by-cons size n (m ∷ ms))
    ]

pub slots_in_order : (g : Graph) (ns : List Name) → IsDistinct ns → reference_slots g (union ns []) ≡ reference_slots g ns
slots_in_order g [] once = refl
slots_in_order g (n ∷ ns) once =
    let rest = slots_in_order g ns once.1 in
    let here = slots_insert g n (union ns []) (has_in_order ns n ∙ once.0) in
    let front = sum_by-cons (λ (u : Name). length (refs_of (object_at g u))) n ns in
    omega (arith, rest, here, front)
