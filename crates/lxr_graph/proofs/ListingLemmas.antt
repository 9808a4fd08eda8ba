-- What memory has of a list of names, as names come and go and as they are put in order.
use Rattle.std.proofs.Common.{◌≡◌, refl, sym, ap, subst, ◌∙◌, arith, Bool, true, false, cond, List, [], ◌∷◌, ◌++◌, length}
use Rattle.std.specs.Prelude.{◌&&◌, ◌||◌, ◌↔◌}
use Rattle.std.specs.List.Sorted.{IsPermutation}
use Rattle.std.specs.Ordering.{is_lt}
use Rattle.std.proofs.lemmas.Bool.{and_parts, or_parts}
use Rattle.std.proofs.lemmas.List.Sorted.{IsPermutation-append, IsPermutation-append_comm, IsPermutation-append_left, IsPermutation-cons, IsPermutation-refl, IsPermutation-sym, IsPermutation-trans, length_permutation}
use Rattle.lxr_layout.specs.declared.Name.{Name}
use Rattle.lxr_graph.specs.Distinct.{IsDistinct}
use Rattle.lxr_graph.specs.Listing.{KeepsNames}
use Rattle.lxr_graph.specs.Names.{AreInOrder, has, insert_name, name_order, same_name, union}
use Rattle.lxr_graph.proofs.NameLemmas.{distinct_moved, same_members}
use Rattle.lxr_graph.proofs.NameSets.{has-union, in_order_distinct, one_list}

-- ---- names are put in order

insert_permutes : (n : Name) (ms : List Name) → has ms n ≡ false → IsPermutation (n ∷ ms) (insert_name n ms)
insert_permutes n [] h = IsPermutation-refl (n ∷ [])
insert_permutes n (m ∷ ms) h =
    let parts = or_parts (same_name n m) (has ms n) h in
    let turned : IsPermutation (n ∷ m ∷ ms) (m ∷ n ∷ ms) = IsPermutation-append_left ms (n ∷ m ∷ []) (m ∷ n ∷ []) (IsPermutation-append_comm (n ∷ []) (m ∷ [])) in
    elim (is_lt (name_order m n)) as (λ b. IsPermutation (n ∷ m ∷ ms) (cond b (m ∷ insert_name n ms) (cond (same_name n m) (m ∷ ms) (n ∷ m ∷ ms)))) [
      | true ↦ IsPermutation-trans _ _ _ turned (IsPermutation-cons m (n ∷ ms) (insert_name n ms) (insert_permutes n ms parts.1))
      | false ↦ subst (λ b. IsPermutation (n ∷ m ∷ ms) (cond b (m ∷ ms) (n ∷ m ∷ ms))) (sym parts.0) (IsPermutation-refl (n ∷ m ∷ ms))
    ]

union_permutes : (ns : List Name) → IsDistinct ns → IsPermutation ns (union ns [])
union_permutes [] once = IsPermutation-refl []
union_permutes (n ∷ ns) once =
    let apart : has (union ns []) n ≡ false = has-union ns [] n ∙ ap (λ b. b || false) once.0 in
    IsPermutation-trans _ _ _ (IsPermutation-cons n ns (union ns []) (union_permutes ns once.1)) (insert_permutes n (union ns []) apart)

pub names_ordered : (items found : List Name) (listed : Bool) → IsDistinct items → KeepsNames items found listed → KeepsNames (union items []) found false
names_ordered items found listed once keeps = record {
  permutation = IsPermutation-trans _ _ _ (IsPermutation-sym items (union items []) (union_permutes items once)) keeps.permutation;
  same = λ h. absurd (cc);
}

-- names found of a list in order are each there once
pub found_distinct : (items found : List Name) (listed : Bool) → AreInOrder items → KeepsNames items found listed → IsDistinct found
found_distinct items found listed ordered keeps = distinct_moved items found keeps.permutation (in_order_distinct items ordered)

-- once they are sorted they are that list
pub names_listed : (items found sorted : List Name) (listed : Bool) → AreInOrder items → KeepsNames items found listed
    → AreInOrder sorted → ((n : Name) → has sorted n ≡ has found n) → KeepsNames items sorted true
names_listed items found sorted listed ordered keeps up members =
    let same : (n : Name) → has sorted n ≡ has items n = λ n. members n ∙ same_members items found keeps.permutation n in
    let is : sorted ≡ items = one_list sorted items up ordered (λ n. (λ h. sym (same n) ∙ h, λ h. same n ∙ h)) in
    record { permutation = subst (IsPermutation items) (sym is) (IsPermutation-refl items); same = λ _. is }

-- ---- names come

pub as_many : (items found : List Name) (listed : Bool) → KeepsNames items found listed → length found ≡ length items
as_many items found listed keeps = length_permutation items found keeps.permutation

none_left : (ns : List Name) → length ns ≡ 0 → ns ≡ []
none_left [] h = refl
none_left (n ∷ ns) h = absurd (omega (arith, h))

-- memory has none exactly where there is none
pub none_found : (items found : List Name) (listed : Bool) → KeepsNames items found listed → (found ≡ []) ↔ (items ≡ [])
none_found items found listed keeps =
    let many = as_many items found listed keeps in
    (λ none. none_left items (sym many ∙ ap length none), λ none. none_left found (many ∙ ap length none))

pub name_kept : (items found : List Name) (n : Name) (listed : Bool) → KeepsNames items found listed → KeepsNames (items ++ n ∷ []) (found ++ n ∷ []) listed
name_kept items found n listed keeps = record {
  permutation = IsPermutation-append_left (n ∷ []) items found keeps.permutation;
  same = λ h. ap (λ ns. ns ++ n ∷ []) (keeps.same h);
}

pub names_kept : (items found items' found' : List Name) (listed listed' : Bool) → KeepsNames items found listed → KeepsNames items' found' listed'
    → KeepsNames (items ++ items') (found ++ found') (listed && listed')
names_kept items found items' found' listed listed' keeps keeps' = record {
  permutation = IsPermutation-append items found items' found' keeps.permutation keeps'.permutation;
  same = λ h. let both = and_parts listed listed' h in ap (λ ns. ns ++ found') (keeps.same both.0) ∙ ap (λ ns. items ++ ns) (keeps'.same both.1);
}
