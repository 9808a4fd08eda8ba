-- An object takes a granule at least, so no more names are left than a heap has granules.
use Rattle.std.proofs.Common.{◌≡◌, ℕ, ◌*◌, ◌<◌, ◌≤◌, refl, ap, ◌∙◌, arith, Bool, false, List, [], ◌∷◌, IsTrue, length, nat_eq}
use Rattle.std.specs.Prelude.{◌||◌}
use Rattle.std.specs.List.{list_any}
use Rattle.std.proofs.lemmas.Bool.{false_from_ne_true, or_left, or_right}
use Rattle.lxr_layout.specs.declared.Name.{Name}
use Rattle.lxr_layout.specs.declared.TheConstants.{GRANULES_IN_BLOCK}
use Rattle.lxr_graph.specs.Names.{has, same_name}
use Rattle.lxr_graph.proofs.NameSets.{not_both, same_names}
use Rattle.lxr_image.specs.declared.space.Space.{Space}
use Rattle.lxr_image.specs.Reads.{granule_of}
use Rattle.lxr_image.specs.Spaces.{tables_of}
use Rattle.lxr_model_counting.specs.Distinct.{IsDistinct}
use Rattle.lxr_model_counting.proofs.DistinctLemmas.{first_has, in_order_distinct, later_has}
use Rattle.lxr_invariant.specs.AbstractState.{members}
use Rattle.lxr_invariant.specs.Counting.{passing}
use Rattle.lxr_invariant.specs.Quiescent.{HoldsMoment}
use Rattle.lxr_invariant.proofs.EntryLemmas.{passing_few, passing_one_more, same_number, unlike_number}
use Rattle.lxr_invariant.proofs.NameLemmas.{in_first}
use Rattle.lxr_invariant.proofs.PlaceLemmas.{granules_differ}
use Rattle.lxr_model.specs.Moments.{Moment}

-- one of these names begins at a granule
abbrev begins : (Name → ℕ) → List Name → ℕ → Bool
begins at ns k = list_any (λ n. nat_eq (granule_of (at n)) k) ns

-- no name of a list begins where another one does
none_begins : (at : Name → ℕ) (n : Name) (ns : List Name) → ((m : Name) → IsTrue (has ns m) → granule_of (at m) ≡ granule_of (at n) → ⊥) → begins at ns (granule_of (at n)) ≡ false
none_begins at n [] other = refl
none_begins at n (m ∷ ms) other =
    (λ i. unlike_number (granule_of (at m)) (granule_of (at n)) (other m (first_has m ms)) i || begins at ms (granule_of (at n)))
    ∙ none_begins at n ms (λ q h. other q (later_has m ms q h))

-- names that begin apart below a number are no more than that number
few_begin : (at : Name → ℕ) (end : ℕ) (ns : List Name) → IsDistinct ns → ((n : Name) → IsTrue (has ns n) → granule_of (at n) < end)
    → ((m n : Name) → IsTrue (has ns m) → IsTrue (has ns n) → same_name m n ≡ false → granule_of (at m) ≡ granule_of (at n) → ⊥) → length ns ≤ passing (begins at ns) end
few_begin at end [] once below apart = omega arith
few_begin at end (n ∷ ns) once below apart =
    let rest = few_begin at end ns once.1 (λ q h. below q (later_has n ns q h)) (λ p q in_p in_q. apart p q (later_has n ns p in_p) (later_has n ns q in_q)) in
    let none = none_begins at n ns (λ m h. apart m n (later_has n ns m h) (first_has n ns) (false_from_ne_true (same_name m n) (λ e. not_both (has ns m) h (ap (has ns) (same_names m n e) ∙ once.0)))) in
    let more = passing_one_more (begins at ns) (begins at (n ∷ ns)) (granule_of (at n)) end (λ k h. or_right (nat_eq (granule_of (at n)) k) (begins at ns k) h) (below n (first_has n ns)) none
    (or_left (nat_eq (granule_of (at n)) (granule_of (at n))) (begins at ns (granule_of (at n))) (same_number (granule_of (at n)) (granule_of (at n)) refl)) in
    omega (arith, rest, more)

-- so of what stands in the heap there are no more names than granules
pub members_few : (s : Space) (m : Moment) (at : Name → ℕ) → HoldsMoment s m at → (ns : List Name) → IsDistinct ns → ((n : Name) → IsTrue (has ns n) → IsTrue (has (members m) n)) → length ns ≤ GRANULES_IN_BLOCK * s.limits.blocks
members_few s m at is ns once among =
    let image = is.image.image in
    let counted = few_begin at (GRANULES_IN_BLOCK * s.limits.blocks) ns once
    (λ n h. let a = image.stands n (among n h) in let within = a.2.whole.in_heap in omega (arith, within))
    (λ p q in_p in_q other same. granules_differ (tables_of s) s.limits.blocks at m.state.graph (members m) image p q (among p in_p) (among q in_q) other same) in
    let most = passing_few (begins at ns) (GRANULES_IN_BLOCK * s.limits.blocks) in
    omega (arith, counted, most)

-- and no more unreclaimed ones
pub unreclaimed_few : (s : Space) (m : Moment) (at : Name → ℕ) → HoldsMoment s m at → length m.unreclaimed ≤ GRANULES_IN_BLOCK * s.limits.blocks
unreclaimed_few s m at is = members_few s m at is m.unreclaimed (in_order_distinct m.unreclaimed is.follows.unreclaimed) (in_first m.unreclaimed m.made)
