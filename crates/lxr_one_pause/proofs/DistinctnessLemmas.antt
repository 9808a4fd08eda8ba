-- Lists of names behind one another have no name twice where none is in two of them.
use Rattle.std.proofs.Common.{◌≡◌, ◌∙◌, inl, inr, false, List, [], ◌∷◌, ◌++◌, IsTrue}
use Rattle.std.specs.Prelude.{◌||◌}
use Rattle.std.proofs.lemmas.Bool.{false_from_ne_true}
use Rattle.lxr_layout.specs.declared.Name.{Name}
use Rattle.lxr_graph.specs.Distinct.{IsDistinct}
use Rattle.lxr_graph.specs.Names.{has}
use Rattle.lxr_graph.proofs.NameSets.{not_both}
use Rattle.lxr_model_counting.proofs.DistinctLemmas.{first_has, later_has}
use Rattle.lxr_invariant.proofs.NameLemmas.{has_append, in_either}

pub distinct_append : (ns ms : List Name) → IsDistinct ns → IsDistinct ms → ((n : Name) → IsTrue (has ns n) → has ms n ≡ false) → IsDistinct (ns ++ ms)
distinct_append [] ms first second apart = second
distinct_append (n ∷ ns) ms first second apart = (
  has_append ns ms n ∙ (λ i. first.0 i || apart n (first_has n ns) i),
  distinct_append ns ms first.1 second (λ q h. apart q (later_has n ns q h)),
)

-- three lists, where none of the second is in the first, and none of the third in the first or the second
pub distinct_three : (ns ms ls : List Name) → IsDistinct ns → IsDistinct ms → IsDistinct ls → ((n : Name) → IsTrue (has ms n) → has ns n ≡ false)
    → ((n : Name) → IsTrue (has ls n) → (has ns n ≡ false) × (has ms n ≡ false)) → IsDistinct (ns ++ (ms ++ ls))
distinct_three ns ms ls first second third after behind =
    distinct_append ns (ms ++ ls) first (distinct_append ms ls second third (λ n h. false_from_ne_true (has ls n) (λ k. not_both (has ms n) h (behind n k).1)))
    (λ n h. false_from_ne_true (has (ms ++ ls) n) (λ k. elim (in_either ms ls n k) [ inl a ↦ not_both (has ns n) h (after n a) | inr b ↦ not_both (has ns n) h (behind n b).0 ]))
