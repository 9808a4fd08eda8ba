-- What is promoted one after another is the least set, and counts that are raised saturate.
use Rattle.std.proofs.Common.{sym, subst, inl, inr, arith, List, [], ◌∷◌, IsTrue}
use Rattle.std.proofs.lemmas.Bool.{or_cases}
use Rattle.lxr_layout.specs.declared.Name.{Name}
use Rattle.lxr_graph.specs.Names.{same_name, has}
use Rattle.lxr_graph.specs.State.{State}
use Rattle.lxr_graph.proofs.NameSets.{same_names}
use Rattle.lxr_model.specs.Dead.{Promoted, by_register, by_kept, by_promoted}
use Rattle.lxr_model_counting.specs.Raising.{IsHeldUp, IsGrowth, IsGrown}
use Rattle.lxr_model_counting.specs.Laws.{GrowthIsPromoted, RaisesSaturate}
use Rattle.lxr_model_counting.proofs.DistinctLemmas.{later_has}

-- what was promoted one after another is in the least set
pub growth_promoted : (s : State) (kept made promoted : List Name) → IsGrowth s kept made promoted → (n : Name) → IsTrue (has promoted n) → Promoted s kept made n
growth_promoted s kept made [] g n h = absurd (cc)
growth_promoted s kept made (p ∷ ps) g n h = elim (or_cases (same_name n p) (has ps n) h) [
  | inr k ↦ growth_promoted s kept made ps g.0 n k
  | inl k ↦ subst (Promoted s kept made) (sym (same_names n p k)) (elim g.2 [
    | inl r ↦ by_register g.1 r
    | inr q ↦ elim q [
      | inl u ↦ by_kept u.0 g.1 u.1 u.2
      | inr u ↦ by_promoted g.1 (growth_promoted s kept made ps g.0 u.0 u.1) u.2
    ]
  ])
]

-- where no more is held up, the least set is promoted
pub grown_has : (s : State) (kept made promoted : List Name) → IsGrown s kept made promoted → (n : Name) → Promoted s kept made n → IsTrue (has promoted n)
grown_has s kept made ps c n (by_register m h) = c n m (inl h)
grown_has s kept made ps c n (by_kept u m k f) = c n m (inr (inl (u, k, f)))
grown_has s kept made ps c n (by_promoted {m = u} k p f) = c n k (inr (inr (u, grown_has s kept made ps c u p, f)))

pub growth_is_promoted : GrowthIsPromoted
growth_is_promoted s kept made ps g c n = (growth_promoted s kept made ps g n, grown_has s kept made ps c n)

-- what was promoted was made since the last pause
pub growth_made : (s : State) (kept made promoted : List Name) → IsGrowth s kept made promoted → (n : Name) → IsTrue (has promoted n) → IsTrue (has made n)
growth_made s kept made [] g n h = absurd (cc)
growth_made s kept made (p ∷ ps) g n h = elim (or_cases (same_name n p) (has ps n) h) [
  | inr k ↦ growth_made s kept made ps g.0 n k
  | inl k ↦ subst (λ x. IsTrue (has made x)) (sym (same_names n p k)) g.1
]

-- what is held up stays so when one more is promoted
pub held_up_more : (s : State) (kept promoted : List Name) (p n : Name) → IsHeldUp s kept promoted n → IsHeldUp s kept (p ∷ promoted) n
held_up_more s kept ps p n (inl r) = inl r
held_up_more s kept ps p n (inr (inl u)) = inr (inl u)
held_up_more s kept ps p n (inr (inr u)) = inr (inr (u.0, later_has p ps u.0 u.1, u.2))

pub raises_saturate : RaisesSaturate
raises_saturate b raised = omega arith
