-- Names that are left once one more is gone.
use Rattle.std.proofs.Common.{◌≡◌, inl, inr, false, List, ◌∷◌, IsTrue}
use Rattle.std.proofs.lemmas.Bool.{or_cases}
use Rattle.lxr_layout.specs.declared.Name.{Name}
use Rattle.lxr_graph.specs.Names.{has, same_name, without}
use Rattle.lxr_graph.proofs.NameSets.{in_without, not_both, without_parts}
use Rattle.lxr_model_counting.proofs.DistinctLemmas.{or_false}

-- a name that is left once r is gone
pub record StillLeft (us gone : List Name) (r n : Name) : Type 0 where
  pub member : IsTrue (has us n)
  pub other : same_name n r ≡ false
  pub kept : has gone n ≡ false
  pub before : IsTrue (has (without us gone) n)

pub still_left : (us gone : List Name) (r n : Name) → IsTrue (has (without us (r ∷ gone)) n) → StillLeft us gone r n
still_left us gone r n h =
    let a = without_parts us (r ∷ gone) n h in
    let b = or_false (same_name n r) (has gone n) a.1 in
    record { member = a.0; other = b.0; kept = b.1; before = in_without us gone n a.0 (λ k. not_both (has gone n) k b.1) }

pub left_still : (us gone : List Name) (r n : Name) → IsTrue (has (without us gone) n) → same_name n r ≡ false → IsTrue (has (without us (r ∷ gone)) n)
left_still us gone r n h other =
    let a = without_parts us gone n h in
    in_without us (r ∷ gone) n a.0 (λ k. elim (or_cases (same_name n r) (has gone n) k) [ inl q ↦ not_both (same_name n r) q other | inr q ↦ not_both (has gone n) q a.1 ])
