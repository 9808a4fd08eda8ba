-- Places tell names: what stands at a place has one name.
use Rattle.std.proofs.Common.{◌≡◌, ℕ, sym, ap, ◌∙◌, inl, inr, cond, List, [], ◌∷◌}
use Rattle.std.specs.Prelude.{IsTrue}
use Rattle.std.proofs.lemmas.Bool.Decides.{eqb_tells}
use Rattle.lxr_layout.specs.declared.Name.{Name}
use Rattle.lxr_graph.specs.Names.{has}
use Rattle.lxr_model_counting.proofs.DistinctLemmas.{first_has, has_split, later_has}
use Rattle.lxr_core_invariant.specs.Counted.{name_at}

-- the name of what stands at a place where no other does
pub name_found : (at : Name → ℕ) (us : List Name) (n : Name) (place : ℕ) → IsTrue (has us n) → ((x : Name) → IsTrue (has us x) → at x ≡ at n → x ≡ n) → place ≡ at n → name_at at us place ≡ n
name_found at [] n place member one is = absurd (cc)
name_found at (x ∷ us) n place member one is = elim (eqb_tells (at x) place) [
  | inl q ↦ ap (λ b. cond b x (name_at at us place)) q.0 ∙ one x (first_has x us) (q.1 ∙ is)
  | inr q ↦
      let there : IsTrue (has us n) = elim (has_split x us n member) [ inl e ↦ absurd (q.1 (ap at (sym e) ∙ sym is)) | inr h ↦ h ] in
      ap (λ b. cond b x (name_at at us place)) q.0 ∙ name_found at us n place there (λ y h. one y (later_has x us y h)) is
]
