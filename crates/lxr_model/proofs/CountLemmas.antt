-- The references to a name are none exactly where no register and no member of U holds it.
use Rattle.std.proofs.Common.{◌≡◌, ℕ, zero, suc, ◌+◌, refl, sym, ap, subst, ◌∙◌, inl, inr, arith, Bool, true, false, cond, List, [], ◌∷◌, IsTrue}
use Rattle.std.specs.Prelude.{Option, Some, None}
use Rattle.std.proofs.lemmas.Bool.{or_cases, or_left, or_right, false_from_ne_true}
use Rattle.lxr_layout.specs.declared.Name.{Name}
use Rattle.lxr_graph.specs.Names.{same_name, same_held, has}
use Rattle.lxr_graph.specs.State.{State, Graph, object_at, refs_of}
use Rattle.lxr_graph.proofs.NameSets.{same_itself, same_names}
use Rattle.lxr_model.specs.Reachable.{Holds, Refers}
use Rattle.lxr_model.specs.References.{occurrences, references_from, references}
use Rattle.lxr_model.proofs.StepLemmas.{Gets}

pub held_same : (o : Name) (r : Option Name) → IsTrue (same_held (Some o) r) → r ≡ Some o
held_same o None e = absurd (cc)
held_same o (Some n) e = ap Some (sym (same_names o n e))

count_none : (b : Bool) (k : ℕ) → cond b 1 0 + k ≡ 0 → (b ≡ false) × (k ≡ 0)
count_none true k e = absurd (omega arith)
count_none false k e = (refl, omega arith)

occurrences_zero : (rs : List (Option Name)) (o : Name) → occurrences rs o ≡ 0 → Gets rs (Some o) → ⊥
occurrences_zero [] o e (i, g) = cc
occurrences_zero (r ∷ rs) o e (zero, g) =
    let a = (count_none (same_held (Some o) r) (occurrences rs o) e).0 in
    let b : same_held (Some o) (Some o) ≡ false = subst (λ x. same_held (Some o) x ≡ false) (let k : r ≡ Some o = cc in k) a in
    let c = same_itself o in cc
occurrences_zero (r ∷ rs) o e (suc i, g) = occurrences_zero rs o (count_none (same_held (Some o) r) (occurrences rs o) e).1 (i, g)

occurrences_none : (rs : List (Option Name)) (o : Name) → (Gets rs (Some o) → ⊥) → occurrences rs o ≡ 0
occurrences_none [] o h = refl
occurrences_none (r ∷ rs) o h =
    let first : same_held (Some o) r ≡ false = false_from_ne_true (same_held (Some o) r) (λ e. h (0, ap Some (held_same o r e))) in
    let rest : occurrences rs o ≡ 0 = occurrences_none rs o (λ g. h (suc g.0, g.1)) in
    rw (first, rest) refl

from_zero : (g : Graph) (o : Name) (us : List Name) (u : Name) → references_from g us o ≡ 0 → IsTrue (has us u) → occurrences (refs_of (object_at g u)) o ≡ 0
from_zero g o [] u e h = absurd (cc)
from_zero g o (x ∷ us) u e h =
    let first : occurrences (refs_of (object_at g x)) o ≡ 0 = omega arith in
    let rest : references_from g us o ≡ 0 = omega arith in
    elim (or_cases (same_name u x) (has us u) h) [
      | inl k ↦ ap (λ z. occurrences (refs_of (object_at g z)) o) (same_names u x k) ∙ first
      | inr k ↦ from_zero g o us u rest k
    ]

from_none : (g : Graph) (o : Name) (us : List Name) → ((u : Name) → IsTrue (has us u) → occurrences (refs_of (object_at g u)) o ≡ 0) → references_from g us o ≡ 0
from_none g o [] h = refl
from_none g o (x ∷ us) h =
    let a = h x (or_left (same_name x x) (has us x) (same_itself x)) in
    let b = from_none g o us (λ u k. h u (or_right (same_name u x) (has us u) k)) in
    rw (a, b) refl

pub references_zero : (s : State) (us : List Name) (o : Name) → references s us o ≡ 0 → (Holds s o → ⊥) × ((u : Name) → IsTrue (has us u) → Refers s.graph u o → ⊥)
references_zero s us o e = (
  occurrences_zero s.registers o (omega arith),
  λ u h f. occurrences_zero (refs_of (object_at s.graph u)) o (from_zero s.graph o us u (omega arith) h) f,
)

pub references_none : (s : State) (us : List Name) (o : Name) → (Holds s o → ⊥) → ((u : Name) → IsTrue (has us u) → Refers s.graph u o → ⊥) → references s us o ≡ 0
references_none s us o unheld each =
    let a = from_none s.graph o us (λ u h. occurrences_none (refs_of (object_at s.graph u)) o (each u h)) in
    let b = occurrences_none s.registers o unheld in
    omega arith
