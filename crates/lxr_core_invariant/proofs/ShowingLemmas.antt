-- What mutators show once one of them shows another thread state; and that the operation in progress is well formed.
use Rattle.std.proofs.Common.{◌≡◌, ◌≢◌, ℕ, zero, suc, refl, sym, ap, ◌∙◌, inl, inr, ◌⊎◌, cond, List, [], ◌∷◌, length, subst}
use Rattle.std.specs.Prelude.{All, Some, slice_get, slice_set}
use Rattle.std.proofs.lemmas.Bool.Decides.{eqb_tells}
use Rattle.std.proofs.lemmas.List.Elements.{All-append, All-cons, All-get_or, All-nil}
use Rattle.std.proofs.lemmas.Option.{get_or_from_slice_get, slice_get_within}
use Rattle.lxr_graph.specs.declared.Op.{Op}
use Rattle.lxr_graph.specs.declared.Op.TheVariants as op
use Rattle.lxr_graph.specs.Step.{IsWellFormed}
use Rattle.lxr_graph.proofs.RowLemmas.{slice_get-set}
use Rattle.lxr_core_invariant.specs.ThreadStates.{ThreadState, all_of}
use Rattle.lxr_core_invariant.specs.Events.{Does}

-- reading a list in which one item was set: there
pub set_here : {A : Type 0} (xs : List A) (i : ℕ) (x y : A) → slice_get xs i ≡ Some y → slice_get (slice_set xs i x) i ≡ Some x
set_here [] i x y e = absurd (cc)
set_here (z ∷ xs) zero x y e = refl
set_here (z ∷ xs) (suc i) x y e = set_here xs i x y e

-- and elsewhere
pub set_elsewhere : {A : Type 0} (xs : List A) (i j : ℕ) (x : A) → j ≢ i → slice_get (slice_set xs i x) j ≡ slice_get xs j
set_elsewhere [] i j x differ = refl
set_elsewhere (z ∷ xs) zero zero x differ = absurd (differ refl)
set_elsewhere (z ∷ xs) zero (suc j) x differ = refl
set_elsewhere (z ∷ xs) (suc i) zero x differ = refl
set_elsewhere (z ∷ xs) (suc i) (suc j) x differ = set_elsewhere xs i j x (λ e. differ (ap suc e))

-- one mutator, or decrementer, shows the new thread state, the others what they showed
pub shown_cases : {A : Type 0} (thread_states : List A) (i : ℕ) (v w : A) (j : ℕ) (u : A) → slice_get thread_states i ≡ Some v → slice_get (slice_set thread_states i w) j ≡ Some u
    → ((j ≡ i) × (u ≡ w)) ⊎ ((j ≢ i) × (slice_get thread_states j ≡ Some u))
shown_cases thread_states i v w j u shown now =
    let set = slice_get-set thread_states i w j (slice_get_within thread_states i v shown) in
    elim (eqb_tells j i) [
      | inl q ↦ inl (q.1, (let e : Some w ≡ Some u = sym (set ∙ ap (λ b. cond b (Some w) (slice_get thread_states j)) q.0) ∙ now in cc))
      | inr q ↦ inr (q.1, sym (set ∙ ap (λ b. cond b (Some w) (slice_get thread_states j)) q.0) ∙ now)
    ]

-- what one shows is its own, or is still shown once that one shows something else
pub own_or_still : {A : Type 0} (xs : List A) (i : ℕ) (d e : A) (j : ℕ) (x : A) → slice_get xs i ≡ Some d → slice_get xs j ≡ Some x → (x ≡ d) ⊎ (slice_get (slice_set xs i e) j ≡ Some x)
own_or_still xs i d e j x own shown = elim (eqb_tells j i) [
  | inl q ↦ inl (let same : Some x ≡ Some d = sym shown ∙ ap (slice_get xs) q.1 ∙ own in cc)
  | inr q ↦ inr (set_elsewhere xs i j e q.1 ∙ shown)
]

-- the operation in progress is well formed where all operations are
pub op_formed : (v : ThreadState) (o : Op) → All IsWellFormed v.operations → Does v o → IsWellFormed o
op_formed v o formed does =
    let all : All IsWellFormed (all_of v.operations) =
    All-append IsWellFormed v.operations (op.End ∷ []) formed (All-cons IsWellFormed op.End [] tt (All-nil IsWellFormed)) in
    subst IsWellFormed (get_or_from_slice_get (all_of v.operations) (length v.replies) o op.End does)
    (All-get_or IsWellFormed (all_of v.operations) (length v.replies) op.End (slice_get_within (all_of v.operations) (length v.replies) o does) all)
