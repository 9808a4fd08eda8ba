-- The graph that a history leads to: a row for each thread, and no more objects in it than the thread had calls. And pauses are numbered.
use Rattle.std.proofs.Common.{◌≡◌, ◌≢◌, ℕ, zero, suc, ◌+◌, ◌≤◌, inl, inr, ◌⊎◌, List, [], ◌∷◌, ◌++◌, length, refl, sym, ap, subst, ◌∙◌, arith, nat_eq}
use Rattle.std.specs.Prelude.{replicate, slice_index_or}
use Rattle.std.proofs.lemmas.Bool.{cases_eq, cond-true, cond-false, eq-eqb, ne_eqb}
use Rattle.std.proofs.lemmas.List.{length_push, length-replicate}
use Rattle.lxr_graph.specs.declared.Op.{Op}
use Rattle.lxr_graph.specs.declared.Op.TheVariants as op
use Rattle.lxr_graph.specs.declared.Reply.{Reply}
use Rattle.lxr_graph.specs.declared.Reply.TheVariants as reply
use Rattle.lxr_graph.specs.State.{Object, State, row_of}
use Rattle.lxr_graph.specs.Step.{step, state_after}
use Rattle.lxr_graph.specs.History.{Item, Call, Pause, Renew, calls_of}
use Rattle.lxr_graph.proofs.RowCounts.{step_rows}
use Rattle.lxr_model.specs.Moments.{moment}
use Rattle.lxr_model.proofs.UnrenewedLemmas.{IsUnrenewed}
use Rattle.lxr_judge.specs.Evidence.{Evidence}
use Rattle.lxr_judge.specs.Taking.{pauses_in}
use Rattle.lxr_judge.specs.Passing.{AllPass}

-- a call leaves the state, or takes a step
pub after_cases : (s : State) (t : ℕ) (o : Op) (r : Reply) → (state_after s t o r ≡ s) ⊎ (state_after s t o r ≡ (step s t o).0)
after_cases s t (op.New dest shape) reply.Full = inl refl
after_cases s t (op.New dest shape) r = inr refl
after_cases s t o r = inr refl

pub rows_are : (threads : ℕ) (h : List Item) → IsUnrenewed h → length (moment threads h).state.graph ≡ threads + 1
rows_are threads [] none = let e = length-replicate threads (let empty : List Object = [] in empty) in omega (arith, e)
rows_are threads (Renew ns ∷ h) none = absurd none
rows_are threads (Pause report ∷ h) none = rows_are threads h none
rows_are threads (Call t o r ∷ h) none =
    let s = (moment threads h).state in
    elim (after_cases s t o r) [
      | inl same ↦ ap (λ (z : State). length z.graph) same ∙ rows_are threads h none
      | inr next ↦ ap (λ (z : State). length z.graph) next ∙ ((step_rows s t o).rows ∙ rows_are threads h none)
    ]

pub empty_row : (n k : ℕ) → slice_index_or (replicate n (let none : List Object = [] in none)) k [] ≡ []
empty_row zero zero = refl
empty_row zero (suc k) = refl
empty_row (suc n) zero = refl
empty_row (suc n) (suc k) = empty_row n k

opening_row_empty : (threads t : ℕ) → 1 ≤ t → length (row_of (moment threads []).state.graph t) ≡ 0
opening_row_empty threads zero low = absurd (omega (arith, low))
opening_row_empty threads (suc k) low = ap length (empty_row threads k)

-- how many calls a thread has with one more call of some thread
one_more : (t u : ℕ) (o : Op) (r : Reply) (h : List Item) → ((t ≡ u) × (length (calls_of t (Call u o r ∷ h)) ≡ length (calls_of t h) + 1)) ⊎ ((t ≢ u) × (length (calls_of t (Call u o r ∷ h)) ≡ length (calls_of t h)))
one_more t u o r h = elim (cases_eq t u) [
  | inl same ↦ inl (same, ap length (cond-true (nat_eq t u) (calls_of t h ++ o ∷ []) (calls_of t h) (eq-eqb t u same)) ∙ length_push (calls_of t h) o)
  | inr other ↦ inr (other, ap length (cond-false (nat_eq t u) (calls_of t h ++ o ∷ []) (calls_of t h) (ne_eqb t u other)))
]

pub row_short : (threads t : ℕ) (h : List Item) → IsUnrenewed h → 1 ≤ t → length (row_of (moment threads h).state.graph t) ≤ length (calls_of t h)
row_short threads t [] none low = let e = opening_row_empty threads t low in omega (arith, e)
row_short threads t (Renew ns ∷ h) none low = absurd none
row_short threads t (Pause report ∷ h) none low = row_short threads t h none low
row_short threads t (Call u o r ∷ h) none low =
    let s = (moment threads h).state in
    let before = row_short threads t h none low in
    elim (after_cases s u o r) [
      | inl same ↦
          let e = ap (λ (z : State). length (row_of z.graph t)) same in
          elim (one_more t u o r h) [ inl more ↦ omega (arith, e, before, more.1) | inr still ↦ omega (arith, e, before, still.1) ]
      | inr next ↦
          let e = ap (λ (z : State). length (row_of z.graph t)) next in
          let keeps = step_rows s u o in
          elim (one_more t u o r h) [
            | inl more ↦
                let made : length (row_of (step s u o).0.graph t) ≤ length (row_of s.graph t) + 1 = subst (λ (v : ℕ). length (row_of (step s u o).0.graph v) ≤ length (row_of s.graph v) + 1) (sym more.0) keeps.one_made in
                omega (arith, e, before, more.1, made)
            | inr still ↦ let other = keeps.others t still.0 in omega (arith, e, before, still.1, other)
          ]
    ]

-- the number of the last pause is how many there were
pub number_is : (e : Evidence) (h : List Item) → AllPass e h → (moment e.terms.threads h).number ≡ pauses_in h
number_is e [] all = refl
number_is e (Renew ns ∷ h) all = refl
number_is e (Call t o r ∷ h) all = number_is e h all.0
number_is e (Pause report ∷ h) all = let n = number_is e h all.0 in let is = all.1.legal.reports.1.number in omega (arith, n, is)
