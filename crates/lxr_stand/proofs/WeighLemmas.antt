-- Weights of lists: what an append, a change at one place and a removal do to them.
use Rattle.std.proofs.Common.{◌≡◌, ◌≢◌, ℕ, zero, suc, ◌+◌, ◌<◌, ◌≤◌, ◌==◌, Bool, true, false, List, [], ◌∷◌, ◌++◌, length, set, refl, sym, subst, ap, arith, eq-eqb, eqb-true, ne_eqb}
use Rattle.std.specs.Prelude.{if◌then◌else◌}
use Rattle.std.proofs.lemmas.Bool.{eqb-false}
use mathlib.Core.Option.{some, some-injective, some-ne-none}
use lib.ListN.{get_elem?}
use Rattle.lxr_stand.specs.Relaying.{IsIn, Every, below, one_at, weigh, without}

module _ {A : Type 0} where
  pub weigh-append : (f : A → ℕ) (xs ys : List A) → weigh f (xs ++ ys) ≡ weigh f xs + weigh f ys
  weigh-append f [] ys = omega arith
  weigh-append f (x ∷ xs) ys = let r = weigh-append f xs ys in omega arith

  -- one more behind the others
  pub weigh-push : (f : A → ℕ) (xs : List A) (x : A) → weigh f (xs ++ x ∷ []) ≡ weigh f xs + f x
  weigh-push f xs x = let r = weigh-append f xs (x ∷ []) in omega arith

  -- another item in one place
  pub weigh-set : (f : A → ℕ) (xs : List A) (i : ℕ) (x y : A) → get_elem? xs i ≡ some x → weigh f (set xs i y) + f x ≡ weigh f xs + f y
  weigh-set f [] i x y at = absurd (some-ne-none x (sym at))
  weigh-set f (z ∷ zs) zero x y at = let e : f z ≡ f x = ap f (some-injective z x at) in omega arith
  weigh-set f (z ∷ zs) (suc i) x y at = let r = weigh-set f zs i x y at in omega arith

  -- one item weighs no more than all
  pub weigh-at : (f : A → ℕ) (xs : List A) (i : ℕ) (x : A) → get_elem? xs i ≡ some x → f x ≤ weigh f xs
  weigh-at f [] i x at = absurd (some-ne-none x (sym at))
  weigh-at f (z ∷ zs) zero x at = let e : f z ≡ f x = ap f (some-injective z x at) in omega arith
  weigh-at f (z ∷ zs) (suc i) x at = let r = weigh-at f zs i x at in omega arith

  -- items that weigh 1 each
  pub weigh-ones : (xs : List A) → weigh (λ (x : A). 1) xs ≡ length xs
  weigh-ones [] = refl
  weigh-ones (x ∷ xs) = let r = weigh-ones xs in omega arith

  pub every-push : (P : A → Type 0) (xs : List A) (x : A) → Every P xs → P x → Every P (xs ++ x ∷ [])
  every-push P [] x all is = (is, tt)
  every-push P (z ∷ zs) x all is = (all.0, every-push P zs x all.1 is)

  pub every-set : (P : A → Type 0) (xs : List A) (i : ℕ) (x : A) → Every P xs → P x → Every P (set xs i x)
  every-set P [] i x all is = tt
  every-set P (z ∷ zs) zero x all is = (is, all.1)
  every-set P (z ∷ zs) (suc i) x all is = (all.0, every-set P zs i x all.1 is)

  pub every-at : (P : A → Type 0) (xs : List A) (i : ℕ) (x : A) → Every P xs → get_elem? xs i ≡ some x → P x
  every-at P [] i x all at = absurd (some-ne-none x (sym at))
  every-at P (z ∷ zs) zero x all at = subst P (some-injective z x at) all.0
  every-at P (z ∷ zs) (suc i) x all at = every-at P zs i x all.1 at

-- ---- places

pub one_at-same : (p : ℕ) → one_at p p ≡ 1
one_at-same p = ap (λ (b : Bool). if b then 1 else 0) (eq-eqb p p refl)

pub one_at-other : (p q : ℕ) → p ≢ q → one_at p q ≡ 0
one_at-other p q other = ap (λ (b : Bool). if b then 1 else 0) (ne_eqb p q other)

without_case : (h : ℕ → ℕ) (p q : ℕ) (qs : List ℕ) → IsIn p (q ∷ qs) → (IsIn p qs → weigh h (without p qs) + h p ≡ weigh h qs) → (b : Bool) → (p == q) ≡ b
    → weigh h (if b then qs else q ∷ without p qs) + h p ≡ h q + weigh h qs
without_case h p q qs is rest true e = let same : h p ≡ h q = ap h (eqb-true p q e) in omega arith
without_case h p q qs is rest false e =
    let none : one_at p q ≡ 0 = ap (λ (b : Bool). if b then 1 else 0) e in
    let r = rest (omega arith) in
    omega arith

-- a list without one of its numbers weighs so much less
pub weigh-without : (h : ℕ → ℕ) (p : ℕ) (qs : List ℕ) → IsIn p qs → weigh h (without p qs) + h p ≡ weigh h qs
weigh-without h p [] is = absurd (omega arith)
weigh-without h p (q ∷ qs) is = without_case h p q qs is (λ in'. weigh-without h p qs in') (p == q) refl

-- the numbers below n are as many
pub below-many : (n : ℕ) → weigh (λ _. 1) (below n) ≡ n
below-many zero = refl
below-many (suc n) = let r = below-many n in omega arith

below_case : (p n : ℕ) → p < suc n → (p < n → IsIn p (below n)) → (b : Bool) → (p == n) ≡ b → 1 ≤ (if b then 1 else 0) + weigh (one_at p) (below n)
below_case p n few rest true e = omega arith
below_case p n few rest false e = let other = eqb-false p n e in let r = rest (omega arith) in omega arith

-- and each of them is there
pub below-has : (p n : ℕ) → p < n → IsIn p (below n)
below-has p zero few = absurd (omega arith)
below-has p (suc n) few = below_case p n few (λ fewer. below-has p n fewer) (p == n) refl
