-- Entries of tables of which one is changed, and how many pass a test.
use Rattle.std.proofs.Common.{◌≡◌, ◌≢◌, ℕ, zero, suc, ◌+◌, ◌<◌, ◌≤◌, refl, ap, ◌∙◌, inl, inr, ◌⊎◌, arith, Bool, true, false, cond, nat_eq}
use Rattle.std.proofs.lemmas.Bool.Decides.{eqb_tells}
use Rattle.lxr_image.specs.Tables.{changed}
use Rattle.lxr_invariant.specs.Counting.{passing}

-- ---- numbers

pub same_number : (p q : ℕ) → p ≡ q → nat_eq p q ≡ true
same_number p q e = grind arith

pub unlike_number : (p q : ℕ) → p ≢ q → nat_eq p q ≡ false
unlike_number p q ne = grind arith

pub equal_numbers : (p q : ℕ) → nat_eq p q ≡ true → p ≡ q
equal_numbers p q e = grind arith

-- ---- one entry

pub changed_cases : {A : Type 0} (f : ℕ → A) (k : ℕ) (v : A) (j : ℕ) → ((j ≡ k) × (changed f k v j ≡ v)) ⊎ ((j ≢ k) × (changed f k v j ≡ f j))
changed_cases f k v j = elim (eqb_tells j k) [
  | inl q ↦ inl (q.1, ap (λ b. cond b v (f j)) q.0)
  | inr q ↦ inr (q.1, ap (λ b. cond b v (f j)) q.0)
]

pub changed_here : {A : Type 0} (f : ℕ → A) (k : ℕ) (v : A) (j : ℕ) → j ≡ k → changed f k v j ≡ v
changed_here f k v j e = elim (changed_cases f k v j) [ inl q ↦ q.1 | inr q ↦ absurd (q.0 e) ]

pub changed_other : {A : Type 0} (f : ℕ → A) (k : ℕ) (v : A) (j : ℕ) → j ≢ k → changed f k v j ≡ f j
changed_other f k v j ne = elim (changed_cases f k v j) [ inl q ↦ absurd (ne q.0) | inr q ↦ q.1 ]

-- ---- how many pass

-- 1 for a test that holds, and else 0
abbrev pub one_if : Bool → ℕ
one_if b = cond b 1 0

one_below : (a b : Bool) → (a ≡ true → b ≡ true) → one_if a ≤ one_if b
one_below true b h = let e = h refl in rw e (omega arith)
one_below false b h = omega arith

pub passing_few : (f : ℕ → Bool) (n : ℕ) → passing f n ≤ n
passing_few f zero = omega arith
passing_few f (suc k) = let a = passing_few f k in let b = one_below (f k) true (λ e. refl) in omega (arith, a, b)

pub passing_more : (f h : ℕ → Bool) (n : ℕ) → ((k : ℕ) → f k ≡ true → h k ≡ true) → passing f n ≤ passing h n
passing_more f h zero more = omega arith
passing_more f h (suc k) more = let a = passing_more f h k more in let b = one_below (f k) (h k) (more k) in omega (arith, a, b)

pub passing_one_more : (f h : ℕ → Bool) (g n : ℕ) → ((k : ℕ) → f k ≡ true → h k ≡ true) → g < n → f g ≡ false → h g ≡ true → passing f n + 1 ≤ passing h n
passing_one_more f h g zero more within before after = absurd (omega arith)
passing_one_more f h g (suc k) more within before after = elim (eqb_tells k g) [
  | inl q ↦
      let a = passing_more f h k more in
      let b : one_if (f k) ≡ 0 = ap one_if (ap f q.1 ∙ before) in
      let c : one_if (h k) ≡ 1 = ap one_if (ap h q.1 ∙ after) in
      omega (arith, a, b, c)
  | inr q ↦
      let ne = q.1 in
      let a = passing_one_more f h g k more (omega arith) before after in
      let b = one_below (f k) (h k) (more k) in
      omega (arith, a, b)
]

-- an entry that is changed behind them is nothing to the first so many
passing_same : (f : ℕ → Bool) (v : Bool) (g n : ℕ) → n ≤ g → passing (changed f g v) n ≡ passing f n
passing_same f v g zero h = refl
passing_same f v g (suc k) h =
    let a = passing_same f v g k (omega arith) in
    let b : one_if (changed f g v k) ≡ one_if (f k) = ap one_if (changed_other f g v k (λ e. omega arith)) in
    omega (arith, a, b)

-- one entry is changed among them
pub passing_changed : (f : ℕ → Bool) (v : Bool) (g n : ℕ) → g < n → passing (changed f g v) n + one_if (f g) ≡ passing f n + one_if v
passing_changed f v g zero within = absurd (omega arith)
passing_changed f v g (suc k) within = elim (eqb_tells k g) [
  | inl q ↦
      let a = passing_same f v g k (let e = q.1 in omega arith) in
      let b : one_if (f k) ≡ one_if (f g) = ap (λ z. one_if (f z)) q.1 in
      let c : one_if (changed f g v k) ≡ one_if v = ap one_if (changed_here f g v k q.1) in
      omega (arith, a, b, c)
  | inr q ↦
      let ne = q.1 in
      let a = passing_changed f v g k (omega arith) in
      let b : one_if (changed f g v k) ≡ one_if (f k) = ap one_if (changed_other f g v k ne) in
      omega (arith, a, b)
]

-- it passes now, or passes no more
pub passing_set : (f : ℕ → Bool) (g n : ℕ) → g < n → f g ≡ false → passing (changed f g true) n ≡ passing f n + 1
passing_set f g n within before = let a = passing_changed f true g n within in let b : one_if (f g) ≡ 0 = ap one_if before in omega (arith, a, b)

pub passing_cleared : (f : ℕ → Bool) (g n : ℕ) → f g ≡ true → g < n → passing (changed f g false) n + 1 ≡ passing f n
passing_cleared f g n before within = let a = passing_changed f false g n within in let b : one_if (f g) ≡ 1 = ap one_if before in omega (arith, a, b)
