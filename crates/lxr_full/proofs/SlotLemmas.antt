-- Free lines in a row, counts of numbers that pass a test, and which slots some lines in a row can overlap.
use Rattle.std.proofs.Common.{◌≡◌, ℕ, zero, suc, ◌+◌, ◌-◌, ◌*◌, ◌/◌, ◌<◌, ◌≤◌, refl, sym, ap, ◌∙◌, inl, inr, ◌⊎◌, arith, Bool, true, false}
use Rattle.std.specs.Prelude.{◌&&◌, if◌then◌else◌}
use Rattle.std.proofs.Math.Nat.{div-mul-le_self, lt-div-mul-add, mul-le-mul_right}
use Rattle.std.proofs.lemmas.Bool.{cases_Bool}
use Rattle.std.proofs.lemmas.Bool.Decides.{eqb_tells, leb_tells}
use Rattle.lxr_layout.specs.declared.TheConstants.{LINES_IN_BLOCK}
use Rattle.lxr_model.specs.Full.{slots_touched}
use Rattle.lxr_full.specs.Touched.{are_free, count_passing}

-- ---- free lines in a row

-- lines that are each free are free in a row
pub row_is_free : (free : ℕ → Bool) (i n : ℕ) → ((m : ℕ) → m < n → free (i + m) ≡ true) → are_free free i n ≡ true
unfolding are_free
row_is_free free i zero all = refl
row_is_free free i (suc n) all =
    ap (λ b. b && free (i + n)) (row_is_free free i n (λ m h. all m (omega (arith, h)))) ∙ all n (omega arith)

-- each line of a free row is free
pub row_has_free : (free : ℕ → Bool) (i n m : ℕ) → m < n → are_free free i n ≡ true → free (i + m) ≡ true
unfolding are_free
row_has_free free i zero m h is = absurd (omega arith)
row_has_free free i (suc n) m h is = elim (cases_Bool (are_free free i n)) [
  | inl before ↦ elim (eqb_tells m n) [
    | inl k ↦ ap (λ x. free (i + x)) k.1 ∙ sym (ap (λ b. b && free (i + n)) before) ∙ is
    | inr k ↦ let ne = k.1 in row_has_free free i n m (omega arith) before
  ]
  | inr taken ↦ let no = sym (ap (λ b. b && free (i + n)) taken) ∙ is in cc
]

-- rows of the same lines are the same
pub same_row : (free other : ℕ → Bool) (i n : ℕ) → ((m : ℕ) → m < n → free (i + m) ≡ other (i + m)) → are_free free i n ≡ are_free other i n
unfolding are_free
same_row free other i zero all = refl
same_row free other i (suc n) all =
    ap (λ b. b && free (i + n)) (same_row free other i n (λ m h. all m (omega (arith, h)))) ∙ ap (λ b. are_free other i n && b) (all n (omega arith))

-- ---- counts

pub one_at_most : (b : Bool) → (if b then 1 else 0) ≤ 1
one_at_most true = omega arith
one_at_most false = omega arith

pub counts_none : (p : ℕ → Bool) (n : ℕ) → ((j : ℕ) → j < n → p j ≡ false) → count_passing p n ≡ 0
unfolding count_passing
counts_none p zero none = refl
counts_none p (suc n) none =
    let before = counts_none p n (λ j h. none j (omega (arith, h))) in
    let here = ap (λ b. count_passing p n + (if b then 1 else 0)) (none n (omega arith)) in omega arith

pub counts_all : (p : ℕ → Bool) (n : ℕ) → ((j : ℕ) → j < n → p j ≡ true) → count_passing p n ≡ n
unfolding count_passing
counts_all p zero all = refl
counts_all p (suc n) all =
    let before = counts_all p n (λ j h. all j (omega (arith, h))) in
    let here = ap (λ b. count_passing p n + (if b then 1 else 0)) (all n (omega arith)) in omega arith

pub counts_same : (p q : ℕ → Bool) (n : ℕ) → ((j : ℕ) → j < n → p j ≡ q j) → count_passing p n ≡ count_passing q n
unfolding count_passing
counts_same p q zero same = refl
counts_same p q (suc n) same =
    ap (λ c. c + (if p n then 1 else 0)) (counts_same p q n (λ j h. same j (omega (arith, h))))
    ∙ ap (λ b. count_passing q n + (if b then 1 else 0)) (same n (omega arith))

-- a test that fails wherever another one fails counts no more than that
pub counts_more : (p q : ℕ → Bool) (n : ℕ) → ((j : ℕ) → j < n → q j ≡ false → p j ≡ false) → count_passing p n ≤ count_passing q n
unfolding count_passing
counts_more p q zero fails = omega arith
counts_more p q (suc n) fails =
    let before = counts_more p q n (λ j h. fails j (omega (arith, h))) in
    let one = one_at_most (p n) in
    elim (cases_Bool (q n)) [
      | inl passes ↦ let here = ap (λ b. count_passing q n + (if b then 1 else 0)) passes in omega arith
      | inr fails_too ↦
          let here = ap (λ b. count_passing q n + (if b then 1 else 0)) fails_too in
          let too = ap (λ b. count_passing p n + (if b then 1 else 0)) (fails n (omega arith) fails_too) in omega arith
    ]

-- a number is one of the m from a on
abbrev pub IsInWindow : ℕ → ℕ → ℕ → Type 0
IsInWindow a m j = (a ≤ j) × (j < a + m)

-- two tests that differ only within a window of m numbers: one counts at most m more
pub counts_in_window : (p q : ℕ → Bool) (a m n : ℕ) → ((j : ℕ) → j < n → (p j ≡ q j) ⊎ IsInWindow a m j)
    → (count_passing p n ≤ count_passing q n + (n - a)) × (count_passing p n ≤ count_passing q n + m)
unfolding count_passing
counts_in_window p q a m zero differ = (omega arith, omega arith)
counts_in_window p q a m (suc n) differ =
    let before = counts_in_window p q a m n (λ j h. differ j (omega (arith, h))) in
    let few = before.0 in let fewer = before.1 in
    elim (differ n (omega arith)) [
      | inl same ↦ let here = ap (λ b. count_passing p n + (if b then 1 else 0)) same in (omega arith, omega arith)
      | inr within ↦ let low = within.0 in let high = within.1 in let one = one_at_most (p n) in (omega arith, omega arith)
    ]

-- ---- slots

-- the slots of a block lie within it
pub slot_within : (begin k j : ℕ) → begin ≤ LINES_IN_BLOCK → j < (LINES_IN_BLOCK - begin) / k → begin + j * k + k ≤ LINES_IN_BLOCK
slot_within begin k j low is =
    let up = mul-le-mul_right k is in let all = div-mul-le_self (LINES_IN_BLOCK - begin) k in omega (arith, up, all)

-- the slots that so many lines in a row and one more overlap are few, and stand in a row too
pub slot_in_window : (begin line lines k j : ℕ) → 1 ≤ k → line < begin + j * k + k → begin + j * k ≤ line + lines
    → IsInWindow ((line - begin) / k) (slots_touched k lines) j
slot_in_window begin line lines k j some behind before =
    let first = (line - begin) / k in
    let more = (lines + (k - 1)) / k in
    let low : first ≤ j = elim (leb_tells first j) [
      | inl h ↦ h.1
      | inr h ↦ let up = mul-le-mul_right k h.1 in let all = div-mul-le_self (line - begin) k in absurd (omega (arith, up, all))
    ] in
    let high : j < first + (more + 1) = elim (leb_tells (first + (more + 1)) j) [
      | inl h ↦
          let up = mul-le-mul_right k h.1 in let rest = lt-div-mul-add {a = line - begin} {b = k} some in
          let long = lt-div-mul-add {a = lines + (k - 1)} {b = k} some in absurd (omega (arith, up, rest, long))
      | inr h ↦ h.1
    ] in
    (low, high)
