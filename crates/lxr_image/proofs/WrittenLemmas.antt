-- Tables that are written entry after entry.
use Rattle.std.proofs.Common.{◌≡◌, ℕ, ◌+◌, ◌-◌, ◌<◌, ◌≤◌, sym, ap, ◌∙◌, inl, inr, arith, true, false, List, [], ◌∷◌, ◌++◌, length, length-append}
use Rattle.std.proofs.Math.ListN.{get_or-append}
use Rattle.std.proofs.Math.Seq.{get_or-append_right}
use Rattle.std.proofs.lemmas.Bool.Decides.{eqb_tells, leb_tells, nat_tests}
use Rattle.std.specs.Prelude.{◌&&◌, nat_le, nat_lt, slice_index, if◌then◌else◌}
use Rattle.lxr_image.specs.Tables.{changed, written}

inside : (f : ℕ → ℕ) (at : ℕ) (xs : List ℕ) (i : ℕ) → at ≤ i → i < at + length xs → written f at xs i ≡ slice_index xs (i - at)
inside f at xs i after before =
    let test : (nat_le at i && nat_lt i (at + length xs)) ≡ true = grind (arith, nat_tests) in
    ap (λ b. if b then slice_index xs (i - at) else f i) test

ahead : (f : ℕ → ℕ) (at : ℕ) (xs : List ℕ) (i : ℕ) → i < at → written f at xs i ≡ f i
ahead f at xs i before =
    let test : (nat_le at i && nat_lt i (at + length xs)) ≡ false = grind (arith, nat_tests) in
    ap (λ b. if b then slice_index xs (i - at) else f i) test

past : (f : ℕ → ℕ) (at : ℕ) (xs : List ℕ) (i : ℕ) → at + length xs ≤ i → written f at xs i ≡ f i
past f at xs i behind =
    let test : (nat_le at i && nat_lt i (at + length xs)) ≡ false = grind (arith, nat_tests) in
    ap (λ b. if b then slice_index xs (i - at) else f i) test

none_at : (f : ℕ → ℕ) (at i : ℕ) → f i ≡ written f at [] i
none_at f at i = elim (leb_tells at i) [
  | inl k ↦ let h = k.1 in sym (past f at [] i (omega arith))
  | inr k ↦ sym (ahead f at [] i k.1)
]

pub written_none : (f : ℕ → ℕ) (at : ℕ) → f ≡ written f at []
written_none f at = λ j i. none_at f at i j

one_at : (f : ℕ → ℕ) (at x i : ℕ) → changed f at x i ≡ written f at (x ∷ []) i
one_at f at x i = elim (eqb_tells i at) [
  | inl e ↦ let is = e.1 in
      ap (λ b. if b then x else f i) e.0
      ∙ sym (inside f at (x ∷ []) i (omega arith) (omega arith) ∙ ap (slice_index (x ∷ [])) (let z : i - at ≡ 0 = omega arith in z))
  | inr e ↦ let ne = e.1 in
      ap (λ b. if b then x else f i) e.0
      ∙ elim (leb_tells at i) [
        | inl k ↦ let after = k.1 in sym (past f at (x ∷ []) i (omega arith))
        | inr k ↦ sym (ahead f at (x ∷ []) i k.1)
      ]
]

pub written_one : (f : ℕ → ℕ) (at x : ℕ) → changed f at x ≡ written f at (x ∷ [])
written_one f at x = λ j i. one_at f at x i j

more_at : (f : ℕ → ℕ) (at : ℕ) (xs ys : List ℕ) (i : ℕ) → written (written f at xs) (at + length xs) ys i ≡ written f at (xs ++ ys) i
more_at f at xs ys i =
    let both : length (xs ++ ys) ≡ length xs + length ys = length-append xs ys in
    elim (leb_tells at i) [
      | inr k ↦ let before = k.1 in ahead (written f at xs) (at + length xs) ys i (omega arith) ∙ ahead f at xs i before ∙ sym (ahead f at (xs ++ ys) i before)
      | inl k ↦ let after = k.1 in elim (leb_tells (at + length xs) i) [
        | inr m ↦ let low = m.1 in
            ahead (written f at xs) (at + length xs) ys i low ∙ inside f at xs i after low
            ∙ sym (inside f at (xs ++ ys) i after (omega arith) ∙ get_or-append xs ys 0 (i - at) (omega arith))
        | inl m ↦ let high = m.1 in elim (leb_tells (at + length xs + length ys) i) [
          | inl e ↦ let end = e.1 in
              past (written f at xs) (at + length xs) ys i end ∙ past f at xs i high ∙ sym (past f at (xs ++ ys) i (omega arith))
          | inr e ↦ let low = e.1 in
              inside (written f at xs) (at + length xs) ys i high low
              ∙ ap (slice_index ys) (let z : i - (at + length xs) ≡ i - at - length xs = omega arith in z)
              ∙ sym (inside f at (xs ++ ys) i after (omega arith) ∙ get_or-append_right xs ys (i - at) 0 (omega arith))
        ]
      ]
    ]

pub written_more : (f : ℕ → ℕ) (at : ℕ) (xs ys : List ℕ) → written (written f at xs) (at + length xs) ys ≡ written f at (xs ++ ys)
written_more f at xs ys = λ j i. more_at f at xs ys i j

-- one number is written before others
pub written_first : (f : ℕ → ℕ) (at x : ℕ) (xs : List ℕ) → written (changed f at x) (at + 1) xs ≡ written f at (x ∷ xs)
written_first f at x xs =
    ap (λ g. written g (at + 1) xs) (written_one f at x)
    ∙ ap (λ n. written (written f at (x ∷ [])) n xs) (let z : at + 1 ≡ at + length (x ∷ []) = omega arith in z)
    ∙ written_more f at (x ∷ []) xs
