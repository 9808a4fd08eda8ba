-- The lowest of 128 bits is found, and taken away, in the half that has it.
use Rattle.std.proofs.Common.{◌≡◌, ◌≢◌, ℕ, suc, ◌+◌, ◌-◌, ◌*◌, ◌/◌, ◌%◌, ◌^◌, ◌<◌, ◌≤◌, sym, ap, ◌∙◌, inl, inr, arith}
use Rattle.std.specs.Int.{Width, bit_at, trailing_zeros, w64, w128}
use Rattle.std.specs.Int.Bits.{bit_and}
use Rattle.std.proofs.lemmas.Bool.Decides.{eqb_tells, leb_tells}
use Rattle.std.proofs.lemmas.Nat.{div-add-mod', mod_below, pow_pos}
use Rattle.std.proofs.lemmas.Nat.Bits.{bit_at-lt, bit_at-suc, bit_at-trailing_zeros, bit_at-zero, bit_at_and, bit_at_cat_high, bit_at_cat_low, bit_at_lowest, same_from_bits_below}

-- ---- the lowest bit is taken away

-- a number is an odd one before so many zeros
low_zeros : (n t : ℕ) → ((i : ℕ) → i < t → bit_at n i ≡ 0) → n % 2 ^ t ≡ 0
low_zeros n t none =
    same_from_bits_below t (n % 2 ^ t) 0 (mod_below n (2 ^ t) (pow_pos t)) (pow_pos t)
    (λ i h. sym (bit_at_cat_low (n / 2 ^ t) t (n % 2 ^ t) i h) ∙ ap (λ x. bit_at x i) (div-add-mod' n (2 ^ t)) ∙ none i h ∙ sym (bit_at-zero i))

-- the number below it has the same bits above the lowest, and not that one
below_parts : (n t : ℕ) → bit_at n t ≡ 1 → n % 2 ^ t ≡ 0 → n - 1 ≡ (n / 2 ^ t - 1) * 2 ^ t + (2 ^ t - 1)
below_parts n t one none =
    let split = div-add-mod' n (2 ^ t) in
    let some = pow_pos t in
    let odd : n / 2 ^ t % 2 ≡ 1 = one in
    let high : n / 2 ^ t ≡ n / 2 ^ t - 1 + 1 = omega arith in
    let product : n / 2 ^ t * 2 ^ t ≡ (n / 2 ^ t - 1 + 1) * 2 ^ t = ap (λ x. x * 2 ^ t) high in
    omega arith

below_bit : (n t i : ℕ) → bit_at n t ≡ 1 → n % 2 ^ t ≡ 0 → t ≤ i → bit_at (n - 1) i ≡ bit_at (n / 2 ^ t - 1) (i - t)
below_bit n t i one none after =
    let some = pow_pos t in
    ap (λ x. bit_at x i) (below_parts n t one none) ∙ bit_at_cat_high (n / 2 ^ t - 1) t (2 ^ t - 1) i (omega arith) after

same_above : (h j : ℕ) → h % 2 ≡ 1 → bit_at (h - 1) (suc j) ≡ bit_at h (suc j)
same_above h j odd = let half : (h - 1) / 2 ≡ h / 2 = omega arith in bit_at-suc (h - 1) j ∙ ap (λ x. bit_at x j) half ∙ sym (bit_at-suc h j)

whole_bit : (n t i : ℕ) → n % 2 ^ t ≡ 0 → t ≤ i → bit_at n i ≡ bit_at (n / 2 ^ t) (i - t)
whole_bit n t i none after =
    let some = pow_pos t in
    ap (λ x. bit_at x i) (sym (div-add-mod' n (2 ^ t))) ∙ bit_at_cat_high (n / 2 ^ t) t (n % 2 ^ t) i (mod_below n (2 ^ t) some) after

pub lowest_gone : (n i : ℕ) → 0 < n → n < 2 ^ 64 → i ≤ trailing_zeros w64 n → bit_at (bit_and n (n - 1)) i ≡ 0
lowest_gone n i some fits up_to =
    let t : ℕ = trailing_zeros w64 n in
    let lowest = bit_at-trailing_zeros w64 n some fits in
    let both = bit_at_and n (n - 1) i in
    let x = bit_at-lt n i in let y = bit_at-lt (n - 1) i in
    elim (eqb_tells i t) [
      | inl same ↦
          let at = same.1 in
          let zeros = low_zeros n t lowest.2 in
          let odd : n / 2 ^ t % 2 ≡ 1 = lowest.1 in
          let even : bit_at (n / 2 ^ t - 1) 0 ≡ 0 = bit_at_lowest (n / 2 ^ t - 1) ∙ omega arith in
          let start : t - t ≡ 0 = omega arith in
          let gone : bit_at (n - 1) i ≡ 0 = ap (bit_at (n - 1)) at ∙ below_bit n t t lowest.1 zeros (omega arith) ∙ ap (bit_at (n / 2 ^ t - 1)) start ∙ even in
          omega arith
      | inr other ↦ let ne = other.1 in let none = lowest.2 i (omega arith) in omega arith
    ]

pub others_stay : (n i : ℕ) → 0 < n → n < 2 ^ 64 → trailing_zeros w64 n < i → bit_at (bit_and n (n - 1)) i ≡ bit_at n i
others_stay n i some fits behind =
    let t : ℕ = trailing_zeros w64 n in
    let lowest = bit_at-trailing_zeros w64 n some fits in
    let zeros = low_zeros n t lowest.2 in
    let both = bit_at_and n (n - 1) i in
    let j : ℕ = i - t - 1 in
    let place : i - t ≡ suc j = omega arith in
    let same : bit_at (n - 1) i ≡ bit_at n i =
    below_bit n t i lowest.1 zeros (omega arith) ∙ ap (bit_at (n / 2 ^ t - 1)) place ∙ same_above (n / 2 ^ t) j lowest.1 ∙ ap (bit_at (n / 2 ^ t)) (sym place) ∙ sym (whole_bit n t i zeros (omega arith)) in
    omega arith

-- the bits without the lowest
abbrev pub IsRest : Width → ℕ → ℕ → Type 0
IsRest w e rest = ((i : ℕ) → i ≤ trailing_zeros w e → bit_at rest i ≡ 0) × ((i : ℕ) → trailing_zeros w e < i → bit_at rest i ≡ bit_at e i)

-- ---- halves

lower_bit : (n i : ℕ) → i < 64 → bit_at (n % 2 ^ 64) i ≡ bit_at n i
lower_bit n i within = sym (bit_at_cat_low (n / 2 ^ 64) 64 (n % 2 ^ 64) i within) ∙ ap (λ x. bit_at x i) (div-add-mod' n (2 ^ 64))

upper_bit : (n i : ℕ) → 64 ≤ i → bit_at (n / 2 ^ 64) (i - 64) ≡ bit_at n i
upper_bit n i behind =
    sym (bit_at_cat_high (n / 2 ^ 64) 64 (n % 2 ^ 64) i (mod_below n (2 ^ 64) (pow_pos 64)) behind) ∙ ap (λ x. bit_at x i) (div-add-mod' n (2 ^ 64))

upper_fits : (n : ℕ) → n < 2 ^ 128 → n / 2 ^ 64 < 2 ^ 64
upper_fits n fits = omega arith

-- ---- where the lowest bit is

-- a number with a bit that is set isn't 0
some_bit : (n i : ℕ) → bit_at n i ≡ 1 → 0 < n
some_bit n i one = elim (eqb_tells n 0) [
  | inl zero ↦ let gone : bit_at n i ≡ 0 = ap (λ x. bit_at x i) zero.1 ∙ bit_at-zero i in absurd (omega arith)
  | inr some ↦ let ne = some.1 in omega arith
]

-- a bit that is set, with none below it
lowest_is : (n t : ℕ) → n < 2 ^ 128 → bit_at n t ≡ 1 → ((i : ℕ) → i < t → bit_at n i ≡ 0) → trailing_zeros w128 n ≡ t
lowest_is n t fits one none =
    let lowest = bit_at-trailing_zeros w128 n (some_bit n t one) fits in
    elim (leb_tells t (trailing_zeros w128 n)) [
      | inl c ↦ elim (eqb_tells (trailing_zeros w128 n) t) [
        | inl same ↦ same.1
        | inr other ↦ let ne = other.1 in let order = c.1 in let zero = lowest.2 t (omega arith) in absurd (omega arith)
      ]
      | inr c ↦ let zero = none (trailing_zeros w128 n) c.1 in let set = lowest.1 in absurd (omega arith)
    ]

-- in a number without bits it is behind the last
behind_all : (n : ℕ) → n ≡ 0 → trailing_zeros w128 n ≡ 128
unfolding lib.Count.count_trailing_zeros
behind_all n none = ap (trailing_zeros w128) none

behind_half : (n : ℕ) → n ≡ 0 → trailing_zeros w64 n ≡ 64
unfolding lib.Count.count_trailing_zeros
behind_half n none = ap (trailing_zeros w64) none

pub no_place : (n : ℕ) → n < 2 ^ 128 → trailing_zeros w128 n ≡ 128 → n ≡ 0
no_place n fits behind = elim (eqb_tells n 0) [
  | inl none ↦ none.1
  | inr some ↦ let ne = some.1 in let lowest = bit_at-trailing_zeros w128 n (omega arith) fits in let inside = lowest.0 in absurd (omega arith)
]

pub some_place : (n : ℕ) → trailing_zeros w128 n ≢ 128 → 0 < n
some_place n before = elim (eqb_tells n 0) [
  | inl none ↦ absurd (before (behind_all n none.1))
  | inr some ↦ let ne = some.1 in omega arith
]

-- where the lower half isn't 0, it is there
pub lower_place : (n : ℕ) → n < 2 ^ 128 → 0 < n % 2 ^ 64 → trailing_zeros w128 n ≡ trailing_zeros w64 (n % 2 ^ 64)
lower_place n fits some =
    let half : ℕ = n % 2 ^ 64 in
    let lowest = bit_at-trailing_zeros w64 half some (mod_below n (2 ^ 64) (pow_pos 64)) in
    let inside : trailing_zeros w64 half < 64 = lowest.0 in
    lowest_is n (trailing_zeros w64 half) fits (sym (lower_bit n (trailing_zeros w64 half) inside) ∙ lowest.1)
    (λ i h. sym (lower_bit n i (omega (arith, h, inside))) ∙ lowest.2 i h)

-- and else in the upper half
pub upper_place : (n : ℕ) → n < 2 ^ 128 → n % 2 ^ 64 ≡ 0 → trailing_zeros w128 n ≡ 64 + trailing_zeros w64 (n / 2 ^ 64)
upper_place n fits none =
    let half : ℕ = n / 2 ^ 64 in
    elim (eqb_tells half 0) [
      | inl empty ↦
          let zero = empty.1 in
          let whole : n ≡ 0 = omega arith in
          behind_all n whole ∙ ap (λ t. 64 + t) (sym (behind_half half zero))
      | inr other ↦
          let ne = other.1 in
          let lowest = bit_at-trailing_zeros w64 half (omega arith) (upper_fits n fits) in
          let t : ℕ = trailing_zeros w64 half in
          let back : 64 + t - 64 ≡ t = omega arith in
          lowest_is n (64 + t) fits (sym (upper_bit n (64 + t) (omega arith)) ∙ ap (bit_at half) back ∙ lowest.1)
          (λ i h. elim (leb_tells 64 i) [
            | inl c ↦ let behind = c.1 in sym (upper_bit n i behind) ∙ lowest.2 (i - 64) (omega (arith, h, behind))
            | inr c ↦ sym (lower_bit n i c.1) ∙ ap (λ x. bit_at x i) none ∙ bit_at-zero i
          ])
    ]

-- ---- the bits without the lowest

-- it is taken away in the lower half
pub lower_rest : (n rest left : ℕ) → n < 2 ^ 128 → 0 < n % 2 ^ 64 → IsRest w64 (n % 2 ^ 64) rest → ((i : ℕ) → i < 64 → bit_at left i ≡ bit_at rest i)
    → ((i : ℕ) → 64 ≤ i → bit_at left i ≡ bit_at (n / 2 ^ 64) (i - 64)) → IsRest w128 n left
lower_rest n rest left fits some is below above =
    let place = lower_place n fits some in
    let lowest = bit_at-trailing_zeros w64 (n % 2 ^ 64) some (mod_below n (2 ^ 64) (pow_pos 64)) in
    let inside : trailing_zeros w64 (n % 2 ^ 64) < 64 = lowest.0 in (
      (λ i up_to. below i (omega (arith, up_to, place, inside)) ∙ is.0 i (omega (arith, up_to, place))),
      (λ i behind. elim (leb_tells 64 i) [
        | inl c ↦ above i c.1 ∙ upper_bit n i c.1
        | inr c ↦ below i c.1 ∙ is.1 i (omega (arith, behind, place)) ∙ lower_bit n i c.1
      ]),
    )

-- or in the upper half
pub upper_rest : (n rest left : ℕ) → n < 2 ^ 128 → n % 2 ^ 64 ≡ 0 → IsRest w64 (n / 2 ^ 64) rest → ((i : ℕ) → i < 64 → bit_at left i ≡ 0)
    → ((i : ℕ) → 64 ≤ i → bit_at left i ≡ bit_at rest (i - 64)) → IsRest w128 n left
upper_rest n rest left fits none is below above =
    let place = upper_place n fits none in (
      (λ i up_to. elim (leb_tells 64 i) [
        | inl c ↦ let high = c.1 in above i high ∙ is.0 (i - 64) (omega (arith, up_to, place, high))
        | inr c ↦ below i c.1
      ]),
      (λ i behind.
          let high : 64 ≤ i = omega (arith, behind, place) in
          above i high ∙ is.1 (i - 64) (omega (arith, behind, place)) ∙ upper_bit n i high),
    )
