-- A bit is set where it is 1, and the bits of a mask that was made lane by lane are those of its lanes.
use Rattle.std.proofs.Common.{◌≡◌, ℕ, zero, suc, ◌+◌, ◌-◌, ◌*◌, ◌%◌, ◌^◌, ◌<◌, ◌≤◌, refl, sym, ap, subst, ◌∙◌, inl, inr, arith, false, cond, eqb, List, [], ◌∷◌, length}
use Rattle.std.specs.Prelude.{◌↔◌, IsBitSet, map, slice_index, slice_index_or}
use Rattle.std.specs.Int.{bit_at}
use Rattle.std.specs.Int.Bits.{bit_or}
use Rattle.std.specs.Simd.Lanes.{mask_l}
use Rattle.std.proofs.lemmas.Bool.Decides.{eqb_tells, leb_tells}
use Rattle.std.proofs.lemmas.List.{length-map}
use Rattle.std.proofs.lemmas.Nat.{mul-le, or_comm, or_shifted, pow-add, pow_pos, shl_whole}
use Rattle.std.proofs.lemmas.Nat.Bits.{and_pow, bit_at-lt, bit_at_cat_high, bit_at_cat_low}
use Rattle.std.proofs.lemmas.Simd.{bit_mask_l, mask_l-lt}

pub set_is_one : (n k : ℕ) → IsBitSet n k → bit_at n k ≡ 1
set_is_one n k set = elim (eqb_tells (bit_at n k) 1) [
  | inl one ↦ one.1
  | inr other ↦
      let below = bit_at-lt n k in let ne = other.1 in
      let none : bit_at n k ≡ 0 = omega arith in
      absurd (set (and_pow n k ∙ ap (λ b. b * 2 ^ k) none ∙ omega arith))
]

pub one_is_set : (n k : ℕ) → bit_at n k ≡ 1 → IsBitSet n k
one_is_set n k one none =
    let some = pow_pos k in
    let product : 1 * 2 ^ k ≡ 0 = ap (λ b. b * 2 ^ k) (sym one) ∙ sym (and_pow n k) ∙ none in
    absurd (omega arith)

-- a bit that isn't set is 0
pub unset_is_zero : (n k : ℕ) → (IsBitSet n k → ⊥) → bit_at n k ≡ 0
unset_is_zero n k none = elim (eqb_tells (bit_at n k) 1) [
  | inl one ↦ absurd (none (one_is_set n k one.1))
  | inr other ↦ let below = bit_at-lt n k in let ne = other.1 in omega arith
]

-- a list of tests, one for each item
tested : (xs : List ℕ) (i : ℕ) → i < length xs → slice_index_or (map (λ x. eqb x 0) xs) i false ≡ eqb (slice_index xs i) 0
tested [] i within = absurd (omega arith)
tested (x ∷ xs) zero within = refl
tested (x ∷ xs) (suc i) within = tested xs i (omega (arith, within))

-- the mask of so many lanes has so many bits
pub mask_within : (xs : List ℕ) (n : ℕ) → length xs ≡ n → mask_l (map (λ x. eqb x 0) xs) < 2 ^ n
mask_within xs n len = subst (λ k. mask_l (map (λ x. eqb x 0) xs) < 2 ^ k) (length-map xs (λ x. eqb x 0) ∙ len) (mask_l-lt (map (λ x. eqb x 0) xs))

-- the mask of the lanes that are 0
pub zero_bits : (xs : List ℕ) (i : ℕ) → i < length xs → IsBitSet (mask_l (map (λ x. eqb x 0) xs)) i ↔ (slice_index xs i ≡ 0)
zero_bits xs i within =
    let bit : bit_at (mask_l (map (λ x. eqb x 0) xs)) i ≡ cond (eqb (slice_index xs i) 0) 1 0 = bit_mask_l (map (λ x. eqb x 0) xs) i ∙ ap (λ b. cond b 1 0) (tested xs i within) in (
      (λ set. elim (eqb_tells (slice_index xs i) 0) [
        | inl is ↦ is.1
        | inr other ↦ let no : 0 ≡ 1 = sym (ap (λ b. cond b 1 0) other.0) ∙ sym bit ∙ set_is_one (mask_l (map (λ x. eqb x 0) xs)) i set in absurd (omega arith)
      ]),
      (λ is. elim (eqb_tells (slice_index xs i) 0) [
        | inl same ↦ one_is_set (mask_l (map (λ x. eqb x 0) xs)) i (bit ∙ ap (λ b. cond b 1 0) same.0)
        | inr other ↦ absurd (other.1 is)
      ]),
    )

-- two numbers of j and of k bits side by side, in m bits
module _ (j k m high low : ℕ) (h : high < 2 ^ j) (l : low < 2 ^ k) (fit : j + k ≤ m) where
  pub side_by_side : bit_or (high * 2 ^ k % 2 ^ m) low ≡ high * 2 ^ k + low
  side_by_side = ap (λ x. bit_or x low) (shl_whole high j k m h fit) ∙ or_shifted high k low l

  pub low_part : (i : ℕ) → i < k → bit_at (bit_or (high * 2 ^ k % 2 ^ m) low) i ≡ bit_at low i
  low_part i within = ap (λ x. bit_at x i) side_by_side ∙ bit_at_cat_low high k low i within

  pub high_part : (i : ℕ) → k ≤ i → bit_at (bit_or (high * 2 ^ k % 2 ^ m) low) i ≡ bit_at high (i - k)
  high_part i behind = ap (λ x. bit_at x i) side_by_side ∙ bit_at_cat_high high k low i l behind

-- so many bits tell which numbers have a fact
abbrev pub TellsOf : (ℕ → Type 0) → ℕ → ℕ → Type 0
TellsOf fact n bits = (i : ℕ) → i < n → IsBitSet bits i ↔ fact i

-- the bits of j further numbers are put behind those of n
module _ (fact : ℕ → Type 0) (m j n bits told : ℕ) (fit : n + j ≤ m) (z : bits < 2 ^ n) (w : told < 2 ^ j) where
  laid_low : bit_or bits (told * 2 ^ n % 2 ^ m) ≡ bit_or (told * 2 ^ n % 2 ^ m) bits
  laid_low = or_comm bits (told * 2 ^ n % 2 ^ m)

  enough : j + n ≤ m
  enough = omega (arith, fit)

  pub more_fit : bit_or bits (told * 2 ^ n % 2 ^ m) < 2 ^ (n + j)
  more_fit =
      let sum = laid_low ∙ side_by_side j n m told bits w z enough in
      let power = pow-add 2 n j in
      let product = mul-le (told + 1) (2 ^ n) (2 ^ j) (2 ^ n) (omega (arith, w)) (omega arith) in
      omega (arith, sum, power, product, z)

  pub more_told : TellsOf fact n bits → TellsOf (λ i. fact (n + i)) j told → TellsOf fact (n + j) (bit_or bits (told * 2 ^ n % 2 ^ m))
  more_told lows highs i within = subst (λ x. IsBitSet x i ↔ fact i) (sym laid_low) (elim (leb_tells n i) [
    | inl c ↦
        let behind = c.1 in
        let place : n + (i - n) ≡ i = omega (arith, behind) in
        let bit = high_part j n m told bits w z enough i behind in
        let tells = highs (i - n) (omega (arith, within, behind)) in (
          (λ set. subst fact place (tells.0 (one_is_set told (i - n) (sym bit ∙ set_is_one (bit_or (told * 2 ^ n % 2 ^ m) bits) i set)))),
          (λ is. one_is_set (bit_or (told * 2 ^ n % 2 ^ m) bits) i (bit ∙ set_is_one told (i - n) (tells.1 (subst fact (sym place) is)))),
        )
    | inr c ↦
        let bit = low_part j n m told bits w z enough i c.1 in
        let tells = lows i c.1 in (
          (λ set. tells.0 (one_is_set bits i (sym bit ∙ set_is_one (bit_or (told * 2 ^ n % 2 ^ m) bits) i set))),
          (λ is. one_is_set (bit_or (told * 2 ^ n % 2 ^ m) bits) i (bit ∙ set_is_one bits i (tells.1 is))),
        )
  ])

-- so it is with two numbers of 64 bits
pub joined_below : (high low i : ℕ) → high < 2 ^ 64 → low < 2 ^ 64 → i < 64 → bit_at (bit_or (high * 2 ^ 64 % 2 ^ 128) low) i ≡ bit_at low i
joined_below high low i h l within = low_part 64 64 128 high low h l (omega arith) i within

pub joined_above : (high low i : ℕ) → high < 2 ^ 64 → low < 2 ^ 64 → 64 ≤ i → bit_at (bit_or (high * 2 ^ 64 % 2 ^ 128) low) i ≡ bit_at high (i - 64)
joined_above high low i h l behind = high_part 64 64 128 high low h l (omega arith) i behind
