-- Unlogged bits that are cleared word after word are those that are cleared one after another.
use Rattle.std.proofs.Common.{◌≡◌, ℕ, ◌+◌, ◌-◌, ◌*◌, ◌/◌, ◌%◌, ◌^◌, ◌<◌, ◌≤◌, sym, ap, ◌∙◌, inl, inr, ◌⊎◌, arith, cond, Bool, false, w64}
use Rattle.std.specs.Prelude.{◌==◌, if◌then◌else◌}
use Rattle.std.specs.Int.{bit_at, bit_not}
use Rattle.std.specs.Int.Bits.{bit_and}
use Rattle.std.proofs.lemmas.Bool.Decides.{eqb_tells, leb_tells, nat_tests}
use Rattle.std.proofs.Math.Pow.{pow_mono, pow_pos}
use Rattle.std.proofs.lemmas.Nat.Bits.{bit_at-lt, bit_at_and, bit_at_mask_above, bit_at_mask_below, bit_at_mask_inside, bit_at_not}
use Rattle.lxr_image.specs.Spaces.{replaced_bits}
use Rattle.lxr_blocks.specs.Clearing.{clear_between}

-- ---- a range

pub range_cases : (a b k : ℕ) → ((a ≤ k) × (k < b)) ⊎ ((k < a) ⊎ (b ≤ k))
range_cases a b k = elim (leb_tells a k) [
  | inr p ↦ inr (inl p.1)
  | inl p ↦ elim (leb_tells b k) [ inl r ↦ inr (inr r.1) | inr r ↦ inl (p.1, r.1) ]
]

pub cleared_in : (f : ℕ → Bool) (a b k : ℕ) → a ≤ k → k < b → clear_between f a b k ≡ false
cleared_in f a b k h q = grind (arith, nat_tests)

pub cleared_out : (f : ℕ → Bool) (a b k : ℕ) → (k < a) ⊎ (b ≤ k) → clear_between f a b k ≡ f k
cleared_out f a b k (inl h) = grind (arith, nat_tests)
cleared_out f a b k (inr h) = grind (arith, nat_tests)

-- ---- words

-- a bit of a word without the bits of another
pub bit_without : (word mask i : ℕ) → mask < 2 ^ 64 → i < 64 → (bit_at (bit_and word (bit_not w64 mask)) i == 1) ≡ (if bit_at mask i == 1 then false else bit_at word i == 1)
bit_without word mask i fits within =
    let both = bit_at_and word (bit_not w64 mask) i in
    let turned = bit_at_not w64 mask i fits within in
    let low = bit_at-lt mask i in
    let small = bit_at-lt word i in
    elim (eqb_tells (bit_at mask i) 1) [
      | inl m ↦ let e = m.1 in ap (λ x. x == 1) (let z : bit_at (bit_and word (bit_not w64 mask)) i ≡ 0 = omega (arith, both, turned, e) in z) ∙ sym (ap (λ b. cond b false (bit_at word i == 1)) m.0)
      | inr m ↦ let e = m.1 in ap (λ x. x == 1) (let z : bit_at (bit_and word (bit_not w64 mask)) i ≡ bit_at word i = omega (arith, both, turned, e, low, small) in z) ∙ sym (ap (λ b. cond b false (bit_at word i == 1)) m.0)
    ]

-- the bits from one on are no fewer than those from a later one on
pub later_fewer : (from end : ℕ) → from ≤ end → end ≤ 64 → 2 ^ 64 - 2 ^ end ≤ 2 ^ 64 - 2 ^ from
later_fewer from end up within = let grows : 2 ^ from ≤ 2 ^ end = pow_mono up in omega arith

-- the bits from one on and below another
pub range_mask : (from end : ℕ) → from ≤ end → end ≤ 64 → 2 ^ 64 - 2 ^ from - (2 ^ 64 - 2 ^ end) ≡ 2 ^ end - 2 ^ from
range_mask from end up within =
    let grows : 2 ^ from ≤ 2 ^ end = pow_mono up in let fits : 2 ^ end ≤ 2 ^ 64 = pow_mono within in omega arith

mask_fits : (from end : ℕ) → end ≤ 64 → 2 ^ end - 2 ^ from < 2 ^ 64
mask_fits from end within =
    let some : 0 < 2 ^ from = pow_pos from in let fits : 2 ^ end ≤ 2 ^ 64 = pow_mono within in omega arith

-- a bit of a word without those of a range
bit_left : (word from end i : ℕ) → end ≤ 64 → i < 64 → (from ≤ i) × (i < end) → (bit_at (bit_and word (bit_not w64 (2 ^ end - 2 ^ from))) i == 1) ≡ false
bit_left word from end i within inside (low, high) =
    bit_without word (2 ^ end - 2 ^ from) i (mask_fits from end within) inside
    ∙ ap (λ b. cond (b == 1) false (bit_at word i == 1)) (bit_at_mask_inside from end i low high)

bit_kept : (word from end i : ℕ) → end ≤ 64 → i < 64 → bit_at (2 ^ end - 2 ^ from) i ≡ 0 → (bit_at (bit_and word (bit_not w64 (2 ^ end - 2 ^ from))) i == 1) ≡ (bit_at word i == 1)
bit_kept word from end i within inside none =
    bit_without word (2 ^ end - 2 ^ from) i (mask_fits from end within) inside
    ∙ ap (λ b. cond (b == 1) false (bit_at word i == 1)) none

-- a part of a word is cleared
pub part_cleared : (f : ℕ → Bool) (at word from end k : ℕ) → from ≤ end → end ≤ 64 → ((i : ℕ) → i < 64 → f (64 * at + i) ≡ (bit_at word i == 1))
    → replaced_bits f at (bit_and word (bit_not w64 (2 ^ end - 2 ^ from))) k ≡ clear_between f (64 * at + from) (64 * at + end) k
part_cleared f at word from end k up within told = elim (eqb_tells (k / 64) at) [
  | inl q ↦ ap (λ b. cond b (bit_at left (k % 64) == 1) (f k)) q.0 ∙ here q.1
  | inr q ↦
      let ne = q.1 in
      ap (λ b. cond b (bit_at left (k % 64) == 1) (f k)) q.0
      ∙ sym (cleared_out f (64 * at + from) (64 * at + end) k (elim (leb_tells (64 * at) k) [ inl c ↦ inr (let a = c.1 in omega (arith, a, ne)) | inr c ↦ inl (let a = c.1 in omega (arith, a)) ]))
]
  where
    left : ℕ
    left = bit_and word (bit_not w64 (2 ^ end - 2 ^ from))

    stays : k / 64 ≡ at → (bit_at word (k % 64) == 1) ≡ f k
    stays e = let place : 64 * at + k % 64 ≡ k = omega (arith, e) in sym (told (k % 64) (omega arith)) ∙ ap f place

    here : k / 64 ≡ at → (bit_at left (k % 64) == 1) ≡ clear_between f (64 * at + from) (64 * at + end) k
    here e = elim (range_cases from end (k % 64)) [
      | inl r ↦
          let low = r.0 in let high = r.1 in
          bit_left word from end (k % 64) within (omega arith) r ∙ sym (cleared_in f (64 * at + from) (64 * at + end) k (omega (arith, e, low)) (omega (arith, e, high)))
      | inr (inl low) ↦
          bit_kept word from end (k % 64) within (omega arith) (bit_at_mask_below from end (k % 64) low) ∙ stays e
          ∙ sym (cleared_out f (64 * at + from) (64 * at + end) k (inl (omega (arith, e, low))))
      | inr (inr high) ↦
          bit_kept word from end (k % 64) within (omega arith) (bit_at_mask_above from end (k % 64) high) ∙ stays e
          ∙ sym (cleared_out f (64 * at + from) (64 * at + end) k (inr (omega (arith, e, high))))
    ]

-- nothing is cleared yet
pub cleared_from_none : (f : ℕ → Bool) (a k : ℕ) → clear_between f a a k ≡ f k
cleared_from_none f a k = grind (arith, nat_tests)

-- one range after another
pub cleared_on : (f : ℕ → Bool) (a b c k : ℕ) → a ≤ b → b ≤ c → clear_between (clear_between f a b) b c k ≡ clear_between f a c k
cleared_on f a b c k up on = grind (arith, nat_tests)
