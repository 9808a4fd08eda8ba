-- A word and the number below it have their bits above its lowest set one in common, and that one only in the word.
use Rattle.std.proofs.Common.{◌≡◌, ◌≢◌, ℕ, zero, suc, ◌+◌, ◌-◌, ◌/◌, ◌%◌, ◌^◌, ◌<◌, ◌≤◌, refl, sym, ap, ◌∙◌, inl, inr, arith, w64}
use Rattle.std.specs.Int.{bit_at, trailing_zeros}
use Rattle.std.specs.Prelude.{bit_and, min}
use Rattle.std.proofs.lemmas.Bool.Decides.{leb_tells}
use Rattle.std.proofs.lemmas.Nat.{and_le_r}
use Rattle.std.proofs.lemmas.Nat.Bits.{bit_at-suc, bit_at-trailing_zeros, bit_at-zero, bit_at_and, bit_at_lowest}
use Rattle.lxr_base.specs.Bits.{AreLeft, IsNextBit, NoBit, TakesLowest}

record LosesLowest (x b : ℕ) : Type 0 where
  lost : bit_at (x - 1) b ≡ 0
  above : (i : ℕ) → b < i → bit_at (x - 1) i ≡ bit_at x i

loses_lowest : (b x : ℕ) → ((i : ℕ) → i < b → bit_at x i ≡ 0) → bit_at x b ≡ 1 → LosesLowest x b
loses_lowest zero x low set =
    let odd : x % 2 ≡ 1 = sym (bit_at_lowest x) ∙ set in
    let half : (x - 1) / 2 ≡ x / 2 = omega (arith, odd) in
    record {
      lost = bit_at_lowest (x - 1) ∙ omega (arith, odd);
      above = elim [
        | zero ↦ λ past. absurd (omega (arith, past))
        | suc i ↦ λ past. bit_at-suc (x - 1) i ∙ ap (λ y. bit_at y i) half ∙ sym (bit_at-suc x i)
      ];
    }
loses_lowest (suc b) x low set =
    let even : x % 2 ≡ 0 = sym (bit_at_lowest x) ∙ low 0 (omega arith) in
    let set_below : bit_at (x / 2) b ≡ 1 = sym (bit_at-suc x b) ∙ set in
    let below = loses_lowest b (x / 2) (λ i within. sym (bit_at-suc x i) ∙ low (suc i) (omega (arith, within))) set_below in
    let some : x / 2 ≢ 0 = λ none. absurd (omega (arith, sym set_below ∙ ap (λ y. bit_at y b) none ∙ bit_at-zero b)) in
    let half : (x - 1) / 2 ≡ x / 2 - 1 = omega (arith, even, some) in
    record {
      lost = bit_at-suc (x - 1) b ∙ ap (λ y. bit_at y b) half ∙ below.lost;
      above = elim [
        | zero ↦ λ past. absurd (omega (arith, past))
        | suc i ↦ λ past. bit_at-suc (x - 1) i ∙ ap (λ y. bit_at y i) half ∙ below.above i (omega (arith, past)) ∙ sym (bit_at-suc x i)
      ];
    }

-- two bits of which the first is 0, or the second, or which are the same
none_first : (a b : ℕ) → a ≡ 0 → min a b ≡ 0
none_first a b none = grind (arith, none)

none_second : (a b : ℕ) → b ≡ 0 → min a b ≡ 0
none_second a b none = grind (arith, none)

twice : (a b : ℕ) → b ≡ a → min a b ≡ a
twice a b same = grind (arith, same)

pub takes_lowest : (x : ℕ) → x < 2 ^ 64 → x ≢ 0 → TakesLowest x (bit_and x (x - 1)) (trailing_zeros w64 x)
takes_lowest x fits some =
    let b : ℕ = trailing_zeros w64 x in
    let tells = bit_at-trailing_zeros w64 x (omega (arith, some)) fits in
    let loses = loses_lowest b x tells.2 tells.1 in
    record {
      within = tells.0;
      set = tells.1;
      lowest = tells.2;
      cleared = bit_at_and x (x - 1) b ∙ none_second (bit_at x b) (bit_at (x - 1) b) loses.lost;
      others = λ i apart. elim (leb_tells b i) [
        | inl c ↦ bit_at_and x (x - 1) i ∙ twice (bit_at x i) (bit_at (x - 1) i) (loses.above i (omega (arith, c.1, apart)))
        | inr c ↦ bit_at_and x (x - 1) i ∙ none_first (bit_at x i) (bit_at (x - 1) i) (tells.2 i c.1) ∙ sym (tells.2 i c.1)
      ];
      less = let most = and_le_r x (x - 1) in omega (arith, most, some);
    }

-- ---- going over the set bits

pub all_left : (word : ℕ) → AreLeft word word 0
all_left word = record { taken = λ i below. absurd (omega (arith, below)); left = λ i above. refl }

ahead : (word rest after from bit : ℕ) → AreLeft word rest from → TakesLowest rest after bit → from ≤ bit
ahead word rest after from bit are takes = elim (leb_tells from bit) [
  | inl c ↦ c.1
  | inr c ↦ let none = are.taken bit c.1 in let set = takes.set in absurd (omega (arith, none, set))
]

-- the lowest of the rest is the next one of the word
pub next_taken : (word rest after from bit : ℕ) → AreLeft word rest from → TakesLowest rest after bit → IsNextBit word from bit
next_taken word rest after from bit are takes =
    let reached = ahead word rest after from bit are takes in
    record {
      reached = reached;
      within = takes.within;
      set = sym (are.left bit reached) ∙ takes.set;
      passed = λ k above below. sym (are.left k above) ∙ takes.lowest k below;
    }

pub left_behind : (word rest after from bit : ℕ) → AreLeft word rest from → TakesLowest rest after bit → AreLeft word after (bit + 1)
left_behind word rest after from bit are takes = record {
  taken = λ i below. elim (leb_tells bit i) [
    | inl c ↦ let here : i ≡ bit = omega (arith, c.1, below) in ap (bit_at after) here ∙ takes.cleared
    | inr c ↦ takes.others i (λ here. absurd (omega (arith, here, c.1))) ∙ takes.lowest i c.1
  ];
  left = λ i above.
      let reached = ahead word rest after from bit are takes in
      takes.others i (λ here. absurd (omega (arith, here, above))) ∙ are.left i (omega (arith, above, reached));
}

-- where nothing is left, no further bit is set
pub none_left : (word rest from : ℕ) → AreLeft word rest from → rest ≡ 0 → NoBit word from 64
none_left word rest from are none k above below = sym (are.left k above) ∙ ap (λ x. bit_at x k) none ∙ bit_at-zero k
