-- The out bits of a block are two words.
use Rattle.std.proofs.Common.{◌≡◌, ℕ, ◌+◌, ◌-◌, ◌*◌, ◌%◌, ◌^◌, ◌<◌, sym, ap, ◌∙◌, inl, inr, arith, Bool, eq-eqb, eqb-true}
use Rattle.std.specs.Prelude.{◌==◌, ◌↔◌, IsBitSet, IsTrue}
use Rattle.std.specs.Int.{bit_at}
use Rattle.std.specs.Int.Bits.{bit_or}
use Rattle.std.proofs.lemmas.Bool.Decides.{leb_tells}
use Rattle.lxr_layout.specs.declared.TheConstants.{LINES_IN_BLOCK}
use Rattle.lxr_tables.proofs.BitLemmas.{joined_above, joined_below, one_is_set, set_is_one}

-- a bit of a word, by what it tells
pub told_by_bit : (out : Bool) (word i : ℕ) → out ≡ (bit_at word i == 1) → (IsBitSet word i → IsTrue out) × (IsTrue out → IsBitSet word i)
told_by_bit out word i is = (
  (λ set. is ∙ eq-eqb (bit_at word i) 1 (set_is_one word i set)),
  (λ yes. one_is_set word i (eqb-true (bit_at word i) 1 (sym is ∙ yes))),
)

-- two words of out bits side by side
pub outs_joined : (outs : ℕ → Bool) (b high low i : ℕ) → high < 2 ^ 64 → low < 2 ^ 64 → ((k : ℕ) → k < 64 → outs (64 * (2 * b) + k) ≡ (bit_at low k == 1)) → ((k : ℕ) → k < 64 → outs (64 * (2 * b + 1) + k) ≡ (bit_at high k == 1))
    → i < LINES_IN_BLOCK → IsBitSet (bit_or (high * 2 ^ 64 % 2 ^ 128) low) i ↔ IsTrue (outs (LINES_IN_BLOCK * b + i))
outs_joined outs b high low i h l lows highs within = elim (leb_tells 64 i) [
  | inl c ↦
      let behind = c.1 in
      let place : 64 * (2 * b + 1) + (i - 64) ≡ LINES_IN_BLOCK * b + i = omega arith in
      told_by_bit (outs (LINES_IN_BLOCK * b + i)) (bit_or (high * 2 ^ 64 % 2 ^ 128) low) i
      (ap outs (sym place) ∙ highs (i - 64) (omega arith) ∙ ap (λ x. x == 1) (sym (joined_above high low i h l behind)))
  | inr c ↦
      let before = c.1 in
      let place : 64 * (2 * b) + i ≡ LINES_IN_BLOCK * b + i = omega arith in
      told_by_bit (outs (LINES_IN_BLOCK * b + i)) (bit_or (high * 2 ^ 64 % 2 ^ 128) low) i
      (ap outs (sym place) ∙ lows i (omega arith) ∙ ap (λ x. x == 1) (sym (joined_below high low i h l (omega arith))))
]
