-- The bits of a mask of lines are as many as its lines.
use Rattle.std.proofs.Common.{◌≡◌, ℕ, zero, suc, ◌+◌, ◌*◌, ◌%◌, ◌^◌, ◌<◌, ◌≤◌, refl, sym, ap, ◌∙◌, inl, inr, arith, Bool, true, false}
use Rattle.std.specs.Prelude.{if◌then◌else◌, nat_le, ◌&&◌}
use Rattle.std.specs.Int.{bit_at}
use Rattle.std.specs.Int.Count.{ones}
use Rattle.std.proofs.lemmas.Bool.Decides.{eqb_tells}
use Rattle.std.proofs.lemmas.Nat.{mod-pow-add, mod_below, ones_cat, pow_pos}
use Rattle.std.proofs.lemmas.Nat.Bits.{bit_at-lt}
use Rattle.lxr_layout.specs.declared.TheConstants.{LINES_IN_BLOCK}
use Rattle.lxr_image.specs.Tables.{Tables}
use Rattle.lxr_blocks.specs.declared.states.BlockState.TheVariants.{Partly}
use Rattle.lxr_blocks.specs.Lines.{free_count}
use Rattle.lxr_blocks.specs.Masks.{IsMask}
use Rattle.lxr_blocks.specs.States.{state_in}
use Rattle.lxr_blocks.proofs.MaskLemmas.{told_line, untold_line}
use Rattle.lxr_evac_blocks.specs.Choosing.{is_partly, may_choose, taken_count}
use Rattle.lxr_evac_blocks.proofs.TestLemmas.{one_at_most}

-- one bit more
ones_of_bit : (bit : ℕ) → bit < 2 → ones bit ≡ bit
unfolding ones
ones_of_bit zero small = refl
ones_of_bit (suc zero) small = refl
ones_of_bit (suc (suc n)) small = absurd (omega arith)

-- the low bits of a number are as many as what they tell of
ones_below : (mask : ℕ) (free : ℕ → Bool) (n : ℕ) → ((i : ℕ) → i < n → bit_at mask i ≡ (if free i then 1 else 0)) → ones (mask % 2 ^ n) ≡ free_count free n
unfolding free_count ones
ones_below mask free zero told = ap ones (let none : mask % 2 ^ 0 ≡ 0 = omega arith in none)
ones_below mask free (suc n) told =
    let split : mask % 2 ^ (1 + n) ≡ bit_at mask n * 2 ^ n + mask % 2 ^ n = mod-pow-add mask 1 n in
    let low : mask % 2 ^ n < 2 ^ n = mod_below mask (2 ^ n) (pow_pos n) in
    let same : suc n ≡ 1 + n = omega arith in
    ap (λ k. ones (mask % 2 ^ k)) same
    ∙ ap ones split
    ∙ ones_cat n (bit_at mask n) (mask % 2 ^ n) low
    ∙ ap (λ b. b + ones (mask % 2 ^ n)) (ones_of_bit (bit_at mask n) (bit_at-lt mask n) ∙ told n (omega arith))
    ∙ ap (λ k. (if free n then 1 else 0) + k) (ones_below mask free n (λ i below. told i (omega (arith, below))))
    ∙ (let turned : (if free n then 1 else 0) + free_count free n ≡ free_count free n + (if free n then 1 else 0) = omega arith in turned)

bit_told : (mask i : ℕ) (line : Bool) → (bit_at mask i ≡ 1 → line ≡ true) → (bit_at mask i ≡ 0 → line ≡ false) → bit_at mask i ≡ (if line then 1 else 0)
bit_told mask i line set clear = elim (eqb_tells (bit_at mask i) 1) [
  | inl one ↦ one.1 ∙ sym (ap (λ b. if b then 1 else 0) (set one.1))
  | inr other ↦ let small = bit_at-lt mask i in let ne = other.1 in let none : bit_at mask i ≡ 0 = omega arith in none ∙ sym (ap (λ b. if b then 1 else 0) (clear none))
]

-- a block's mask has as many bits as the block has free lines
pub ones_are_free : (mask : ℕ) (free : ℕ → Bool) → mask < 2 ^ 128 → IsMask mask free → ones mask ≡ free_count free LINES_IN_BLOCK
ones_are_free mask free fits is =
    ap ones (let whole : mask ≡ mask % 2 ^ 128 = omega arith in whole)
    ∙ ones_below mask free LINES_IN_BLOCK (λ i within. bit_told mask i (free i) (told_line mask free i is within) (untold_line mask free i is within))

-- no more lines are free than there are
pub count_within : (free : ℕ → Bool) (n : ℕ) → free_count free n ≤ n
unfolding free_count
count_within free zero = omega arith
count_within free (suc n) = let before = count_within free n in let here = one_at_most (free n) in omega arith

-- a Partly block may be chosen where few enough of its lines aren't free
pub partly_may : (t : Tables) (b : ℕ) → Partly ≡ state_in t b → may_choose t b ≡ nat_le (taken_count t b) 32
partly_may t b partly = ap (λ s. is_partly s && nat_le (taken_count t b) 32) (sym partly)
