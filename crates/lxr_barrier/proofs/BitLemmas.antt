-- One word written clears one bit of a table, or writes one word before it. Bits and masks end here.
use Rattle.std.proofs.Common.{◌≡◌, ◌≢◌, ℕ, ◌+◌, ◌-◌, ◌/◌, ◌%◌, ◌<◌, ◌*◌, ◌^◌, refl, sym, ap, subst, ◌∙◌, arith, Bool, true, false, List, length, length-set, get_or-set_same, get_or-set_other, nat_eq}
use Rattle.std.specs.Prelude.{slice_set, slice_index, bit_and}
use Rattle.std.specs.Int.{w64, bit_at}
use Rattle.std.proofs.Math.Nat.{mod-eq_of_lt}
use Rattle.std.proofs.Math.Pow.{pow-lt}
use Rattle.std.proofs.lemmas.Nat.Bits.{bit_at_clear_same, bit_at_clear_other}
use Rattle.lxr_tables.specs.Entries.{all_but, bits_from}
use Rattle.lxr_tables.proofs.EntryLemmas.{entry_read}

-- bit n of the table that begins at a word, in its word
abbrev bit_in : List ℕ → ℕ → ℕ → ℕ
bit_in words base n = bit_at (slice_index words (base + n / 64)) (n % 64)

pub bit_read : (words : List ℕ) (base n : ℕ) → base + n / 64 < length words → slice_index (bits_from words base) n ≡ bit_in words base n
bit_read words base n room =
    let one : 1 * (n % 64) ≡ n % 64 = omega arith in
    entry_read 1 64 base n words (omega arith) room ∙ ap (λ (k : ℕ). slice_index words (base + n / 64) / 2 ^ k % 2) one

-- the mask of the code: a one shifted and turned round
pub mask : (n : ℕ) → n < 64 → 2 ^ 64 - 1 - 1 * 2 ^ n % 2 ^ 64 ≡ all_but n
mask n h =
    let below : 2 ^ n < 2 ^ 64 = pow-lt h in
    let one : 1 * 2 ^ n ≡ 2 ^ n = omega arith in
    let whole : 1 * 2 ^ n % 2 ^ 64 ≡ 2 ^ n = ap (λ x. x % 2 ^ 64) one ∙ mod-eq_of_lt below in
    ap (λ x. 2 ^ 64 - 1 - x) whole

same_bit : (a b : ℕ) → a / 64 ≡ b / 64 → a % 64 ≡ b % 64 → a ≡ b
same_bit a b p q = omega arith

below_64 : (a : ℕ) → a % 64 < 64
below_64 a = omega arith

module _ (words : List ℕ) (base n : ℕ) (room : base + n / 64 < length words) where
  -- the words with bit n cleared
  abbrev pub cleared_words : List ℕ
  cleared_words = slice_set words (base + n / 64) (bit_and (slice_index words (base + n / 64)) (all_but (n % 64)))

  written : slice_index cleared_words (base + n / 64) ≡ bit_and (slice_index words (base + n / 64)) (all_but (n % 64))
  written = get_or-set_same words (base + n / 64) (bit_and (slice_index words (base + n / 64)) (all_but (n % 64))) 0 room

  here_cleared : bit_in cleared_words base n ≡ 0
  here_cleared = ap (λ x. bit_at x (n % 64)) written ∙ ap (λ m. bit_at (bit_and (slice_index words (base + n / 64)) m) (n % 64)) (sym (mask (n % 64) (below_64 n))) ∙ bit_at_clear_same w64 (slice_index words (base + n / 64)) (n % 64) (below_64 n)

  other_word : (k : ℕ) → k / 64 ≢ n / 64 → bit_in cleared_words base k ≡ bit_in words base k
  other_word k ne = ap (λ x. bit_at x (k % 64)) (get_or-set_other words (base + n / 64) (base + k / 64) _ 0 (λ e. ne (omega arith)))

  same_word : (k : ℕ) → k / 64 ≡ n / 64 → k ≢ n → bit_in cleared_words base k ≡ bit_in words base k
  same_word k e ne =
      let q : base + k / 64 ≡ base + n / 64 = ap (λ x. base + x) e in
      ap (λ x. bit_at (slice_index cleared_words x) (k % 64)) q
      ∙ ap (λ x. bit_at x (k % 64)) written
      ∙ ap (λ m. bit_at (bit_and (slice_index words (base + n / 64)) m) (k % 64)) (sym (mask (n % 64) (below_64 n)))
      ∙ bit_at_clear_other w64 (slice_index words (base + n / 64)) (n % 64) (below_64 n) (k % 64) (below_64 k) (λ r. ne (same_bit k n e r))
      ∙ ap (λ x. bit_at (slice_index words x) (k % 64)) (sym q)

  by_word : (k : ℕ) → k ≢ n → (b : Bool) → nat_eq (k / 64) (n / 64) ≡ b → bit_in cleared_words base k ≡ bit_in words base k
  by_word k ne true e = same_word k (grind arith) ne
  by_word k ne false e = other_word k (grind arith)

  still : (k : ℕ) → base + k / 64 < length words → base + k / 64 < length cleared_words
  still k lt = subst (λ m. base + k / 64 < m) (sym (length-set words (base + n / 64) _)) lt

  pub bit_here : slice_index (bits_from cleared_words base) n ≡ 0
  bit_here = bit_read cleared_words base n (still n room) ∙ here_cleared

  pub bit_there : (k : ℕ) → base + k / 64 < length words → k ≢ n → slice_index (bits_from cleared_words base) k ≡ slice_index (bits_from words base) k
  bit_there k lt ne = bit_read cleared_words base k (still k lt) ∙ by_word k ne (nat_eq (k / 64) (n / 64)) refl ∙ sym (bit_read words base k lt)

  -- what stands before the table stays
  pub word_before : (k : ℕ) → k < base → slice_index cleared_words k ≡ slice_index words k
  word_before k lt = get_or-set_other words (base + n / 64) k _ 0 (λ e. absurd (omega arith))

-- a word before the table is written: no bit changes
pub bit_behind : (words : List ℕ) (base at x n : ℕ) → at < base → base + n / 64 < length words → slice_index (bits_from (slice_set words at x) base) n ≡ slice_index (bits_from words base) n
bit_behind words base at x n lt room =
    bit_read (slice_set words at x) base n (subst (λ m. base + n / 64 < m) (sym (length-set words at x)) room)
    ∙ ap (λ w. bit_at w (n % 64)) (get_or-set_other words at (base + n / 64) x 0 (λ e. absurd (omega arith)))
    ∙ sym (bit_read words base n room)
