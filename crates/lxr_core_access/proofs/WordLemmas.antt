-- What the masks and units of the accesses do to the entries of one word, whatever stands above its 64 bits.
use Rattle.std.proofs.Common.{◌≡◌, ◌≢◌, ℕ, zero, suc, ◌+◌, ◌-◌, ◌*◌, ◌/◌, ◌%◌, ◌^◌, ◌<◌, ◌≤◌, refl, sym, ap, subst, ◌∙◌, inl, inr, arith, lit<, List, [], ◌∷◌, ◌++◌, length, cond}
use Rattle.std.specs.Prelude.{slice_index, slice_set}
use Rattle.std.specs.List.{flat_map}
use Rattle.std.specs.Int.Bits.{bit_and, bit_or}
use Rattle.std.proofs.Math.Nat.{mod-eq_of_lt}
use Rattle.std.proofs.lemmas.Nat.{div-add-mod', and_le_r, and_mod, mod-pow-add, mod_below, mod_low, one_shl, pow_pos, shr_high}
use Rattle.std.proofs.lemmas.List.{set-append_left, set-append_right}
use Rattle.std.proofs.lemmas.Bool.Decides.{eqb_tells}
use mathlib.Core.Bool.{not}
use mir.Val.{bool_byte}
use Rattle.lxr_layout.specs.declared.TheConstants.{COUNT_BITS, STUCK}
use Rattle.lxr_tables.specs.declared.counts.TheConstants.{COUNTS_IN_WORD}
use Rattle.lxr_tables.specs.Counts.{lowered_count}
use Rattle.lxr_tables.specs.Entries.{all_but, entries, table}
use Rattle.lxr_tables.proofs.EntryLemmas.{IsWritten, entries-written, entry_at, length-entries}
use Rattle.lxr_tables.proofs.MaskLemmas.{bit_cleared, bit_set, lower_fits, lower_written, unit_of}

-- entries are cut from the bits that they have
entries-low : (b n m w : ℕ) → m ≡ b * n → entries b n (w % 2 ^ m) ≡ entries b n w
unfolding entries
entries-low b zero m w is = refl
entries-low b (suc n) m w is =
    let sum : m ≡ b * n + b = omega arith in
    let split : w % 2 ^ m ≡ w / 2 ^ b % 2 ^ (b * n) * 2 ^ b + w % 2 ^ b = ap (λ x. w % 2 ^ x) sum ∙ mod-pow-add w (b * n) b in
    let below = mod_below w (2 ^ b) (pow_pos b) in
    let low : w % 2 ^ m % 2 ^ b ≡ w % 2 ^ b = ap (λ x. x % 2 ^ b) split ∙ mod_low (w / 2 ^ b % 2 ^ (b * n)) b (w % 2 ^ b) below in
    let high : w % 2 ^ m / 2 ^ b ≡ w / 2 ^ b % 2 ^ (b * n) = ap (λ x. x / 2 ^ b) split ∙ shr_high (w / 2 ^ b % 2 ^ (b * n)) b (w % 2 ^ b) below in
    ap (λ x. x ∷ entries b n (w % 2 ^ m / 2 ^ b)) low ∙ ap (λ x. w % 2 ^ b ∷ entries b n x) high ∙ ap (λ x. w % 2 ^ b ∷ x) (entries-low b n (b * n) (w / 2 ^ b) refl)

-- of a word cut into so many entries of so many bits, one entry becomes another, and the others stay
abbrev pub IsSetIn : ℕ → ℕ → ℕ → ℕ → ℕ → ℕ → Type 0
IsSetIn b n w v k e = entries b n v ≡ slice_set (entries b n w) k e

-- a word whose low 64 bits are written is set
low_set : (b n w v k e : ℕ) → 64 ≡ b * n → k < n → e < 2 ^ b → IsWritten b (w % 2 ^ 64) v k e → IsSetIn b n w v k e
low_set b n w v k e whole h fits written = entries-written b n (w % 2 ^ 64) v k e h fits written ∙ ap (λ x. slice_set x k e) (entries-low b n 64 w whole)

-- the table of words of which one is set
table-set : (b n : ℕ) (ws : List ℕ) (at v k e : ℕ) → k < n → at < length ws → IsSetIn b n (slice_index ws at) v k e → table b n (slice_set ws at v) ≡ slice_set (table b n ws) (n * at + k) e
unfolding table
table-set b n [] at v k e h within set = absurd (omega arith)
table-set b n (w ∷ ws) zero v k e h within set =
    let at_k : n * 0 + k ≡ k = omega arith in
    let len = length-entries b n w in
    ap (λ x. x ++ flat_map (entries b n) ws) set ∙ sym (set-append_left (entries b n w) (flat_map (entries b n) ws) k e (omega arith)) ∙ ap (λ i. slice_set (entries b n w ++ flat_map (entries b n) ws) i e) (sym at_k)
table-set b n (w ∷ ws) (suc at) v k e h within set =
    let len = length-entries b n w in
    let rest : flat_map (entries b n) (slice_set ws at v) ≡ slice_set (flat_map (entries b n) ws) (n * at + k) e = table-set b n ws at v k e h (omega arith) set in
    let past : n * suc at ≡ n + n * at = omega arith in
    let off : n * suc at + k - n ≡ n * at + k = omega arith in
    ap (λ x. entries b n w ++ x) rest ∙ ap (λ i. entries b n w ++ slice_set (flat_map (entries b n) ws) i e) (sym off)
    ∙ sym (set-append_right (entries b n w) (flat_map (entries b n) ws) n (n * suc at + k) e len (omega arith))

-- by the index of the entry in the table
pub table-set_at : (b n k : ℕ) (ws : List ℕ) (v e : ℕ) → 0 < n → k / n < length ws → IsSetIn b n (slice_index ws (k / n)) v (k % n) e → table b n (slice_set ws (k / n) v) ≡ slice_set (table b n ws) k e
table-set_at b n k ws v e pos within set =
    let split = div-add-mod' k n in
    let parts : n * (k / n) + k % n ≡ k = omega arith in
    table-set b n ws (k / n) v (k % n) e (mod_below k n pos) within set ∙ ap (λ i. slice_set (table b n ws) i e) parts

-- a bit is set by its power
pub set_in : (w k : ℕ) → k < 64 → IsSetIn 1 64 w (bit_or w (2 ^ k)) k 1
set_in w k h = entries-written 1 64 w (bit_or w (2 ^ k)) k 1 h (lit< tt) (subst (λ m. IsWritten 1 w (bit_or w m) k 1) (one_shl k 64 h) (bit_set w k h))

-- a mask is a word
all_but-below : (k : ℕ) → all_but k < 2 ^ 64
all_but-below k = omega arith

-- the mask looks at the low 64 bits
and_low : (w m : ℕ) → m < 2 ^ 64 → bit_and w m ≡ bit_and (w % 2 ^ 64) m
and_low w m h =
    let le = and_le_r w m in
    let below : bit_and w m < 2 ^ 64 = omega arith in
    sym (mod-eq_of_lt below) ∙ and_mod w m 64 ∙ ap (bit_and (w % 2 ^ 64)) (mod-eq_of_lt h)

-- a bit is cleared by all other bits
pub cleared_in : (w k : ℕ) → k < 64 → IsSetIn 1 64 w (bit_and w (all_but k)) k 0
cleared_in w k h =
    low_set 1 64 w (bit_and w (all_but k)) k 0 refl h (lit< tt)
    (subst (λ x. IsWritten 1 (w % 2 ^ 64) x k 0) (sym (and_low w (all_but k) (all_but-below k)))
    (subst (λ m. IsWritten 1 (w % 2 ^ 64) (bit_and (w % 2 ^ 64) (2 ^ 64 - 1 - m)) k 0) (one_shl k 64 h)
    (bit_cleared (w % 2 ^ 64) k (mod_below w (2 ^ 64) (lit< tt)) h)))

-- a count that isn't stuck falls by one
falls_by_one : (n : ℕ) → n ≢ STUCK → (1 ≡ unit_of n) × (lowered_count n ≡ n - 1)
falls_by_one n ne = elim (eqb_tells n STUCK) as (λ _. (1 ≡ unit_of n) × (lowered_count n ≡ n - 1)) [
  | inl k ↦ absurd (ne k.1)
  | inr k ↦ (ap (λ b. bool_byte (not b)) (sym k.0), ap (λ b. cond b STUCK (n - 1)) k.0)
]

-- what wraps is taken away
wrapped : (w d : ℕ) → d ≤ w % 2 ^ 64 → (w + (2 ^ 64 - d)) % 2 ^ 64 ≡ w % 2 ^ 64 - d
wrapped w d h = omega arith

-- an entry of the low 64 bits
low_entry : (b n k w : ℕ) → 64 ≡ b * n → k < n → w % 2 ^ 64 / 2 ^ (b * k) % 2 ^ b ≡ w / 2 ^ (b * k) % 2 ^ b
low_entry b n k w whole h = sym (entry_at b n (w % 2 ^ 64) k h) ∙ ap (λ x. slice_index x k) (entries-low b n 64 w whole) ∙ entry_at b n w k h

-- a count that is neither 0 nor stuck is lowered by its unit
pub lowered_in : (w k c : ℕ) → k < COUNTS_IN_WORD → c ≤ STUCK → w / 2 ^ (COUNT_BITS * k) % 2 ^ COUNT_BITS ≡ c → c ≢ 0 → c ≢ STUCK
    → IsSetIn COUNT_BITS COUNTS_IN_WORD w ((w + (2 ^ 64 - 2 ^ (COUNT_BITS * k))) % 2 ^ 64) k (c - 1)
lowered_in w k c h most told some free =
    let s : ℕ = COUNT_BITS * k in
    let is : c ≡ w % 2 ^ 64 / 2 ^ s % 2 ^ COUNT_BITS = sym (low_entry COUNT_BITS COUNTS_IN_WORD k w refl h ∙ told) in
    let one = falls_by_one c free in
    let unit : 1 * 2 ^ s % 2 ^ 64 ≡ 2 ^ s = one_shl s 64 (omega arith) in
    let there : 2 ^ s ≤ w % 2 ^ 64 = subst (λ x. x ≤ w % 2 ^ 64) unit (lower_fits (w % 2 ^ 64) s c 1 (omega arith) is some one.0) in
    low_set COUNT_BITS COUNTS_IN_WORD w ((w + (2 ^ 64 - 2 ^ s)) % 2 ^ 64) k (c - 1) refl h (omega arith)
    (subst (λ x. IsWritten COUNT_BITS (w % 2 ^ 64) x k (c - 1)) (sym (wrapped w (2 ^ s) there))
    (subst (λ x. IsWritten COUNT_BITS (w % 2 ^ 64) (w % 2 ^ 64 - 2 ^ s) k x) one.1
    (subst (λ x. IsWritten COUNT_BITS (w % 2 ^ 64) (w % 2 ^ 64 - x) k (lowered_count c)) unit
    (lower_written (w % 2 ^ 64) k s c 1 refl h is some one.0))))
