-- The masks of the code write one entry of a word: what they do is adding and taking away at the entry's bits.
use Rattle.std.proofs.Common.{◌≡◌, ℕ, ◌+◌, ◌-◌, ◌*◌, ◌/◌, ◌%◌, ◌^◌, ◌<◌, ◌≤◌, refl, sym, ap, subst, ◌∙◌, arith, w64, lit<, lit≤}
use Rattle.std.specs.Int.{bit_not}
use Rattle.std.specs.Int.Bits.{bit_and, bit_or, or_add_and}
use Rattle.std.proofs.lemmas.Nat.{div-mul-add, div-add-mod', mod_below, mul-le, pow_pos, pow-add, one_shl, shl_whole, and-not, and_comm, or_block, or_shifted, and_le_r, div_below}
use Rattle.std.proofs.lemmas.Nat.Bits.{and_pow, and_high}
use Rattle.std.proofs.Common.{◌≢◌, inl, inr, true, false, cond, nat_eq}
use Rattle.std.proofs.lemmas.Bool.Decides.{eqb_tells}
use mathlib.Core.Bool.{not}
use mir.Val.{bool_byte}
use Rattle.lxr_layout.specs.declared.TheConstants.{STUCK}
use Rattle.lxr_tables.specs.Counts.{lowered_count}
use Rattle.lxr_tables.proofs.EntryLemmas.{IsWritten}

-- ---- one bit

pub bit_set : (w k : ℕ) → k < 64 → IsWritten 1 w (bit_or w (1 * 2 ^ k % 2 ^ 64)) k 1
bit_set w k h =
    let one = one_shl k 64 h in
    let sum = or_add_and w (2 ^ k) in
    let old = and_pow w k in
    let at : 1 * k ≡ k = omega arith in
    subst (λ m. IsWritten 1 w (bit_or w m) k 1) (sym one) (subst (λ x. bit_or w (2 ^ k) + w / 2 ^ x % 2 ^ 1 * 2 ^ x ≡ w + 1 * 2 ^ x) (sym at) (omega arith))

pub bit_cleared : (w k : ℕ) → w < 2 ^ 64 → k < 64 → IsWritten 1 w (bit_and w (bit_not w64 (1 * 2 ^ k % 2 ^ 64))) k 0
bit_cleared w k fits h =
    let one = one_shl k 64 h in
    let below = mod_below (1 * 2 ^ k) (2 ^ 64) (lit< tt) in
    let m_fits : 2 ^ k < 2 ^ 64 = subst (λ m. m < 2 ^ 64) one below in
    let sum = and-not 64 (2 ^ k) w m_fits fits in
    let turn = and_comm w (2 ^ 64 - 1 - 2 ^ k) in
    let turn' = and_comm w (2 ^ k) in
    let old = and_pow w k in
    let at : 1 * k ≡ k = omega arith in
    subst (λ m. IsWritten 1 w (bit_and w (2 ^ 64 - 1 - m)) k 0) (sym one) (subst (λ x. bit_and w (2 ^ 64 - 1 - 2 ^ k) + w / 2 ^ x % 2 ^ 1 * 2 ^ x ≡ w + 0 * 2 ^ x) (sym at) (omega arith))

-- ---- a field of four bits

-- a word is what stands above a field, the field, and what stands below it
field_split : (w p : ℕ) → w ≡ (w / p / 16 * 16 + w / p % 16) * p + w % p
field_split w p =
    let low = div-add-mod' w p in
    let high = div-add-mod' (w / p) 16 in
    sym low ∙ ap (λ x. x * p + w % p) (sym high)

-- the word with its field taken away has an empty field
emptied : (w p a : ℕ) → 0 < p → a + w / p % 16 * p ≡ w → a / p % 16 ≡ 0
emptied w p a pos is =
    let split = field_split w p in
    let a_is : a ≡ w / p / 16 * 16 * p + w % p = omega arith in
    let high : a / p ≡ w / p / 16 * 16 = ap (λ x. x / p) a_is ∙ div-mul-add (w / p / 16 * 16) p (w % p) (mod_below w p pos) in
    let whole : w / p / 16 * 16 % 16 ≡ 0 = omega arith in
    ap (λ x. x % 16) high ∙ whole

or_zero : (a : ℕ) → bit_or a 0 ≡ a
or_zero a = let sum = or_add_and a 0 in let none = and_le_r a 0 in omega arith

-- a field that is put where there was none is added
or_field : (a s e : ℕ) → e < 16 → a / 2 ^ s % 16 ≡ 0 → bit_or a (e * 2 ^ s) ≡ a + e * 2 ^ s
or_field a s e fits none =
    let split = div-add-mod' a (2 ^ s) in
    let high = div-add-mod' (a / 2 ^ s) 16 in
    let high_is : a / 2 ^ s ≡ a / 2 ^ s / 16 * 2 ^ 4 = omega arith in
    let blocks = or_block s (a / 2 ^ s) e (a % 2 ^ s) 0 (mod_below a (2 ^ s) (pow_pos s)) (pow_pos s) in
    let above : bit_or (a / 2 ^ s) e ≡ a / 2 ^ s + e = ap (λ x. bit_or x e) high_is ∙ or_shifted (a / 2 ^ s / 16) 4 e fits ∙ ap (λ x. x + e) (sym high_is) in
    let below = or_zero (a % 2 ^ s) in
    let padded : e * 2 ^ s + 0 ≡ e * 2 ^ s = omega arith in
    let whole : bit_or a (e * 2 ^ s) ≡ bit_or (a / 2 ^ s) e * 2 ^ s + bit_or (a % 2 ^ s) 0 = ap (λ x. bit_or x (e * 2 ^ s)) (sym split) ∙ ap (bit_or (a / 2 ^ s * 2 ^ s + a % 2 ^ s)) (sym padded) ∙ blocks in
    let sum : bit_or (a / 2 ^ s) e * 2 ^ s ≡ (a / 2 ^ s + e) * 2 ^ s = ap (λ x. x * 2 ^ s) above in
    omega arith

field_set : (w k s e : ℕ) → w < 2 ^ 64 → s ≡ 4 * k → k < 16 → e < 16 → IsWritten 4 w (bit_or (bit_and w (bit_not w64 (15 * 2 ^ s % 2 ^ 64))) (e * 2 ^ s % 2 ^ 64)) k e
field_set w k s e fits at h small =
    let mask : 15 * 2 ^ s % 2 ^ 64 ≡ 15 * 2 ^ s = shl_whole 15 4 s 64 (lit< tt) (omega arith) in
    let value : e * 2 ^ s % 2 ^ 64 ≡ e * 2 ^ s = shl_whole e 4 s 64 small (omega arith) in
    let below = mod_below (15 * 2 ^ s) (2 ^ 64) (lit< tt) in
    let mask_fits : 15 * 2 ^ s < 2 ^ 64 = subst (λ m. m < 2 ^ 64) mask below in
    let power = pow-add 2 4 s in
    let mask_is : 2 ^ (4 + s) - 2 ^ s ≡ 15 * 2 ^ s = omega arith in
    let old : bit_and w (15 * 2 ^ s) ≡ w / 2 ^ s % 2 ^ 4 * 2 ^ s = ap (bit_and w) (sym mask_is) ∙ and_high w 4 s in
    let sum = and-not 64 (15 * 2 ^ s) w mask_fits fits in
    let turn = and_comm w (2 ^ 64 - 1 - 15 * 2 ^ s) in
    let turn' = and_comm w (15 * 2 ^ s) in
    let hole : bit_and w (2 ^ 64 - 1 - 15 * 2 ^ s) + w / 2 ^ s % 16 * 2 ^ s ≡ w = omega arith in
    let put = or_field (bit_and w (2 ^ 64 - 1 - 15 * 2 ^ s)) s e small (emptied w (2 ^ s) (bit_and w (2 ^ 64 - 1 - 15 * 2 ^ s)) (pow_pos s) hole) in
    subst (λ m. IsWritten 4 w (bit_or (bit_and w (2 ^ 64 - 1 - m)) (e * 2 ^ s % 2 ^ 64)) k e) (sym mask)
    (subst (λ x. IsWritten 4 w (bit_or (bit_and w (2 ^ 64 - 1 - 15 * 2 ^ s)) x) k e) (sym value)
    (subst (λ x. bit_or (bit_and w (2 ^ 64 - 1 - 15 * 2 ^ s)) (e * 2 ^ s) + w / 2 ^ x % 2 ^ 4 * 2 ^ x ≡ w + e * 2 ^ x) at (omega arith)))

pub set_written : (w k s m x e : ℕ) → w < 2 ^ 64 → s ≡ 4 * k → k < 16 → e < 16 → m ≡ 15 → x ≡ e → IsWritten 4 w (bit_or (bit_and w (bit_not w64 (m * 2 ^ s % 2 ^ 64))) (x * 2 ^ s % 2 ^ 64)) k e
set_written w k s m x e fits at h small m_is x_is =
    subst (λ z. IsWritten 4 w (bit_or (bit_and w (bit_not w64 (z * 2 ^ s % 2 ^ 64))) (x * 2 ^ s % 2 ^ 64)) k e) (sym m_is)
    (subst (λ z. IsWritten 4 w (bit_or (bit_and w (bit_not w64 (15 * 2 ^ s % 2 ^ 64))) (z * 2 ^ s % 2 ^ 64)) k e) (sym x_is) (field_set w k s e fits at h small))

-- one more or nothing, shifted to the field
unit_at : (d s : ℕ) → d ≤ 1 → s < 64 → d * 2 ^ s % 2 ^ 64 ≡ d * 2 ^ s
unit_at d s h within = shl_whole d 1 s 64 (omega arith) (omega arith)

field_raised : (w k s d : ℕ) → s ≡ 4 * k → IsWritten 4 w (w + d * 2 ^ s) k (w / 2 ^ s % 16 + d)
field_raised w k s d at = subst (λ x. w + d * 2 ^ s + w / 2 ^ x % 2 ^ 4 * 2 ^ x ≡ w + (w / 2 ^ s % 16 + d) * 2 ^ x) at (omega arith)

field_lowered : (w k s d : ℕ) → s ≡ 4 * k → d ≤ w / 2 ^ s % 16 → d * 2 ^ s ≤ w → IsWritten 4 w (w - d * 2 ^ s) k (w / 2 ^ s % 16 - d)
field_lowered w k s d at h enough =
    let rest : w / 2 ^ s % 16 - d + d ≡ w / 2 ^ s % 16 = omega arith in
    let product : (w / 2 ^ s % 16 - d + d) * 2 ^ s ≡ w / 2 ^ s % 16 * 2 ^ s = ap (λ x. x * 2 ^ s) rest in
    subst (λ x. w - d * 2 ^ s + w / 2 ^ x % 2 ^ 4 * 2 ^ x ≡ w + (w / 2 ^ s % 16 - d) * 2 ^ x) at (omega arith)

-- what is taken from a field is there
enough_there : (w s d : ℕ) → d ≤ w / 2 ^ s % 16 → d * 2 ^ s ≤ w
enough_there w s d h =
    let split = div-add-mod' w (2 ^ s) in
    let high = div-add-mod' (w / 2 ^ s) 16 in
    let product = mul-le d (2 ^ s) (w / 2 ^ s) (2 ^ s) (omega arith) (omega arith) in
    omega arith

-- a field that isn't full can be raised within the word
raised_fits : (w k s d : ℕ) → w < 2 ^ 64 → s ≡ 4 * k → k < 16 → w / 2 ^ s % 16 + d ≤ 15 → w + d * 2 ^ s < 2 ^ 64
raised_fits w k s d fits at h small =
    let n : ℕ = 2 ^ (60 - s) in
    let split = field_split w (2 ^ s) in
    let s_fits : 60 - s + (4 + s) ≡ 64 = omega arith in
    let outer = pow-add 2 (60 - s) (4 + s) in
    let inner = pow-add 2 4 s in
    let whole : 2 ^ 64 ≡ n * 16 * 2 ^ s = ap (λ x. 2 ^ x) (sym s_fits) ∙ outer ∙ ap (λ x. n * x) inner ∙ omega arith in
    let bound : w < n * 16 * 2 ^ s = subst (λ x. w < x) whole fits in
    let q_below : w / 2 ^ s < n * 16 = div_below w (2 ^ s) (n * 16) (pow_pos s) bound in
    let high = div-add-mod' (w / 2 ^ s) 16 in
    let fields : w / 2 ^ s / 16 * 16 + w / 2 ^ s % 16 + d + 1 ≤ n * 16 = omega arith in
    let product = mul-le (w / 2 ^ s / 16 * 16 + w / 2 ^ s % 16 + d + 1) (2 ^ s) (n * 16) (2 ^ s) fields (omega arith) in
    let below = mod_below w (2 ^ s) (pow_pos s) in
    subst (λ x. w + d * 2 ^ s < x) (sym whole) (omega arith)

-- ---- by how much a count rises and falls

-- 1, and 0 where the count is stuck
abbrev pub unit_of : ℕ → ℕ
unit_of n = bool_byte (not (nat_eq n STUCK))

unit_le : (n : ℕ) → unit_of n ≤ 1
unit_le n = elim (nat_eq n STUCK) as (λ b. bool_byte (not b) ≤ 1) [ true ↦ lit≤ tt | false ↦ lit≤ tt ]

unit_raises : (n : ℕ) → n < 16 → n + unit_of n ≤ 15
unit_raises n h = elim (eqb_tells n STUCK) as (λ _. n + unit_of n ≤ 15) [
  | inl k ↦ subst (λ b. n + bool_byte (not b) ≤ 15) (sym k.0) (omega arith)
  | inr k ↦ subst (λ b. n + bool_byte (not b) ≤ 15) (sym k.0) (let e = k.1 in omega arith)
]

unit_falls : (n : ℕ) → n ≢ 0 → unit_of n ≤ n
unit_falls n h = let one = unit_le n in omega arith

unit_lowers : (n : ℕ) → n - unit_of n ≡ lowered_count n
unit_lowers n = elim (eqb_tells n STUCK) as (λ _. n - unit_of n ≡ lowered_count n) [
  | inl k ↦ subst (λ b. n - bool_byte (not b) ≡ cond b STUCK (n - 1)) (sym k.0) (let e = k.1 in omega arith)
  | inr k ↦ subst (λ b. n - bool_byte (not b) ≡ cond b STUCK (n - 1)) (sym k.0) refl
]

unit_stuck : (n : ℕ) → n ≡ STUCK → unit_of n ≡ 0
unit_stuck n e = ap unit_of e

-- ---- a count raised or lowered in its word

field_below : (w s : ℕ) → w / 2 ^ s % 16 < 16
field_below w s = mod_below (w / 2 ^ s) 16 (lit< tt)

-- the unit of a count at its place in the word
unit_is : (s old d : ℕ) → s < 64 → d ≡ unit_of old → (d * 2 ^ s % 2 ^ 64 ≡ d * 2 ^ s) × (d ≤ 1)
unit_is s old d within e = let one : d ≤ 1 = subst (λ x. x ≤ 1) (sym e) (unit_le old) in (unit_at d s one within, one)

pub raise_fits : (w k s old d : ℕ) → w < 2 ^ 64 → s ≡ 4 * k → k < 16 → old ≡ w / 2 ^ s % 16 → d ≡ unit_of old → w + d * 2 ^ s % 2 ^ 64 < 2 ^ 64
raise_fits w k s old d fits at h old_is d_is =
    let most : w / 2 ^ s % 16 + d ≤ 15 = subst (λ x. x + d ≤ 15) old_is (subst (λ x. old + x ≤ 15) (sym d_is) (unit_raises old (subst (λ x. x < 16) (sym old_is) (field_below w s)))) in
    subst (λ x. w + x < 2 ^ 64) (sym (unit_is s old d (omega arith) d_is).0) (raised_fits w k s d fits at h most)

pub raise_written : (w k s old d : ℕ) → s ≡ 4 * k → k < 16 → old ≡ w / 2 ^ s % 16 → d ≡ unit_of old → IsWritten 4 w (w + d * 2 ^ s % 2 ^ 64) k (old + d)
raise_written w k s old d at h old_is d_is =
    subst (λ x. IsWritten 4 w (w + x) k (old + d)) (sym (unit_is s old d (omega arith) d_is).0)
    (subst (λ x. IsWritten 4 w (w + d * 2 ^ s) k (x + d)) (sym old_is) (field_raised w k s d at))

pub raise_below : (w s old d : ℕ) → old ≡ w / 2 ^ s % 16 → d ≡ unit_of old → old + d < 16
raise_below w s old d old_is d_is = let most = unit_raises old (subst (λ x. x < 16) (sym old_is) (field_below w s)) in subst (λ x. old + x < 16) (sym d_is) (omega arith)

-- what is taken from a count that isn't 0 is in its field
falls : (w s old d : ℕ) → old ≡ w / 2 ^ s % 16 → old ≢ 0 → d ≡ unit_of old → d ≤ w / 2 ^ s % 16
falls w s old d old_is some d_is = subst (λ x. d ≤ x) old_is (subst (λ x. x ≤ old) (sym d_is) (unit_falls old some))

pub lower_fits : (w s old d : ℕ) → s < 64 → old ≡ w / 2 ^ s % 16 → old ≢ 0 → d ≡ unit_of old → d * 2 ^ s % 2 ^ 64 ≤ w
lower_fits w s old d within old_is some d_is = subst (λ x. x ≤ w) (sym (unit_is s old d within d_is).0) (enough_there w s d (falls w s old d old_is some d_is))

pub lower_written : (w k s old d : ℕ) → s ≡ 4 * k → k < 16 → old ≡ w / 2 ^ s % 16 → old ≢ 0 → d ≡ unit_of old → IsWritten 4 w (w - d * 2 ^ s % 2 ^ 64) k (lowered_count old)
lower_written w k s old d at h old_is some d_is =
    let less = falls w s old d old_is some d_is in
    let lowered : w / 2 ^ s % 16 - d ≡ lowered_count old = ap (λ x. x - d) (sym old_is) ∙ ap (λ x. old - x) d_is ∙ unit_lowers old in
    subst (λ x. IsWritten 4 w (w - x) k (lowered_count old)) (sym (unit_is s old d (omega arith) d_is).0)
    (subst (λ x. IsWritten 4 w (w - d * 2 ^ s) k x) lowered (field_lowered w k s d at less (enough_there w s d less)))

-- a stuck count leaves its word
pub lower_stuck : (w s old d : ℕ) → d ≡ unit_of old → old ≡ STUCK → w - d * 2 ^ s % 2 ^ 64 ≡ w
lower_stuck w s old d d_is stuck =
    let none : d ≡ 0 = d_is ∙ unit_stuck old stuck in
    let product : 0 * 2 ^ s ≡ 0 = omega arith in
    let word : w - 0 ≡ w = omega arith in
    ap (λ x. w - x * 2 ^ s % 2 ^ 64) none ∙ ap (λ x. w - x % 2 ^ 64) product ∙ word

pub lowered_below : (n : ℕ) → n < 16 → lowered_count n < 16
lowered_below n h = elim (nat_eq n STUCK) as (λ b. cond b STUCK (n - 1) < 16) [ true ↦ lit< tt | false ↦ omega arith ]

pub count_below : (w s old : ℕ) → old ≡ w / 2 ^ s % 16 → old < 16
count_below w s old old_is = subst (λ x. x < 16) (sym old_is) (field_below w s)
