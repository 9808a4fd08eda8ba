-- A word of two 32-bit halves, and one half of it written.
use Rattle.std.proofs.Common.{◌≡◌, ℕ, zero, suc, ◌+◌, ◌-◌, ◌*◌, ◌/◌, ◌%◌, ◌^◌, ◌<◌, ◌≤◌, sym, subst, arith, lit<}
use Rattle.std.proofs.lemmas.Nat.{mod_below, shl_whole}
use Rattle.lxr_tables.proofs.EntryLemmas.{IsWritten}

half_below : (w s old : ℕ) → old ≡ w / 2 ^ s % 2 ^ 32 → old < 2 ^ 32
half_below w s old is = let below = mod_below (w / 2 ^ s) (2 ^ 32) (lit< tt) in omega arith

-- a half at its place in the word
pub half_at : (k e : ℕ) → k < 2 → e < 2 ^ 32 → e * 2 ^ (32 * k) % 2 ^ 64 ≡ e * 2 ^ (32 * k)
half_at k e h fits = shl_whole e 32 (32 * k) 64 fits (omega arith)

half_there : (w k old : ℕ) → k < 2 → old ≡ w / 2 ^ (32 * k) % 2 ^ 32 → old * 2 ^ (32 * k) ≤ w
half_there w zero old h is = omega arith
half_there w (suc zero) old h is = omega arith
half_there w (suc (suc k)) old h is = absurd (omega arith)

half_fits : (w k old e : ℕ) → w < 2 ^ 64 → k < 2 → e < 2 ^ 32 → old ≡ w / 2 ^ (32 * k) % 2 ^ 32 → w - old * 2 ^ (32 * k) + e * 2 ^ (32 * k) < 2 ^ 64
half_fits w zero old e fits h small is = omega arith
half_fits w (suc zero) old e fits h small is = omega arith
half_fits w (suc (suc k)) old e fits h small is = absurd (omega arith)

-- the half can be taken away, and another put there
pub taken_fits : (w k old : ℕ) → k < 2 → old ≡ w / 2 ^ (32 * k) % 2 ^ 32 → old * 2 ^ (32 * k) % 2 ^ 64 ≤ w
taken_fits w k old h is = subst (λ x. x ≤ w) (sym (half_at k old h (half_below w (32 * k) old is))) (half_there w k old h is)

pub put_fits : (w k old e : ℕ) → w < 2 ^ 64 → k < 2 → e < 2 ^ 32 → old ≡ w / 2 ^ (32 * k) % 2 ^ 32 → w - old * 2 ^ (32 * k) % 2 ^ 64 + e * 2 ^ (32 * k) % 2 ^ 64 < 2 ^ 64
put_fits w k old e fits h small is =
    subst (λ x. w - x + e * 2 ^ (32 * k) % 2 ^ 64 < 2 ^ 64) (sym (half_at k old h (half_below w (32 * k) old is)))
    (subst (λ x. w - old * 2 ^ (32 * k) + x < 2 ^ 64) (sym (half_at k e h small)) (half_fits w k old e fits h small is))

pub half_written : (w k old e : ℕ) → k < 2 → e < 2 ^ 32 → old ≡ w / 2 ^ (32 * k) % 2 ^ 32 → IsWritten 32 w (w - old * 2 ^ (32 * k) % 2 ^ 64 + e * 2 ^ (32 * k) % 2 ^ 64) k e
half_written w k old e h small is =
    let there = half_there w k old h is in
    subst (λ x. IsWritten 32 w (w - x + e * 2 ^ (32 * k) % 2 ^ 64) k e) (sym (half_at k old h (half_below w (32 * k) old is)))
    (subst (λ x. IsWritten 32 w (w - old * 2 ^ (32 * k) + x) k e) (sym (half_at k e h small))
    (subst (λ x. w - old * 2 ^ (32 * k) + e * 2 ^ (32 * k) + x * 2 ^ (32 * k) ≡ w + e * 2 ^ (32 * k)) is (omega arith)))
