-- Entries of tables of which a range is changed, and counts that are raised.
use Rattle.std.proofs.Common.{◌≡◌, ◌≢◌, ℕ, ◌+◌, ◌/◌, ◌%◌, ◌<◌, ◌≤◌, ap, inl, inr, ◌⊎◌, arith, Bool, true, false, cond, nat_le, nat_lt}
use Rattle.std.specs.Prelude.{◌&&◌}
use Rattle.std.proofs.lemmas.Bool.Decides.{eqb_tells, leb_tells, nat_tests}
use Rattle.lxr_layout.specs.declared.TheConstants.{GRANULES_IN_LINE, STUCK}
use Rattle.lxr_tables.specs.Counts.{raised_count}
use Rattle.lxr_invariant.proofs.PlaceLemmas.{BeginsLine}
use Rattle.lxr_pause_promote.specs.Promotion.{marked_between, set_between}
use Rattle.lxr_pause_increments.specs.Promotion.{fills}

-- ---- ranges

pub marked_cases : (f : ℕ → ℕ) (first end k : ℕ)
    → (BeginsLine first end k × (marked_between f first end k ≡ STUCK)) ⊎ ((BeginsLine first end k → ⊥) × (marked_between f first end k ≡ f k))
marked_cases f first end k = elim (eqb_tells (k % GRANULES_IN_LINE) 0) [
  | inr q ↦ inr (λ is. q.1 is.begins, ap (λ t. cond (t && (nat_le first (k / GRANULES_IN_LINE) && nat_lt (k / GRANULES_IN_LINE) end)) STUCK (f k)) q.0)
  | inl q ↦ elim (leb_tells first (k / GRANULES_IN_LINE)) [
    | inr p ↦ inr (λ is. let h = is.from in let n = p.1 in omega (arith, h, n), let n = p.1 in grind (arith, nat_tests))
    | inl p ↦ elim (leb_tells end (k / GRANULES_IN_LINE)) [
      | inl r ↦ inr (λ is. let h = is.below in let n = r.1 in omega (arith, h, n), let n = r.1 in grind (arith, nat_tests))
      | inr r ↦ inl (record { begins = q.1; from = p.1; below = r.1 }, let a = q.1 in let b = p.1 in let n = r.1 in grind (arith, nat_tests))
    ]
  ]
]

pub set_cases : (f : ℕ → Bool) (first end k : ℕ)
    → ((first ≤ k) × (k < end) × (set_between f first end k ≡ true)) ⊎ ((first ≤ k → k < end → ⊥) × (set_between f first end k ≡ f k))
set_cases f first end k = elim (leb_tells first k) [
  | inr p ↦ inr (λ h l. let n = p.1 in omega (arith, h, n), let n = p.1 in grind (arith, nat_tests))
  | inl p ↦ elim (leb_tells end k) [
    | inl r ↦ inr (λ h l. let n = r.1 in omega (arith, l, n), let n = r.1 in grind (arith, nat_tests))
    | inr r ↦ inl (p.1, r.1, let b = p.1 in let n = r.1 in grind (arith, nat_tests))
  ]
]

-- ---- counts that are raised

pub fill_cases : (n : ℕ) → ((fills n ≡ true) × (n ≢ STUCK) × (STUCK ≤ n + 1)) ⊎ ((fills n ≡ false) × ((n ≡ STUCK) ⊎ (n + 1 < STUCK)))
fill_cases n = elim (eqb_tells n STUCK) [
  | inl q ↦ inr (let e = q.1 in grind (arith, nat_tests), inl q.1)
  | inr q ↦ elim (leb_tells STUCK (n + 1)) [
    | inl p ↦ inl (let ne = q.1 in let h = p.1 in grind (arith, nat_tests), q.1, p.1)
    | inr p ↦ inr (let ne = q.1 in let h = p.1 in grind (arith, nat_tests), inr p.1)
  ]
]

pub raised_full : (n : ℕ) → STUCK ≤ n + 1 → raised_count n ≡ STUCK
raised_full n h = omega arith

pub raised_some : (n : ℕ) → raised_count n ≢ 0
raised_some n e = omega arith
