-- Entries of tables of which a range is changed.
use Rattle.std.proofs.Common.{◌≡◌, ℕ, ◌/◌, ◌%◌, ◌<◌, ◌≤◌, ap, inl, inr, ◌⊎◌, arith, Bool, true, false, cond, nat_eq}
use Rattle.std.specs.Prelude.{◌&&◌}
use Rattle.std.proofs.lemmas.Bool.Decides.{eqb_tells, leb_tells, nat_tests}
use Rattle.lxr_layout.specs.declared.TheConstants.{GRANULES_IN_LINE, STUCK}
use Rattle.lxr_blocks.specs.Handing.{is_between}
use Rattle.lxr_invariant.proofs.PlaceLemmas.{BeginsLine}
use Rattle.lxr_pause_promote.specs.Promotion.{marked_between, set_between}
use Rattle.lxr_blocks.specs.Clearing.{clear_between, unmarked_between}

-- ---- the range

-- a number is one of a range, or the test tells that it isn't
between_cases : (first end k : ℕ) → ((first ≤ k) × (k < end) × (is_between first end k ≡ true)) ⊎ ((first ≤ k → k < end → ⊥) × (is_between first end k ≡ false))
between_cases first end k = elim (leb_tells first k) [
  | inr p ↦ inr (λ h l. let n = p.1 in omega (arith, h, n), let n = p.1 in grind (arith, nat_tests))
  | inl p ↦ elim (leb_tells end k) [
    | inl r ↦ inr (λ h l. let n = r.1 in omega (arith, l, n), let n = r.1 in grind (arith, nat_tests))
    | inr r ↦ inl (p.1, r.1, let b = p.1 in let n = r.1 in grind (arith, nat_tests))
  ]
]

-- whether a granule begins a line of a range
abbrev begins_line : ℕ → ℕ → ℕ → Bool
begins_line first end k = nat_eq (k % GRANULES_IN_LINE) 0 && is_between first end (k / GRANULES_IN_LINE)

line_cases : (first end k : ℕ) → (BeginsLine first end k × (begins_line first end k ≡ true)) ⊎ ((BeginsLine first end k → ⊥) × (begins_line first end k ≡ false))
line_cases first end k = elim (eqb_tells (k % GRANULES_IN_LINE) 0) [
  | inr q ↦ inr (λ is. q.1 is.begins, ap (λ t. t && is_between first end (k / GRANULES_IN_LINE)) q.0)
  | inl q ↦ elim (between_cases first end (k / GRANULES_IN_LINE)) [
    | inl p ↦ inl (record { begins = q.1; from = p.0; below = p.1 }, (λ i. q.0 i && p.2 i))
    | inr p ↦ inr (λ is. p.0 is.from is.below, (λ i. q.0 i && p.1 i))
  ]
]

-- ---- line marks

pub marked_cases : (f : ℕ → ℕ) (first end k : ℕ) → (BeginsLine first end k × (marked_between f first end k ≡ STUCK)) ⊎ ((BeginsLine first end k → ⊥) × (marked_between f first end k ≡ f k))
marked_cases f first end k = elim (line_cases first end k) [ inl h ↦ inl (h.0, ap (λ b. cond b STUCK (f k)) h.1) | inr h ↦ inr (h.0, ap (λ b. cond b STUCK (f k)) h.1) ]

pub unmarked_cases : (f : ℕ → ℕ) (first end k : ℕ) → (BeginsLine first end k × (unmarked_between f first end k ≡ 0)) ⊎ ((BeginsLine first end k → ⊥) × (unmarked_between f first end k ≡ f k))
unmarked_cases f first end k = elim (line_cases first end k) [ inl h ↦ inl (h.0, ap (λ b. cond b 0 (f k)) h.1) | inr h ↦ inr (h.0, ap (λ b. cond b 0 (f k)) h.1) ]

-- ---- unlogged bits

pub set_cases : (f : ℕ → Bool) (first end k : ℕ) → ((first ≤ k) × (k < end) × (set_between f first end k ≡ true)) ⊎ ((first ≤ k → k < end → ⊥) × (set_between f first end k ≡ f k))
set_cases f first end k = elim (between_cases first end k) [ inl h ↦ inl (h.0, h.1, ap (λ b. cond b true (f k)) h.2) | inr h ↦ inr (h.0, ap (λ b. cond b true (f k)) h.1) ]

pub cleared_cases : (f : ℕ → Bool) (first end k : ℕ) → ((first ≤ k) × (k < end) × (clear_between f first end k ≡ false)) ⊎ ((first ≤ k → k < end → ⊥) × (clear_between f first end k ≡ f k))
cleared_cases f first end k = elim (between_cases first end k) [ inl h ↦ inl (h.0, h.1, ap (λ b. cond b false (f k)) h.2) | inr h ↦ inr (h.0, ap (λ b. cond b false (f k)) h.1) ]
