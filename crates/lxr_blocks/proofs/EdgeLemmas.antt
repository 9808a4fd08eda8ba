-- Between two edges of a mask all lines are free, or none is.
use Rattle.std.proofs.Common.{◌≡◌, ℕ, zero, suc, ◌+◌, ◌-◌, ◌*◌, ◌/◌, ◌%◌, ◌^◌, ◌<◌, ◌≤◌, refl, sym, ap, subst, ◌∙◌, inl, inr, ◌⊎◌, arith, Bool, true, false}
use Rattle.std.specs.Int.{bit_at, trailing_zeros, w128}
use Rattle.std.specs.Int.Bits.{bit_xor}
use Rattle.std.proofs.lemmas.Bool.Decides.{eqb_tells, leb_tells}
use Rattle.std.proofs.lemmas.Nat.{div-add-mod'}
use Rattle.std.proofs.lemmas.Nat.Bits.{bit_at-lt, bit_at-suc, bit_at-trailing_zeros, bit_at-zero, bit_at_cat_low, bit_at_lowest, bit_at_xor}
use Rattle.lxr_layout.specs.declared.TheConstants.{LINES_IN_BLOCK}
use Rattle.lxr_blocks.specs.Lines.{IsFirstLine, IsNextRun}
use Rattle.lxr_blocks.specs.Masks.{AreEdges, IsMask, differ, one_if}
use Rattle.lxr_blocks.proofs.HalvesLemmas.{IsRest}
use Rattle.lxr_blocks.proofs.MaskLemmas.{told_line, untold_line}

-- ---- the edges of a mask

twice_bit : (n i : ℕ) → i + 1 < 128 → bit_at (n * 2 % 2 ^ 128) (i + 1) ≡ bit_at n i
twice_bit n i within =
    let next : i + 1 ≡ suc i = omega arith in
    let half : n * 2 / 2 ≡ n = omega arith in
    sym (bit_at_cat_low (n * 2 / 2 ^ 128) 128 (n * 2 % 2 ^ 128) (i + 1) within) ∙ ap (λ x. bit_at x (i + 1)) (div-add-mod' (n * 2) (2 ^ 128))
    ∙ ap (bit_at (n * 2)) next ∙ bit_at-suc (n * 2) i ∙ ap (λ x. bit_at x i) half

mask_bit : (mask : ℕ) (free : ℕ → Bool) (i : ℕ) → IsMask mask free → i < LINES_IN_BLOCK → bit_at mask i ≡ one_if (free i)
mask_bit mask free i is within = elim (eqb_tells (bit_at mask i) 1) [
  | inl one ↦ one.1 ∙ sym (ap one_if (told_line mask free i is within one.1))
  | inr other ↦ let below = bit_at-lt mask i in let ne = other.1 in let none : bit_at mask i ≡ 0 = omega arith in none ∙ sym (ap one_if (untold_line mask free i is within none))
]

sum_differs : (a b : Bool) → (one_if b + one_if a) % 2 ≡ differ a b
sum_differs true true = refl
sum_differs true false = refl
sum_differs false true = refl
sum_differs false false = refl

pub edges_of_mask : (mask : ℕ) (free : ℕ → Bool) → IsMask mask free → AreEdges (bit_xor mask (mask * 2 % 2 ^ 128)) free 0
edges_of_mask mask free is = record {
  below = λ i h. absurd (omega (arith, h));
  here = λ h.
      let first = mask_bit mask free 0 is h in
      let low : bit_at (mask * 2 % 2 ^ 128) 0 ≡ 0 = bit_at_lowest (mask * 2 % 2 ^ 128) ∙ omega arith in
      let below = bit_at-lt mask 0 in
      bit_at_xor mask (mask * 2 % 2 ^ 128) 0 ∙ (let e : (bit_at mask 0 + bit_at (mask * 2 % 2 ^ 128) 0) % 2 ≡ bit_at mask 0 = omega arith in e) ∙ first;
  behind = λ i h within.
      bit_at_xor mask (mask * 2 % 2 ^ 128) (i + 1)
      ∙ ap (λ x. (bit_at mask (i + 1) + x) % 2) (twice_bit mask i within ∙ mask_bit mask free i is (omega (arith, within)))
      ∙ ap (λ x. (x + one_if (free i)) % 2) (mask_bit mask free (i + 1) is within)
      ∙ sum_differs (free i) (free (i + 1));
}

-- ---- from one edge to the next

none_if : (b : Bool) → one_if b ≡ 0 → b ≡ false
none_if true is = absurd (omega (arith, is))
none_if false is = refl

one_then : (b : Bool) → one_if b ≡ 1 → b ≡ true
one_then true is = refl
one_then false is = absurd (omega (arith, is))

-- without an edge no line becomes free
stays_taken : (e : ℕ) (free : ℕ → Bool) (from k : ℕ) → AreEdges e free from → from + k ≤ LINES_IN_BLOCK → ((i : ℕ) → from ≤ i → i < from + k → bit_at e i ≡ 0) → (i : ℕ) → from ≤ i → i < from + k → free i ≡ false
stays_taken e free from zero is within none i after before = absurd (omega arith)
stays_taken e free from (suc k) is within none i after before =
    let earlier : (j : ℕ) → from ≤ j → j < from + k → free j ≡ false = stays_taken e free from k is (omega arith) (λ j h g. none j h (omega (arith, g))) in
    elim (eqb_tells i (from + k)) [
      | inr other ↦ let ne = other.1 in earlier i after (omega arith)
      | inl same ↦ elim (eqb_tells k 0) [
        | inl first ↦
            let at = same.1 in let start = first.1 in
            let here : i ≡ from = omega arith in
            ap free here ∙ none_if (free from) (sym (is.here (omega arith)) ∙ none from (omega arith) (omega arith))
        | inr later ↦
            let at = same.1 in let ne = later.1 in
            let back : i - 1 + 1 ≡ i = omega arith in
            let before_it = earlier (i - 1) (omega arith) (omega arith) in
            ap free (sym back) ∙ none_if (free (i - 1 + 1)) (sym (ap (λ a. differ a (free (i - 1 + 1))) before_it) ∙ sym (is.behind (i - 1) (omega arith) (omega arith)) ∙ ap (bit_at e) back ∙ none i after before)
      ]
    ]

differ_true : (b : Bool) → differ true b ≡ 0 → b ≡ true
differ_true true is = refl
differ_true false is = absurd (omega (arith, is))

differ_one : (b : Bool) → differ true b ≡ 1 → b ≡ false
differ_one true is = absurd (omega (arith, is))
differ_one false is = refl

-- and none is taken
stays_free : (e : ℕ) (free : ℕ → Bool) (from line k : ℕ) → AreEdges e free from → from ≤ line → free line ≡ true → line + k < LINES_IN_BLOCK → ((i : ℕ) → line < i → i ≤ line + k → bit_at e i ≡ 0) → (i : ℕ) → line ≤ i → i ≤ line + k → free i ≡ true
stays_free e free from line zero is after there within none i low high = let same : i ≡ line = omega arith in ap free same ∙ there
stays_free e free from line (suc k) is after there within none i low high = elim (eqb_tells i (line + suc k)) [
  | inr other ↦ let ne = other.1 in stays_free e free from line k is after there (omega arith) (λ j h g. none j h (omega (arith, g))) i low (omega arith)
  | inl same ↦
      let at = same.1 in
      let back : i - 1 + 1 ≡ i = omega arith in
      let before_it = stays_free e free from line k is after there (omega arith) (λ j h g. none j h (omega (arith, g))) (i - 1) (omega arith) (omega arith) in
      ap free (sym back) ∙ differ_true (free (i - 1 + 1)) (sym (ap (λ a. differ a (free (i - 1 + 1))) before_it) ∙ sym (is.behind (i - 1) (omega arith) (omega arith)) ∙ ap (bit_at e) back ∙ none i (omega arith) high)
]

-- no edge is left
pub no_edges : (e : ℕ) (free : ℕ → Bool) (from : ℕ) → e ≡ 0 → from ≤ LINES_IN_BLOCK → AreEdges e free from → IsFirstLine free true from LINES_IN_BLOCK
no_edges e free from none within is = record {
  reached = within;
  within = omega arith;
  passed = λ i after before. stays_taken e free from (LINES_IN_BLOCK - from) is (omega arith) (λ j h g. ap (λ x. bit_at x j) none ∙ bit_at-zero j) i after (omega (arith, before));
  there = λ h. absurd (omega (arith, h));
}

-- the first edge is where the next run begins
pub first_edge : (e : ℕ) (free : ℕ → Bool) (from : ℕ) → 0 < e → e < 2 ^ 128 → AreEdges e free from → IsFirstLine free true from (trailing_zeros w128 e)
first_edge e free from some fits is =
    let line : ℕ = trailing_zeros w128 e in
    let lowest = bit_at-trailing_zeros w128 e some fits in
    let inside = lowest.0 in
    let reached : from ≤ line = elim (leb_tells from line) [ inl c ↦ c.1 | inr c ↦ let none = is.below line c.1 in let one = lowest.1 in absurd (omega arith) ] in
    let taken : (i : ℕ) → from ≤ i → i < from + (line - from) → free i ≡ false = stays_taken e free from (line - from) is (omega arith) (λ j h g. lowest.2 j (omega (arith, g, reached))) in
    record {
      reached = reached;
      within = omega arith;
      passed = λ i after before. taken i after (omega (arith, before, reached));
      there = λ h. elim (eqb_tells line from) [
        | inl same ↦ ap free same.1 ∙ one_then (free from) (sym (is.here (subst (λ x. x < 128) same.1 inside)) ∙ ap (bit_at e) (sym same.1) ∙ lowest.1)
        | inr other ↦
            let ne = other.1 in
            let back : line - 1 + 1 ≡ line = omega arith in
            let before_it = taken (line - 1) (omega arith) (omega arith) in
            ap free (sym back) ∙ one_then (free (line - 1 + 1)) (sym (ap (λ a. differ a (free (line - 1 + 1))) before_it) ∙ sym (is.behind (line - 1) (omega arith) (omega arith)) ∙ ap (bit_at e) back ∙ lowest.1)
      ];
    }

-- the second edge is where it ends, or it reaches to the block's end
pub second_edge : (e rest : ℕ) (free : ℕ → Bool) (from end : ℕ) → 0 < e → e < 2 ^ 128 → rest < 2 ^ 128 → AreEdges e free from → IsRest w128 e rest → ((rest ≡ 0) × (end ≡ 128)) ⊎ ((0 < rest) × (end ≡ trailing_zeros w128 rest))
    → (trailing_zeros w128 e < end) × IsFirstLine free false (trailing_zeros w128 e) end
second_edge e rest free from end some fits rest_fits is rest_is (inl (none, at)) =
    let line : ℕ = trailing_zeros w128 e in
    let first = first_edge e free from some fits is in
    let lowest = bit_at-trailing_zeros w128 e some fits in
    let inside = lowest.0 in
    let reached = first.reached in (
      omega arith,
      record {
        reached = omega arith;
        within = omega arith;
        passed = λ i after before. stays_free e free from line (127 - line) is reached (first.there inside) (omega arith)
            (λ j h g. sym (rest_is.1 j h) ∙ ap (λ x. bit_at x j) none ∙ bit_at-zero j) i after (omega (arith, before, at, inside));
        there = λ h. absurd (omega (arith, h, at));
      },
    )
second_edge e rest free from end some fits rest_fits is rest_is (inr (more, at)) =
    let line : ℕ = trailing_zeros w128 e in
    let first = first_edge e free from some fits is in
    let lowest = bit_at-trailing_zeros w128 e some fits in
    let next = bit_at-trailing_zeros w128 rest more rest_fits in
    let inside = lowest.0 in
    let reached = first.reached in
    let end_inside : end < 128 = omega (arith, next.0, at) in
    let one : bit_at rest end ≡ 1 = ap (bit_at rest) at ∙ next.1 in
    let behind : line < end = elim (leb_tells end line) [ inl c ↦ let none = rest_is.0 end c.1 in absurd (omega arith) | inr c ↦ c.1 ] in
    let all : (i : ℕ) → line ≤ i → i ≤ line + (end - 1 - line) → free i ≡ true = stays_free e free from line (end - 1 - line) is reached (first.there inside) (omega arith)
    (λ j h g. sym (rest_is.1 j h) ∙ next.2 j (omega (arith, g, behind, at))) in
    let back : end - 1 + 1 ≡ end = omega arith in (
      behind,
      record {
        reached = omega arith;
        within = omega arith;
        passed = λ i after before. all i after (omega (arith, before, behind));
        there = λ h. ap free (sym back) ∙ differ_one (free (end - 1 + 1)) (sym (ap (λ a. differ a (free (end - 1 + 1))) (all (end - 1) (omega arith) (omega arith))) ∙ sym (is.behind (end - 1) (omega arith) (omega arith)) ∙ ap (bit_at e) back ∙ sym (rest_is.1 end behind) ∙ one);
      },
    )

-- where it ends
pub end_place : (rest : ℕ) → ((rest ≡ 0) × (trailing_zeros w128 rest ≡ 128)) ⊎ ((0 < rest) × (trailing_zeros w128 rest ≡ trailing_zeros w128 rest))
unfolding lib.Count.count_trailing_zeros
end_place rest = elim (eqb_tells rest 0) [
  | inl none ↦ inl (none.1, ap (trailing_zeros w128) none.1)
  | inr some ↦ let ne = some.1 in inr (omega arith, refl)
]

-- behind where it begins
pub later_edge : (e rest : ℕ) → 0 < e → e < 2 ^ 128 → rest < 2 ^ 128 → IsRest w128 e rest → trailing_zeros w128 e ≤ trailing_zeros w128 rest
later_edge e rest some fits rest_fits rest_is =
    let lowest = bit_at-trailing_zeros w128 e some fits in
    elim (end_place rest) [
      | inl none ↦ let inside = lowest.0 in let at = none.1 in omega arith
      | inr more ↦
          let next = bit_at-trailing_zeros w128 rest more.0 rest_fits in
          elim (leb_tells (trailing_zeros w128 e) (trailing_zeros w128 rest)) [
            | inl c ↦ c.1
            | inr c ↦ let below = c.1 in let none = rest_is.0 (trailing_zeros w128 rest) (omega arith) in let one = next.1 in absurd (omega arith)
          ]
    ]

-- the edges behind the run
pub edges_behind : (e rest left : ℕ) (free : ℕ → Bool) (from end : ℕ) → AreEdges e free from → from ≤ trailing_zeros w128 e → IsRest w128 e rest → trailing_zeros w128 e < end → (end < 128 → free end ≡ false)
    → end ≡ trailing_zeros w128 rest → IsRest w128 rest left → AreEdges left free end
edges_behind e rest left free from end is reached rest_is behind taken at left_is = record {
  below = λ i h. left_is.0 i (omega (arith, h, at));
  here = λ h. left_is.0 end (omega (arith, at)) ∙ sym (ap one_if (taken h));
  behind = λ i after within. left_is.1 (i + 1) (omega (arith, after, at)) ∙ rest_is.1 (i + 1) (omega (arith, after, behind)) ∙ is.behind i (omega (arith, after, behind, reached)) within;
}

-- a run between its two edges
pub run_between : (e rest left b : ℕ) → 0 < e → e < 2 ^ 128 → rest < 2 ^ 128 → IsRest w128 e rest → IsRest w128 rest left → (free : ℕ → Bool) (from : ℕ) → AreEdges e free from
    → IsNextRun free b from (record { block = b; line = trailing_zeros w128 e; lines = trailing_zeros w128 rest - trailing_zeros w128 e })
    × AreEdges left free (trailing_zeros w128 e + (trailing_zeros w128 rest - trailing_zeros w128 e))
run_between e rest left b some fits rest_fits rest_is left_is free from is =
    let line : ℕ = trailing_zeros w128 e in
    let end : ℕ = trailing_zeros w128 rest in
    let first = first_edge e free from some fits is in
    let second = second_edge e rest free from end some fits rest_fits is rest_is (end_place rest) in
    let behind = second.0 in
    let whole : line + (end - line) ≡ end = omega arith in (
      record {
        block = refl;
        passed = first;
        some = omega arith;
        ends = subst (IsFirstLine free false line) (sym whole) second.1;
      },
      subst (AreEdges left free) (sym whole) (edges_behind e rest left free from end is first.reached rest_is behind second.1.there refl left_is),
    )
