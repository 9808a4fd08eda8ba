-- Searching the bits of a mask is searching the lines that it tells of.
use Rattle.std.proofs.Common.{◌≡◌, ◌≢◌, ℕ, ◌+◌, ◌-◌, ◌*◌, ◌/◌, ◌%◌, ◌^◌, ◌<◌, ◌≤◌, refl, sym, ap, subst, ◌∙◌, inl, inr, arith, Bool, true, false, eq-eqb, eqb-true}
use Rattle.std.specs.Prelude.{◌↔◌, IsBitSet, IsTrue, min, not}
use Rattle.std.specs.Int.{bit_at, bit_not, trailing_zeros, w128}
use Rattle.std.specs.Int.Bits.{bit_and}
use Rattle.std.proofs.lemmas.Bool.Decides.{eqb_tells, leb_tells}
use Rattle.std.proofs.lemmas.Nat.{and_le_l, shr-shr}
use Rattle.std.proofs.lemmas.Nat.Bits.{bit_at-lt, bit_at-trailing_ones, bit_at-trailing_zeros, bit_at-zero, bit_at_above, bit_at_and, bit_at_mask_below, bit_at_mask_inside, bit_at_not, bit_at_ones, ones_shl}
use Rattle.lxr_layout.specs.declared.TheConstants.{GRANULES_IN_BLOCK, GRANULES_IN_LINE, LINES_IN_BLOCK}
use Rattle.lxr_layout.specs.declared.runs.Run.{Run}
use Rattle.lxr_tables.proofs.BitLemmas.{one_is_set, set_is_one, unset_is_zero}
use Rattle.lxr_image.specs.Runs.{bits_of}
use Rattle.lxr_image.specs.Settled.{IsLongest}
use Rattle.lxr_image.specs.Tables.{Tables}
use Rattle.lxr_blocks.specs.declared.states.BlockState.TheVariants.{Free, Partly, Whole}
use Rattle.lxr_blocks.specs.Lines.{IsFirstLine, IsFreeRun, IsNextRun, free_in}
use Rattle.lxr_blocks.specs.Masks.{IsMask}
use Rattle.lxr_blocks.specs.States.{state_by_lines}
use Rattle.lxr_blocks.proofs.KeptLemmas.{free_line_is_told}
use Rattle.lxr_blocks.proofs.LineLemmas.{AreFree, HasFree, all_free_state, none_free_state, some_free_state}

-- ---- bits

-- a bit of two numbers is set where it is of both
both_set : (a b i : ℕ) → bit_at a i ≡ 1 → bit_at b i ≡ 1 → bit_at (bit_and a b) i ≡ 1
both_set a b i x y = bit_at_and a b i ∙ ap (λ n. min n (bit_at b i)) x ∙ ap (min 1) y

left_set : (a b i : ℕ) → bit_at (bit_and a b) i ≡ 1 → bit_at a i ≡ 1
left_set a b i set = let both = bit_at_and a b i in let x = bit_at-lt a i in let y = bit_at-lt b i in omega arith

right_set : (a b i : ℕ) → bit_at (bit_and a b) i ≡ 1 → bit_at b i ≡ 1
right_set a b i set = let both = bit_at_and a b i in let x = bit_at-lt a i in let y = bit_at-lt b i in omega arith

-- a bit of a mask is one of a block's
pub bit_within : (mask i : ℕ) → mask < 2 ^ 128 → IsBitSet mask i → i < LINES_IN_BLOCK
bit_within mask i fits set = elim (leb_tells 128 i) [
  | inl c ↦ let none = bit_at_above mask 128 i fits c.1 in let one = set_is_one mask i set in absurd (omega arith)
  | inr c ↦ let below = c.1 in omega arith
]

-- ---- what a mask tells

pub told_line : (mask : ℕ) (lines : ℕ → Bool) (i : ℕ) → IsMask mask lines → i < LINES_IN_BLOCK → bit_at mask i ≡ 1 → lines i ≡ true
told_line mask lines i is within one = (is i within).0 (one_is_set mask i one)

pub not_true : (b : Bool) → (b ≡ true → ⊥) → b ≡ false
not_true true never = absurd (never refl)
not_true false never = refl

pub untold_line : (mask : ℕ) (lines : ℕ → Bool) (i : ℕ) → IsMask mask lines → i < LINES_IN_BLOCK → bit_at mask i ≡ 0 → lines i ≡ false
untold_line mask lines i is within none = not_true (lines i) (λ yes. let one = set_is_one mask i ((is i within).1 yes) in absurd (omega arith))

pub mask_of_bits : (mask : ℕ) → IsMask mask (bits_of mask)
mask_of_bits mask i within = ((λ set. eq-eqb (bit_at mask i) 1 (set_is_one mask i set)), (λ yes. one_is_set mask i (eqb-true (bit_at mask i) 1 yes)))

-- the lines that are no others
pub other_lines : (mask : ℕ) (lines : ℕ → Bool) → mask < 2 ^ 128 → IsMask mask lines → IsMask (bit_not w128 mask) (λ i. not (lines i))
other_lines mask lines fits is i within =
    let turned = bit_at_not w128 mask i fits within in (
      (λ set. let one = set_is_one (bit_not w128 mask) i set in ap not (untold_line mask lines i is within (let bit = bit_at-lt mask i in omega arith))),
      (λ yes. elim (eqb_tells (bit_at mask i) 1) [
        | inl one ↦ let no : false ≡ true = ap not (sym (told_line mask lines i is within one.1)) ∙ yes in cc
        | inr other ↦ let bit = bit_at-lt mask i in let ne = other.1 in one_is_set (bit_not w128 mask) i (omega arith)
      ]),
    )

-- ---- the free lines of a block

-- a line is free where it has no count but 0 and isn't out
pub mask_of_free : (t : Tables) (b uncounted outs : ℕ) → outs < 2 ^ 128
    → ((i : ℕ) → i < LINES_IN_BLOCK → (IsBitSet uncounted i ↔ ((k : ℕ) → k < GRANULES_IN_LINE → t.counts (GRANULES_IN_BLOCK * b + GRANULES_IN_LINE * i + k) ≡ 0)))
    → ((i : ℕ) → i < LINES_IN_BLOCK → (IsBitSet outs i ↔ IsTrue (t.outs (LINES_IN_BLOCK * b + i)))) → IsMask (bit_and uncounted (bit_not w128 outs)) (free_in t b)
mask_of_free t b uncounted outs fits counts_told outs_told i within =
    let n : ℕ = LINES_IN_BLOCK * b + i in
    let turned = bit_at_not w128 outs i fits within in
    let told = free_line_is_told t n in (
      (λ set.
          let one = set_is_one (bit_and uncounted (bit_not w128 outs)) i set in
          let here = left_set uncounted (bit_not w128 outs) i one in
          let there = right_set uncounted (bit_not w128 outs) i one in
          let each = (counts_told i within).0 (one_is_set uncounted i here) in
          told.1 (record {
            in_hand = not_true (t.outs n) (λ yes. let out = set_is_one outs i ((outs_told i within).1 yes) in absurd (omega arith));
            uncounted = λ k h. let same : GRANULES_IN_LINE * n + k ≡ GRANULES_IN_BLOCK * b + GRANULES_IN_LINE * i + k = omega arith in ap t.counts same ∙ each k h;
          })),
      (λ free.
          let is = told.0 free in
          let here = set_is_one uncounted i ((counts_told i within).1 (λ k h. let same : GRANULES_IN_BLOCK * b + GRANULES_IN_LINE * i + k ≡ GRANULES_IN_LINE * n + k = omega arith in ap t.counts same ∙ is.uncounted k h)) in
          let none = unset_is_zero outs i (λ set. let yes : t.outs n ≡ true = (outs_told i within).0 set in let no = is.in_hand in cc) in
          one_is_set (bit_and uncounted (bit_not w128 outs)) i (both_set uncounted (bit_not w128 outs) i here (omega arith))),
    )

-- ---- the first line of a mask

-- the bits from one on are those of the mask, and the others are 0
kept_bit : (mask from i : ℕ) → from ≤ i → i < 128 → bit_at (bit_and mask (2 ^ 128 - 2 ^ from)) i ≡ bit_at mask i
kept_bit mask from i after within =
    let both = bit_at_and mask (2 ^ 128 - 2 ^ from) i in let one = bit_at_mask_inside from 128 i after within in let bit = bit_at-lt mask i in omega arith

cleared_bit : (mask from i : ℕ) → i < from → bit_at (bit_and mask (2 ^ 128 - 2 ^ from)) i ≡ 0
cleared_bit mask from i before =
    let both = bit_at_and mask (2 ^ 128 - 2 ^ from) i in let none = bit_at_mask_below from 128 i before in let bit = bit_at-lt mask i in omega arith

-- behind the last line there is none
pub nothing_behind : (from : ℕ) (lines : ℕ → Bool) → from ≡ LINES_IN_BLOCK → IsFirstLine lines true from LINES_IN_BLOCK
nothing_behind from lines end = record {
  reached = omega arith;
  within = omega arith;
  passed = λ i after before. absurd (omega (arith, after, before));
  there = λ h. absurd (omega (arith, h));
}

-- no bit is set from one on
pub none_set : (mask from : ℕ) (lines : ℕ → Bool) → from ≤ LINES_IN_BLOCK → bit_and mask ((2 ^ 128 - 1) * 2 ^ from % 2 ^ 128) ≡ 0 → IsMask mask lines → IsFirstLine lines true from LINES_IN_BLOCK
none_set mask from lines fits none is = record {
  reached = fits;
  within = omega arith;
  passed = λ i after before. untold_line mask lines i is before
      (sym (kept_bit mask from i after before) ∙ ap (λ x. bit_at x i) (ap (bit_and mask) (sym (ones_shl 128 from fits)) ∙ none) ∙ bit_at-zero i);
  there = λ h. absurd (omega (arith, h));
}

-- the lowest bit that is set from one on
pub lowest_set : (mask from : ℕ) (lines : ℕ → Bool) → mask < 2 ^ 128 → from ≤ LINES_IN_BLOCK → bit_and mask ((2 ^ 128 - 1) * 2 ^ from % 2 ^ 128) ≢ 0 → IsMask mask lines
    → IsFirstLine lines true from (trailing_zeros w128 (bit_and mask ((2 ^ 128 - 1) * 2 ^ from % 2 ^ 128)))
lowest_set mask from lines fits in_block some is =
    let shifted = ones_shl 128 from in_block in
    subst (λ m. IsFirstLine lines true from (trailing_zeros w128 (bit_and mask m))) (sym shifted) (go (λ none. some (ap (bit_and mask) shifted ∙ none)))
  where
    go : bit_and mask (2 ^ 128 - 2 ^ from) ≢ 0 → IsFirstLine lines true from (trailing_zeros w128 (bit_and mask (2 ^ 128 - 2 ^ from)))
    go there =
        let rest : ℕ = bit_and mask (2 ^ 128 - 2 ^ from) in
        let below : rest ≤ mask = and_le_l mask (2 ^ 128 - 2 ^ from) in
        let lowest = bit_at-trailing_zeros w128 rest (omega arith) (omega arith) in
        let at : ℕ = trailing_zeros w128 rest in
        let reached : from ≤ at = elim (leb_tells from at) [ inl c ↦ c.1 | inr c ↦ let none = cleared_bit mask from at c.1 in let one = lowest.1 in absurd (omega arith) ] in
        let within = lowest.0 in
        record {
          reached = reached;
          within = omega arith;
          passed = λ i after before. untold_line mask lines i is (omega (arith, before)) (sym (kept_bit mask from i after (omega (arith, before))) ∙ lowest.2 i before);
          there = λ h. told_line mask lines at is h (sym (kept_bit mask from at reached within) ∙ lowest.1);
        }

-- where it is
pub lowest_place : (mask from : ℕ) → mask < 2 ^ 128 → from ≤ LINES_IN_BLOCK → bit_and mask ((2 ^ 128 - 1) * 2 ^ from % 2 ^ 128) ≢ 0
    → (from ≤ trailing_zeros w128 (bit_and mask ((2 ^ 128 - 1) * 2 ^ from % 2 ^ 128))) × (trailing_zeros w128 (bit_and mask ((2 ^ 128 - 1) * 2 ^ from % 2 ^ 128)) ≤ LINES_IN_BLOCK)
lowest_place mask from fits in_block some =
    let first = lowest_set mask from (bits_of mask) fits in_block some (mask_of_bits mask) in (first.reached, first.within)

-- the first of the other lines is the end of these
pub turned_first : (free : ℕ → Bool) (from at : ℕ) → IsFirstLine (λ i. not (free i)) true from at → IsFirstLine free false from at
turned_first free from at is = record {
  reached = is.reached;
  within = is.within;
  passed = λ i after before. twice (free i) true (is.passed i after before);
  there = λ h. twice (free at) false (is.there h);
}
  where
    twice : (b c : Bool) → not b ≡ not c → b ≡ c
    twice true true e = refl
    twice true false e = let no : false ≡ true = e in cc
    twice false true e = let no : true ≡ false = e in cc
    twice false false e = refl

-- ---- where runs begin

-- the bits from one on, so many of them, are set
abbrev pub AreSet : ℕ → ℕ → ℕ → Type 0
AreSet mask i n = (k : ℕ) → k < n → IsBitSet mask (i + k)

-- the bits of a number tell where so many bits of the mask are set
abbrev pub AreStarts : ℕ → ℕ → ℕ → Type 0
AreStarts mask starts n = (i : ℕ) → IsBitSet starts i ↔ AreSet mask i n

pub starts_of_one : (mask : ℕ) → AreStarts mask mask 1
starts_of_one mask i = (
  (λ set k h. let same : i + k ≡ i = omega (arith, h) in subst (IsBitSet mask) (sym same) set),
  (λ all. let same : i + 0 ≡ i = omega arith in subst (IsBitSet mask) same (all 0 (omega arith))),
)

shifted_bit : (n step i : ℕ) → bit_at (n / 2 ^ step) i ≡ bit_at n (step + i)
shifted_bit n step i = ap (λ x. x % 2) (shr-shr n step i)

-- twice as many, or fewer
pub more_starts : (mask starts n step : ℕ) → step ≤ n → AreStarts mask starts n → AreStarts mask (bit_and starts (starts / 2 ^ step)) (n + step)
more_starts mask starts n step short is i = (
  (λ set k h.
      let one = set_is_one (bit_and starts (starts / 2 ^ step)) i set in
      elim (leb_tells n k) [
        | inl c ↦
            let behind = c.1 in
            let there = one_is_set starts (step + i) (sym (shifted_bit starts step i) ∙ right_set starts (starts / 2 ^ step) i one) in
            let same : step + i + (k - step) ≡ i + k = omega arith in
            subst (IsBitSet mask) same ((is (step + i)).0 there (k - step) (omega (arith, h)))
        | inr c ↦ (is i).0 (one_is_set starts i (left_set starts (starts / 2 ^ step) i one)) k c.1
      ]),
  (λ all. one_is_set (bit_and starts (starts / 2 ^ step)) i (both_set starts (starts / 2 ^ step) i
      (set_is_one starts i ((is i).1 (λ k h. all k (omega (arith, h)))))
      (shifted_bit starts step i ∙ set_is_one starts (step + i) ((is (step + i)).1 (λ k h. let same : i + (step + k) ≡ step + i + k = omega arith in subst (IsBitSet mask) same (all (step + k) (omega (arith, h)))))))),
)

-- where no run of so many begins, none of more does
pub no_starts : (mask starts n m : ℕ) → starts ≡ 0 → n ≤ m → AreStarts mask starts n → AreStarts mask starts m
no_starts mask starts n m none fewer is i =
    let zero : IsBitSet starts i → ⊥ = λ set. let one = set_is_one starts i set in let bit : bit_at starts i ≡ 0 = ap (λ x. bit_at x i) none ∙ bit_at-zero i in absurd (omega arith) in (
      (λ set. absurd (zero set)),
      (λ all. absurd (zero ((is i).1 (λ k h. all k (omega (arith, h)))))),
    )

-- ---- the first run of so many lines

-- the bits of a run of free lines
run_bits : (t : Tables) (blocks b mask n : ℕ) (q : Run) → IsMask mask (free_in t b) → IsFreeRun t blocks q → q.block ≡ b → n ≤ q.lines → AreSet mask q.line n
run_bits t blocks b mask n q is run same fewer k h =
    let within = run.within in
    (is (q.line + k) (omega (arith, h))).1 (subst (λ x. IsTrue (free_in t x (q.line + k))) same (run.free (q.line + k) (omega arith) (omega (arith, h))))

pub none_fits : (t : Tables) (blocks b mask starts n : ℕ) → IsMask mask (free_in t b) → AreStarts mask starts n → starts ≡ 0 → (q : Run) → IsFreeRun t blocks q → q.block ≡ b → q.lines < n
none_fits t blocks b mask starts n is starts_is none q run same = elim (leb_tells n q.lines) [
  | inl c ↦
      let one = set_is_one starts q.line ((starts_is q.line).1 (run_bits t blocks b mask n q is run same c.1)) in
      let bit : bit_at starts q.line ≡ 0 = ap (λ x. bit_at x q.line) none ∙ bit_at-zero q.line in
      absurd (omega arith)
  | inr c ↦ c.1
]

pub lowest_fits : (t : Tables) (blocks b mask starts n : ℕ) → b < blocks → mask < 2 ^ 128 → starts < 2 ^ 128 → 1 ≤ n → IsMask mask (free_in t b) → AreStarts mask starts n → starts ≢ 0
    → IsFreeRun t blocks (record { block = b; line = trailing_zeros w128 starts; lines = n })
lowest_fits t blocks b mask starts n in_heap fits starts_fit some is starts_is there =
    let at : ℕ = trailing_zeros w128 starts in
    let lowest = bit_at-trailing_zeros w128 starts (omega arith) starts_fit in
    let all = (starts_is at).0 (one_is_set starts at lowest.1) in
    let last = bit_within mask (at + (n - 1)) fits (all (n - 1) (omega arith)) in
    record {
      block = in_heap;
      within = omega arith;
      free = λ i after before.
          let same : at + (i - at) ≡ i = omega (arith, after) in
          (is i (omega (arith, before, last))).0 (subst (IsBitSet mask) same (all (i - at) (omega (arith, after, before))));
    }

pub lowest_first : (t : Tables) (blocks b mask starts n : ℕ) → starts < 2 ^ 128 → IsMask mask (free_in t b) → AreStarts mask starts n → starts ≢ 0
    → (q : Run) → IsFreeRun t blocks q → q.block ≡ b → q.lines ≡ n → trailing_zeros w128 starts ≤ q.line
lowest_first t blocks b mask starts n fits is starts_is there q run same long =
    let lowest = bit_at-trailing_zeros w128 starts (omega arith) fits in
    let one = set_is_one starts q.line ((starts_is q.line).1 (run_bits t blocks b mask n q is run same (omega arith))) in
    elim (leb_tells (trailing_zeros w128 starts) q.line) [
      | inl c ↦ c.1
      | inr c ↦ let none = lowest.2 q.line c.1 in absurd (omega arith)
    ]

-- ---- the longest run

pub longest_bits : (mask best : ℕ) → ((a n : ℕ) → a + n ≤ LINES_IN_BLOCK → AreFree (bits_of mask) a n → n ≤ best) → HasFree (bits_of mask) best → IsLongest (λ i. IsBitSet mask i) best
longest_bits mask best bound has = (
  (λ first many within each. bound first many within (λ i low high.
      let same : first + (i - first) ≡ i = omega (arith, low) in
      eq-eqb (bit_at mask i) 1 (set_is_one mask i (subst (IsBitSet mask) same (each (i - first) (omega (arith, low, high))))))),
  inr (has.0, has.1, λ i h. one_is_set mask (has.0 + i) (eqb-true (bit_at mask (has.0 + i)) 1 (has.2 (has.0 + i) (omega arith) (omega (arith, h))))),
)

pub longest_bound : (t : Tables) (blocks b mask best : ℕ) → IsMask mask (free_in t b) → IsLongest (λ i. IsBitSet mask i) best → (q : Run) → IsFreeRun t blocks q → q.block ≡ b → q.lines ≤ best
longest_bound t blocks b mask best is longest q run same = longest.0 q.line q.lines run.within (run_bits t blocks b mask q.lines q is run same (omega arith))

pub longest_reached : (t : Tables) (blocks b mask best : ℕ) → b < blocks → IsMask mask (free_in t b) → IsLongest (λ i. IsBitSet mask i) best → (q : Run) × IsFreeRun t blocks q × (q.block ≡ b) × (q.lines ≡ best)
longest_reached t blocks b mask best in_heap is (bound, inl none) =
    (record { block = b; line = 0; lines = 0 }, record { block = in_heap; within = omega arith; free = λ i _ no. absurd (omega (arith, no)) }, refl, sym none)
longest_reached t blocks b mask best in_heap is (bound, inr (first, within, each)) = (
  record { block = b; line = first; lines = best },
  record {
    block = in_heap;
    within = within;
    free = λ i low high.
        let same : first + (i - first) ≡ i = omega (arith, low) in
        (is i (omega (arith, high, within))).0 (subst (IsBitSet mask) same (each (i - first) (omega (arith, low, high))));
  },
  refl,
  refl,
)

-- ---- the state by lines

pub full_mask : (t : Tables) (b mask : ℕ) → mask ≡ 2 ^ 128 - 1 → IsMask mask (free_in t b) → Free ≡ state_by_lines t b
full_mask t b mask full is = all_free_state t b (λ i h. told_line mask (free_in t b) i is h (ap (λ x. bit_at x i) full ∙ bit_at_ones 128 i h))

pub empty_mask : (t : Tables) (b mask : ℕ) → mask ≡ 0 → IsMask mask (free_in t b) → Whole ≡ state_by_lines t b
empty_mask t b mask none is = none_free_state t b (λ i h. untold_line mask (free_in t b) i is h (ap (λ x. bit_at x i) none ∙ bit_at-zero i))

pub part_mask : (t : Tables) (b mask : ℕ) → mask < 2 ^ 128 → mask ≢ 2 ^ 128 - 1 → mask ≢ 0 → IsMask mask (free_in t b) → Partly ≡ state_by_lines t b
part_mask t b mask fits not_full not_none is =
    let one = bit_at-trailing_zeros w128 mask (omega arith) fits in
    let none = bit_at-trailing_ones w128 mask (omega arith) in
    some_free_state t b _ _ one.0 (told_line mask (free_in t b) _ is one.0 one.1) none.0 (untold_line mask (free_in t b) _ is none.0 none.1)

-- ---- the next run

-- between the first set bit and the first clear one behind it lies the next run
pub is_next : (free : ℕ → Bool) (mask b from line end : ℕ) → mask < 2 ^ 128 → IsMask mask free → line ≢ LINES_IN_BLOCK
    → ((lines : ℕ → Bool) → IsMask mask lines → IsFirstLine lines true from line) → ((lines : ℕ → Bool) → IsMask (bit_not w128 mask) lines → IsFirstLine lines true line end)
    → IsNextRun free b from (record { block = b; line = line; lines = end - line })
is_next free mask b from line end fits is some front back =
    let first = front free is in
    let behind = turned_first free line end (back (λ i. not (free i)) (other_lines mask free fits is)) in
    let inside = first.within in
    let there = first.there (omega arith) in
    let whole : line + (end - line) ≡ end = let reached = behind.reached in omega arith in
    let longer : line ≢ end = λ same. let taken = behind.there (let within : line < LINES_IN_BLOCK = omega arith in subst (λ x. x < LINES_IN_BLOCK) same within) in let free_there = ap free (sym same) ∙ there in cc in
    record {
      block = refl;
      passed = first;
      some = let reached = behind.reached in omega arith;
      ends = subst (IsFirstLine free false line) (sym whole) behind;
    }
