-- Counts that are 0, and free lines in a row.
use Rattle.std.proofs.Common.{◌≡◌, ◌≢◌, ℕ, zero, suc, ◌+◌, ◌<◌, ◌≤◌, refl, sym, ap, subst, ◌∙◌, inl, inr, ◌⊎◌, arith, Bool, true, false}
use Rattle.std.specs.Prelude.{◌==◌, ◌&&◌, IfNone, IsTrue, None, Option, Some, max, if◌then◌else◌}
use Rattle.std.proofs.Common.{nat_cmp}
use Rattle.std.specs.Ordering.{ord_max}
use Rattle.std.proofs.lemmas.Bool.Decides.{eqb_tells, leb_tells, nat_tests}
use Rattle.lxr_layout.specs.declared.TheConstants.{LINES_IN_BLOCK}
use Rattle.lxr_layout.specs.declared.runs.Run.{Run}
use Rattle.lxr_image.specs.Tables.{Tables}
use Rattle.lxr_blocks.specs.declared.states.BlockState.{BlockState}
use Rattle.lxr_blocks.specs.declared.states.BlockState.TheVariants.{Chosen, Free, Partly, Whole}
use Rattle.lxr_blocks.specs.Lines.{IsFirstLine, IsFreeRun, IsNextRun, are_zero, free_count, free_in}
use Rattle.lxr_blocks.specs.States.{IsOpenRun, state_by_lines, state_in}

-- ---- the test of a line

-- a count that isn't 0
pub zero_ends : (counts : ℕ → ℕ) (g k n : ℕ) → k < n → counts (g + k) ≢ 0 → are_zero counts g n ≡ false
unfolding are_zero
zero_ends counts g k zero within here = absurd (omega arith)
zero_ends counts g k (suc n) within here =
    elim (eqb_tells k n) [
      | inl same ↦ elim (eqb_tells (counts (g + n)) 0) [
        | inl z ↦ absurd (here (ap (λ x. counts (g + x)) same.1 ∙ z.1))
        | inr z ↦ ap (λ x. are_zero counts g n && x) z.0 ∙ elim (are_zero counts g n) as (λ b. (b && false) ≡ false) [ true ↦ refl | false ↦ refl ]
      ]
      | inr other ↦ let ne = other.1 in ap (λ b. b && (counts (g + n) == 0)) (zero_ends counts g k n (omega arith) here)
    ]

-- so many counts are 0 where each is
pub all_zero : (counts : ℕ → ℕ) (g k : ℕ) → ((i : ℕ) → i < k → counts (g + i) ≡ 0) → are_zero counts g k ≡ true
unfolding are_zero
all_zero counts g zero all = refl
all_zero counts g (suc k) all =
    ap (λ b. b && (counts (g + k) == 0)) (all_zero counts g k (λ i h. all i (omega (arith, h)))) ∙ ap (λ n. n == 0) (all k (omega arith))

-- and each is 0 where they are
pub zero_each : (counts : ℕ → ℕ) (g k : ℕ) → are_zero counts g k ≡ true → (i : ℕ) → i < k → counts (g + i) ≡ 0
zero_each counts g k all i within = elim (eqb_tells (counts (g + i)) 0) [
  | inl z ↦ z.1
  | inr z ↦ let no = zero_ends counts g i k within z.1 in cc
]

-- ---- runs

-- free lines that stand in a row
abbrev pub AreFree : (ℕ → Bool) → ℕ → ℕ → Type 0
AreFree free a n = (i : ℕ) → a ≤ i → i < a + n → IsTrue (free i)

-- the lines of a run, by its block
pub free_lines : (t : Tables) (blocks b : ℕ) (q : Run) → IsFreeRun t blocks q → q.block ≡ b → AreFree (free_in t b) q.line q.lines
free_lines t blocks b q is same = subst (λ x. AreFree (free_in t x) q.line q.lines) same is.free

-- free lines behind `from` begin no earlier than the next run
pub behind_front : (free : ℕ → Bool) (b from : ℕ) (r : Run) (a n : ℕ) → IsNextRun free b from r → from ≤ a → 1 ≤ n → AreFree free a n → r.line ≤ a
behind_front free b from r a n is after some all = elim (leb_tells r.line a) [
  | inl k ↦ k.1
  | inr k ↦ let before = k.1 in let taken = is.passed.passed a after before in let there = all a (omega arith) (omega arith) in cc
]

-- free lines behind `from` that begin before the next run ends lie within it
pub within_end : (free : ℕ → Bool) (b from : ℕ) (r : Run) (a n : ℕ) → IsNextRun free b from r → a < r.line + r.lines → a + n ≤ LINES_IN_BLOCK → AreFree free a n → a + n ≤ r.line + r.lines
within_end free b from r a n is before within all = elim (leb_tells (a + n) (r.line + r.lines)) [
  | inl k ↦ k.1
  | inr k ↦ let past = k.1 in let taken = is.ends.there (omega arith) in let there = all (r.line + r.lines) (omega arith) past in cc
]

-- so they are not more than it has
pub not_longer : (free : ℕ → Bool) (b from : ℕ) (r : Run) (a n : ℕ) → IsNextRun free b from r → from ≤ a → a < r.line + r.lines → a + n ≤ LINES_IN_BLOCK → AreFree free a n → n ≤ r.lines
not_longer free b from r a zero is after before within all = omega arith
not_longer free b from r a (suc n) is after before within all =
    let front = behind_front free b from r a (suc n) is after (omega arith) all in
    let end = within_end free b from r a (suc n) is before within all in
    omega arith

-- no free line stands behind `from`
pub none_behind : (free : ℕ → Bool) (from a n : ℕ) → IsFirstLine free true from LINES_IN_BLOCK → from ≤ a → a + n ≤ LINES_IN_BLOCK → AreFree free a n → n ≡ 0
none_behind free from a zero is after within all = refl
none_behind free from a (suc n) is after within all =
    let taken = is.passed a after (omega arith) in let there = all a (omega arith) (omega arith) in cc

-- the next run is a run
pub next_is_run : (t : Tables) (blocks b from : ℕ) (r : Run) → b < blocks → IsNextRun (free_in t b) b from r → IsFreeRun t blocks r
next_is_run t blocks b from r within is = record {
  block = subst (λ x. x < blocks) (sym is.block) within;
  within = is.ends.within;
  free = subst (λ x. AreFree (free_in t x) r.line r.lines) (sym is.block) is.ends.passed;
}

-- ---- the longest run of a block

-- no free lines that begin before a line are more
abbrev pub NoneLonger : (ℕ → Bool) → ℕ → ℕ → Type 0
NoneLonger free line best = (a n : ℕ) → a + n ≤ LINES_IN_BLOCK → AreFree free a n → a < line → n ≤ best

pub longer_none : (free : ℕ → Bool) (best : ℕ) → NoneLonger free 0 best
longer_none free best a n within all before = absurd (omega arith)

pub longer_more : (free : ℕ → Bool) (b from best : ℕ) (r : Run) → IsNextRun free b from r → NoneLonger free from best → NoneLonger free (r.line + r.lines) (max best r.lines)
longer_more free b from best r next before a n within all here = elim (leb_tells from a) [
  | inl k ↦ let short = not_longer free b from r a n next k.1 here within all in omega arith
  | inr k ↦ let short = before a n within all k.1 in omega arith
]

pub longer_end : (free : ℕ → Bool) (from best : ℕ) → IsFirstLine free true from LINES_IN_BLOCK → NoneLonger free from best → (a n : ℕ) → a + n ≤ LINES_IN_BLOCK → AreFree free a n → n ≤ best
longer_end free from best none before a n within all = elim (leb_tells from a) [
  | inl k ↦ let no_lines = none_behind free from a n none k.1 within all in omega arith
  | inr k ↦ before a n within all k.1
]

-- so many free lines stand in a row
abbrev pub HasFree : (ℕ → Bool) → ℕ → Type 0
HasFree free n = (a : ℕ) × (a + n ≤ LINES_IN_BLOCK) × AreFree free a n

pub has_none : (free : ℕ → Bool) → HasFree free 0
has_none free = (0, omega arith, λ i _ no. absurd (omega (arith, no)))

pub has_longer : (free : ℕ → Bool) (b from best : ℕ) (r : Run) → IsNextRun free b from r → HasFree free best → HasFree free (max best r.lines)
has_longer free b from best r next has = elim (leb_tells best r.lines) [
  | inl k ↦ let above = k.1 in let within = next.ends.within in let most : max best r.lines ≡ r.lines = omega arith in subst (HasFree free) (sym most) (r.line, within, next.ends.passed)
  | inr k ↦ let below = k.1 in let most : max best r.lines ≡ best = omega arith in subst (HasFree free) (sym most) has
]

pub greater_is : (a b : ℕ) → ord_max nat_cmp a b ≡ max a b
greater_is a b = grind (arith, nat_tests)

-- a run of a block that isn't Chosen
pub open_of : (t : Tables) (blocks b : ℕ) (q : Run) → state_in t b ≢ Chosen → IsFreeRun t blocks q → q.block ≡ b → IsOpenRun t blocks q
open_of t blocks b q outside is same = record { run = is; outside = subst (λ x. state_in t x ≢ Chosen) (sym same) outside }

-- where no free lines of a block are so many, no open ones are
pub none_open : {X : Type 0} (o : Option X) (t : Tables) (blocks b n : ℕ) → IfNone o ((q : Run) → IsFreeRun t blocks q → q.block ≡ b → q.lines < n)
    → IfNone o ((q : Run) → IsOpenRun t blocks q → q.block ≡ b → q.lines < n)
none_open None t blocks b n none = λ q is. none q is.run
none_open (Some x) t blocks b n none = tt

-- ---- the state by lines

count_all : (free : ℕ → Bool) (n : ℕ) → ((i : ℕ) → i < n → free i ≡ true) → free_count free n ≡ n
unfolding free_count
count_all free zero all = refl
count_all free (suc n) all =
    let before = count_all free n (λ i h. all i (omega (arith, h))) in
    let here = ap (λ b. free_count free n + (if b then 1 else 0)) (all n (omega arith)) in omega arith

count_none : (free : ℕ → Bool) (n : ℕ) → ((i : ℕ) → i < n → free i ≡ false) → free_count free n ≡ 0
unfolding free_count
count_none free zero all = refl
count_none free (suc n) all =
    let before = count_none free n (λ i h. all i (omega (arith, h))) in
    let here = ap (λ b. free_count free n + (if b then 1 else 0)) (all n (omega arith)) in omega arith

one_at_most : (b : Bool) → (if b then 1 else 0) ≤ 1
one_at_most true = omega arith
one_at_most false = omega arith

count_within : (free : ℕ → Bool) (n : ℕ) → free_count free n ≤ n
unfolding free_count
count_within free zero = omega arith
count_within free (suc n) = let before = count_within free n in let here = one_at_most (free n) in omega arith

count_some : (free : ℕ → Bool) (i n : ℕ) → i < n → free i ≡ true → 1 ≤ free_count free n
unfolding free_count
count_some free i zero within is = absurd (omega arith)
count_some free i (suc n) within is = elim (eqb_tells i n) [
  | inl k ↦ let here = ap (λ b. free_count free n + (if b then 1 else 0)) (sym (ap free k.1) ∙ is) in omega arith
  | inr k ↦ let ne = k.1 in let before = count_some free i n (omega arith) is in omega arith
]

count_less : (free : ℕ → Bool) (i n : ℕ) → i < n → free i ≡ false → free_count free n < n
unfolding free_count
count_less free i zero within is = absurd (omega arith)
count_less free i (suc n) within is = elim (eqb_tells i n) [
  | inl k ↦ let here = ap (λ b. free_count free n + (if b then 1 else 0)) (sym (ap free k.1) ∙ is) in let before = count_within free n in omega arith
  | inr k ↦ let ne = k.1 in let before = count_less free i n (omega arith) is in let here = one_at_most (free n) in omega arith
]

-- where some are free there is one, and where not all are there is another
pub count_has : (free : ℕ → Bool) (n : ℕ) → 1 ≤ free_count free n → (i : ℕ) × (i < n) × (free i ≡ true)
unfolding free_count
count_has free zero some = absurd (omega arith)
count_has free (suc n) some = elim (free n) as (λ b. free n ≡ b → (i : ℕ) × (i < suc n) × (free i ≡ true)) [
  | true ↦ λ e. (n, omega arith, e)
  | false ↦ λ e.
      let here = ap (λ b. free_count free n + (if b then 1 else 0)) e in
      let before = count_has free n (omega arith) in (before.0, (let h = before.1 in omega arith), before.2)
] refl

pub count_lacks : (free : ℕ → Bool) (n : ℕ) → free_count free n < n → (i : ℕ) × (i < n) × (free i ≡ false)
unfolding free_count
count_lacks free zero less = absurd (omega arith)
count_lacks free (suc n) less = elim (free n) as (λ b. free n ≡ b → (i : ℕ) × (i < suc n) × (free i ≡ false)) [
  | false ↦ λ e. (n, omega arith, e)
  | true ↦ λ e.
      let here = ap (λ b. free_count free n + (if b then 1 else 0)) e in
      let before = count_lacks free n (omega arith) in (before.0, (let h = before.1 in omega arith), before.2)
] refl

abbrev by_count : ℕ → BlockState
by_count n = if n == LINES_IN_BLOCK then Free else (if n == 0 then Whole else Partly)

partly_by_count : (n : ℕ) → 1 ≤ n → n < LINES_IN_BLOCK → Partly ≡ by_count n
partly_by_count n some less = elim (eqb_tells n LINES_IN_BLOCK) [
  | inl k ↦ let is = k.1 in absurd (omega arith)
  | inr k ↦ elim (eqb_tells n 0) [
    | inl z ↦ let is = z.1 in absurd (omega arith)
    | inr z ↦ sym (ap (λ b. if b then Free else (if n == 0 then Whole else Partly)) k.0 ∙ ap (λ b. if b then Whole else Partly) z.0)
  ]
]

pub all_free_state : (t : Tables) (b : ℕ) → ((i : ℕ) → i < LINES_IN_BLOCK → free_in t b i ≡ true) → Free ≡ state_by_lines t b
all_free_state t b all = sym (ap by_count (count_all (free_in t b) LINES_IN_BLOCK all))

pub none_free_state : (t : Tables) (b : ℕ) → ((i : ℕ) → i < LINES_IN_BLOCK → free_in t b i ≡ false) → Whole ≡ state_by_lines t b
none_free_state t b none = sym (ap by_count (count_none (free_in t b) LINES_IN_BLOCK none))

pub some_free_state : (t : Tables) (b free taken : ℕ) → free < LINES_IN_BLOCK → free_in t b free ≡ true → taken < LINES_IN_BLOCK → free_in t b taken ≡ false → Partly ≡ state_by_lines t b
some_free_state t b free taken free_within is taken_within is_not =
    partly_by_count (free_count (free_in t b) LINES_IN_BLOCK) (count_some (free_in t b) free LINES_IN_BLOCK free_within is) (count_less (free_in t b) taken LINES_IN_BLOCK taken_within is_not)

-- what each state says of the lines
pub free_or_not : (t : Tables) (b : ℕ) →
    ((state_by_lines t b ≡ Free) × ((i : ℕ) → i < LINES_IN_BLOCK → free_in t b i ≡ true))
    ⊎ ((state_by_lines t b ≡ Partly) × ((i : ℕ) × (i < LINES_IN_BLOCK) × (free_in t b i ≡ true)) × ((i : ℕ) × (i < LINES_IN_BLOCK) × (free_in t b i ≡ false)))
    ⊎ ((state_by_lines t b ≡ Whole) × ((i : ℕ) → i < LINES_IN_BLOCK → free_in t b i ≡ false))
free_or_not t b =
    let free = free_in t b in
    let many : ℕ = free_count free LINES_IN_BLOCK in
    elim (eqb_tells many LINES_IN_BLOCK) [
      | inl all ↦ let is = all.1 in
          let each : (i : ℕ) → i < LINES_IN_BLOCK → free i ≡ true = λ i within. elim (free i) as (λ x. free i ≡ x → x ≡ true) [
            | true ↦ λ e. refl
            | false ↦ λ e. let less = count_less free i LINES_IN_BLOCK within e in absurd (omega arith)
          ] refl in
          inl (sym (all_free_state t b each), each)
      | inr other ↦ let ne = other.1 in elim (eqb_tells many 0) [
        | inl none ↦ let is = none.1 in
            let each : (i : ℕ) → i < LINES_IN_BLOCK → free i ≡ false = λ i within. elim (free i) as (λ x. free i ≡ x → x ≡ false) [
              | false ↦ λ e. refl
              | true ↦ λ e. let some = count_some free i LINES_IN_BLOCK within e in absurd (omega arith)
            ] refl in
            inr (inr (sym (none_free_state t b each), each))
        | inr some ↦ let more = some.1 in
            let within = count_within free LINES_IN_BLOCK in
            let one = count_has free LINES_IN_BLOCK (omega arith) in
            let other = count_lacks free LINES_IN_BLOCK (omega arith) in
            inr (inl (sym (some_free_state t b one.0 other.0 one.1 one.2 other.1 other.2), one, other))
      ]
    ]

-- a block with a line that isn't free isn't Free by its lines
free_by_count : (n : ℕ) → by_count n ≡ Free → n ≡ LINES_IN_BLOCK
free_by_count n is = elim (eqb_tells n LINES_IN_BLOCK) [
  | inl k ↦ k.1
  | inr k ↦ elim (eqb_tells n 0) [
    | inl z ↦ let other : Whole ≡ Free = sym (ap (λ b. if b then Free else (if n == 0 then Whole else Partly)) k.0 ∙ ap (λ b. if b then Whole else Partly) z.0) ∙ is in cc
    | inr z ↦ let other : Partly ≡ Free = sym (ap (λ b. if b then Free else (if n == 0 then Whole else Partly)) k.0 ∙ ap (λ b. if b then Whole else Partly) z.0) ∙ is in cc
  ]
]

pub taken_by_lines : (t : Tables) (b i : ℕ) → i < LINES_IN_BLOCK → free_in t b i ≡ false → state_by_lines t b ≢ Free
taken_by_lines t b i within taken is =
    let all = free_by_count (free_count (free_in t b) LINES_IN_BLOCK) is in
    let less = count_less (free_in t b) i LINES_IN_BLOCK within taken in omega arith
