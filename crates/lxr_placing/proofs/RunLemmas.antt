-- The runs of a block, and its number, as they are listed.
use Rattle.std.proofs.Common.{lit≤, ◌≡◌, ◌≢◌, ℕ, zero, suc, ◌+◌, ◌-◌, ◌*◌, ◌<◌, ◌≤◌, refl, sym, ap, subst, ◌∙◌, inl, inr, ◌⊎◌, arith, Bool, true, false, List, [], ◌∷◌, ◌++◌, length}
use Rattle.std.proofs.lemmas.List.{length-map}
use Rattle.std.proofs.lemmas.Bool.Decides.{eqb_tells, leb_tells}
use Rattle.std.specs.Prelude.{◌&&◌, not, ◌==◌, map, IsTrue, if◌then◌else◌}
use Rattle.lxr_layout.specs.declared.TheConstants.{LINES_IN_BLOCK}
use Rattle.lxr_layout.specs.declared.runs.Run.{Run}
use Rattle.lxr_layout.specs.Runs.{word_of_run}
use Rattle.lxr_image.specs.Runs.{begins_run, free_from, runs_below}
use Rattle.lxr_image.specs.Tables.{Tables}
use Rattle.lxr_blocks.specs.declared.states.BlockState.{BlockState}
use Rattle.lxr_blocks.specs.declared.states.BlockState.TheVariants.{Free, Partly, Whole, Chosen, World}
use Rattle.lxr_blocks.specs.Lines.{free_count, free_in}
use Rattle.lxr_blocks.specs.States.{IsOpenRun, is_fixed, state_in}
use Rattle.lxr_blocks.specs.Handing.{first_line}
use Rattle.lxr_blocks.specs.Listing.{block_frees, block_runs, lists_block, lists_runs}
use Rattle.lxr_image.proofs.RunLemmas.{few_runs}
use Rattle.lxr_invariant.specs.Lines.{HasStates}
use Rattle.lxr_invariant.specs.Listed.{whole_block}
use Rattle.lxr_placing.proofs.OrderLemmas.{AreInOrder, order_append}

-- ---- how far a run reaches

either : (b : Bool) → (b ≡ true) ⊎ (b ≡ false)
either true = inl refl
either false = inr refl

-- it reaches over so many lines at most
reach_within : (free : ℕ → Bool) (a m : ℕ) → free_from free a m ≤ m
unfolding free_from
reach_within free a zero = omega arith
reach_within free a (suc m) = elim (either (free a)) [
  | inl is ↦
      let here : free_from free a (suc m) ≡ suc (free_from free (a + 1) m) = ap (λ x. if x then (suc (free_from free (a + 1) m)) else 0) is in
      let later = reach_within free (a + 1) m in
      omega arith
  | inr is ↦ let here : free_from free a (suc m) ≡ 0 = ap (λ x. if x then (suc (free_from free (a + 1) m)) else 0) is in omega arith
]

-- all its lines are free
reach_free : (free : ℕ → Bool) (a m i : ℕ) → a ≤ i → i < a + free_from free a m → free i ≡ true
unfolding free_from
reach_free free a zero i after before = absurd (omega arith)
reach_free free a (suc m) i after before = elim (either (free a)) [
  | inl is ↦
      let here : free_from free a (suc m) ≡ suc (free_from free (a + 1) m) = ap (λ x. if x then (suc (free_from free (a + 1) m)) else 0) is in
      elim (eqb_tells i a) [
        | inl e ↦ ap free e.1 ∙ is
        | inr e ↦ let ne = e.1 in reach_free free (a + 1) m i (omega arith) (omega arith)
      ]
  | inr is ↦ let here : free_from free a (suc m) ≡ 0 = ap (λ x. if x then (suc (free_from free (a + 1) m)) else 0) is in absurd (omega arith)
]

-- where its first line is free, it has one
reach_some : (free : ℕ → Bool) (a m : ℕ) → 1 ≤ m → free a ≡ true → 1 ≤ free_from free a m
unfolding free_from
reach_some free a zero some is = absurd (omega arith)
reach_some free a (suc m) some is =
    let here : free_from free a (suc m) ≡ suc (free_from free (a + 1) m) = ap (λ x. if x then (suc (free_from free (a + 1) m)) else 0) is in
    omega arith

-- no run goes over a line that isn't free
reach_before : (free : ℕ → Bool) (a m j : ℕ) → a ≤ j → free j ≡ false → a + free_from free a m ≤ j
reach_before free a m j after taken = elim (leb_tells (a + free_from free a m) j) [
  | inl low ↦ low.1
  | inr high ↦ absurd (let is = reach_free free a m j after high.1 in let both : true ≡ false = sym is ∙ taken in cc)
]

-- ---- the runs of a block

begins_free : (free : ℕ → Bool) (k : ℕ) → begins_run free k ≡ true → free k ≡ true
begins_free free zero is = is
begins_free free (suc k) is = elim (either (free (suc k))) [
  | inl here ↦ here
  | inr here ↦ let none : begins_run free (suc k) ≡ false = ap (λ x. x && not (free k)) here in cc
]

begins_behind : (free : ℕ → Bool) (j : ℕ) → begins_run free (suc j) ≡ true → free j ≡ false
begins_behind free j is = elim (either (free j)) [
  | inl before ↦
      let none : begins_run free (suc j) ≡ false = ap (λ x. free (suc j) && not x) before ∙ elim (free (suc j)) as (λ x. (x && false) ≡ false) [ true ↦ refl | false ↦ refl ] in
      cc
  | inr before ↦ before
]

-- the line behind the last one of a run, counted over the whole heap
abbrev pub line_after : Run → ℕ
line_after r = first_line r + r.lines

-- a listed run: it has a line, it is one of free lines outside Chosen blocks, and its block has a state for it
pub record IsListedRun (t : Tables) (blocks : ℕ) (r : Run) : Type 0 where
  pub some : 1 ≤ r.lines
  pub run : IsOpenRun t blocks r
  pub lists : lists_runs (state_in t r.block) ≡ true

-- no run goes on over a line, or it is the last one of a block
abbrev EndsRuns : (ℕ → Bool) → ℕ → Type 0
EndsRuns free m = (m ≡ LINES_IN_BLOCK) ⊎ ((j : ℕ) → m ≡ suc j → free j ≡ false)

outside : (s : BlockState) → lists_runs s ≡ true → s ≢ Chosen
outside Free is e = cc
outside Partly is e = cc
outside Whole is e = cc
outside Chosen is e = cc
outside World is e = cc

module _ (t : Tables) (blocks b : ℕ) (block : b < blocks) (lists : lists_runs (state_in t b) ≡ true) where
  abbrev free : ℕ → Bool
  free = free_in t b

  abbrev run_at : ℕ → Run
  run_at k = record { block = b; line = k; lines = free_from free k (LINES_IN_BLOCK - k) }

  run_ends : (k m : ℕ) → k < m → m ≤ LINES_IN_BLOCK → EndsRuns free m → k + free_from free k (LINES_IN_BLOCK - k) ≤ m
  run_ends k m less within (inl last) = let reach = reach_within free k (LINES_IN_BLOCK - k) in omega arith
  run_ends k zero less within (inr taken) = absurd (omega arith)
  run_ends k (suc j) less within (inr taken) = let reach = reach_before free k (LINES_IN_BLOCK - k) j (omega arith) (taken j refl) in omega arith

  run_listed : (k : ℕ) → k < LINES_IN_BLOCK → begins_run free k ≡ true → IsListedRun t blocks (run_at k)
  run_listed k within begins = record {
    some = reach_some free k (LINES_IN_BLOCK - k) (omega arith) (begins_free free k begins);
    run = record {
      run = record {
        block = block;
        within = let reach = reach_within free k (LINES_IN_BLOCK - k) in omega arith;
        free = λ i after before. reach_free free k (LINES_IN_BLOCK - k) i after before;
      };
      outside = outside (state_in t b) lists;
    };
    lists = lists;
  }

  -- the runs that begin below a line stand in order up to each line that no run goes on over
  runs_in_order : (k m : ℕ) → k ≤ m → m ≤ LINES_IN_BLOCK → EndsRuns free m → AreInOrder (IsListedRun t blocks) first_line line_after (LINES_IN_BLOCK * b) (LINES_IN_BLOCK * b + m) (runs_below free b k)
  unfolding runs_below
  runs_in_order zero m before within ends = omega arith
  runs_in_order (suc k) m before within ends = elim (either (begins_run free k)) [
    | inl begins ↦
        let reach = run_ends k m (omega arith) within ends in
        subst (λ x. AreInOrder (IsListedRun t blocks) first_line line_after (LINES_IN_BLOCK * b) (LINES_IN_BLOCK * b + m) (runs_below free b k ++ (if x then (run_at k ∷ []) else []))) (sym begins)
        (order_append (IsListedRun t blocks) first_line line_after (LINES_IN_BLOCK * b) (LINES_IN_BLOCK * b + k) (LINES_IN_BLOCK * b + m) (runs_below free b k) (run_at k ∷ [])
        (runs_in_order k k (omega arith) (omega arith) (inr (λ j e. begins_behind free j (subst (λ z. begins_run free z ≡ true) e begins))))
        (omega arith, omega arith, run_listed k (omega arith) begins, omega arith))
    | inr none ↦
        subst (λ x. AreInOrder (IsListedRun t blocks) first_line line_after (LINES_IN_BLOCK * b) (LINES_IN_BLOCK * b + m) (runs_below free b k ++ (if x then (run_at k ∷ []) else []))) (sym none)
        (order_append (IsListedRun t blocks) first_line line_after (LINES_IN_BLOCK * b) (LINES_IN_BLOCK * b + m) (LINES_IN_BLOCK * b + m) (runs_below free b k) []
        (runs_in_order k m (omega arith) within ends) (omega arith))
  ]

-- ---- the listed runs of a block

abbrev pub runs_of : Tables → ℕ → List Run
runs_of t b = if lists_runs (state_in t b) then (runs_below (free_in t b) b LINES_IN_BLOCK) else []

pub block_in_order : (t : Tables) (blocks b : ℕ) → b < blocks → AreInOrder (IsListedRun t blocks) first_line line_after (LINES_IN_BLOCK * b) (LINES_IN_BLOCK * (b + 1)) (runs_of t b)
block_in_order t blocks b block = elim (either (lists_runs (state_in t b))) [
  | inl lists ↦
      subst (λ x. AreInOrder (IsListedRun t blocks) first_line line_after (LINES_IN_BLOCK * b) (LINES_IN_BLOCK * (b + 1)) (if x then (runs_below (free_in t b) b LINES_IN_BLOCK) else [])) (sym lists)
      (subst (λ z. AreInOrder (IsListedRun t blocks) first_line line_after (LINES_IN_BLOCK * b) z (runs_below (free_in t b) b LINES_IN_BLOCK)) (let e : LINES_IN_BLOCK * b + LINES_IN_BLOCK ≡ LINES_IN_BLOCK * (b + 1) = omega arith in e)
      (runs_in_order t blocks b block lists LINES_IN_BLOCK LINES_IN_BLOCK (omega arith) (omega arith) (inl refl)))
  | inr none ↦
      subst (λ x. AreInOrder (IsListedRun t blocks) first_line line_after (LINES_IN_BLOCK * b) (LINES_IN_BLOCK * (b + 1)) (if x then (runs_below (free_in t b) b LINES_IN_BLOCK) else [])) (sym none) (let e : LINES_IN_BLOCK * b ≤ LINES_IN_BLOCK * (b + 1) = omega arith in e)
]

pub block_words : (t : Tables) (b : ℕ) → block_runs t b ≡ map word_of_run (runs_of t b)
block_words t b = elim (lists_runs (state_in t b)) as (λ x. (if x then (map word_of_run (runs_below (free_in t b) b LINES_IN_BLOCK)) else []) ≡ map word_of_run (if x then (runs_below (free_in t b) b LINES_IN_BLOCK) else [])) [ true ↦ refl | false ↦ refl ]

pub block_few : (t : Tables) (b : ℕ) → length (block_runs t b) ≤ 64
block_few t b = elim (lists_runs (state_in t b)) as (λ x. length (if x then (map word_of_run (runs_below (free_in t b) b LINES_IN_BLOCK)) else []) ≤ 64) [
  | true ↦ let few = few_runs (free_in t b) b LINES_IN_BLOCK (lit≤ tt) in let same = length-map (runs_below (free_in t b) b LINES_IN_BLOCK) word_of_run in omega arith
  | false ↦ lit≤ tt
]

-- ---- free blocks

count_within : (free : ℕ → Bool) (n : ℕ) → free_count free n ≤ n
unfolding free_count
count_within free zero = omega arith
count_within free (suc n) = let before = count_within free n in elim (free n) as (λ x. free_count free n + (if x then 1 else 0) ≤ suc n) [ true ↦ omega arith | false ↦ omega arith ]

count_taken : (free : ℕ → Bool) (n : ℕ) → free n ≡ false → free_count free (suc n) ≤ n
unfolding free_count
count_taken free n taken =
    let before = count_within free n in
    let here : free_count free n + (if free n then 1 else 0) ≡ free_count free n + 0 = ap (λ x. free_count free n + (if x then 1 else 0)) taken in
    omega arith

count_free : (free : ℕ → Bool) (n : ℕ) → free n ≡ true → free_count free (suc n) ≡ free_count free n + 1
unfolding free_count
count_free free n is = ap (λ x. free_count free n + (if x then 1 else 0)) is

-- all lines are free where as many are
count_full : (free : ℕ → Bool) (n : ℕ) → free_count free n ≡ n → (i : ℕ) → i < n → free i ≡ true
count_full free zero full i within = absurd (omega arith)
count_full free (suc n) full i within = elim (either (free n)) [
  | inl is ↦
      let before = count_free free n is in
      elim (eqb_tells i n) [
        | inl e ↦ ap free e.1 ∙ is
        | inr e ↦ let ne = e.1 in count_full free n (omega arith) i (omega arith)
      ]
  | inr taken ↦ let few = count_taken free n taken in absurd (omega arith)
]

-- a block that is Free by its lines has all of them
free_by_lines : (n : ℕ) → Free ≡ (if n == LINES_IN_BLOCK then Free else (if n == 0 then Whole else Partly)) → n ≡ LINES_IN_BLOCK
free_by_lines n is = elim (eqb_tells n LINES_IN_BLOCK) [
  | inl e ↦ e.1
  | inr e ↦
      let other : Free ≡ (if n == 0 then Whole else Partly) = is ∙ ap (λ x. if x then Free else (if n == 0 then Whole else Partly)) e.0 in
      absurd (unlike (n == 0) other)
]
  where
    unlike : (b : Bool) → Free ≡ (if b then Whole else Partly) → ⊥
    unlike true e = cc
    unlike false e = cc

-- a listed block is a Free one, whose lines are all free
pub record IsListedBlock (t : Tables) (blocks b : ℕ) : Type 0 where
  pub block : b < blocks
  pub state : state_in t b ≡ Free
  pub run : IsOpenRun t blocks (whole_block b)

pub frees_in_order : (t : Tables) (blocks b : ℕ) → HasStates t blocks → b < blocks → AreInOrder (IsListedBlock t blocks) (λ n. n) (λ n. n + 1) (1 * b) (1 * (b + 1)) (block_frees t b)
frees_in_order t blocks b states block = by (state_in t b) refl
  where
    all_free : state_in t b ≡ Free → (i : ℕ) → 0 ≤ i → i < 0 + LINES_IN_BLOCK → IsTrue (free_in t b i)
    all_free is i after before =
        let full = free_by_lines (free_count (free_in t b) LINES_IN_BLOCK) (sym is ∙ states b block (ap is_fixed is)) in
        count_full (free_in t b) LINES_IN_BLOCK full i (omega arith)

    unlisted : lists_block (state_in t b) ≡ false → AreInOrder (IsListedBlock t blocks) (λ n. n) (λ n. n + 1) (1 * b) (1 * (b + 1)) (block_frees t b)
    unlisted is = subst (λ x. AreInOrder (IsListedBlock t blocks) (λ n. n) (λ n. n + 1) (1 * b) (1 * (b + 1)) (if x then (b ∷ []) else [])) (sym is) (let e : 1 * b ≤ 1 * (b + 1) = omega arith in e)

    by : (s : BlockState) → state_in t b ≡ s → AreInOrder (IsListedBlock t blocks) (λ n. n) (λ n. n + 1) (1 * b) (1 * (b + 1)) (block_frees t b)
    by Free is =
        subst (λ x. AreInOrder (IsListedBlock t blocks) (λ n. n) (λ n. n + 1) (1 * b) (1 * (b + 1)) (if lists_block x then (b ∷ []) else [])) (sym is) (
          omega arith,
          omega arith,
          record { block = block; state = is; run = record { run = record { block = block; within = lit≤ tt; free = all_free is }; outside = λ e. let two : Free ≡ Chosen = sym is ∙ e in cc } },
          omega arith,
        )
    by Partly is = unlisted (ap lists_block is)
    by Whole is = unlisted (ap lists_block is)
    by Chosen is = unlisted (ap lists_block is)
    by World is = unlisted (ap lists_block is)

pub frees_few : (t : Tables) (b : ℕ) → length (block_frees t b) ≤ 1
frees_few t b = elim (lists_block (state_in t b)) as (λ x. length (if x then (b ∷ []) else []) ≤ 1) [ true ↦ lit≤ tt | false ↦ lit≤ tt ]
