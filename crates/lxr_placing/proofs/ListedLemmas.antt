-- A space whose runs and free blocks were listed anew is listed, and stands for what it stood for.
use Rattle.std.proofs.Common.{◌≡◌, ◌≢◌, ℕ, ◌+◌, ◌-◌, ◌*◌, ◌<◌, ◌≤◌, refl, sym, ap, subst, ◌∙◌, inl, inr, arith, true, List, [], ◌∷◌, length}
use Rattle.std.proofs.lemmas.Bool.Decides.{eqb_tells, nat_tests}
use Rattle.std.proofs.lemmas.List.{length-map}
use Rattle.std.specs.Prelude.{◌&&◌, map, nat_le, nat_lt, slice_index, if◌then◌else◌}
use Rattle.lxr_layout.specs.declared.TheConstants.{FREE_BLOCK_COUNT, FREE_BLOCK_CURSOR, LINES_IN_BLOCK, MOST_BLOCKS, RUN_COUNT, RUN_CURSOR}
use Rattle.lxr_layout.specs.declared.limits.Limits.{Limits}
use Rattle.lxr_layout.specs.declared.runs.Run.{Run}
use Rattle.lxr_layout.specs.Runs.{word_of_run}
use Rattle.lxr_image.specs.declared.space.Space.{Space}
use Rattle.lxr_image.specs.Tables.{Tables, written}
use Rattle.lxr_image.specs.Spaces.{IsSpace, tables_of}
use Rattle.lxr_blocks.specs.declared.states.BlockState.{BlockState}
use Rattle.lxr_blocks.specs.declared.states.BlockState.TheVariants.{Free}
use Rattle.lxr_blocks.specs.States.{IsOpenRun, state_in}
use Rattle.lxr_blocks.specs.Handing.{first_line}
use Rattle.lxr_blocks.specs.Listing.{TurnsWithRest, block_frees, block_runs, listed_frees, listed_runs, lists_runs, with_lists}
use Rattle.lxr_invariant.specs.Lines.{HasStates}
use Rattle.lxr_invariant.specs.Listed.{AreApartRuns, IsListed, ListsBlock, ListsRun, whole_block}
use Rattle.lxr_placing.proofs.OrderLemmas.{AreInOrder, IsAt, all_in_order, all_of, item_is, item_of, item_read, items_apart, joined_few, joined_is}
use Rattle.lxr_placing.proofs.RunLemmas.{IsListedBlock, IsListedRun, block_few, block_in_order, block_words, frees_few, frees_in_order, line_after, runs_of}

-- ---- the tables

-- what is listed by the tables alone
pub record AreLists (t : Tables) (many : ℕ) : Type 0 where
  pub no_runs_drawn : t.cursors RUN_CURSOR ≡ 0
  pub no_blocks_drawn : t.cursors FREE_BLOCK_CURSOR ≡ 0
  pub few_runs : t.cursors RUN_COUNT ≤ 64 * many
  pub few_blocks : t.cursors FREE_BLOCK_COUNT ≤ many
  pub runs : (k : ℕ) → k < t.cursors RUN_COUNT → (r : Run) × ListsRun t many k r
  pub blocks : (k : ℕ) → k < t.cursors FREE_BLOCK_COUNT → ListsBlock t many k
  pub runs_apart : (j k : ℕ) (q r : Run) → j < k → k < t.cursors RUN_COUNT → ListsRun t many j q → ListsRun t many k r → AreApartRuns q r
  pub blocks_apart : (j k : ℕ) → j < k → k < t.cursors FREE_BLOCK_COUNT → t.frees j ≢ t.frees k
  pub all_apart : (j k : ℕ) (r : Run) → j < t.cursors RUN_COUNT → k < t.cursors FREE_BLOCK_COUNT → ListsRun t many j r → r.block ≢ t.frees k

pub listed_by : (s : Space) → AreLists (tables_of s) s.limits.blocks → s.rest_next ≡ s.rest_end → IsListed s
listed_by s is rest = record {
  no_runs_drawn = is.no_runs_drawn;
  no_blocks_drawn = is.no_blocks_drawn;
  few_runs = is.few_runs;
  few_blocks = is.few_blocks;
  runs = is.runs;
  blocks = is.blocks;
  runs_apart = is.runs_apart;
  blocks_apart = is.blocks_apart;
  all_apart = is.all_apart;
  no_rest = rest;
}

-- ---- words of runs

-- a run is told by its word
pub same_run : (t : Tables) (blocks : ℕ) (q r : Run) → blocks ≤ MOST_BLOCKS → IsOpenRun t blocks q → IsOpenRun t blocks r → word_of_run q ≡ word_of_run r → q ≡ r
same_run t blocks q r few is too same =
    let a = is.run.within in let b = too.run.within in
    let block : q.block ≡ r.block = omega arith in
    let line : q.line ≡ r.line = omega arith in
    let lines : q.lines ≡ r.lines = omega arith in
    λ j. record { block = block j; line = line j; lines = lines j }

-- runs are apart where one ends before the other begins
apart_by : (q r : Run) → line_after q ≤ first_line r → AreApartRuns q r
apart_by q r before = elim (eqb_tells q.block r.block) [
  | inl e ↦ let same = e.1 in inr (inl (omega arith))
  | inr e ↦ inl e.1
]

-- what is read of a list that was written
pub written_read : (f : ℕ → ℕ) (xs : List ℕ) (k : ℕ) → k < length xs → written f 0 xs k ≡ slice_index xs k
written_read f xs k within =
    let test : (nat_le 0 k && nat_lt k (0 + length xs)) ≡ true = grind (arith, nat_tests) in
    ap (λ b. if b then slice_index xs (k - 0) else f k) test ∙ ap (slice_index xs) (let e : k - 0 ≡ k = omega arith in e)

unlisted : (s : BlockState) → lists_runs s ≡ true → s ≢ Free
unlisted s lists is = let k : lists_runs Free ≡ true = ap lists_runs (sym is) ∙ lists in cc

-- of a list of runs of which each is one to be listed, and no two share a line
module _ (t : Tables) (blocks : ℕ) (few : blocks ≤ MOST_BLOCKS) (states : HasStates t blocks) (all_runs : List Run) (words : List ℕ) (words_are : words ≡ map word_of_run all_runs) (few_words : length words ≤ 64 * blocks)
    (each : (k : ℕ) (r : Run) → IsAt all_runs k r → IsListedRun t blocks r) (parted : (j k : ℕ) (q r : Run) → j < k → IsAt all_runs j q → IsAt all_runs k r → AreApartRuns q r) where
  abbrev all_frees : List ℕ
  all_frees = all_of (block_frees t) blocks

  abbrev numbers : List ℕ
  numbers = listed_frees t blocks

  abbrev after : Tables
  after = with_lists t words numbers

  numbers_are : numbers ≡ map (λ n. n) all_frees
  numbers_are = joined_is (λ n. n) (block_frees t) (block_frees t) blocks (λ b. same_numbers (block_frees t b))
    where
      same_numbers : (xs : List ℕ) → xs ≡ map (λ n. n) xs
      same_numbers [] = refl
      same_numbers (x ∷ xs) = ap (λ ys. x ∷ ys) (same_numbers xs)

  frees_ordered : AreInOrder (IsListedBlock t blocks) (λ n. n) (λ n. n + 1) 0 (1 * blocks) all_frees
  frees_ordered = all_in_order (IsListedBlock t blocks) (λ n. n) (λ n. n + 1) (block_frees t) 1 blocks (λ b block. frees_in_order t blocks b states block)

  -- the listed run of a number
  run_of : (k : ℕ) → k < length words → (r : Run) × IsAt all_runs k r × IsListedRun t blocks r × (after.runs k ≡ word_of_run r)
  run_of k within =
      let (r, at) = item_of all_runs k (subst (λ n. k < n) (ap length words_are ∙ length-map all_runs word_of_run) within) in (
        r,
        at,
        each k r at,
        written_read t.runs words k within ∙ ap (λ xs. slice_index xs k) words_are ∙ item_read word_of_run all_runs k r at,
      )

  -- the listed block of a number
  free_of : (k : ℕ) → k < length numbers → (b : ℕ) × IsAt all_frees k b × IsListedBlock t blocks b × (after.frees k ≡ b)
  free_of k within =
      let (b, at) = item_of all_frees k (subst (λ n. k < n) (ap length numbers_are ∙ length-map all_frees (λ n. n)) within) in (
        b,
        at,
        (item_is (IsListedBlock t blocks) (λ n. n) (λ n. n + 1) 0 (1 * blocks) all_frees k b frees_ordered at).0,
        written_read t.frees numbers k within ∙ ap (λ xs. slice_index xs k) numbers_are ∙ item_read (λ n. n) all_frees k b at,
      )

  -- listing opens no run and closes none
  open_then : (r : Run) → IsOpenRun t blocks r → IsOpenRun after blocks r
  open_then r is = record { run = record { block = is.run.block; within = is.run.within; free = is.run.free }; outside = is.outside }

  open_now : (r : Run) → IsOpenRun after blocks r → IsOpenRun t blocks r
  open_now r is = record { run = record { block = is.run.block; within = is.run.within; free = is.run.free }; outside = is.outside }

  -- what a number lists is its run
  run_is : (k : ℕ) (q : Run) → k < length words → ListsRun after blocks k q → IsAt all_runs k q × IsListedRun t blocks q
  run_is k q within lists =
      let (r, at, listed, word) = run_of k within in
      let same : r ≡ q = same_run t blocks r q few listed.run (open_now q lists.run) (sym word ∙ lists.word) in
      (subst (IsAt all_runs k) same at, subst (IsListedRun t blocks) same listed)

  pub are_listed : AreLists after blocks
  are_listed = record {
    no_runs_drawn = refl;
    no_blocks_drawn = refl;
    few_runs = few_words;
    few_blocks = let most = joined_few (block_frees t) 1 blocks (frees_few t) in omega arith;
    runs = λ k within. let (r, at, listed, word) = run_of k within in (r, record { word = word; some = listed.some; run = open_then r listed.run });
    blocks = λ k within. let (b, at, listed, number) = free_of k within in record {
      block = subst (λ z. z < blocks) (sym number) listed.block;
      run = subst (λ z. IsOpenRun after blocks (whole_block z)) (sym number) (open_then (whole_block b) listed.run);
    };
    runs_apart = λ j k q r less within lists too.
        parted j k q r less (run_is j q (omega (arith, less, within)) lists).0 (run_is k r within too).0;
    blocks_apart = λ j k less within e.
        let (b, at, listed, number) = free_of j (omega (arith, less, within)) in
        let (c, at', listed', number') = free_of k within in
        let before = items_apart (IsListedBlock t blocks) (λ n. n) (λ n. n + 1) 0 (1 * blocks) all_frees j k b c frees_ordered less at at' in
        let same : b ≡ c = sym number ∙ e ∙ number' in
        omega arith;
    all_apart = λ j k r in_runs in_frees lists e.
        let (b, at, listed, number) = free_of k in_frees in
        unlisted (state_in t r.block) (run_is j r in_runs lists).1.lists (ap (state_in t) (e ∙ number) ∙ listed.state);
  }

-- so it is of the runs of all blocks, in order
all_are_listed : (t : Tables) (blocks : ℕ) → blocks ≤ MOST_BLOCKS → HasStates t blocks → AreLists (with_lists t (listed_runs t blocks) (listed_frees t blocks)) blocks
all_are_listed t blocks few states =
    let ordered = all_in_order (IsListedRun t blocks) first_line line_after (runs_of t) LINES_IN_BLOCK blocks (block_in_order t blocks) in
    are_listed t blocks few states (all_of (runs_of t) blocks) (listed_runs t blocks) (joined_is word_of_run (block_runs t) (runs_of t) blocks (block_words t)) (joined_few (block_runs t) 64 blocks (block_few t))
    (λ k r at. (item_is (IsListedRun t blocks) first_line line_after 0 (LINES_IN_BLOCK * blocks) (all_of (runs_of t) blocks) k r ordered at).0)
    (λ j k q r less at too. apart_by q r (items_apart (IsListedRun t blocks) first_line line_after 0 (LINES_IN_BLOCK * blocks) (all_of (runs_of t) blocks) j k q r ordered less at too))

-- ---- the space

-- a space that was listed anew is listed
pub listed_now : (s after : Space) → IsSpace s → HasStates (tables_of s) s.limits.blocks
    → TurnsWithRest s after (with_lists (tables_of s) (listed_runs (tables_of s) s.limits.blocks) (listed_frees (tables_of s) s.limits.blocks)) 0 0 → IsListed after
listed_now s after space states lists = listed_by after
    (subst (λ (l : Limits). AreLists (tables_of after) l.blocks) (sym (ap (λ z. z.limits) lists.rest))
    (subst (λ t. AreLists t s.limits.blocks) (sym lists.tables) (all_are_listed (tables_of s) s.limits.blocks space.limits.blocks.1 states)))
    (ap (λ z. z.rest_next) lists.rest ∙ sym (ap (λ z. z.rest_end) lists.rest))
