-- To list an opened space anew would change nothing: its tables have the one run that the world leaves of its block, and the
-- numbers of all other blocks.
use Rattle.std.proofs.Common.{lit≤, ◌≡◌, ℕ, zero, suc, ◌+◌, ◌-◌, ◌<◌, ◌≤◌, refl, sym, ap, subst, ◌∙◌, inl, inr, arith, true, false, List, [], ◌∷◌, ◌++◌, length, length-append}
use Rattle.std.proofs.Math.Seq.{get_or-append_seam}
use Rattle.std.proofs.lemmas.Bool.Decides.{eqb_tells, leb_tells, nat_tests}
use Rattle.std.proofs.lemmas.List.{append-nil, get_or_append_left}
use Rattle.std.specs.Prelude.{Bool, ◌&&◌, map, nat_le, not, nat_lt, slice_index, if◌then◌else◌}
use Rattle.lxr_layout.specs.declared.TheConstants.{FREE_BLOCK_COUNT, FREE_BLOCK_CURSOR, LINES_IN_BLOCK, MOST_BLOCKS, RUN_COUNT, RUN_CURSOR}
use Rattle.lxr_layout.specs.declared.limits.Limits.{Limits}
use Rattle.lxr_layout.specs.Runs.{word_of_run}
use Rattle.lxr_layout.specs.Spaces.{AreLimits}
use Rattle.lxr_image.specs.declared.space.Space.{Space}
use Rattle.lxr_image.specs.Opened.{IsOpened, first_run, opened_tables}
use Rattle.lxr_image.specs.Spaces.{IsSpace, tables_of}
use Rattle.lxr_image.specs.Runs.{begins_run, free_from, runs_below}
use Rattle.lxr_image.specs.Tables.{Tables, changed, written}
use Rattle.lxr_blocks.specs.Lines.{are_zero, free_in}
use Rattle.lxr_blocks.specs.Listing.{block_frees, block_runs, joined, listed_frees, listed_runs, lists_block, lists_runs, run_words, with_lists}
use Rattle.lxr_invariant.proofs.OpeningLemmas.{free_at}
use Rattle.lxr_placing.specs.Listing.{ListsAll}
use Rattle.lxr_placing.proofs.ListedLemmas.{written_read}
use Rattle.lxr_placing.proofs.OpenedListLemmas.{free_line, number_of}

-- ---- what is written where it stands already

-- one number
changed_same : (f : ℕ → ℕ) (at v : ℕ) → f at ≡ v → f ≡ changed f at v
changed_same f at v there = λ i k. each k i
  where
    each : (k : ℕ) → f k ≡ changed f at v k
    each k = elim (eqb_tells k at) [
      | inl e ↦ ap f e.1 ∙ there ∙ sym (ap (λ b. if b then v else f k) e.0)
      | inr e ↦ sym (ap (λ b. if b then v else f k) e.0)
    ]

-- all numbers of a list
written_same : (f : ℕ → ℕ) (xs : List ℕ) → ((k : ℕ) → k < length xs → slice_index xs k ≡ f k) → f ≡ written f 0 xs
written_same f xs there = λ i k. each k i
  where
    each : (k : ℕ) → f k ≡ written f 0 xs k
    each k = elim (leb_tells (length xs) k) [
      | inl e ↦
          let long = e.1 in
          let test : nat_lt k (0 + length xs) ≡ false = grind (arith, nat_tests) in
          let none : (nat_le 0 k && nat_lt k (0 + length xs)) ≡ false = grind (arith, nat_tests) in
          sym (ap (λ b. if b then (slice_index xs (k - 0)) else f k) none)
      | inr e ↦ sym (written_read f xs k e.1 ∙ there k e.1)
    ]

-- ---- the one run of the world's block

-- all of so many lines are free
all_free : (free : ℕ → Bool) (a m : ℕ) → ((i : ℕ) → a ≤ i → free i ≡ true) → free_from free a m ≡ m
unfolding free_from
all_free free a zero each = refl
all_free free a (suc m) each =
    ap (λ b. if b then (suc (free_from free (a + 1) m)) else 0) (each a (omega arith)) ∙ ap suc (all_free free (a + 1) m (λ i after. each i (omega arith)))

-- no run begins behind a free line
begins_no_more : (free : ℕ → Bool) (i : ℕ) → free i ≡ true → begins_run free (suc i) ≡ false
begins_no_more free i is = elim (free (suc i)) as (λ b. (b && not (free i)) ≡ false) [ true ↦ ap not is | false ↦ refl ]

-- one line more, where no run begins
runs_step : (free : ℕ → Bool) (k : ℕ) → begins_run free k ≡ false → runs_below free 0 (suc k) ≡ runs_below free 0 k
unfolding runs_below
runs_step free k none =
    ap (λ b. runs_below free 0 k ++ (if b then (record { block = 0; line = k; lines = free_from free k (LINES_IN_BLOCK - k) } ∷ []) else [])) none
    ∙ append-nil (runs_below free 0 k)

-- none begins on the first three lines, and one on the fourth
first_begins : (free : ℕ → Bool) → free 0 ≡ false → free 1 ≡ false → free 2 ≡ false → ((i : ℕ) → 3 ≤ i → free i ≡ true) → runs_below free 0 4 ≡ first_run ∷ []
unfolding runs_below
first_begins free none none' none'' each =
    let begins : begins_run free 3 ≡ true = ap (λ b. b && not (free 2)) (each 3 (lit≤ tt)) ∙ ap not none'' in
    let before : runs_below free 0 3 ≡ [] =
    runs_step free 2 (ap (λ b. b && not (free 1)) none'') ∙ runs_step free 1 (ap (λ b. b && not (free 0)) none') ∙ runs_step free 0 none in
    ap (λ b. runs_below free 0 3 ++ (if b then (record { block = 0; line = 3; lines = free_from free 3 125 } ∷ []) else [])) begins
    ∙ ap (λ xs. xs ++ record { block = 0; line = 3; lines = free_from free 3 125 } ∷ []) before
    ∙ ap (λ n. record { block = 0; line = 3; lines = n } ∷ []) (all_free free 3 125 each)

-- where the first three lines alone are taken, one run goes over all others
one_run : (free : ℕ → Bool) → free 0 ≡ false → free 1 ≡ false → free 2 ≡ false → ((i : ℕ) → 3 ≤ i → free i ≡ true) → (k : ℕ) → runs_below free 0 (k + 4) ≡ first_run ∷ []
one_run free none none' none'' each zero = first_begins free none none' none'' each
one_run free none none' none'' each (suc k) =
    let next : suc k + 4 ≡ suc (k + 4) = omega arith in
    let more : begins_run free (k + 4) ≡ false = ap (begins_run free) (let e : k + 4 ≡ suc (k + 3) = omega arith in e) ∙ begins_no_more free (k + 3) (each (k + 3) (omega arith)) in
    ap (runs_below free 0) next ∙ runs_step free (k + 4) more ∙ one_run free none none' none'' each k

-- so it is of the world's block
world_runs : (l : Limits) → run_words (opened_tables l) 0 ≡ word_of_run first_run ∷ []
unfolding are_zero
world_runs l = ap (map word_of_run) (one_run (free_in (opened_tables l) 0) refl refl refl (λ i after. free_line l 0 i (omega arith)) 124)

-- ---- the tables

module _ (l : Limits) (some : 1 ≤ l.blocks) (few : l.blocks ≤ MOST_BLOCKS) where
  abbrev t : Tables
  t = opened_tables l

  runs_of : (n : ℕ) → joined (block_runs t) (suc n) ≡ word_of_run first_run ∷ []
  unfolding joined
  runs_of zero = world_runs l
  runs_of (suc n) =
      let none : block_runs t (suc n) ≡ [] = ap (λ s. if lists_runs s then (run_words t (suc n)) else []) (free_at l (suc n) (omega arith)) in
      ap (λ xs. joined (block_runs t) (suc n) ++ xs) none ∙ append-nil (joined (block_runs t) (suc n)) ∙ runs_of n

  own_number : (n : ℕ) → block_frees t (suc n) ≡ suc n ∷ []
  own_number n = ap (λ s. if lists_block s then (suc n ∷ []) else []) (free_at l (suc n) (omega arith))

  frees_many : (n : ℕ) → length (joined (block_frees t) (suc n)) ≡ n
  unfolding joined
  frees_many zero = refl
  frees_many (suc n) =
      let longer = length-append (joined (block_frees t) (suc n)) (block_frees t (suc n)) in
      let one : length (block_frees t (suc n)) ≡ 1 = ap length (own_number n) in
      let before = frees_many n in
      omega arith

  frees_of : (n k : ℕ) → k < n → slice_index (joined (block_frees t) (suc n)) k ≡ k + 1
  unfolding joined
  frees_of zero k within = absurd (omega arith)
  frees_of (suc n) k within =
      let long = frees_many n in
      elim (eqb_tells k n) [
        | inl e ↦
            let here : k ≡ length (joined (block_frees t) (suc n)) = e.1 ∙ sym long in
            let number : suc n ≡ k + 1 = let last = e.1 in omega arith in
            ap (λ xs. slice_index (joined (block_frees t) (suc n) ++ xs) k) (own_number n)
            ∙ ap (slice_index (joined (block_frees t) (suc n) ++ suc n ∷ [])) here
            ∙ get_or-append_seam (joined (block_frees t) (suc n)) (suc n) [] 0
            ∙ number
        | inr e ↦
            let other = e.1 in
            get_or_append_left (joined (block_frees t) (suc n)) (block_frees t (suc n)) 0 k (omega arith) ∙ frees_of n k (omega arith)
      ]

  abbrev runs : List ℕ
  runs = listed_runs t l.blocks

  abbrev frees : List ℕ
  frees = listed_frees t l.blocks

  blocks_are : suc (l.blocks - 1) ≡ l.blocks
  blocks_are = omega arith

  runs_are : runs ≡ word_of_run first_run ∷ []
  runs_are = ap (joined (block_runs t)) (sym blocks_are) ∙ runs_of (l.blocks - 1)

  count_is : length frees ≡ l.blocks - 1
  count_is = ap (λ n. length (joined (block_frees t) n)) (sym blocks_are) ∙ frees_many (l.blocks - 1)

  runs_written : (k : ℕ) → k < length runs → slice_index runs k ≡ t.runs k
  runs_written k within =
      let one = ap length runs_are in
      let first : k ≡ 0 = omega (arith, within, one) in
      ap (λ xs. slice_index xs k) runs_are ∙ ap (slice_index (word_of_run first_run ∷ [])) first ∙ ap t.runs (sym first)

  frees_written : (k : ℕ) → k < length frees → slice_index frees k ≡ t.frees k
  frees_written k within =
      let low : k < l.blocks - 1 = omega (arith, within, count_is) in
      ap (λ n. slice_index (joined (block_frees t) n) k) (sym blocks_are) ∙ frees_of (l.blocks - 1) k low ∙ sym (number_of l some few k low)

  same_cursors : t.cursors ≡ (with_lists t runs frees).cursors
  same_cursors =
      changed_same t.cursors RUN_CURSOR 0 refl
      ∙ changed_same (changed t.cursors RUN_CURSOR 0) RUN_COUNT (length runs) (sym (ap length runs_are))
      ∙ changed_same (changed (changed t.cursors RUN_CURSOR 0) RUN_COUNT (length runs)) FREE_BLOCK_CURSOR 0 refl
      ∙ changed_same (changed (changed (changed t.cursors RUN_CURSOR 0) RUN_COUNT (length runs)) FREE_BLOCK_CURSOR 0) FREE_BLOCK_COUNT (length frees) (sym count_is)

  -- the lists are written already
  pub same_tables : t ≡ with_lists t runs frees
  same_tables = λ i. record t { runs = written_same t.runs runs runs_written i; frees = written_same t.frees frees frees_written i; cursors = same_cursors i }

pub opened_lists_all : (s : Space) (l : Limits) → IsSpace s → IsOpened s l → ListsAll s s
opened_lists_all s l space opened =
    let limits : AreLimits l = subst AreLimits opened.limits space.limits in
    let blocks : s.limits.blocks ≡ l.blocks = ap (λ (z : Limits). z.blocks) opened.limits in
    record {
      tables = subst (λ n. tables_of s ≡ with_lists (tables_of s) (listed_runs (tables_of s) n) (listed_frees (tables_of s) n)) (sym blocks)
          (subst (λ u. u ≡ with_lists u (listed_runs u l.blocks) (listed_frees u l.blocks)) (sym opened.tables) (same_tables l limits.blocks.0 limits.blocks.1));
      rest = λ i. record s { rest_next = opened.rest.0 i; rest_end = opened.rest.1 i };
    }
