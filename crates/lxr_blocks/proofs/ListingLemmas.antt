-- Runs that are found one after another are the runs of a block, and what is listed block after block is a list.
use Rattle.std.proofs.Common.{◌≡◌, ℕ, zero, suc, ◌+◌, ◌-◌, ◌<◌, ◌≤◌, refl, sym, ap, subst, ◌∙◌, inl, inr, arith, add-one, Bool, true, false, List, [], ◌∷◌, ◌++◌, length, length-append, take, zero-add}
use Rattle.std.proofs.lemmas.List.{append-nil, append_assoc, length-map, map-append}
use Rattle.std.specs.Prelude.{◌≢◌, ◌&&◌, map, not, if◌then◌else◌}
use Rattle.std.proofs.lemmas.Bool.Decides.{eqb_tells}
use Rattle.lxr_layout.specs.declared.TheConstants.{FREE_BLOCK_COUNT, FREE_BLOCK_CURSOR, LINES_IN_BLOCK, RUN_COUNT, RUN_CURSOR}
use Rattle.lxr_layout.specs.declared.runs.Run.{Run}
use Rattle.lxr_layout.specs.Runs.{word_of_run}
use Rattle.lxr_image.specs.declared.space.Space.{Space}
use Rattle.lxr_image.specs.Runs.{begins_run, bits_of, free_from, runs_below, with_runs, words_of_runs}
use Rattle.lxr_image.specs.Tables.{Tables, changed, written}
use Rattle.lxr_image.specs.Spaces.{Turns, tables_of}
use Rattle.lxr_image.proofs.RunLemmas.{begins_no_more, begins_none, few_runs, first_listed, none_begin, one_begins}
use Rattle.lxr_image.proofs.SpaceLemmas.{turns_then}
use Rattle.lxr_image.proofs.WrittenLemmas.{written_more, written_none, written_one}
use Rattle.lxr_blocks.specs.declared.states.BlockState.{BlockState}
use Rattle.lxr_blocks.specs.declared.states.BlockState.TheVariants.{Free, Partly, Whole, Chosen, World}
use Rattle.lxr_blocks.specs.States.{AreFreeBlocks, state_in}
use Rattle.lxr_blocks.specs.Lines.{IsFirstLine, IsNextRun}
use Rattle.lxr_blocks.specs.Masks.{AreEdges}
use Rattle.lxr_blocks.specs.Listing.{block_frees, block_runs, joined, lists_block, lists_runs, TurnsWithRest, numbers_from, run_words, with_counts, with_frees, with_listed, with_lists}

-- ---- runs of a block

-- the length of a run
free_from_is : (free : ℕ → Bool) (a n m : ℕ) → n ≤ m → ((i : ℕ) → a ≤ i → i < a + n → free i ≡ true) → (n < m → free (a + n) ≡ false) → free_from free a m ≡ n
unfolding free_from
free_from_is free a n zero within all ends = omega arith
free_from_is free a zero (suc m) within all ends =
    let taken : free a ≡ false = ap free (let z : a ≡ a + 0 = omega arith in z) ∙ ends (omega arith) in
    ap (λ x. if x then (suc (free_from free (a + 1) m)) else 0) taken
free_from_is free a (suc n) (suc m) within all ends =
    ap (λ x. if x then (suc (free_from free (a + 1) m)) else 0) (all a (omega arith) (omega arith))
    ∙ ap suc (free_from_is free (a + 1) n m (omega arith) (λ i h below. all i (omega (arith, h)) (omega (arith, below)))
    (λ less. ap free (let z : a + 1 + n ≡ a + suc n = omega arith in z) ∙ ends (omega (arith, less))))

-- no run goes on over a line
abbrev pub IsEdge : (ℕ → Bool) → ℕ → Type 0
IsEdge free line = 0 < line → line < LINES_IN_BLOCK → free line ≡ false

begins_at : (free : ℕ → Bool) (from k : ℕ) → IsEdge free from → from ≤ k → k < LINES_IN_BLOCK → ((i : ℕ) → from ≤ i → i < k → free i ≡ false) → free k ≡ true → begins_run free k ≡ true
begins_at free from zero edge after within passed there = there
begins_at free from (suc k) edge after within passed there = elim (eqb_tells from (suc k)) [
  | inl e ↦ let is = e.1 in let taken = ap free (sym is) ∙ edge (omega arith) (omega arith) in cc
  | inr e ↦ let ne = e.1 in ap (λ x. x && not (free k)) there ∙ ap not (passed k (omega arith) (omega arith))
]

behind_begin : (free : ℕ → Bool) (a i : ℕ) → a < i → ((k : ℕ) → a ≤ k → k < i → free k ≡ true) → begins_run free i ≡ false
behind_begin free a zero less all = absurd (omega arith)
behind_begin free a (suc i) less all = begins_no_more free i (all i (omega arith) (omega arith))

-- the next run is the next one of the block's runs
pub next_listed : (free : ℕ → Bool) (b from : ℕ) (r : Run) → IsEdge free from → IsNextRun free b from r → runs_below free b (r.line + r.lines) ≡ runs_below free b from ++ (r ∷ [])
next_listed free b from r edge is =
    let some = is.some in let within = is.ends.within in let reached = is.passed.reached in
    let len : free_from free r.line (LINES_IN_BLOCK - r.line) ≡ r.lines = free_from_is free r.line r.lines (LINES_IN_BLOCK - r.line) (omega arith) is.ends.passed (λ less. is.ends.there (omega (arith, less))) in
    let run : (record { block = b; line = r.line; lines = free_from free r.line (LINES_IN_BLOCK - r.line) }) ≡ r = λ j. record { block = sym is.block j; line = r.line; lines = len j } in
    none_begin free b (suc r.line) (r.line + r.lines) (omega arith) (λ i h below. behind_begin free r.line i (omega (arith, h)) (λ k g less. is.ends.passed k g (omega (arith, below, less))))
    ∙ one_begins free b r.line (begins_at free from r.line edge reached (omega arith) is.passed.passed (is.passed.there (omega arith)))
    ∙ ap (λ x. x ++ (record { block = b; line = r.line; lines = free_from free r.line (LINES_IN_BLOCK - r.line) } ∷ [])) (none_begin free b from r.line reached (λ i h below. begins_none free i (is.passed.passed i h below)))
    ∙ ap (λ x. runs_below free b from ++ (x ∷ [])) run

-- behind the last run there is none
pub last_listed : (free : ℕ → Bool) (b from : ℕ) → IsFirstLine free true from LINES_IN_BLOCK → runs_below free b LINES_IN_BLOCK ≡ runs_below free b from
last_listed free b from none = none_begin free b from LINES_IN_BLOCK none.reached (λ i h below. begins_none free i (none.passed i h below))

pub edge_behind : (free : ℕ → Bool) (b from : ℕ) (r : Run) → IsNextRun free b from r → IsEdge free (r.line + r.lines)
edge_behind free b from r is _ less = is.ends.there less

-- where a run is found, fewer than 64 were found before
pub room_left : (free : ℕ → Bool) (b from : ℕ) (r : Run) → IsEdge free from → IsNextRun free b from r → length (runs_below free b from) + 1 ≤ 64
room_left free b from r edge is =
    let more : length (runs_below free b (r.line + r.lines)) ≡ length (runs_below free b from) + 1 = ap length (next_listed free b from r edge is) ∙ length-append (runs_below free b from) (r ∷ []) in
    let few = few_runs free b (r.line + r.lines) is.ends.within in
    omega arith

-- the words of the runs up to the end of the next one
pub next_words : (free : ℕ → Bool) (b from x : ℕ) (r : Run) → IsEdge free from → IsNextRun free b from r → x ≡ word_of_run r
    → map word_of_run (runs_below free b from) ++ (x ∷ []) ≡ map word_of_run (runs_below free b (r.line + r.lines))
next_words free b from x r edge is word =
    ap (λ w. map word_of_run (runs_below free b from) ++ (w ∷ [])) word
    ∙ sym (map-append word_of_run (runs_below free b from) (r ∷ []))
    ∙ ap (map word_of_run) (sym (next_listed free b from r edge is))

-- Words are those of the runs of a block's lines up to one, whatever lines have the edges that it began with: the edges that are left are those behind this line.
abbrev pub IsFoundTo : (ℕ → Bool) → ℕ → ℕ → List ℕ → ℕ → Type 0
IsFoundTo lines b edges found line = (line ≤ LINES_IN_BLOCK) × AreEdges edges lines line × IsEdge lines line × (found ≡ map word_of_run (runs_below lines b line))

pub found_none : (lines : ℕ → Bool) (b edges : ℕ) → AreEdges edges lines 0 → IsFoundTo lines b edges [] 0
found_none lines b edges are = (omega arith, are, (λ some _. absurd (omega (arith, some))), sym (ap (map word_of_run) (first_listed lines b)))

-- one run more is found
pub found_more : (lines : ℕ → Bool) (b edges after x : ℕ) (found : List ℕ) (line : ℕ) (r : Run) → IsFoundTo lines b edges found line → IsNextRun lines b line r → AreEdges after lines (r.line + r.lines) → x ≡ word_of_run r
    → IsFoundTo lines b after (found ++ (x ∷ [])) (r.line + r.lines)
found_more lines b edges after x found line r is next left word =
    (next.ends.within, left, edge_behind lines b line r next, ap (λ xs. xs ++ (x ∷ [])) is.3 ∙ next_words lines b line x r is.2 next word)

-- there was room for it
pub found_room : (lines : ℕ → Bool) (b edges : ℕ) (found : List ℕ) (line : ℕ) (r : Run) → IsFoundTo lines b edges found line → IsNextRun lines b line r → length found + 1 ≤ 64
found_room lines b edges found line r is next =
    let left = room_left lines b line r is.2 next in let same = ap length is.3 in let many = length-map (runs_below lines b line) word_of_run in
    omega arith

-- where there is none, all are found
pub found_all : (lines : ℕ → Bool) (b edges : ℕ) (found : List ℕ) (line : ℕ) → IsFoundTo lines b edges found line → IsFirstLine lines true line LINES_IN_BLOCK → found ≡ words_of_runs lines b
found_all lines b edges found line is none = is.3 ∙ ap (map word_of_run) (sym (last_listed lines b line none))

-- the words that were found so far stand at the front of a row
pub record HasFound (free b edges : ℕ) (words : List ℕ) (many : ℕ) : Type 0 where
  pub most : many ≤ 64
  pub row : length words ≡ 64
  pub found : (line : ℕ) × IsFoundTo (bits_of free) b edges (take many words) line

pub joined_more : (f : ℕ → List ℕ) (b : ℕ) → joined f b ++ f b ≡ joined f (b + 1)
unfolding joined
joined_more f b = rw add-one refl

pub joined_none : (f : ℕ → List ℕ) → joined f 0 ≡ []
unfolding joined
joined_none f = refl

-- ---- blocks of which nothing is listed, or the number

-- where the blocks from one on have none, more of them have no more
pub joined_same : (f : ℕ → List ℕ) (from many : ℕ) → ((b : ℕ) → from ≤ b → b < from + many → f b ≡ []) → joined f (from + many) ≡ joined f from
joined_same f from zero none = ap (joined f) (let z : from + 0 ≡ from = omega arith in z)
joined_same f from (suc many) none =
    ap (joined f) (let z : from + suc many ≡ from + many + 1 = omega arith in z)
    ∙ sym (joined_more f (from + many))
    ∙ ap (λ x. joined f (from + many) ++ x) (none (from + many) (omega arith) (omega arith))
    ∙ append-nil (joined f (from + many))
    ∙ joined_same f from many (λ b h below. none b h (omega (arith, below)))

-- where each of them has its number, they have their numbers
joined_numbers : (f : ℕ → List ℕ) (from many : ℕ) → ((b : ℕ) → from ≤ b → b < from + many → f b ≡ b ∷ []) → joined f from ++ numbers_from from many ≡ joined f (from + many)
unfolding numbers_from
joined_numbers f from zero each = append-nil (joined f from) ∙ ap (joined f) (let z : from ≡ from + 0 = omega arith in z)
joined_numbers f from (suc many) each =
    sym (append_assoc (joined f from) (numbers_from from many) ((from + many) ∷ []))
    ∙ ap (λ x. x ++ ((from + many) ∷ [])) (joined_numbers f from many (λ b h below. each b h (omega (arith, below))))
    ∙ ap (λ x. joined f (from + many) ++ x) (sym (each (from + many) (omega arith) (omega arith)))
    ∙ joined_more f (from + many)
    ∙ ap (joined f) (let z : from + many + 1 ≡ from + suc many = omega arith in z)

pub length_numbers : (from many : ℕ) → length (numbers_from from many) ≡ many
unfolding numbers_from
length_numbers from zero = refl
length_numbers from (suc many) = let more = length-append (numbers_from from many) ((from + many) ∷ []) in let before = length_numbers from many in omega arith

no_numbers : (from : ℕ) → numbers_from from 0 ≡ []
unfolding numbers_from
no_numbers from = refl

pub numbers_more : (from many : ℕ) → numbers_from from many ++ ((from + many) ∷ []) ≡ numbers_from from (many + 1)
unfolding numbers_from
numbers_more from many = rw add-one refl

-- a Free block lists its number and no runs
pub free_lists_none : (t : Tables) (b : ℕ) → state_in t b ≡ Free → block_runs t b ≡ []
free_lists_none t b free = ap (λ s. if lists_runs s then (run_words t b) else []) free

free_lists_itself : (t : Tables) (b : ℕ) → state_in t b ≡ Free → block_frees t b ≡ b ∷ []
free_lists_itself t b free = ap (λ s. if lists_block s then (b ∷ []) else []) free

-- another lists no number
pub used_lists_none : (t : Tables) (b : ℕ) → state_in t b ≢ Free → block_frees t b ≡ []
used_lists_none t b used = ap (λ x. if x then (b ∷ []) else []) (another (state_in t b) used)
  where
    another : (s : BlockState) → s ≢ Free → lists_block s ≡ false
    another Free n = absurd (n refl)
    another Partly n = refl
    another Whole n = refl
    another Chosen n = refl
    another World n = refl

-- over Free blocks no run is listed, and each number
pub runs_over_free : (t : Tables) (from end : ℕ) → from ≤ end → AreFreeBlocks t from end → joined (block_runs t) end ≡ joined (block_runs t) from
runs_over_free t from end order free =
    let place : from + (end - from) ≡ end = omega arith in
    ap (joined (block_runs t)) (sym place) ∙ joined_same (block_runs t) from (end - from) (λ b h below. free_lists_none t b (free b h (omega (arith, below))))

pub frees_over_free : (t : Tables) (from end : ℕ) → from ≤ end → AreFreeBlocks t from end → joined (block_frees t) from ++ numbers_from from (end - from) ≡ joined (block_frees t) end
frees_over_free t from end order free =
    let place : from + (end - from) ≡ end = omega arith in
    joined_numbers (block_frees t) from (end - from) (λ b h below. free_lists_itself t b (free b h (omega (arith, below)))) ∙ ap (joined (block_frees t)) place

-- and behind them none of a block that isn't Free
pub frees_past_used : (t : Tables) (block : ℕ) → state_in t block ≢ Free → joined (block_frees t) block ≡ joined (block_frees t) (block + 1)
frees_past_used t block used = sym (append-nil (joined (block_frees t) block)) ∙ ap (λ x. joined (block_frees t) block ++ x) (sym (used_lists_none t block used)) ∙ joined_more (block_frees t) block

-- ---- spaces

-- the count of what is listed
pub count_more : (f : ℕ → List ℕ) (b n m : ℕ) → n ≡ length (joined f b) → m ≡ n + length (f b) → m ≡ length (joined f (b + 1))
count_more f b n m is more = more ∙ ap (λ x. x + length (f b)) is ∙ sym (length-append (joined f b) (f b)) ∙ ap length (joined_more f b)

-- a list that is written behind another one
behind : (f : ℕ → ℕ) (at n : ℕ) (xs ys zs : List ℕ) → n ≡ at + length xs → xs ++ ys ≡ zs → written (written f at xs) n ys ≡ written f at zs
behind f at n xs ys zs is both = ap (λ k. written (written f at xs) k ys) is ∙ written_more f at xs ys ∙ ap (written f at) both

-- what is written behind a list of runs, and behind one of numbers
pub listed_runs_more : (a b c : Space) (n : ℕ) (xs ys more all : List ℕ) → Turns a b (with_listed (tables_of a) xs ys) → n ≡ length xs → xs ++ more ≡ all → Turns b c (with_runs (tables_of b) n more) → Turns a c (with_listed (tables_of a) all ys)
listed_runs_more a b c n xs ys more all first is both second =
    let t : Tables = tables_of a in
    subst (Turns a c)
    (ap (λ u. with_runs u n more) first.tables
    ∙ ap (λ x. record t { runs = x; frees = written t.frees 0 ys }) (behind t.runs 0 n xs more all (is ∙ sym (zero-add (length xs))) both))
    (turns_then a b c (with_listed t xs ys) (with_runs (tables_of b) n more) first second)

pub listed_frees_more : (a b c : Space) (n : ℕ) (xs ys more all : List ℕ) → Turns a b (with_listed (tables_of a) xs ys) → n ≡ length ys → ys ++ more ≡ all → Turns b c (with_frees (tables_of b) n more) → Turns a c (with_listed (tables_of a) xs all)
listed_frees_more a b c n xs ys more all first is both second =
    let t : Tables = tables_of a in
    subst (Turns a c)
    (ap (λ u. with_frees u n more) first.tables
    ∙ ap (λ x. record t { runs = written t.runs 0 xs; frees = x }) (behind t.frees 0 n ys more all (is ∙ sym (zero-add (length ys))) both))
    (turns_then a b c (with_listed t xs ys) (with_frees (tables_of b) n more) first second)

-- nothing is listed yet
pub none_listed : (a : Space) (xs ys : List ℕ) → xs ≡ [] → ys ≡ [] → Turns a a (with_listed (tables_of a) xs ys)
none_listed a xs ys no_runs no_frees = record {
  tables = λ j. record (tables_of a) {
    runs = (written_none (tables_of a).runs 0 ∙ ap (written (tables_of a).runs 0) (sym no_runs)) j;
    frees = (written_none (tables_of a).frees 0 ∙ ap (written (tables_of a).frees 0) (sym no_frees)) j;
  };
  rest = refl;
}

pub runs_none : (a : Space) (at : ℕ) (xs : List ℕ) → xs ≡ [] → Turns a a (with_runs (tables_of a) at xs)
runs_none a at xs none = record {
  tables = ap (λ x. record (tables_of a) { runs = x }) (written_none (tables_of a).runs at ∙ ap (written (tables_of a).runs at) (sym none));
  rest = refl;
}

-- one number more is listed
pub free_more : (a b c : Space) (at n x : ℕ) (xs zs : List ℕ) → Turns a b (with_frees (tables_of a) at xs) → n ≡ at + length xs → xs ++ (x ∷ []) ≡ zs
    → Turns b c (record (tables_of b) { frees = changed (tables_of b).frees n x }) → Turns a c (with_frees (tables_of a) at zs)
free_more a b c at n x xs zs first is both second =
    let t : Tables = tables_of a in let f : Tables → Tables = λ u. record u { frees = changed u.frees n x } in
    subst (Turns a c)
    (ap f first.tables
    ∙ ap (λ g. record t { frees = g }) (written_one (written t.frees at xs) n x ∙ behind t.frees at n xs (x ∷ []) zs is both))
    (turns_then a b c (with_frees t at xs) (record (tables_of b) { frees = changed (tables_of b).frees n x }) first second)

pub numbers_none : (a : Space) (at from : ℕ) → Turns a a (with_frees (tables_of a) at (numbers_from from 0))
numbers_none a at from = record {
  tables = ap (λ x. record (tables_of a) { frees = x }) (written_none (tables_of a).frees at ∙ ap (written (tables_of a).frees at) (sym (no_numbers from)));
  rest = refl;
}

-- one run more is listed
pub run_more : (a b c : Space) (at n x : ℕ) (xs zs : List ℕ) → Turns a b (with_runs (tables_of a) at xs) → n ≡ at + length xs → xs ++ (x ∷ []) ≡ zs
    → Turns b c (record (tables_of b) { runs = changed (tables_of b).runs n x }) → Turns a c (with_runs (tables_of a) at zs)
run_more a b c at n x xs zs first is both second =
    let t : Tables = tables_of a in let f : Tables → Tables = λ u. record u { runs = changed u.runs n x } in
    subst (Turns a c)
    (ap f first.tables
    ∙ ap (λ g. record t { runs = g }) (written_one (written t.runs at xs) n x ∙ behind t.runs at n xs (x ∷ []) zs is both))
    (turns_then a b c (with_runs t at xs) (record (tables_of b) { runs = changed (tables_of b).runs n x }) first second)

-- a cursor is set
abbrev pub with_cursor : Tables → ℕ → ℕ → Tables
with_cursor t k v = record t { cursors = changed t.cursors k v }

-- both are counted, and nothing is drawn of them
pub counts_set : (b c d e f : Space) (runs frees n m : ℕ) → runs ≡ n → frees ≡ m
    → Turns b c (with_cursor (tables_of b) 1 0) → Turns c d (with_cursor (tables_of c) 2 runs) → Turns d e (with_cursor (tables_of d) 3 0) → Turns e f (with_cursor (tables_of e) 4 frees)
    → Turns b f (with_counts (tables_of b) n m)
counts_set b c d e f runs frees n m runs_are frees_are one two three four =
    let t : Tables = tables_of b in
    let all = turns_then b e f _ _ (turns_then b d e _ _ (turns_then b c d _ _ one two) three) four in
    record {
      tables = four.tables
          ∙ ap (λ u. with_cursor u FREE_BLOCK_COUNT frees) (three.tables ∙ ap (λ u. with_cursor u FREE_BLOCK_CURSOR 0) (two.tables ∙ ap (λ u. with_cursor u RUN_COUNT runs) one.tables))
          ∙ (λ j. record t { cursors = changed (changed (changed (changed t.cursors RUN_CURSOR 0) 2 (runs_are j)) 3 0) 4 (frees_are j) });
      rest = all.rest;
    }

-- lists that are written are begun anew
pub begun_lists : (a b f : Space) (xs ys : List ℕ) (runs frees : ℕ) → Turns a b (with_listed (tables_of a) xs ys) → runs ≡ length xs → frees ≡ length ys → TurnsWithRest b f (with_counts (tables_of b) runs frees) 0 0
    → TurnsWithRest a f (with_lists (tables_of a) xs ys) 0 0
begun_lists a b f xs ys runs frees first runs_are frees_are begun =
    let t : Tables = tables_of a in
    record {
      tables = begun.tables
          ∙ ap (λ u. with_counts u runs frees) first.tables
          ∙ (λ j. record t {
            runs = written t.runs 0 xs;
            frees = written t.frees 0 ys;
            cursors = changed (changed (changed (changed t.cursors RUN_CURSOR 0) RUN_COUNT (runs_are j)) FREE_BLOCK_CURSOR 0) FREE_BLOCK_COUNT (frees_are j);
          });
      rest = begun.rest ∙ ap {A = Space} (λ s. record s { words = f.words; rest_next = 0; rest_end = 0 }) first.rest;
    }
