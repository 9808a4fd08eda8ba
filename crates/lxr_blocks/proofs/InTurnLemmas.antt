-- What is written of listings in turn.
use Rattle.std.proofs.Common.{◌≡◌, ◌+◌, ◌-◌, ◌<◌, ◌≤◌, arith, ℕ, refl, sym, ap, subst, inl, inr, ◌∙◌, zero-add, Bool, true, false, List, [], ◌++◌, length}
use Rattle.std.specs.Prelude.{◌≢◌, IsTrue, map, if◌then◌else◌}
use Rattle.lxr_layout.specs.declared.TheConstants.{LINES_IN_BLOCK}
use Rattle.lxr_layout.specs.Runs.{word_of_run}
use Rattle.lxr_image.specs.declared.space.Space.{Space}
use Rattle.lxr_image.specs.Runs.{with_runs}
use Rattle.lxr_image.specs.Settled.{HasNoLonger, SameLines, StandsByLines}
use Rattle.lxr_image.specs.Tables.{Tables, written}
use Rattle.lxr_image.specs.Spaces.{Turns, tables_of}
use Rattle.lxr_image.proofs.RunLemmas.{begins_none, first_listed, none_begin}
use Rattle.lxr_image.proofs.SpaceLemmas.{turns_then}
use Rattle.lxr_image.proofs.WriteLemmas.{stands_moved}
use Rattle.lxr_image.proofs.WrittenLemmas.{written_more, written_none}
use Rattle.lxr_blocks.specs.InTurn.{round_from, runs_from}
use Rattle.lxr_blocks.specs.declared.states.BlockState.TheVariants.{Free}
use Rattle.lxr_blocks.specs.Lines.{free_in}
use Rattle.lxr_blocks.specs.Listing.{block_frees, block_runs, joined, lists_runs, numbers_from, run_words, with_frees, with_listed}
use Rattle.lxr_blocks.specs.States.{AreFreeBlocks, state_in}
use Rattle.lxr_blocks.proofs.KnownLemmas.{free_told}
use Rattle.lxr_blocks.proofs.ListingLemmas.{free_lists_none, frees_over_free, joined_same, used_lists_none}
use Rattle.lxr_blocks.proofs.RoundLemmas.{round_low, round_round}
use Rattle.lxr_blocks.proofs.SweptLemmas.{zero_of_free}

-- a list that is written behind another one, from the beginning of its table
behind_front : (f : ℕ → ℕ) (n : ℕ) (xs ys zs : List ℕ) → n ≡ length xs → xs ++ ys ≡ zs → written (written f 0 xs) n ys ≡ written f 0 zs
behind_front f n xs ys zs is both = ap (λ k. written (written f 0 xs) k ys) (is ∙ sym (zero-add (length xs))) ∙ written_more f 0 xs ys ∙ ap (written f 0) both

pub runs_more : (a b c : Space) (n : ℕ) (xs more all : List ℕ) → Turns a b (with_runs (tables_of a) 0 xs) → n ≡ length xs → xs ++ more ≡ all → Turns b c (with_runs (tables_of b) n more) → Turns a c (with_runs (tables_of a) 0 all)
runs_more a b c n xs more all first is both second =
    let t : Tables = tables_of a in
    subst (Turns a c)
    (ap (λ u. with_runs u n more) first.tables ∙ ap (λ x. record t { runs = x }) (behind_front t.runs n xs more all is both))
    (turns_then a b c (with_runs t 0 xs) (with_runs (tables_of b) n more) first second)

pub frees_more : (a b c : Space) (n : ℕ) (xs more all : List ℕ) → Turns a b (with_frees (tables_of a) 0 xs) → n ≡ length xs → xs ++ more ≡ all → Turns b c (with_frees (tables_of b) n more) → Turns a c (with_frees (tables_of a) 0 all)
frees_more a b c n xs more all first is both second =
    let t : Tables = tables_of a in
    subst (Turns a c)
    (ap (λ u. with_frees u n more) first.tables ∙ ap (λ x. record t { frees = x }) (behind_front t.frees n xs more all is both))
    (turns_then a b c (with_frees t 0 xs) (with_frees (tables_of b) n more) first second)

pub frees_none : (a : Space) (xs : List ℕ) → xs ≡ [] → Turns a a (with_frees (tables_of a) 0 xs)
frees_none a xs none = record {
  tables = ap (λ x. record (tables_of a) { frees = x }) (written_none (tables_of a).frees 0 ∙ ap (written (tables_of a).frees 0) (sym none));
  rest = refl;
}

-- runs are written, and then free blocks
pub both_listed : (a b c : Space) (xs ys : List ℕ) → Turns a b (with_runs (tables_of a) 0 xs) → Turns b c (with_frees (tables_of b) 0 ys) → Turns a c (with_listed (tables_of a) xs ys)
both_listed a b c xs ys first second =
    subst (Turns a c) (ap (λ u. with_frees u 0 ys) first.tables) (turns_then a b c (with_runs (tables_of a) 0 xs) (with_frees (tables_of b) 0 ys) first second)

-- ---- blocks that list nothing

-- a line is in no run where no run has a line
no_line_free : (t : Tables) (b i : ℕ) → HasNoLonger t b 0 → i < LINES_IN_BLOCK → free_in t b i ≡ false
no_line_free t b i known within =
    elim (free_in t b i) as (λ x. free_in t b i ≡ x → x ≡ false) [
      | true ↦ λ free.
          let single : 1 ≤ 0 = known i 1 (omega (arith, within)) (λ k less. (free_told t b (i + k)).1 (subst (λ n. IsTrue (free_in t b n)) (let z : i ≡ i + k = omega (arith, less) in z) free)) in
          absurd (omega (arith, single))
      | false ↦ λ taken. refl
    ] refl

if_none : (x : Bool) (xs : List ℕ) → xs ≡ [] → (if x then xs else []) ≡ []
if_none true xs none = none
if_none false xs none = refl

-- a block without a free line has no run
full_lists_none : (t : Tables) (b : ℕ) → HasNoLonger t b 0 → block_runs t b ≡ []
full_lists_none t b known =
    if_none (lists_runs (state_in t b)) (run_words t b)
    (ap (map word_of_run) (none_begin (free_in t b) b 0 LINES_IN_BLOCK (omega arith) (λ i h below. begins_none (free_in t b) i (no_line_free t b i known below)) ∙ first_listed (free_in t b) b))

pub full_list_none : (t : Tables) (from end : ℕ) → ((b : ℕ) → from ≤ b → b < end → HasNoLonger t b 0) → (b : ℕ) → from ≤ b → b < end → block_runs t b ≡ []
full_list_none t from end known b over below = full_lists_none t b (known b over below)

pub frees_list_none : (t : Tables) (from end : ℕ) → AreFreeBlocks t from end → (b : ℕ) → from ≤ b → b < end → block_runs t b ≡ []
frees_list_none t from end free b over below = free_lists_none t b (free b over below)

-- where blocks list nothing from one on, the list is no longer behind them
pub runs_over_none : (t : Tables) (blocks from passed many block : ℕ) → from < blocks → passed + many ≤ blocks → block ≡ round_from blocks from passed → block + many ≤ blocks
    → ((b : ℕ) → block ≤ b → b < block + many → block_runs t b ≡ [])
    → runs_from t blocks from (passed + many) ≡ runs_from t blocks from passed
runs_over_none t blocks from passed many block first few is within none =
    joined_same (λ i. block_runs t (round_from blocks from i)) passed many (λ i over below.
    let place : i ≡ passed + (i - passed) = omega (arith, over) in
    let at : round_from blocks from i ≡ block + (i - passed) =
    ap (round_from blocks from) place
    ∙ sym (round_round blocks from passed (i - passed) first (omega (arith, over, below, few)))
    ∙ ap (λ x. round_from blocks x (i - passed)) (sym is)
    ∙ round_low blocks block (i - passed) (omega (arith, over, below, within)) in
    ap (block_runs t) at ∙ none (block + (i - passed)) (omega arith) (omega (arith, over, below)))

-- a block that has the state of its lines, and not all of them free, isn't Free
pub used_by_lines : (t : Tables) (b : ℕ) → StandsByLines t b → HasNoLonger t b (LINES_IN_BLOCK - 1) → state_in t b ≢ Free
used_by_lines t b stands known free =
    let none = zero_of_free (t.states b) free in
    elim stands [
      | inl fixed ↦ omega (arith, fixed, none)
      | inr rest ↦ elim rest [
        | inl all ↦ let whole = known 0 LINES_IN_BLOCK (omega arith) (λ i h. all.1 (0 + i) (omega (arith, h))) in omega (arith, whole)
        | inr other ↦ elim other [
          | inl some ↦ let one = some.0 in omega (arith, one, none)
          | inr full ↦ let two = full.0 in omega (arith, two, none)
        ]
      ]
    ]

-- over blocks that aren't Free no number is listed
pub frees_over_used : (t : Tables) (from end : ℕ) → from ≤ end → ((b : ℕ) → from ≤ b → b < end → state_in t b ≢ Free) → joined (block_frees t) end ≡ joined (block_frees t) from
frees_over_used t from end order used =
    let place : from + (end - from) ≡ end = omega arith in
    ap (joined (block_frees t)) (sym place) ∙ joined_same (block_frees t) from (end - from) (λ b over below. used_lists_none t b (used b over (omega (arith, below))))

-- a step of a listing: blocks that aren't Free are passed, Free ones are listed, and the one behind them isn't Free
pub frees_step : (t : Tables) (at first end next : ℕ) → at ≤ first → ((b : ℕ) → at ≤ b → b < first → state_in t b ≢ Free) → first ≤ end → AreFreeBlocks t first end
    → end ≤ next → ((b : ℕ) → end ≤ b → b < next → state_in t b ≢ Free)
    → joined (block_frees t) at ++ numbers_from first (end - first) ≡ joined (block_frees t) next
frees_step t at first end next order used more free last past =
    ap (λ xs. xs ++ numbers_from first (end - first)) (sym (frees_over_used t at first order used))
    ∙ frees_over_free t first end more free
    ∙ sym (frees_over_used t end next last past)

-- what is written of Free blocks leaves the states of blocks and their lines
numbers_keep_lines : (t : Tables) (xs : List ℕ) → SameLines t (with_frees t 0 xs) × SameLines (with_frees t 0 xs) t
numbers_keep_lines t xs = (record { counts = λ g. refl; starts = λ g. refl; outs = λ line. refl; states = λ b. refl }, record { counts = λ g. refl; starts = λ g. refl; outs = λ line. refl; states = λ b. refl })

pub stands_where_listed : (a c : Space) (xs : List ℕ) (b : ℕ) → Turns a c (with_frees (tables_of a) 0 xs) → StandsByLines (tables_of a) b → StandsByLines (tables_of c) b
stands_where_listed a c xs b turns stands =
    subst (λ u. StandsByLines u b) (sym turns.tables) (stands_moved (tables_of a) (with_frees (tables_of a) 0 xs) b (numbers_keep_lines (tables_of a) xs).0 stands)

pub stood_where_listed : (a c : Space) (xs : List ℕ) (b : ℕ) → Turns a c (with_frees (tables_of a) 0 xs) → StandsByLines (tables_of c) b → StandsByLines (tables_of a) b
stood_where_listed a c xs b turns stands =
    stands_moved (with_frees (tables_of a) 0 xs) (tables_of a) b (numbers_keep_lines (tables_of a) xs).1 (subst (λ u. StandsByLines u b) turns.tables stands)
