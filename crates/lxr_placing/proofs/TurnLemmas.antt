-- A space of whose runs some were listed in turn, and all free blocks, is listed.
use Rattle.std.proofs.Common.{◌≡◌, ℕ, ◌+◌, ◌-◌, ◌*◌, ◌<◌, ◌≤◌, sym, ap, subst, ◌∙◌, inl, inr, arith, true, false, List, [], ◌∷◌}
use Rattle.std.proofs.lemmas.Bool.Decides.{eqb_tells, leb_tells, nat_tests}
use Rattle.std.specs.Prelude.{nat_le, nat_lt, if◌then◌else◌}
use Rattle.lxr_layout.specs.declared.TheConstants.{LINES_IN_BLOCK, MOST_BLOCKS}
use Rattle.lxr_layout.specs.declared.limits.Limits.{Limits}
use Rattle.lxr_layout.specs.declared.runs.Run.{Run}
use Rattle.lxr_layout.specs.Runs.{word_of_run}
use Rattle.lxr_image.specs.declared.space.Space.{Space}
use Rattle.lxr_image.specs.Tables.{Tables}
use Rattle.lxr_image.specs.Spaces.{IsSpace, tables_of}
use Rattle.lxr_blocks.specs.Handing.{first_line}
use Rattle.lxr_blocks.specs.InTurn.{ListsInTurn, round_from, runs_from}
use Rattle.lxr_blocks.specs.Listing.{TurnsWithRest, block_runs, listed_frees, with_lists}
use Rattle.lxr_blocks.proofs.RoundLemmas.{round_high, round_low, round_within}
use Rattle.lxr_invariant.specs.Lines.{HasStates}
use Rattle.lxr_invariant.specs.Listed.{AreApartRuns, IsListed}
use Rattle.lxr_placing.specs.declared.listing.ToList.{ToList}
use Rattle.lxr_placing.specs.declared.listing.ToList.TheVariants.{All, InTurn}
use Rattle.lxr_placing.specs.Listing.{Lists, block_or_first}
use Rattle.lxr_placing.proofs.ListedLemmas.{AreLists, are_listed, listed_by}
use Rattle.lxr_placing.proofs.OrderLemmas.{AreInOrder, all_in_order, all_of, item_is, items_apart, joined_few, joined_is}
use Rattle.lxr_placing.proofs.RunLemmas.{IsListedRun, block_few, block_in_order, block_words, line_after, runs_of}

-- ---- how far a block lies from the one that a listing begins at

abbrev places_to : ℕ → ℕ → ℕ → ℕ
places_to blocks from b = if nat_le from b then (b - from) else (b + blocks - from)

places_low : (blocks from b : ℕ) → from ≤ b → places_to blocks from b ≡ b - from
places_low blocks from b low = ap (λ x. if x then (b - from) else (b + blocks - from)) (let e : nat_le from b ≡ true = grind (arith, nat_tests) in e)

places_high : (blocks from b : ℕ) → b < from → places_to blocks from b ≡ b + blocks - from
places_high blocks from b high = ap (λ x. if x then (b - from) else (b + blocks - from)) (let e : nat_le from b ≡ false = grind (arith, nat_tests) in e)

places_back : (blocks from i : ℕ) → from < blocks → i < blocks → places_to blocks from (round_from blocks from i) ≡ i
places_back blocks from i first within = elim (leb_tells blocks (from + i)) [
  | inl e ↦
      let high = e.1 in
      ap (places_to blocks from) (round_high blocks from i high)
      ∙ places_high blocks from (from + i - blocks) (omega (arith, high, within))
      ∙ (let z : from + i - blocks + blocks - from ≡ i = omega (arith, high) in z)
  | inr e ↦
      let low = e.1 in
      ap (places_to blocks from) (round_low blocks from i low) ∙ places_low blocks from (from + i) (omega arith) ∙ (let z : from + i - from ≡ i = omega arith in z)
]

-- ---- lines in the order in which they are listed

module _ (t : Tables) (blocks from : ℕ) (first : from < blocks) where
  abbrev first_place : Run → ℕ
  first_place r = LINES_IN_BLOCK * places_to blocks from r.block + r.line

  abbrev place_after : Run → ℕ
  place_after r = first_place r + r.lines

  -- runs of a block that stand in order stand so where the block is the one of a place
  placed : (i b low high : ℕ) → places_to blocks from b ≡ i → LINES_IN_BLOCK * b ≤ low → high ≤ LINES_IN_BLOCK * (b + 1) → (rs : List Run) → AreInOrder (IsListedRun t blocks) first_line line_after low high rs
      → AreInOrder (IsListedRun t blocks) first_place place_after (LINES_IN_BLOCK * i + (low - LINES_IN_BLOCK * b)) (LINES_IN_BLOCK * i + (high - LINES_IN_BLOCK * b)) rs
  placed i b low high at after before [] is = omega (arith, is, after, before)
  placed i b low high at after before (r ∷ rs) (reached, order, has, rest) =
      let some = has.some in let inside = has.run.run.within in
      let ends = last_within b (line_after r) high rs before rest in
      let same : r.block ≡ b = omega (arith, some, inside, reached, after, ends, before) in
      let place : places_to blocks from r.block ≡ i = ap (places_to blocks from) same ∙ at in (
        omega (arith, place, same, reached, after),
        omega arith,
        has,
        subst (λ n. AreInOrder (IsListedRun t blocks) first_place place_after n (LINES_IN_BLOCK * i + (high - LINES_IN_BLOCK * b)) rs)
            (let z : LINES_IN_BLOCK * i + (line_after r - LINES_IN_BLOCK * b) ≡ place_after r = omega (arith, place, same) in z)
            (placed i b (line_after r) high at (omega (arith, reached, after)) before rs rest),
      )
    where
      last_within : (b low high : ℕ) (rs : List Run) → high ≤ LINES_IN_BLOCK * (b + 1) → AreInOrder (IsListedRun t blocks) first_line line_after low high rs → low ≤ high
      last_within b low high [] before is = is
      last_within b low high (r ∷ rs) before (reached, order, has, rest) = let later = last_within b (line_after r) high rs before rest in omega (arith, reached, order, later)

  abbrev runs_at : ℕ → List Run
  runs_at i = runs_of t (round_from blocks from i)

  in_order : (many : ℕ) → many ≤ blocks → AreInOrder (IsListedRun t blocks) first_place place_after 0 (LINES_IN_BLOCK * many) (all_of runs_at many)
  in_order many once = all_in_order (IsListedRun t blocks) first_place place_after runs_at LINES_IN_BLOCK many (λ i within.
      let b : ℕ = round_from blocks from i in
      let inside = round_within blocks from i first (omega (arith, within, once)) in
      let are = placed i b (LINES_IN_BLOCK * b) (LINES_IN_BLOCK * (b + 1)) (places_back blocks from i first (omega (arith, within, once))) (omega arith) (omega arith) (runs_of t b) (block_in_order t blocks b inside) in
      subst (λ n. AreInOrder (IsListedRun t blocks) first_place place_after n (LINES_IN_BLOCK * (i + 1)) (runs_at i)) (let z : LINES_IN_BLOCK * i + (LINES_IN_BLOCK * b - LINES_IN_BLOCK * b) ≡ LINES_IN_BLOCK * i = omega arith in z)
      (subst (λ n. AreInOrder (IsListedRun t blocks) first_place place_after (LINES_IN_BLOCK * i + (LINES_IN_BLOCK * b - LINES_IN_BLOCK * b)) n (runs_at i))
      (let z : LINES_IN_BLOCK * i + (LINES_IN_BLOCK * (b + 1) - LINES_IN_BLOCK * b) ≡ LINES_IN_BLOCK * (i + 1) = omega arith in z) are))

  -- runs are apart where one ends before the other begins
  apart_by_place : (q r : Run) → place_after q ≤ first_place r → AreApartRuns q r
  apart_by_place q r before = elim (eqb_tells q.block r.block) [
    | inl e ↦ let same = ap (places_to blocks from) e.1 in inr (inl (omega (arith, same, before)))
    | inr e ↦ inl e.1
  ]

  pub turn_is_listed : (many : ℕ) → many ≤ blocks → blocks ≤ MOST_BLOCKS → HasStates t blocks → AreLists (with_lists t (runs_from t blocks from many) (listed_frees t blocks)) blocks
  turn_is_listed many once few states =
      let ordered = in_order many once in
      let most = joined_few (λ i. block_runs t (round_from blocks from i)) 64 many (λ i. block_few t (round_from blocks from i)) in
      are_listed t blocks few states (all_of runs_at many) (runs_from t blocks from many)
      (joined_is word_of_run (λ i. block_runs t (round_from blocks from i)) runs_at many (λ i. block_words t (round_from blocks from i))) (omega (arith, most, once))
      (λ k r at. (item_is (IsListedRun t blocks) first_place place_after 0 (LINES_IN_BLOCK * many) (all_of runs_at many) k r ordered at).0)
      (λ j k q r less at too. apart_by_place q r (items_apart (IsListedRun t blocks) first_place place_after 0 (LINES_IN_BLOCK * many) (all_of runs_at many) j k q r ordered less at too))

-- ---- the space

pub turn_listed_now : (s after : Space) (from most many : ℕ) → from < s.limits.blocks → IsSpace s → HasStates (tables_of s) s.limits.blocks → ListsInTurn from most many s after → IsListed after
turn_listed_now s after from most many first space states turn =
    let lists = turn.lists in
    listed_by after
    (subst (λ (l : Limits). AreLists (tables_of after) l.blocks) (sym (ap (λ (z : Space). z.limits) lists.rest))
    (subst (λ t. AreLists t s.limits.blocks) (sym lists.tables) (turn_is_listed (tables_of s) s.limits.blocks from first many turn.once space.limits.blocks.1 states)))
    (ap (λ (z : Space). z.rest_next) lists.rest ∙ sym (ap (λ (z : Space). z.rest_end) lists.rest))

-- a block of the heap, or the first one, is one of the heap
pub first_within : (blocks from first : ℕ) → 1 ≤ blocks → first ≡ block_or_first blocks from → first < blocks
first_within blocks from first some is = elim (leb_tells blocks from) [
  | inl e ↦
      let high = e.1 in
      let none : block_or_first blocks from ≡ 0 = ap (λ x. if x then from else 0) (let z : nat_lt from blocks ≡ false = grind (arith, nat_tests) in z) in
      omega (arith, is, none, some)
  | inr e ↦
      let low = e.1 in
      let same : block_or_first blocks from ≡ from = ap (λ x. if x then from else 0) (let z : nat_lt from blocks ≡ true = grind (arith, nat_tests) in z) in
      omega (arith, is, same, low)
]

-- whichever runs are listed, there are lists of some runs and blocks, and nothing else has changed
pub lists_turn : (l l' : ToList) (before after : Space) → Lists l before after l' → (runs frees : List ℕ) × TurnsWithRest before after (with_lists (tables_of before) runs frees) 0 0
lists_turn All l' before after lists = (_, _, lists.0)
lists_turn (InTurn most from) l' before after (block, (many, turn, next), is) = (_, _, turn.lists)
