-- What handing out listed runs and blocks, one after the other, does to the tables.
use Rattle.std.proofs.Common.{◌≡◌, ℕ, ◌+◌, ◌*◌, ◌<◌, ◌≤◌, refl, sym, ap, subst, ◌∙◌, inl, inr, ◌⊎◌, arith, cond, List, Bool, true, false, nat_eq}
use Rattle.lxr_layout.specs.declared.TheConstants.{FREE_BLOCK_COUNT, LINES_IN_BLOCK, MOST_BLOCKS, RUN_COUNT}
use Rattle.std.specs.Prelude.{◌/◌, ◌%◌, ◌^◌, ◌==◌, ◌≢◌, IsTrue}
use Rattle.std.proofs.lemmas.Bool.Decides.{leb_tells}
use Rattle.lxr_layout.specs.declared.runs.Run.{Run}
use Rattle.lxr_layout.specs.Runs.{IsRun, word_of_run}
use Rattle.lxr_layout.specs.declared.limits.Limits.{Limits}
use Rattle.lxr_image.specs.declared.space.Space.{Space}
use Rattle.lxr_image.specs.Tables.{Tables, changed}
use Rattle.lxr_image.specs.Spaces.{Turns, tables_of}
use Rattle.lxr_image.proofs.SpaceLemmas.{still_space}
use Rattle.lxr_blocks.specs.declared.states.BlockState.TheVariants.{Free, Partly, Whole}
use Rattle.lxr_image.specs.Settled.{IsFreeLine}
use Rattle.lxr_blocks.proofs.HandedLemmas.{between, outside}
use Rattle.lxr_blocks.proofs.KeptLemmas.{free_line_is_told, out_keeps}
use Rattle.lxr_graph.proofs.NameSets.{not_both}
use Rattle.std.proofs.lemmas.Bool.{false_from_ne_true}
use Rattle.lxr_blocks.specs.Lines.{IsFreeRun, free_count, free_in, is_free}
use Rattle.lxr_blocks.specs.States.{KeepsState, is_fixed, state_by_lines, state_in, state_number, state_of, KeepsFree}
use Rattle.lxr_blocks.specs.Handing.{first_line, handed_out}
use Rattle.lxr_invariant.specs.Listed.{AreApartRuns, IsListed, ListsRun, whole_block}
use Rattle.lxr_invariant.proofs.BlockLemmas.{line_free, other_lines, other_number, states_alike}
use Rattle.lxr_invariant.proofs.EntryLemmas.{equal_numbers}
use Rattle.lxr_core_close.specs.HandingOut.{AreHandedOut, AreLater, HasHandedOut, IsBlockChanged, IsBlockLeft, IsDrawnLine, IsHandedOut, IsInBlocks, IsInRuns, IsLeft, IsLineOf, MayHandOut, drawn_blocks, drawn_runs}
use Rattle.lxr_blocks.proofs.FreeLemmas.{used_by_lines}
use Rattle.lxr_blocks.proofs.SweptLemmas.{read_back}

-- ---- one run

-- a line is one of a run, or lies before or behind it
line_told : (r : Run) (n : ℕ) → IsLineOf r n ⊎ (n < first_line r) ⊎ (first_line r + r.lines ≤ n)
line_told r n = elim (leb_tells (first_line r) n) [
  | inr h ↦ inr (inl h.1)
  | inl h ↦ elim (leb_tells (first_line r + r.lines) n) [ inl m ↦ inr (inr m.1) | inr m ↦ inl (record { first = h.1; behind = m.1 }) ]
]

-- a line before or behind a run is none of it
not_both_sides : (r : Run) (n : ℕ) → IsLineOf r n → (n < first_line r) ⊎ (first_line r + r.lines ≤ n) → ⊥
not_both_sides r n line (inl before) = let low = line.first in omega (arith, low, before)
not_both_sides r n line (inr behind) = let high = line.behind in omega (arith, high, behind)

-- lines of one run are lines of one block
block_of_line : (r : Run) (n : ℕ) → r.line + r.lines ≤ LINES_IN_BLOCK → IsLineOf r n → n / LINES_IN_BLOCK ≡ r.block
block_of_line r n within line = let low = line.first in let high = line.behind in omega (arith, low, high, within)

-- a state by lines is neither Chosen nor World
by_lines : (a b : Bool) → is_fixed (state_of (state_number (cond a Free (cond b Whole Partly)))) ≡ false
by_lines true b = refl
by_lines false true = refl
by_lines false false = refl

-- so it is where a block has it
new_loose : (lines : ℕ → Type 0) (t u : Tables) (b : ℕ) → IsBlockChanged lines t u b → is_fixed (state_in u b) ≡ false
new_loose lines t u b new =
    ap (λ z. is_fixed (state_of z)) new.state ∙ by_lines (free_count (free_in u b) LINES_IN_BLOCK == LINES_IN_BLOCK) (free_count (free_in u b) LINES_IN_BLOCK == 0)

-- another block has the state by its lines that it had
other_block : (t : Tables) (r : Run) (b : ℕ) → r.line + r.lines ≤ LINES_IN_BLOCK → b ≢ r.block → state_by_lines t b ≡ state_by_lines (handed_out t r) b
other_block t r b within differ = sym (states_alike t (handed_out t r) b (λ i small. other_lines t r b i within differ small))

-- what handing out changes
handed_rest : (t u : Tables) (r : Run) → u ≡ record t { outs = u.outs; reuse = u.reuse; states = u.states }
    → handed_out u r ≡ record t { outs = (handed_out u r).outs; reuse = (handed_out u r).reuse; states = (handed_out u r).states }
handed_rest t u r e = ap (λ (z : Tables). with_handed z (handed_out u r).outs (handed_out u r).reuse (handed_out u r).states) e
  where
    with_handed : Tables → (ℕ → Bool) → (ℕ → ℕ) → (ℕ → ℕ) → Tables
    with_handed z outs reuse states = record z { outs = outs; reuse = reuse; states = states }

-- ---- one run more

-- One run more is handed out, behind these lines: none of its lines is one of them, and those lines with the run's are the
-- new ones.
record IsNextOf (lines more : ℕ → Type 0) (r : Run) : Type 0 where
  within : r.line + r.lines ≤ LINES_IN_BLOCK
  some : 1 ≤ r.lines
  apart : (n : ℕ) → IsLineOf r n → ¬ lines n
  still : (n : ℕ) → lines n → more n
  own : (n : ℕ) → IsLineOf r n → more n
  back : (n : ℕ) → more n → lines n ⊎ IsLineOf r n

module _ (lines more : ℕ → Type 0) (t u : Tables) (r : Run) (is : AreHandedOut lines t u) (next : IsNextOf lines more r) where
  -- the tables once the run is handed out
  abbrev after : Tables
  after = handed_out u r

  -- each line is handed out, or left
  one_line : (n : ℕ) → IsHandedOut more t after n ⊎ IsLeft more t after n
  one_line n = elim (line_told r n) [
    | inl line ↦
        let e = between (first_line r) (first_line r + r.lines) n line.first line.behind in
        elim (is.lines_are n) [
          | inl handed ↦ absurd (next.apart n line handed.drawn)
          | inr left ↦ inl (record {
            drawn = next.own n line;
            out = ap (λ b. cond b true (u.outs n)) e;
            reuse = ap (λ b. cond b ((u.reuse n + 1) % 2 ^ 32) (u.reuse n)) e ∙ ap (λ z. (z + 1) % 2 ^ 32) left.reuse;
          })
        ]
    | inr off ↦
        let e = outside (first_line r) (first_line r + r.lines) n off in
        let out : after.outs n ≡ u.outs n = ap (λ b. cond b true (u.outs n)) e in
        let reuse : after.reuse n ≡ u.reuse n = ap (λ b. cond b ((u.reuse n + 1) % 2 ^ 32) (u.reuse n)) e in
        elim (is.lines_are n) [
          | inl handed ↦ inl (record { drawn = next.still n handed.drawn; out = out ∙ handed.out; reuse = reuse ∙ handed.reuse })
          | inr left ↦ inr (record {
            undrawn = λ h. elim (next.back n h) [ inl was ↦ left.undrawn was | inr line ↦ not_both_sides r n line off ];
            out = out ∙ left.out;
            reuse = reuse ∙ left.reuse;
          })
        ]
  ]

  -- what each block has that isn't the run's
  other : (b : ℕ) → b ≢ r.block → after.states b ≡ u.states b → IsBlockChanged more t after b ⊎ IsBlockLeft more t after b
  other b differ same = elim (is.blocks_are b) [
    | inl new ↦ inl (record {
      line = new.line;
      drawn = next.still new.line new.drawn;
      in_block = new.in_block;
      loose = new.loose;
      state = same ∙ new.state ∙ ap state_number (other_block u r b next.within differ);
    })
    | inr keeps ↦ inr (record { state = same ∙ keeps.state; why = reason keeps.why })
  ]
    where
      none : (n : ℕ) → n / LINES_IN_BLOCK ≡ b → lines n ⊎ IsLineOf r n → ¬ (lines n) → ⊥
      none n in_block (inl was) undrawn = undrawn was
      none n in_block (inr line) undrawn = differ (sym in_block ∙ block_of_line r n next.within line)

      reason : (is_fixed (state_in t b) ≡ true) ⊎ ((n : ℕ) → n / LINES_IN_BLOCK ≡ b → ¬ lines n) → (is_fixed (state_in t b) ≡ true) ⊎ ((n : ℕ) → n / LINES_IN_BLOCK ≡ b → ¬ more n)
      reason (inl fixed) = inl fixed
      reason (inr undrawn) = inr (λ n in_block h. none n in_block (next.back n h) (undrawn n in_block))

  -- the run's block, which keeps its state
  own_fixed : (b : ℕ) → b ≡ r.block → is_fixed (state_in u r.block) ≡ true → after.states b ≡ u.states b → IsBlockChanged more t after b ⊎ IsBlockLeft more t after b
  own_fixed b at fixed same = elim (is.blocks_are b) [
    | inl new ↦ absurd (let k : true ≡ false = sym fixed ∙ ap (λ z. is_fixed (state_in u z)) (sym at) ∙ new_loose lines t u b new in cc)
    | inr keeps ↦ inr (record { state = same ∙ keeps.state; why = inl (ap (λ z. is_fixed (state_of z)) (sym keeps.state) ∙ ap (λ z. is_fixed (state_in u z)) at ∙ fixed) })
  ]

  -- the run's block, which gets the state of its lines
  own_loose : (b : ℕ) → b ≡ r.block → is_fixed (state_in u r.block) ≡ false → after.states b ≡ state_number (state_by_lines after r.block) → IsBlockChanged more t after b ⊎ IsBlockLeft more t after b
  own_loose b at loose new =
      let here : IsLineOf r (first_line r) = record { first = omega arith; behind = (let some = next.some in omega (arith, some)) } in
      inl (record {
        line = first_line r;
        drawn = next.own (first_line r) here;
        in_block = block_of_line r (first_line r) next.within here ∙ sym at;
        loose = elim (is.blocks_are b) [
          | inl was ↦ was.loose
          | inr keeps ↦ ap (λ z. is_fixed (state_of z)) (sym keeps.state) ∙ ap (λ z. is_fixed (state_in u z)) at ∙ loose
        ];
        state = new ∙ ap (λ z. state_number (state_by_lines after z)) (sym at);
      })

  -- each block has a new state, or keeps its own
  one_block : (b : ℕ) → IsBlockChanged more t after b ⊎ IsBlockLeft more t after b
  one_block b =
      let new : ℕ = state_number (state_by_lines after r.block) in
      elim (is_fixed (state_in u r.block)) as (λ c. is_fixed (state_in u r.block) ≡ c → after.states b ≡ (cond c u.states (changed u.states r.block new)) b → IsBlockChanged more t after b ⊎ IsBlockLeft more t after b) [
        | true ↦ λ fixed same. elim (nat_eq b r.block) as (λ c. nat_eq b r.block ≡ c → IsBlockChanged more t after b ⊎ IsBlockLeft more t after b) [
          | true ↦ λ e. own_fixed b (equal_numbers b r.block e) fixed same
          | false ↦ λ e. other b (other_number b r.block e) same
        ] refl
        | false ↦ λ loose same. elim (nat_eq b r.block) as (λ c. nat_eq b r.block ≡ c → after.states b ≡ cond c new (u.states b) → IsBlockChanged more t after b ⊎ IsBlockLeft more t after b) [
          | true ↦ λ e at. own_loose b (equal_numbers b r.block e) loose at
          | false ↦ λ e at. other b (other_number b r.block e) at
        ] refl same
      ] refl refl

  -- all lines are handed out then
  hands_more : AreHandedOut more t after
  hands_more = record { rest = handed_rest t u r is.rest; lines_are = one_line; blocks_are = one_block }

-- ---- one listed run, one listed block

-- a line of the runs below a number is one of those below the next
runs_more : (listed : Tables) (blocks k n : ℕ) → IsInRuns listed blocks k n → IsInRuns listed blocks (k + 1) n
runs_more listed blocks k n is = let low = is.drawn in record { number = is.number; drawn = omega (arith, low); run = is.run; lists = is.lists; line = is.line }

-- and so with blocks
blocks_more : (listed : Tables) (k n : ℕ) → IsInBlocks listed k n → IsInBlocks listed (k + 1) n
blocks_more listed k n is = let low = is.drawn in record { number = is.number; drawn = omega (arith, low); line = is.line }

-- words of runs tell the runs
same_run : (t : Tables) (blocks k : ℕ) (q r : Run) → blocks ≤ MOST_BLOCKS → ListsRun t blocks k q → ListsRun t blocks k r → q ≡ r
same_run t blocks k q r few a b =
    let e : word_of_run q ≡ word_of_run r = sym a.word ∙ b.word in
    let in_q = a.run.run.within in let in_r = b.run.run.within in
    let block : q.block ≡ r.block = omega (arith, e, in_q, in_r) in
    let line : q.line ≡ r.line = omega (arith, e, in_q, in_r) in
    let lines : q.lines ≡ r.lines = omega (arith, e, in_q, in_r) in
    λ i. record { block = block i; line = line i; lines = lines i }

-- the number is the last below the next, or below it
last_or_below : (j k : ℕ) → j < k + 1 → (j ≡ k) ⊎ (j < k)
last_or_below j k h = elim (leb_tells k j) [ inl c ↦ let m = c.1 in inl (omega (arith, m, h)) | inr c ↦ inr c.1 ]

-- handing out the next listed run
hands_run : (listed : Tables) (blocks k : ℕ) (t u : Tables) (r : Run) → blocks ≤ MOST_BLOCKS → AreHandedOut (IsDrawnLine listed blocks k 0) t u → ListsRun listed blocks k r
    → ((n : ℕ) → IsLineOf r n → ¬ IsDrawnLine listed blocks k 0 n) → AreHandedOut (IsDrawnLine listed blocks (k + 1) 0) t (handed_out u r)
hands_run listed blocks k t u r few is lists apart = hands_more (IsDrawnLine listed blocks k 0) (IsDrawnLine listed blocks (k + 1) 0) t u r is (record {
  within = lists.run.run.within;
  some = lists.some;
  apart = apart;
  still = still;
  own = λ n line. inl (record { number = k; drawn = omega arith; run = r; lists = lists; line = line });
  back = back;
})
  where
    still : (n : ℕ) → IsDrawnLine listed blocks k 0 n → IsDrawnLine listed blocks (k + 1) 0 n
    still n (inl run) = inl (runs_more listed blocks k n run)
    still n (inr block) = inr block

    back : (n : ℕ) → IsDrawnLine listed blocks (k + 1) 0 n → IsDrawnLine listed blocks k 0 n ⊎ IsLineOf r n
    back n (inr block) = inl (inr block)
    back n (inl run) = elim (last_or_below run.number k run.drawn) [
      | inl e ↦
          let same = same_run listed blocks k run.run r few (subst (λ z. ListsRun listed blocks z run.run) e run.lists) lists in
          inr (subst (λ z. IsLineOf z n) same run.line)
      | inr low ↦ inl (inl (record { number = run.number; drawn = low; run = run.run; lists = run.lists; line = run.line }))
    ]

-- handing out the next listed block
hands_block : (listed : Tables) (blocks runs k : ℕ) (t u : Tables) → AreHandedOut (IsDrawnLine listed blocks runs k) t u → ((n : ℕ) → IsLineOf (whole_block (listed.frees k)) n → ¬ IsDrawnLine listed blocks runs k n)
    → AreHandedOut (IsDrawnLine listed blocks runs (k + 1)) t (handed_out u (whole_block (listed.frees k)))
hands_block listed blocks runs k t u is apart = hands_more (IsDrawnLine listed blocks runs k) (IsDrawnLine listed blocks runs (k + 1)) t u (whole_block (listed.frees k)) is (record {
  within = omega arith;
  some = omega arith;
  apart = apart;
  still = still;
  own = λ n line. inr (record { number = k; drawn = omega arith; line = line });
  back = back;
})
  where
    still : (n : ℕ) → IsDrawnLine listed blocks runs k n → IsDrawnLine listed blocks runs (k + 1) n
    still n (inl run) = inl run
    still n (inr block) = inr (blocks_more listed k n block)

    back : (n : ℕ) → IsDrawnLine listed blocks runs (k + 1) n → IsDrawnLine listed blocks runs k n ⊎ IsLineOf (whole_block (listed.frees k)) n
    back n (inl run) = inl (inl run)
    back n (inr block) = elim (last_or_below block.number k block.drawn) [
      | inl e ↦ inr (subst (λ z. IsLineOf (whole_block (listed.frees z)) n) e block.line)
      | inr low ↦ inl (inr (record { number = block.number; drawn = low; line = block.line }))
    ]

-- ---- what the lines that were handed out tell

-- they are out
pub drawn_is_out : (lines : ℕ → Type 0) (t u : Tables) (n : ℕ) → AreHandedOut lines t u → lines n → IsTrue (u.outs n)
drawn_is_out lines t u n is drawn = elim (is.lines_are n) [ inl handed ↦ handed.out | inr left ↦ absurd (left.undrawn drawn) ]

-- what was out is so
pub still_out : (lines : ℕ → Type 0) (t u : Tables) (n : ℕ) → AreHandedOut lines t u → IsTrue (t.outs n) → IsTrue (u.outs n)
still_out lines t u n is out = elim (is.lines_are n) [ inl handed ↦ handed.out | inr left ↦ left.out ∙ out ]

-- what is out was so, or is one of them
out_before : (lines : ℕ → Type 0) (t u : Tables) (n : ℕ) → AreHandedOut lines t u → IsTrue (u.outs n) → IsTrue (t.outs n) ⊎ lines n
out_before lines t u n is out = elim (is.lines_are n) [ inl handed ↦ inr handed.drawn | inr left ↦ inl (sym left.out ∙ out) ]

-- each block keeps its state, or has that of its lines
pub keeps_state : (lines : ℕ → Type 0) (t u : Tables) (b : ℕ) → AreHandedOut lines t u → KeepsState t u b
keeps_state lines t u b is = elim (is.blocks_are b) [ inl new ↦ inr (new.loose, new_loose lines t u b new) | inr keeps ↦ inl keeps.state ]

-- one that is Free then was so, and none of its lines was handed out
pub keeps_free : (lines : ℕ → Type 0) (t u : Tables) → AreHandedOut lines t u → KeepsFree t u
keeps_free lines t u is b free = elim (is.blocks_are b) [
  | inl new ↦ absurd (used_by_lines u new.line (out_keeps u new.line (drawn_is_out lines t u new.line is new.drawn))
      (ap (state_by_lines u) new.in_block ∙ sym (read_back (state_by_lines u b)) ∙ sym (ap state_of new.state) ∙ free))
  | inr left ↦
      let was : state_in t b ≡ Free = sym (ap state_of left.state) ∙ free in (
        was,
        λ line of_b out. elim (is.lines_are line) [
          | inl handed ↦ elim left.why [
            | inl fixed ↦ absurd (let no : true ≡ false = sym fixed ∙ ap is_fixed was in cc)
            | inr none ↦ absurd (none line of_b handed.drawn)
          ]
          | inr stays ↦ sym stays.out ∙ out
        ],
      )
]

-- ---- what is left free

-- a run whose lines weren't drawn is still free
still_free : (listed : Tables) (blocks runs frees : ℕ) (t u : Tables) (r : Run) → AreHandedOut (IsDrawnLine listed blocks runs frees) t u → AreLater listed t → IsFreeRun listed blocks r
    → ((n : ℕ) → IsLineOf r n → ¬ IsDrawnLine listed blocks runs frees n) → IsFreeRun u blocks r
still_free listed blocks runs frees t u r is later free none = record {
  block = free.block;
  within = free.within;
  free = λ i low high.
      let n : ℕ = LINES_IN_BLOCK * r.block + i in
      let was : IsFreeLine listed n = (free_line_is_told listed n).0 (free.free i low high) in
      let line : IsLineOf r n = record { first = omega (arith, low); behind = omega (arith, high) } in
      let outs : t.outs ≡ listed.outs = ap (λ z. z.outs) later.rest in
      let counts : u.counts ≡ t.counts = ap (λ z. z.counts) is.rest in
      (free_line_is_told u n).1 (record {
        in_hand = false_from_ne_true (u.outs n) (λ out. elim (out_before (IsDrawnLine listed blocks runs frees) t u n is out) [
          | inl start ↦ not_both (listed.outs n) (subst (λ f. IsTrue (f n)) outs start) was.in_hand
          | inr drawn ↦ none n line drawn
        ]);
        uncounted = λ k h. ap (λ f. f (16 * n + k)) counts ∙ later.uncounted (16 * n + k) (was.uncounted k h);
      });
}

-- two runs that are apart have no line in common
no_common_line : (q r : Run) (n : ℕ) → q.line + q.lines ≤ LINES_IN_BLOCK → r.line + r.lines ≤ LINES_IN_BLOCK → AreApartRuns q r → IsLineOf q n → IsLineOf r n → ⊥
no_common_line q r n in_q in_r apart a b =
    let a0 = a.first in let a1 = a.behind in let b0 = b.first in let b1 = b.behind in
    elim apart [
      | inl other ↦ other (omega (arith, a0, a1, b0, b1, in_q, in_r))
      | inr (inl before) ↦ omega (arith, a0, a1, b0, b1, in_q, in_r, before)
      | inr (inr behind) ↦ omega (arith, a0, a1, b0, b1, in_q, in_r, behind)
    ]

-- numbers that were drawn, and are listed
drawn_listed_runs : (listed : Space) (t : Tables) → AreLater (tables_of listed) t → drawn_runs t ≤ (tables_of listed).cursors RUN_COUNT
drawn_listed_runs listed t later = let e = later.runs in omega (arith, e)

-- so it is with blocks
drawn_listed_blocks : (listed : Space) (t : Tables) → AreLater (tables_of listed) t → drawn_blocks t ≤ (tables_of listed).cursors FREE_BLOCK_COUNT
drawn_listed_blocks listed t later = let e = later.frees in omega (arith, e)

-- the next listed run has no line of those below it
pub next_run_apart : (listed : Space) (k : ℕ) (r : Run) → IsListed listed → k < (tables_of listed).cursors RUN_COUNT → ListsRun (tables_of listed) listed.limits.blocks k r
    → (n : ℕ) → IsLineOf r n → ¬ IsDrawnLine (tables_of listed) listed.limits.blocks k 0 n
next_run_apart listed k r lists small at n line (inl run) = no_common_line run.run r n run.lists.run.run.within at.run.run.within (lists.runs_apart run.number k run.run r run.drawn small run.lists at) run.line line
next_run_apart listed k r lists small at n line (inr block) = let low = block.drawn in omega (arith, low)

-- the next listed block has no line of the runs that were drawn, nor of the blocks below it
pub next_block_apart : (listed : Space) (runs k : ℕ) → IsListed listed → runs ≤ (tables_of listed).cursors RUN_COUNT → k < (tables_of listed).cursors FREE_BLOCK_COUNT
    → (n : ℕ) → IsLineOf (whole_block ((tables_of listed).frees k)) n → ¬ IsDrawnLine (tables_of listed) listed.limits.blocks runs k n
next_block_apart listed runs k lists few small n line (inl run) =
    let low = run.drawn in
    no_common_line run.run (whole_block ((tables_of listed).frees k)) n run.lists.run.run.within (omega arith)
    (inl (lists.all_apart run.number k run.run (omega (arith, low, few)) small run.lists)) run.line line
next_block_apart listed runs k lists few small n line (inr block) =
    no_common_line (whole_block ((tables_of listed).frees block.number)) (whole_block ((tables_of listed).frees k)) n (omega arith) (omega arith)
    (inl (lists.blocks_apart block.number k block.drawn small)) block.line line

-- what was drawn was free as it was listed
pub listed_was_free : (listed : Space) (t : Tables) (n : ℕ) → IsListed listed → AreLater (tables_of listed) t → IsDrawnLine (tables_of listed) listed.limits.blocks (drawn_runs t) (drawn_blocks t) n → IsTrue (is_free (tables_of listed) n)
listed_was_free listed t n lists later (inl run) = line_free (tables_of listed) listed.limits.blocks run.run n run.lists.run.run run.line.first run.line.behind
listed_was_free listed t n lists later (inr block) =
    let few = drawn_listed_blocks listed t later in let low = block.drawn in
    line_free (tables_of listed) listed.limits.blocks (whole_block ((tables_of listed).frees block.number)) n (lists.blocks block.number (omega (arith, few, low))).run.run block.line.first block.line.behind

-- ---- spaces

-- limits stay those of the space whose lists are handed out
limits_stay : (listed start now : Space) (runs frees : ℕ) → HasHandedOut listed start now runs frees → now.limits ≡ listed.limits
limits_stay listed start now runs frees is = ap (λ (z : Space). z.limits) is.rest ∙ is.may.limits

-- so do the tables of runs and of free blocks
runs_stay : (listed start now : Space) (runs frees : ℕ) → HasHandedOut listed start now runs frees → (tables_of now).runs ≡ (tables_of listed).runs
runs_stay listed start now runs frees is = ap (λ (z : Tables). z.runs) is.hands.rest ∙ ap (λ (z : Tables). z.runs) is.may.tables.rest

-- and the table of free blocks does
frees_stay : (listed start now : Space) (runs frees : ℕ) → HasHandedOut listed start now runs frees → (tables_of now).frees ≡ (tables_of listed).frees
frees_stay listed start now runs frees is = ap (λ (z : Tables). z.frees) is.hands.rest ∙ ap (λ (z : Tables). z.frees) is.may.tables.rest

-- the run that the word of a drawn number says
pub record IsNext (listed now : Space) (k : ℕ) (r : Run) : Type 0 where
  pub lists : ListsRun (tables_of listed) listed.limits.blocks k r
  pub run : IsRun r
  pub word : (tables_of now).runs k ≡ word_of_run r
  pub apart : (n : ℕ) → IsLineOf r n → ¬ IsDrawnLine (tables_of listed) listed.limits.blocks k 0 n
  pub free : IsFreeRun (tables_of now) now.limits.blocks r

-- there is such a run
pub next_run : (listed start now : Space) (k : ℕ) → HasHandedOut listed start now k 0 → k < drawn_runs (tables_of start) → (r : Run) × IsNext listed now k r
next_run listed start now k is small =
    let few = drawn_listed_runs listed (tables_of start) is.may.tables in
    let low : k < (tables_of listed).cursors RUN_COUNT = omega (arith, few, small) in
    let at = is.may.lists.runs k low in
    let within = at.1.run.run.within in
    let block = at.1.run.run.block in
    let blocks = is.space.limits.blocks.1 in
    let same = ap (λ (l : Limits). l.blocks) (limits_stay listed start now k 0 is) in (
      at.0,
      record {
        lists = at.1;
        run = record { block = omega (arith, block, blocks, same); line = omega (arith, within); lines = omega (arith, within) };
        word = ap (λ f. f k) (runs_stay listed start now k 0 is) ∙ at.1.word;
        apart = apart at.0 at.1 low;
        free = subst (λ z. IsFreeRun (tables_of now) z at.0) (sym same)
            (still_free (tables_of listed) listed.limits.blocks k 0 (tables_of start) (tables_of now) at.0 is.hands is.may.tables at.1.run.run (apart at.0 at.1 low));
      },
    )
  where
    apart : (r : Run) → ListsRun (tables_of listed) listed.limits.blocks k r → k < (tables_of listed).cursors RUN_COUNT → (n : ℕ) → IsLineOf r n → ¬ IsDrawnLine (tables_of listed) listed.limits.blocks k 0 n
    apart r at low = next_run_apart listed k r is.may.lists low at

-- the next run is handed out
pub run_handed : (listed start now after : Space) (k : ℕ) (r : Run) → HasHandedOut listed start now k 0 → IsNext listed now k r → Turns now after (handed_out (tables_of now) r) → HasHandedOut listed start after (k + 1) 0
run_handed listed start now after k r is at turns = record {
  may = is.may;
  hands = subst (AreHandedOut (IsDrawnLine (tables_of listed) listed.limits.blocks (k + 1) 0) (tables_of start)) (sym turns.tables)
      (hands_run (tables_of listed) listed.limits.blocks k (tables_of start) (tables_of now) r
      (subst (λ (l : Limits). l.blocks ≤ MOST_BLOCKS) (limits_stay listed start now k 0 is) is.space.limits.blocks.1) is.hands at.lists at.apart);
  rest = turns.rest ∙ ap (λ z. with_words z after.words) is.rest;
  space = still_space now after (handed_out (tables_of now) r) is.space turns refl;
}
  where
    with_words : Space → List ℕ → Space
    with_words z words = record z { words = words }

-- the next block has no line of what was handed out
next_apart : (listed start now : Space) (k : ℕ) → HasHandedOut listed start now (drawn_runs (tables_of start)) k → k < drawn_blocks (tables_of start)
    → (n : ℕ) → IsLineOf (whole_block ((tables_of listed).frees k)) n → ¬ IsDrawnLine (tables_of listed) listed.limits.blocks (drawn_runs (tables_of start)) k n
next_apart listed start now k is small =
    let few = drawn_listed_blocks listed (tables_of start) is.may.tables in
    next_block_apart listed (drawn_runs (tables_of start)) k is.may.lists (drawn_listed_runs listed (tables_of start) is.may.tables) (omega (arith, few, small))

-- the next block is free
pub block_free : (listed start now : Space) (k : ℕ) → HasHandedOut listed start now (drawn_runs (tables_of start)) k → k < drawn_blocks (tables_of start)
    → IsFreeRun (tables_of now) now.limits.blocks (whole_block ((tables_of now).frees k))
block_free listed start now k is small =
    let same = ap (λ (l : Limits). l.blocks) (limits_stay listed start now (drawn_runs (tables_of start)) k is) in
    let few = drawn_listed_blocks listed (tables_of start) is.may.tables in
    let was = (is.may.lists.blocks k (omega (arith, few, small))).run.run in
    let free = still_free (tables_of listed) listed.limits.blocks (drawn_runs (tables_of start)) k (tables_of start) (tables_of now) (whole_block ((tables_of listed).frees k)) is.hands is.may.tables was (next_apart listed start now k is small) in
    subst (λ z. IsFreeRun (tables_of now) z (whole_block ((tables_of now).frees k))) (sym same)
    (subst (λ f. IsFreeRun (tables_of now) listed.limits.blocks (whole_block (f k))) (sym (frees_stay listed start now (drawn_runs (tables_of start)) k is)) free)

-- then it is handed out
pub block_handed : (listed start now after : Space) (k : ℕ) → HasHandedOut listed start now (drawn_runs (tables_of start)) k → k < drawn_blocks (tables_of start)
    → Turns now after (handed_out (tables_of now) (whole_block ((tables_of now).frees k))) → HasHandedOut listed start after (drawn_runs (tables_of start)) (k + 1)
block_handed listed start now after k is small turns =
    let runs : ℕ = drawn_runs (tables_of start) in
    let r : Run = whole_block ((tables_of now).frees k) in
    let r' : Run = whole_block ((tables_of listed).frees k) in
    let same : r ≡ r' = ap (λ f. whole_block (f k)) (frees_stay listed start now runs k is) in
    record {
      may = is.may;
      hands = subst (AreHandedOut (IsDrawnLine (tables_of listed) listed.limits.blocks runs (k + 1)) (tables_of start)) (sym turns.tables)
          (subst (λ z. AreHandedOut (IsDrawnLine (tables_of listed) listed.limits.blocks runs (k + 1)) (tables_of start) (handed_out (tables_of now) z)) (sym same)
          (hands_block (tables_of listed) listed.limits.blocks runs k (tables_of start) (tables_of now) is.hands (next_apart listed start now k is small)));
      rest = turns.rest ∙ ap (λ z. with_words z after.words) is.rest;
      space = still_space now after (handed_out (tables_of now) r) is.space turns refl;
    }
  where
    with_words : Space → List ℕ → Space
    with_words z words = record z { words = words }

-- nothing is handed out yet
pub none_handed : (listed start : Space) → MayHandOut listed start → HasHandedOut listed start start 0 0
none_handed listed start may = record {
  may = may;
  hands = record {
    rest = refl;
    lines_are = λ n. inr (record { undrawn = λ h. none n h; out = refl; reuse = refl });
    blocks_are = λ b. inr (record { why = inr (λ n in_block h. none n h); state = refl });
  };
  rest = refl;
  space = may.space;
}
  where
    none : (n : ℕ) → ¬ IsDrawnLine (tables_of listed) listed.limits.blocks 0 0 n
    none n (inl run) = let low = run.drawn in omega (arith, low)
    none n (inr block) = let low = block.drawn in omega (arith, low)
