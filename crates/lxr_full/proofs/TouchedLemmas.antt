-- What touches slots: nothing at the opening, a row of lines few, such as a run that is handed out, and all outside Chosen
-- blocks are touched where no run is left there.
use Rattle.std.proofs.Common.{◌≡◌, ◌≢◌, ℕ, zero, suc, ◌+◌, ◌-◌, ◌*◌, ◌/◌, ◌<◌, ◌≤◌, refl, sym, ap, subst, ◌∙◌, inl, inr, ◌⊎◌, arith, true, false}
use Rattle.std.specs.Prelude.{◌&&◌, not, if◌then◌else◌}
use Rattle.std.proofs.Math.Path.{fun_ext}
use Rattle.std.proofs.lemmas.Bool.{cases_Bool, not-false}
use Rattle.std.proofs.lemmas.Bool.Decides.{eqb_tells, leb_tells, nat_tests}
use Rattle.lxr_layout.specs.declared.TheConstants.{GRANULES_IN_LINE, LINES_IN_BLOCK}
use Rattle.lxr_layout.specs.declared.limits.Limits.{Limits}
use Rattle.lxr_layout.specs.declared.runs.Run.{Run}
use Rattle.lxr_image.specs.Tables.{Tables}
use Rattle.lxr_image.specs.Opened.{opened_tables}
use Rattle.lxr_blocks.specs.declared.states.BlockState.{BlockState}
use Rattle.lxr_blocks.specs.declared.states.BlockState.TheVariants.{Chosen, Free, Partly, Whole, World}
use Rattle.lxr_blocks.specs.Lines.{IsFreeRun, are_zero, free_in, is_free}
use Rattle.lxr_blocks.specs.States.{IsOpenRun, state_in}
use Rattle.lxr_blocks.specs.Handing.{first_line, handed_out, is_between}
use Rattle.lxr_blocks.proofs.LineLemmas.{all_zero}
use Rattle.lxr_model.specs.Full.{slots_in, slots_touched}
use Rattle.lxr_invariant.specs.Lines.{chosen_count, is_chosen}
use Rattle.lxr_full.specs.Touched.{are_free, is_touched, slots_begin, slots_of, touched_in, touched_slots}
use Rattle.lxr_full.specs.TouchedLaws.{HandingOutTouchesFew, NoRunTouchesAll, OpenedTouchesNone, TouchedReadsLines}
use Rattle.lxr_full.proofs.SlotLemmas.{IsInWindow, counts_all, counts_in_window, counts_more, counts_none, counts_same, one_at_most, row_has_free, row_is_free, same_row, slot_in_window, slot_within}

pub begins_early : (b : ℕ) → slots_begin b ≤ 3
begins_early zero = omega arith
begins_early (suc b) = omega arith

-- ---- the same lines

-- a block whose lines are the same has as many slots touched
same_block : (t u : Tables) (k b : ℕ) → ((i : ℕ) → i < LINES_IN_BLOCK → free_in t b i ≡ free_in u b i) → touched_in t k b ≡ touched_in u k b
same_block t u k b same =
    let early = begins_early b in
    counts_same (is_touched (free_in t b) k (slots_begin b)) (is_touched (free_in u b) k (slots_begin b)) (slots_of k b)
    (λ j h. ap not (same_row (free_in t b) (free_in u b) (slots_begin b + j * k) k
    (λ m in_slot. same (slots_begin b + j * k + m) (let within = slot_within (slots_begin b) k j (omega (arith, early)) h in omega (arith, within, in_slot)))))

pub touched_reads_lines : TouchedReadsLines
unfolding touched_slots
touched_reads_lines t u zero k outs counts = refl
touched_reads_lines t u (suc b) k outs counts =
    let line : (i : ℕ) → free_in t b i ≡ free_in u b i = λ i.
    ap (λ x. not x && are_zero t.counts (GRANULES_IN_LINE * (LINES_IN_BLOCK * b + i)) GRANULES_IN_LINE) (outs (LINES_IN_BLOCK * b + i))
    ∙ ap (λ f. not (u.outs (LINES_IN_BLOCK * b + i)) && are_zero f (GRANULES_IN_LINE * (LINES_IN_BLOCK * b + i)) GRANULES_IN_LINE) (fun_ext counts) in
    ap (λ n. n + touched_in t k b) (touched_reads_lines t u b k outs counts)
    ∙ ap (λ n. touched_slots u b k + n) (same_block t u k b (λ i h. line i))

-- ---- the opening

-- the world reaches over the first three lines only
opened_count : (limits : Limits) (g : ℕ) → 48 ≤ g → (opened_tables limits).counts g ≡ 0
opened_count limits g past = grind (arith, nat_tests)

opened_line : (limits : Limits) (n : ℕ) → 3 ≤ n → is_free (opened_tables limits) n ≡ true
opened_line limits n past =
    all_zero (opened_tables limits).counts (GRANULES_IN_LINE * n) 16 (λ m h. opened_count limits (GRANULES_IN_LINE * n + m) (omega (arith, past)))

-- lines from where slots begin are behind the world
behind_world : (b i : ℕ) → slots_begin b ≤ i → 3 ≤ LINES_IN_BLOCK * b + i
behind_world zero i from = omega (arith, from)
behind_world (suc b) i from = omega arith

-- where all lines behind the world are free, no slot is touched
abbrev pub IsAllFree : Tables → Type 0
IsAllFree t = (n : ℕ) → 3 ≤ n → is_free t n ≡ true

free_block : (t : Tables) (k b : ℕ) → IsAllFree t → touched_in t k b ≡ 0
free_block t k b free =
    counts_none (is_touched (free_in t b) k (slots_begin b)) (slots_of k b)
    (λ j h. ap not (row_is_free (free_in t b) (slots_begin b + j * k) k
    (λ m in_slot. free (LINES_IN_BLOCK * b + (slots_begin b + j * k + m)) (behind_world b (slots_begin b + j * k + m) (omega arith)))))

pub free_blocks : (t : Tables) (blocks k : ℕ) → IsAllFree t → touched_slots t blocks k ≡ 0
unfolding touched_slots
free_blocks t zero k free = refl
free_blocks t (suc b) k free = let before = free_blocks t b k free in let here = free_block t k b free in omega (arith, before, here)

pub opened_touches_none : OpenedTouchesNone
opened_touches_none limits k = free_blocks (opened_tables limits) limits.blocks k (opened_line limits)

-- ---- more lines that aren't free

-- a heap has no more slots touched than another in which each of its lines that aren't free isn't free either
more_in_block : (t u : Tables) (k b : ℕ) → ((i : ℕ) → slots_begin b ≤ i → i < LINES_IN_BLOCK → free_in t b i ≡ false → free_in u b i ≡ false)
    → touched_in t k b ≤ touched_in u k b
more_in_block t u k b still =
    let early = begins_early b in
    counts_more (is_touched (free_in t b) k (slots_begin b)) (is_touched (free_in u b) k (slots_begin b)) (slots_of k b)
    (λ j h untouched. let within = slot_within (slots_begin b) k j (omega (arith, early)) h in
    let begin = slots_begin b + j * k in
    ap not (row_is_free (free_in t b) begin k (λ m in_slot. elim (cases_Bool (free_in t b (begin + m))) [
      | inl free ↦ free
      | inr taken ↦
          let row : are_free (free_in u b) begin k ≡ true = not-false _ untouched in
          let is = row_has_free (free_in u b) begin k m in_slot row in
          let no = still (begin + m) (omega arith) (omega (arith, within, in_slot)) taken in absurd (cc)
    ])))

pub more_touched : (t u : Tables) (n k : ℕ) → ((line : ℕ) → 3 ≤ line → line < LINES_IN_BLOCK * n → is_free t line ≡ false → is_free u line ≡ false)
    → touched_slots t n k ≤ touched_slots u n k
unfolding touched_slots
more_touched t u zero k still = omega arith
more_touched t u (suc b) k still =
    let before = more_touched t u b k (λ line past in_heap. still line past (omega (arith, in_heap))) in
    let here = more_in_block t u k b (λ i from h. still (LINES_IN_BLOCK * b + i) (behind_world b i from) (omega (arith, h))) in
    omega (arith, before, here)

-- ---- lines in a row

-- the same lines are free, but for some in a row of one block
pub record DifferInRow (t u : Tables) (b first end : ℕ) : Type 0 where
  pub begins : LINES_IN_BLOCK * b ≤ first
  pub within : end ≤ LINES_IN_BLOCK * b + LINES_IN_BLOCK
  pub alike : (n : ℕ) → (n < first) ⊎ (end ≤ n) → is_free t n ≡ is_free u n

module _ (t u : Tables) (b first end lines k : ℕ) (some : 1 ≤ k) (short : end ≤ first + lines + 1) (differ : DifferInRow t u b first end) where
  -- a line of another block is outside the row
  in_other_block : (c i : ℕ) → c ≢ b → i < LINES_IN_BLOCK → (LINES_IN_BLOCK * c + i < first) ⊎ (end ≤ LINES_IN_BLOCK * c + i)
  in_other_block c i ne h =
      let begins = differ.begins in let within = differ.within in
      elim (leb_tells c b) [
        | inl before ↦ let low = before.1 in inl (omega (arith, low, begins))
        | inr behind ↦ let high = behind.1 in inr (omega (arith, high, within))
      ]

  other_block : (c : ℕ) → c ≢ b → touched_in t k c ≡ touched_in u k c
  other_block c ne = same_block t u k c (λ i h. differ.alike (LINES_IN_BLOCK * c + i) (in_other_block c i ne h))

  -- a slot of the row's block is touched in both, or the row overlaps it
  own_slot : (j : ℕ) → (is_touched (free_in t b) k (slots_begin b) j ≡ is_touched (free_in u b) k (slots_begin b) j)
      ⊎ IsInWindow ((first - LINES_IN_BLOCK * b - slots_begin b) / k) (slots_touched k lines) j
  own_slot j =
      let begin = slots_begin b + j * k in
      let begins = differ.begins in
      let same : ((m : ℕ) → m < k → (LINES_IN_BLOCK * b + (begin + m) < first) ⊎ (end ≤ LINES_IN_BLOCK * b + (begin + m)))
      → is_touched (free_in t b) k (slots_begin b) j ≡ is_touched (free_in u b) k (slots_begin b) j
      = λ outside. ap not (same_row (free_in t b) (free_in u b) begin k (λ m h. differ.alike (LINES_IN_BLOCK * b + (begin + m)) (outside m h))) in
      elim (leb_tells (LINES_IN_BLOCK * b + (begin + k)) first) [
        | inl before ↦ let low = before.1 in inl (same (λ m h. inl (omega (arith, h, low))))
        | inr not_before ↦ elim (leb_tells end (LINES_IN_BLOCK * b + begin)) [
          | inl behind ↦ let high = behind.1 in inl (same (λ m h. inr (omega (arith, high))))
          | inr not_behind ↦
              let low = not_before.1 in let high = not_behind.1 in
              inr (slot_in_window (slots_begin b) (first - LINES_IN_BLOCK * b) lines k j some (omega (arith, low, begins)) (omega (arith, high, begins, short)))
        ]
      ]

  own_block : touched_in t k b ≤ touched_in u k b + slots_touched k lines
  own_block =
      (counts_in_window (is_touched (free_in t b) k (slots_begin b)) (is_touched (free_in u b) k (slots_begin b))
      ((first - LINES_IN_BLOCK * b - slots_begin b) / k) (slots_touched k lines) (slots_of k b) (λ j h. own_slot j)).1

  -- the blocks before the row's
  blocks_before : (n : ℕ) → n ≤ b → touched_slots t n k ≡ touched_slots u n k
  unfolding touched_slots
  blocks_before zero low = refl
  blocks_before (suc c) low =
      let before = blocks_before c (omega (arith, low)) in
      let here = other_block c (λ is. omega (arith, is, low)) in omega (arith, before, here)

  -- so many lines in a row and one more touch no more slots than so many lines may
  pub row_touches_few : (n : ℕ) → touched_slots t n k ≤ touched_slots u n k + slots_touched k lines
  unfolding touched_slots
  row_touches_few zero = omega arith
  row_touches_few (suc c) = elim (eqb_tells c b) [
    | inl own ↦
        let is = own.1 in let before = blocks_before c (omega (arith, is)) in
        let here = subst (λ x. touched_in t k x ≤ touched_in u k x + slots_touched k lines) (sym is) own_block in
        omega (arith, before, here)
    | inr other ↦ let before = row_touches_few c in let here = other_block c other.1 in omega (arith, before, here)
  ]

-- ---- a run that is handed out

-- a number outside isn't between
not_quiescent : (first end n : ℕ) → (n < first) ⊎ (end ≤ n) → is_between first end n ≡ false
not_quiescent first end n outside = grind (arith, nat_tests)

-- a line outside the run is as free as it was
other_line : (t : Tables) (r : Run) (n : ℕ) → (n < first_line r) ⊎ (first_line r + r.lines ≤ n) → is_free (handed_out t r) n ≡ is_free t n
other_line t r n outside =
    ap (λ x. not (if x then true else t.outs n) && are_zero t.counts (GRANULES_IN_LINE * n) GRANULES_IN_LINE) (not_quiescent (first_line r) (first_line r + r.lines) n outside)

pub handing_out_touches_few : HandingOutTouchesFew
handing_out_touches_few t blocks k r some is =
    row_touches_few (handed_out t r) t r.block (first_line r) (first_line r + r.lines) r.lines k some (omega arith)
    (record { begins = omega arith; within = let h = is.within in omega (arith, h); alike = other_line t r }) blocks

-- ---- no run is left

-- no run of so many free lines outside Chosen blocks
abbrev pub NoRun : Tables → ℕ → ℕ → Type 0
NoRun t blocks k = (q : Run) → IsOpenRun t blocks q → k ≤ q.lines → ⊥

-- a slot that isn't touched is a run
slot_is_run : (t : Tables) (blocks k b j : ℕ) → b < blocks → j < slots_of k b → are_free (free_in t b) (slots_begin b + j * k) k ≡ true
    → IsFreeRun t blocks (record { block = b; line = slots_begin b + j * k; lines = k })
slot_is_run t blocks k b j in_heap h is =
    let early = begins_early b in record {
      block = in_heap;
      within = slot_within (slots_begin b) k j (omega (arith, early)) h;
      free = λ i low high. let at : slots_begin b + j * k + (i - (slots_begin b + j * k)) ≡ i = omega (arith, low) in
          subst (λ x. free_in t b x ≡ true) at (row_has_free (free_in t b) (slots_begin b + j * k) k (i - (slots_begin b + j * k)) (omega (arith, low, high)) is);
    }

all_touched : (t : Tables) (blocks k b j : ℕ) → NoRun t blocks k → b < blocks → state_in t b ≢ Chosen → j < slots_of k b → is_touched (free_in t b) k (slots_begin b) j ≡ true
all_touched t blocks k b j none in_heap open_block h = elim (cases_Bool (are_free (free_in t b) (slots_begin b + j * k) k)) [
  | inl is ↦ absurd (none _ (record { run = slot_is_run t blocks k b j in_heap h is; outside = open_block }) (omega arith))
  | inr is ↦ ap not is
]

full_block : (t : Tables) (blocks k b : ℕ) → NoRun t blocks k → b < blocks → state_in t b ≢ Chosen → touched_in t k b ≡ slots_of k b
full_block t blocks k b none in_heap open_block =
    counts_all (is_touched (free_in t b) k (slots_begin b)) (slots_of k b) (λ j h. all_touched t blocks k b j none in_heap open_block h)

-- ---- Chosen blocks

-- what tells Chosen from other states
is_other : (state : BlockState) → is_chosen state ≡ false → state ≢ Chosen
is_other state told is = let both : true ≡ false = sym (ap is_chosen is) ∙ told in cc

other_is_told : (state : BlockState) → state ≢ Chosen → is_chosen state ≡ false
other_is_told Free other = refl
other_is_told Partly other = refl
other_is_told Whole other = refl
other_is_told Chosen other = absurd (other refl)
other_is_told World other = refl

-- where block 0 isn't Chosen, at most so many further blocks are
few_chosen : (t : Tables) (n : ℕ) → state_in t 0 ≢ Chosen → chosen_count t (suc n) ≤ n
few_chosen t zero first = let here = ap (λ b. (if b then 1 else 0) + chosen_count t zero) (other_is_told (state_in t 0) first) in omega (arith, here)
few_chosen t (suc n) first =
    let before = few_chosen t n first in let one = one_at_most (is_chosen (state_in t (suc n))) in omega (arith, before, one)

-- of block 0 and so many further blocks, only slots of Chosen ones aren't touched
most_touched : (t : Tables) (blocks k n : ℕ) → NoRun t blocks k → state_in t 0 ≢ Chosen → n < blocks
    → slots_in k n ≤ touched_slots t (suc n) k + chosen_count t (suc n) * (LINES_IN_BLOCK / k)
unfolding touched_slots
most_touched t blocks k zero none first h = let here = full_block t blocks k zero none h first in omega (arith, here)
most_touched t blocks k (suc n) none first h =
    let before = most_touched t blocks k n none first (omega (arith, h)) in
    elim (cases_Bool (is_chosen (state_in t (suc n)))) [
      | inl chosen ↦ let one = ap (λ b. (if b then 1 else 0) + chosen_count t (suc n)) chosen in
          let more = ap (λ c. c * (LINES_IN_BLOCK / k)) one in omega (arith, before, more)
      | inr told ↦
          let none_more = ap (λ b. (if b then 1 else 0) + chosen_count t (suc n)) told in
          let as_before = ap (λ c. c * (LINES_IN_BLOCK / k)) none_more in
          let here = full_block t blocks k (suc n) none h (is_other (state_in t (suc n)) told) in
          omega (arith, before, as_before, here)
    ]

pub no_run_touches_all : NoRunTouchesAll
no_run_touches_all t zero k some first none = absurd (omega arith)
no_run_touches_all t (suc n) k some first none =
    let most = most_touched t (suc n) k n none first (omega arith) in
    let few = few_chosen t n first in
    let open_blocks = suc n - chosen_count t (suc n) - 1 in
    let all : n ≡ open_blocks + chosen_count t (suc n) = omega (arith, few) in
    let parts = ap (λ m. m * (LINES_IN_BLOCK / k)) all in
    omega (arith, most, parts)
