-- How many blocks are Free, by what is known of them and by the states of the others.
use Rattle.std.proofs.Common.{◌≡◌, ◌≢◌, ℕ, zero, suc, ◌+◌, ◌-◌, ◌<◌, ◌≤◌, refl, sym, ap, subst, ◌∙◌, inl, inr, arith, Bool, true, false, List, length, take}
use Rattle.std.specs.Prelude.{◌==◌, ◌&&◌, ◌⊎◌, if◌then◌else◌, slice_index}
use Rattle.std.proofs.lemmas.Bool.Decides.{eqb_tells}
use Rattle.std.proofs.lemmas.List.{take_all}
use Rattle.std.proofs.lemmas.List.Sums.{sum_by_more}
use Rattle.lxr_layout.specs.declared.TheConstants.{LINES_IN_BLOCK}
use Rattle.lxr_layout.specs.declared.limits.Limits.{Limits}
use Rattle.lxr_image.specs.declared.heights.TheConstants.{FULL}
use Rattle.lxr_image.specs.declared.settled.Settled.{Settled}
use Rattle.lxr_image.specs.Heights.{full_among}
use Rattle.lxr_image.specs.Settled.{IsKnown, IsOpenLine, KnowsBlock, KnowsWords, free_below, known_free_below, line_of, of_blocks}
use Rattle.lxr_image.specs.Tables.{Tables, tables_in}
use Rattle.lxr_image.proofs.HeightsLemmas.{one_if_full}
use Rattle.lxr_image.proofs.WriteLemmas.{lines_at}

abbrev one_if : Bool → ℕ
one_if b = if b then 1 else 0

pub one_at_most : (b : Bool) → one_if b ≤ 1
one_at_most true = omega arith
one_at_most false = omega arith

-- ---- a block of which something is known

-- the longest run of open lines has all of them where the block is Free, and only there
whole_is_free : (t : Tables) (b mask most : ℕ) → KnowsBlock t b mask most → (most == FULL) ≡ (t.states b == 0)
whole_is_free t b mask most k = elim (eqb_tells most FULL) as (λ _. (most == FULL) ≡ (t.states b == 0)) [
  | inl full ↦
      let is : most ≡ 128 = full.1 in
      let all : (i : ℕ) → i < LINES_IN_BLOCK → IsOpenLine t (line_of b i) = λ i h. elim k.longest.1 [
        | inl none ↦ absurd (omega (arith, is, none))
        | inr run ↦ let within = run.1 in subst (λ n. IsOpenLine t (line_of b n)) (let same : run.0 + i ≡ i = omega (arith, within, is) in same) (run.2 i (omega (arith, h, is)))
      ] in
      full.0 ∙ sym (ap (λ n. n == 0) (k.whole all))
  | inr other ↦
      let less : most ≢ 128 = other.1 in
      elim (eqb_tells (t.states b) 0) as (λ _. (most == FULL) ≡ (t.states b == 0)) [
        | inl none ↦
            let is : t.states b ≡ 0 = none.1 in
            absurd (elim k.state [
              | inl fixed ↦ omega (arith, is, fixed)
              | inr (inl free) ↦
                  let long : 128 ≤ most = k.longest.0 0 128 (omega arith) (λ i h. subst (λ n. IsOpenLine t (line_of b n)) (let same : i ≡ 0 + i = omega arith in same) (free.1 i h)) in
                  let short : most ≤ 128 = elim k.longest.1 [ inl zero_long ↦ omega (arith, zero_long) | inr run ↦ let within = run.1 in omega (arith, within) ] in
                  less (omega (arith, long, short))
              | inr (inr (inl partly)) ↦ let one = partly.0 in omega (arith, is, one)
              | inr (inr (inr whole)) ↦ let two = whole.0 in omega (arith, is, two)
            ])
        | inr some ↦ other.0 ∙ sym some.0
      ]
]

-- so it is counted among the known ones where it is Free
known_as_free : (s : Settled) (l : Limits) (ws : List ℕ) (b : ℕ) → IsKnown s l.blocks b → KnowsWords s ws → ((s.blocks == l.blocks) && (slice_index s.longest b == FULL)) ≡ ((tables_in l ws).states b == 0)
known_as_free s l ws b known knows =
    let t : Tables = tables_in (of_blocks s.blocks) ws in
    let k : KnowsBlock t b (slice_index s.lines.items b) (slice_index s.longest b) = knows.settled b known.1 in
    ap (λ x. x && (slice_index s.longest b == FULL)) (same (s.blocks) l.blocks known.0)
    ∙ whole_is_free t b (slice_index s.lines.items b) (slice_index s.longest b) k
    ∙ ap (λ n. n == 0) ((lines_at l ws s.blocks (sym known.0)).states b)
  where
    same : (m n : ℕ) → m ≡ n → (m == n) ≡ true
    same m n is = elim (eqb_tells m n) [ inl one ↦ one.0 | inr other ↦ absurd (other.1 is) ]

-- one of which nothing is known isn't
unknown_none : (s : Settled) (blocks b : ℕ) → b < blocks → ¬ IsKnown s blocks b → ((s.blocks == blocks) && (slice_index s.longest b == FULL)) ≡ false
unknown_none s blocks b within unknown = elim (eqb_tells s.blocks blocks) as (λ _. ((s.blocks == blocks) && (slice_index s.longest b == FULL)) ≡ false) [
  | inr other ↦ ap (λ x. x && (slice_index s.longest b == FULL)) other.0
  | inl same ↦ ap (λ x. x && (slice_index s.longest b == FULL)) same.0 ∙ elim (eqb_tells (slice_index s.longest b) FULL) as (λ _. (slice_index s.longest b == FULL) ≡ false) [
    | inr less ↦ less.0
    | inl full ↦ let is : slice_index s.longest b ≡ 128 = full.1 in let blocks_is = same.1 in absurd (unknown (same.1, (omega (arith, within, blocks_is), omega (arith, is))))
  ]
]

-- ---- how many are known to be Free

module _ (s : Settled) (blocks : ℕ) where
  pub none_known_free : s.blocks ≢ blocks → (n : ℕ) → known_free_below s blocks n ≡ 0
  unfolding known_free_below
  none_known_free other zero = refl
  none_known_free other (suc b) =
      ap (λ x. known_free_below s blocks b + one_if x) (ap (λ x. x && (slice_index s.longest b == FULL)) (differ (eqb_tells s.blocks blocks)))
      ∙ ap (λ k. k + 0) (none_known_free other b)
    where
      differ : ((s.blocks == blocks) ≡ true × s.blocks ≡ blocks) ⊎ ((s.blocks == blocks) ≡ false × s.blocks ≢ blocks) → (s.blocks == blocks) ≡ false
      differ (inl alike) = absurd (other alike.1)
      differ (inr apart) = apart.0

  known_below : (s.blocks == blocks) ≡ true → (n : ℕ) → n ≤ length s.longest → known_free_below s blocks n ≡ full_among (take n s.longest)
  unfolding known_free_below
  known_below same zero within = refl
  known_below same (suc b) within =
      let next : b + 1 ≡ suc b = omega arith in
      ap (λ x. known_free_below s blocks b + one_if (x && (slice_index s.longest b == FULL))) same
      ∙ ap (λ k. k + one_if_full (slice_index s.longest b)) (known_below same b (omega (arith, within)))
      ∙ sym (ap (λ n. full_among (take n s.longest)) (sym next) ∙ sum_by_more one_if_full s.longest b 0 (omega (arith, within)))

  pub all_known_free : s.blocks ≡ blocks → length s.longest ≡ s.blocks → known_free_below s blocks blocks ≡ full_among s.longest
  all_known_free is many =
      known_below (same (eqb_tells s.blocks blocks)) blocks (omega (arith, is, many)) ∙ ap full_among (take_all blocks s.longest (omega (arith, is, many)))
    where
      same : ((s.blocks == blocks) ≡ true × s.blocks ≡ blocks) ⊎ ((s.blocks == blocks) ≡ false × s.blocks ≢ blocks) → (s.blocks == blocks) ≡ true
      same (inl alike) = alike.0
      same (inr apart) = absurd (apart.1 is)

  -- no more than there are
  pub known_few : (n : ℕ) → known_free_below s blocks n ≤ n
  unfolding known_free_below
  known_few zero = omega arith
  known_few (suc b) = let less = known_few b in let one = one_at_most ((s.blocks == blocks) && (slice_index s.longest b == FULL)) in omega (arith, less, one)

pub free_few : (t : Tables) (n : ℕ) → free_below t n ≤ n
unfolding free_below
free_few t zero = omega arith
free_few t (suc b) = let less = free_few t b in let one = one_at_most (t.states b == 0) in omega (arith, less, one)

-- ---- going over the blocks

module _ (s : Settled) (l : Limits) (ws : List ℕ) (knows : KnowsWords s ws) where
  -- blocks that are passed, of which something is known, are counted already
  passed_by : (from k : ℕ) → ((b : ℕ) → from ≤ b → b < from + k → IsKnown s l.blocks b)
      → free_below (tables_in l ws) (from + k) + known_free_below s l.blocks from ≡ free_below (tables_in l ws) from + known_free_below s l.blocks (from + k)
  unfolding free_below known_free_below
  passed_by from zero known = let same : from + 0 ≡ from = omega arith in rw same refl
  passed_by from (suc k) known =
      let next : from + suc k ≡ suc (from + k) = omega arith in
      let before = passed_by from k (λ b low high. known b low (omega (arith, high))) in
      let one : one_if ((s.blocks == l.blocks) && (slice_index s.longest (from + k) == FULL)) ≡ one_if ((tables_in l ws).states (from + k) == 0) =
      ap one_if (known_as_free s l ws (from + k) (known (from + k) (omega arith) (omega arith)) knows) in
      rw next (omega (arith, before, one))

  pub passed_counted : (from to : ℕ) → from ≤ to → ((b : ℕ) → from ≤ b → b < to → IsKnown s l.blocks b)
      → free_below (tables_in l ws) to + known_free_below s l.blocks from ≡ free_below (tables_in l ws) from + known_free_below s l.blocks to
  passed_counted from to order known =
      let whole : from + (to - from) ≡ to = omega (arith, order) in
      subst (λ n. free_below (tables_in l ws) n + known_free_below s l.blocks from ≡ free_below (tables_in l ws) from + known_free_below s l.blocks n) whole
      (passed_by from (to - from) (λ b low high. known b low (omega (arith, high, whole))))

  -- a block that is looked at, of which nothing is known, is counted by its state
  pub looked_at : (b : ℕ) → b < l.blocks → ¬ IsKnown s l.blocks b → (free : ℕ) → free + known_free_below s l.blocks b ≡ free_below (tables_in l ws) b + known_free_below s l.blocks l.blocks
      → free + one_if ((tables_in l ws).states b == 0) + known_free_below s l.blocks (b + 1) ≡ free_below (tables_in l ws) (b + 1) + known_free_below s l.blocks l.blocks
  unfolding free_below known_free_below
  looked_at b within unknown free counted =
      let next : b + 1 ≡ suc b = omega arith in
      let none : one_if ((s.blocks == l.blocks) && (slice_index s.longest b == FULL)) ≡ 0 = ap one_if (unknown_none s l.blocks b within unknown) in
      rw next (omega (arith, counted, none))
