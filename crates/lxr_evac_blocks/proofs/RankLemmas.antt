-- Blocks of a larger heap are chosen by their ranks: those with as many lines that aren't free are numbered in order.
use Rattle.std.proofs.Common.{◌≡◌, ℕ, suc, ◌+◌, ◌≤◌, ◌<◌, refl, sym, ap, subst, ◌∙◌, inl, inr, arith, Bool, true, false, List, length, replicate, get_or-set_same, get_or-set_other, length-set}
use Rattle.std.specs.Prelude.{if◌then◌else◌, nat_eq, nat_le, nat_lt, ◌&&◌, slice_index, slice_set}
use Rattle.std.proofs.lemmas.Bool.Decides.{eqb_tells, nat_tests}
use Rattle.std.proofs.lemmas.Bool.{leb-true}
use Rattle.std.proofs.lemmas.List.{get_or-replicate}
use Rattle.lxr_blocks.specs.States.{state_in}
use Rattle.lxr_layout.specs.declared.TheConstants.{MOST_BLOCKS_OF_SMALL}
use Rattle.lxr_layout.specs.declared.limits.Limits.{Limits}
use Rattle.lxr_image.specs.Tables.{Tables}
use Rattle.lxr_invariant.proofs.EntryLemmas.{one_if, passing_few}
use Rattle.lxr_evac_blocks.specs.Choosing.{choices_before, is_choice, is_partly, may_choose, taken_count, with_choices}
use Rattle.lxr_evac_blocks.specs.Ranks.{AreNumbers, as_many_taken, fewer_taken, numbers_after}
use Rattle.lxr_evac_blocks.proofs.ChoiceLemmas.{may_still}
use Rattle.lxr_evac_blocks.proofs.OrderLemmas.{before_in_large, fewer_of_next}
use Rattle.lxr_evac_blocks.proofs.PassingLemmas.{passing_grows, passing_none}
use Rattle.lxr_evac_blocks.proofs.TestLemmas.{and_false, both, not_below, told}

module _ (t : Tables) where
  -- of a block that may be chosen at most 32 lines aren't free
  pub few_lines : (b : ℕ) → may_choose t b ≡ true → taken_count t b ≤ 32
  few_lines b may = leb-true (taken_count t b) 32 (both (is_partly (state_in t b)) (nat_le (taken_count t b) 32) may).1

  -- ---- one block more has its number

  module _ (b : ℕ) (next : List ℕ) where
    abbrev taken : ℕ
    taken = taken_count t b

    -- the numbers after it, where a test says whether it may be chosen
    abbrev after : Bool → List ℕ
    after may = if may then (slice_set next taken (slice_index next taken + 1)) else next

    size_after : (may : Bool) → length (after may) ≡ length next
    size_after true = length-set next taken (slice_index next taken + 1)
    size_after false = refl

    number_after : (may : Bool) (lines : ℕ) → (may ≡ true → taken < length next) → slice_index (after may) lines ≡ slice_index next lines + one_if (may && nat_eq taken lines)
    number_after false lines within = (let same : slice_index next lines ≡ slice_index next lines + 0 = omega arith in same)
    number_after true lines within = elim (eqb_tells taken lines) [
      | inl same ↦
          subst (λ k. slice_index (after true) k ≡ slice_index next k + one_if (nat_eq taken k)) same.1
          (get_or-set_same next taken (slice_index next taken + 1) 0 (within refl) ∙ ap (λ x. slice_index next taken + one_if x) (let e : true ≡ nat_eq taken taken = grind (arith, nat_tests) in e))
      | inr other ↦
          let unlike = other.1 in
          get_or-set_other next taken lines (slice_index next taken + 1) 0 (λ e. unlike (sym e))
          ∙ (let same : slice_index next lines ≡ slice_index next lines + 0 = omega arith in same)
          ∙ ap (λ x. slice_index next lines + one_if x) (sym other.0)
    ]

    pub numbers_next : (first : ℕ → ℕ) → AreNumbers t first b next → AreNumbers t first (b + 1) (numbers_after t b next)
    numbers_next first are = record {
      size = size_after (may_choose t b) ∙ are.size;
      numbers = λ lines small.
          let now = number_after (may_choose t b) lines (λ may. let few = few_lines b may in let size = are.size in omega (arith, few, size)) in
          let before = are.numbers lines small in
          let more : as_many_taken t lines (b + 1) ≡ as_many_taken t lines b + one_if (may_choose t b && nat_eq taken lines) =
          ap (as_many_taken t lines) (let same : b + 1 ≡ suc b = omega arith in same) in
          omega (arith, now, before, more);
    }

  -- ---- the numbers of all

  pub none_counted_yet : AreNumbers t (λ lines. 0) 0 (replicate 33 0)
  none_counted_yet = record { size = refl; numbers = λ lines small. let none = get_or-replicate {A = ℕ} 33 lines 0 0 (omega (arith, small)) in omega (arith, none) }

  -- no more than the blocks there are
  pub counts_few : (n : ℕ) (counts : List ℕ) → AreNumbers t (λ lines. 0) n counts → (lines : ℕ) → lines ≤ 32 → slice_index counts lines ≤ n
  counts_few n counts are lines small =
      let is = are.numbers lines small in
      let few = passing_few (λ a. may_choose t a && nat_eq (taken_count t a) lines) n in
      omega (arith, is, few)

  pub ranks_few : (blocks n : ℕ) (next : List ℕ) → n ≤ blocks → AreNumbers t (λ lines. fewer_taken t lines blocks) n next → (lines : ℕ) → lines ≤ 32 → slice_index next lines ≤ blocks
  ranks_few blocks n next within are lines small =
      let is = are.numbers lines small in
      let more = passing_grows (λ a. may_choose t a && nat_eq (taken_count t a) lines) n blocks within in
      let sum = fewer_of_next t lines blocks in
      let few = passing_few (λ a. may_choose t a && nat_lt (taken_count t a) (lines + 1)) blocks in
      omega (arith, is, more, sum, few)

-- ---- the first rank of each number of lines

-- those of fewer lines than one have the first rank of their number, the others how many there are
pub record AreSummed (t : Tables) (blocks lines before : ℕ) (ranks : List ℕ) : Type 0 where
  pub fewer : before ≡ fewer_taken t lines blocks
  pub size : length ranks ≡ 33
  pub done : (k : ℕ) → k < lines → slice_index ranks k ≡ fewer_taken t k blocks
  pub rest : (k : ℕ) → lines ≤ k → k ≤ 32 → slice_index ranks k ≡ as_many_taken t k blocks

module _ (t : Tables) (blocks : ℕ) where
  pub none_summed : (counts : List ℕ) → AreNumbers t (λ lines. 0) blocks counts → AreSummed t blocks 0 0 counts
  none_summed counts are = record {
    fewer = sym (passing_none (λ a. may_choose t a && nat_lt (taken_count t a) 0) blocks
        (λ a low. ap (λ x. may_choose t a && x) (not_below (taken_count t a) 0 (omega arith)) ∙ and_false (may_choose t a)));
    size = are.size;
    done = λ k low. absurd (omega (arith, low));
    rest = λ k low small. let is = are.numbers k small in omega (arith, is);
  }

  module _ (lines before : ℕ) (ranks : List ℕ) (are : AreSummed t blocks lines before ranks) (small : lines ≤ 32) where
    pub sum_next : before + slice_index ranks lines ≡ fewer_taken t (lines + 1) blocks
    sum_next = let sum = fewer_of_next t lines blocks in let was = are.fewer in let here = are.rest lines (omega arith) small in omega (arith, sum, was, here)

    pub sum_few : before + slice_index ranks lines ≤ blocks
    sum_few = let sum = sum_next in let few = passing_few (λ a. may_choose t a && nat_lt (taken_count t a) (lines + 1)) blocks in omega (arith, sum, few)

    pub summed_next : AreSummed t blocks (lines + 1) (before + slice_index ranks lines) (slice_set ranks lines before)
    summed_next = record {
      fewer = sum_next;
      size = length-set ranks lines before ∙ are.size;
      done = λ k low. elim (eqb_tells k lines) [
        | inl same ↦
            let size = are.size in
            ap (slice_index (slice_set ranks lines before)) same.1 ∙ get_or-set_same ranks lines before 0 (omega (arith, size, small)) ∙ are.fewer ∙ ap (λ k. fewer_taken t k blocks) (sym same.1)
        | inr other ↦ let unlike = other.1 in get_or-set_other ranks lines k before 0 unlike ∙ are.done k (omega (arith, low, unlike))
      ];
      rest = λ k high few. get_or-set_other ranks lines k before 0 (λ e. absurd (omega (arith, high, e))) ∙ are.rest k (omega (arith, high)) few;
    }

  pub all_summed : (lines before : ℕ) (ranks : List ℕ) → 33 ≤ lines → AreSummed t blocks lines before ranks → AreNumbers t (λ k. fewer_taken t k blocks) 0 ranks
  all_summed lines before ranks all are = record { size = are.size; numbers = λ k small. let is = are.done k (omega (arith, all, small)) in omega (arith, is) }

-- ---- a block is chosen by its rank

pub chosen_by_rank : (l : Limits) (t u : Tables) (b : ℕ) (next : List ℕ) → MOST_BLOCKS_OF_SMALL < l.blocks → b < l.blocks → u ≡ with_choices l t b
    → AreNumbers t (λ lines. fewer_taken t lines l.blocks) b next → (may_choose u b && nat_lt (slice_index next (taken_count u b)) l.evacuate) ≡ is_choice l t b
chosen_by_rank l t u b next large within at are =
    ap (λ v. may_choose v b && nat_lt (slice_index next (taken_count v b)) l.evacuate) at
    ∙ ap (λ x. x && nat_lt (slice_index next (taken_count t b)) l.evacuate) (may_still l t b)
    ∙ elim (told (may_choose t b)) [
      | inl may ↦
          ap (λ n. may_choose t b && nat_lt n l.evacuate)
          (are.numbers (taken_count t b) (few_lines t b may) ∙ sym (before_in_large t l.blocks b large (omega (arith, within))))
      | inr fails ↦ ap (λ x. x && nat_lt (slice_index next (taken_count t b)) l.evacuate) fails ∙ sym (ap (λ x. x && nat_lt (choices_before l.blocks t b) l.evacuate) fails)
    ]

-- the numbers after it are told as before
pub numbers_still : (l : Limits) (t u : Tables) (b : ℕ) (next : List ℕ) → u ≡ with_choices l t b → numbers_after u b next ≡ numbers_after t b next
numbers_still l t u b next at =
    ap (λ v. numbers_after v b next) at
    ∙ ap (λ x. if x then (slice_set next (taken_count t b) (slice_index next (taken_count t b) + 1)) else next) (may_still l t b)
