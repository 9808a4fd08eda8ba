-- Where states are those of lines, the Partly blocks with few lines that aren't free are the sparse ones, so those sparse ones are chosen that go first.
use Rattle.std.proofs.Common.{◌≡◌, ◌≢◌, ℕ, zero, suc, ◌-◌, ◌<◌, ◌≤◌, refl, sym, ap, subst, ◌∙◌, inl, inr, arith, Bool, true, false, ltb-true, lt-ltb}
use Rattle.std.specs.Prelude.{◌&&◌, ◌↔◌, ◌==◌, IsTrue, Option, if◌then◌else◌, nat_le, nat_lt}
use Rattle.std.proofs.lemmas.Bool.Decides.{nat_tests}
use Rattle.lxr_layout.specs.declared.TheConstants.{LINES_IN_BLOCK}
use Rattle.lxr_layout.specs.declared.limits.Limits.{Limits}
use Rattle.lxr_image.specs.Tables.{Tables}
use Rattle.lxr_blocks.specs.declared.states.BlockState.{BlockState}
use Rattle.lxr_blocks.specs.declared.states.BlockState.TheVariants.{Chosen, Free, Partly, Whole, World}
use Rattle.lxr_blocks.specs.Lines.{free_count, free_in}
use Rattle.lxr_blocks.specs.States.{is_fixed, state_by_lines, state_in, state_of}
use Rattle.lxr_model.specs.Moments.{Trace}
use Rattle.lxr_invariant.specs.Counting.{passing}
use Rattle.lxr_invariant.specs.Lines.{HasBlocks, HasStates, NoneChosen, chosen_count, is_chosen}
use Rattle.lxr_invariant.proofs.BlockLemmas.{none_counted}
use Rattle.lxr_invariant.proofs.EntryLemmas.{one_if}
use Rattle.lxr_evac_blocks.specs.Choosing.{ChosenGoFirst, choices_before, goes_before, is_choice, is_partly, is_sparse, may_choose, sparse_before, taken_count, with_choice}
use Rattle.lxr_evac_blocks.proofs.ChoiceLemmas.{state_by}
use Rattle.lxr_evac_blocks.proofs.CountLemmas.{count_within}
use Rattle.lxr_evac_blocks.proofs.OrderLemmas.{few_choices}
use Rattle.lxr_evac_blocks.proofs.PassingLemmas.{passing_alike}
use Rattle.lxr_evac_blocks.proofs.TestLemmas.{and_false, below, both, told, unchosen, unfixed}

-- ---- which blocks may be chosen

-- the state of so many free lines
abbrev by_count : ℕ → BlockState
by_count n = if n == LINES_IN_BLOCK then Free else (if n == 0 then Whole else Partly)

partly_by_tests : (all none some few : Bool) → (all ≡ true → some ≡ false) → (none ≡ true → few ≡ false) → (all ≡ false → none ≡ false → some ≡ true)
    → (is_partly (if all then Free else (if none then Whole else Partly)) && few) ≡ (some && few)
partly_by_tests true none some few a b c = sym (ap (λ x. x && few) (a refl))
partly_by_tests false true some few a b c = sym (ap (λ x. some && x) (b refl) ∙ and_false some)
partly_by_tests false false some few a b c = sym (ap (λ x. x && few) (c refl refl))

partly_is_some : (n : ℕ) → n ≤ LINES_IN_BLOCK → (is_partly (by_count n) && nat_le (LINES_IN_BLOCK - n) 32) ≡ (nat_le 1 (LINES_IN_BLOCK - n) && nat_le (LINES_IN_BLOCK - n) 32)
partly_is_some n most =
    partly_by_tests (n == LINES_IN_BLOCK) (n == 0) (nat_le 1 (LINES_IN_BLOCK - n)) (nat_le (LINES_IN_BLOCK - n) 32)
    (λ all. grind (arith, nat_tests, all)) (λ none. grind (arith, nat_tests, none)) (λ unlike other. grind (arith, nat_tests, unlike, other))

module _ (l : Limits) (t : Tables) (trace : Option Trace) (has : HasBlocks t l trace) (none : NoneChosen t l.blocks) (states : HasStates t l.blocks) where
  by_lines : (b : ℕ) → 1 ≤ b → b < l.blocks → state_in t b ≡ state_by_lines t b
  by_lines b behind within = states b within (unfixed (state_in t b) (none_counted t l.blocks b none within) (has.others b behind within))

  may_is_sparse : (b : ℕ) → b < l.blocks → may_choose t b ≡ is_sparse t b
  may_is_sparse zero within = ap (λ s. is_partly s && nat_le (taken_count t zero) 32) has.world
  may_is_sparse (suc b) within =
      ap (λ s. is_partly s && nat_le (taken_count t (suc b)) 32) (by_lines (suc b) (omega arith) within)
      ∙ partly_is_some (free_count (free_in t (suc b)) LINES_IN_BLOCK) (count_within (free_in t (suc b)) LINES_IN_BLOCK)
      ∙ sym (ap (λ x. x && nat_le 1 (taken_count t (suc b)) && nat_le (taken_count t (suc b)) 32) (let e : nat_le 1 (suc b) ≡ true = grind (arith, nat_tests) in e))

  choices_are_sparse : (b : ℕ) → choices_before l.blocks t b ≡ sparse_before l.blocks t b
  unfolding choices_before sparse_before
  choices_are_sparse b =
      passing_alike (λ a. may_choose t a && goes_before l.blocks t a b) (λ a. is_sparse t a && goes_before l.blocks t a b) l.blocks
      (λ a within. ap (λ x. x && goes_before l.blocks t a b) (may_is_sparse a within))

  -- ---- the states after

  abbrev after : Tables
  after = with_choice l t

  state_at : (b : ℕ) → b < l.blocks → after.states b ≡ state_by t b (is_choice l t b)
  state_at b within = ap (λ x. state_by t b (x && is_choice l t b)) (below b l.blocks within)

  state_of_choice : (b : ℕ) → b < l.blocks → is_choice l t b ≡ true → state_in after b ≡ Chosen
  state_of_choice b within is = ap state_of (state_at b within ∙ ap (state_by t b) is)

  state_of_other : (b : ℕ) → b < l.blocks → is_choice l t b ≡ false → state_in after b ≡ state_in t b
  state_of_other b within is = ap state_of (state_at b within ∙ ap (state_by t b) is)

  is_of_choice : (b : ℕ) → b < l.blocks → state_in after b ≡ Chosen → is_choice l t b ≡ true
  is_of_choice b within chosen = elim (told (is_choice l t b)) [
    | inl holds ↦ holds
    | inr fails ↦ absurd (none_counted t l.blocks b none within (sym (state_of_other b within fails) ∙ chosen))
  ]

  exactly : (b : ℕ) → b < l.blocks → (state_in after b ≡ Chosen) ↔ (IsTrue (is_sparse t b) × (sparse_before l.blocks t b < l.evacuate))
  exactly b within =
      let before : ℕ = choices_before l.blocks t b in
      let same : before ≡ sparse_before l.blocks t b = choices_are_sparse b in (
        (λ chosen.
            let is = both (may_choose t b) (nat_lt before l.evacuate) (is_of_choice b within chosen) in
            (sym (may_is_sparse b within) ∙ is.0, subst (λ n. n < l.evacuate) same (ltb-true before l.evacuate is.1))),
        (λ is. state_of_choice b within
            (ap (λ x. x && nat_lt before l.evacuate) (may_is_sparse b within ∙ is.0) ∙ lt-ltb before l.evacuate (subst (λ n. n < l.evacuate) (sym same) is.1))),
      )

  others_by : (b : ℕ) (chosen : Bool) → state_of (state_by t b chosen) ≢ Chosen → state_by t b chosen ≡ t.states b
  others_by b true other = absurd (other refl)
  others_by b false other = refl

  others : (b : ℕ) → state_in after b ≢ Chosen → after.states b ≡ t.states b
  others b other = others_by b (nat_lt b l.blocks && is_choice l t b) other

  world : state_in after 0 ≡ World
  world =
      let no : may_choose t 0 ≡ false = ap (λ s. is_partly s && nat_le (taken_count t 0) 32) has.world in
      ap (λ x. state_of (state_by t 0 (nat_lt 0 l.blocks && (x && nat_lt (choices_before l.blocks t 0) l.evacuate)))) no
      ∙ ap (λ x. state_of (state_by t 0 x)) (and_false (nat_lt 0 l.blocks))
      ∙ has.world

  lone : (b : ℕ) → 1 ≤ b → b < l.blocks → state_in after b ≢ World
  lone b behind within is = elim (told (is_choice l t b)) [
    | inl holds ↦ let e : Chosen ≡ World = sym (state_of_choice b within holds) ∙ is in cc
    | inr fails ↦ has.others b behind within (sym (state_of_other b within fails) ∙ is)
  ]

  still_by_lines : HasStates after l.blocks
  still_by_lines b within free = elim (told (is_choice l t b)) [
    | inl holds ↦ absurd (let e : true ≡ false = sym (ap is_fixed (state_of_choice b within holds)) ∙ free in cc)
    | inr fails ↦ state_of_other b within fails ∙ states b within (sym (ap is_fixed (state_of_other b within fails)) ∙ free)
  ]

  -- ---- how many are chosen

  chosen_is_choice : (b : ℕ) → b < l.blocks → is_chosen (state_in after b) ≡ is_choice l t b
  chosen_is_choice b within = elim (told (is_choice l t b)) [
    | inl holds ↦ ap is_chosen (state_of_choice b within holds) ∙ sym holds
    | inr fails ↦ ap is_chosen (state_of_other b within fails) ∙ unchosen (state_in t b) (none_counted t l.blocks b none within) ∙ sym fails
  ]

  as_many : (n : ℕ) → n ≤ l.blocks → chosen_count after n ≡ passing (is_choice l t) n
  as_many zero within = refl
  as_many (suc n) within =
      let before = as_many n (omega arith) in
      let here = ap one_if (chosen_is_choice n (omega arith)) in
      omega (arith, before, here)

pub chosen_go_first : ChosenGoFirst
chosen_go_first l t trace has none states = record {
  exactly = exactly l t trace has none states;
  others = others l t trace has none states;
  few = subst (λ n. n ≤ l.evacuate) (sym (as_many l t trace has none states l.blocks (omega arith))) (few_choices l t);
  world = world l t trace has none states;
  lone = lone l t trace has none states;
  states = still_by_lines l t trace has none states;
}
