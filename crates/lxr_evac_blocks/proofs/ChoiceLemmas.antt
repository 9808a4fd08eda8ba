-- Blocks that are looked at one after another are chosen as those before which few enough go.
use Rattle.std.proofs.Common.{◌≡◌, ℕ, suc, ◌+◌, ◌-◌, ◌≤◌, refl, sym, ap, subst, ◌∙◌, inl, inr, arith, Bool, true, false}
use Rattle.std.specs.Prelude.{if◌then◌else◌, nat_eq, nat_le, nat_lt, ◌&&◌}
use Rattle.std.proofs.lemmas.Bool.Decides.{eqb_tells, nat_tests}
use Rattle.lxr_layout.specs.declared.TheConstants.{MOST_BLOCKS_OF_SMALL}
use Rattle.lxr_layout.specs.declared.limits.Limits.{Limits}
use Rattle.lxr_image.specs.declared.space.Space.{Space}
use Rattle.lxr_image.specs.Tables.{Tables, changed}
use Rattle.lxr_image.specs.Spaces.{Turns, tables_of}
use Rattle.lxr_image.proofs.SpaceLemmas.{turns_then}
use Rattle.lxr_blocks.specs.declared.states.BlockState.TheVariants.{Chosen}
use Rattle.lxr_blocks.specs.States.{state_number, state_of}
use Rattle.lxr_invariant.specs.Counting.{passing}
use Rattle.lxr_evac_blocks.specs.Choosing.{is_choice, is_partly, left_after, may_choose, taken_count, with_block_chosen, with_choices}
use Rattle.lxr_evac_blocks.proofs.OrderLemmas.{before_in_small}
use Rattle.lxr_evac_blocks.proofs.TestLemmas.{below, not_below}

-- the state of a block, where a test says whether it is chosen
abbrev pub state_by : Tables → ℕ → Bool → ℕ
state_by t b chosen = if chosen then state_number Chosen else t.states b

module _ (l : Limits) (t : Tables) where
  -- ---- one block more

  none_at : (i : ℕ) → t.states i ≡ (with_choices l t 0).states i
  none_at i = sym (ap (λ x. state_by t i (x && is_choice l t i)) (not_below i 0 (omega arith)))

  pub none_chosen_yet : t ≡ with_choices l t 0
  none_chosen_yet = ap (λ f. record t { states = f }) (λ j i. none_at i j)

  -- the states after block b, where a test says whether it is chosen
  abbrev stepped : ℕ → Bool → ℕ → ℕ
  stepped b chosen = if chosen then (changed (with_choices l t b).states b (state_number Chosen)) else (with_choices l t b).states

  -- block b has the state that it had
  unchosen_yet : (b : ℕ) → (with_choices l t b).states b ≡ t.states b
  unchosen_yet b = ap (λ x. state_by t b (x && is_choice l t b)) (not_below b b (omega arith))

  here : (b : ℕ) (chosen : Bool) → stepped b chosen b ≡ state_by t b chosen
  here b true = ap (λ x. if x then state_number Chosen else (with_choices l t b).states b) (let e : nat_eq b b ≡ true = grind (arith, nat_tests) in e)
  here b false = unchosen_yet b

  elsewhere : (b i : ℕ) (chosen : Bool) → nat_eq i b ≡ false → stepped b chosen i ≡ (with_choices l t b).states i
  elsewhere b i true other = ap (λ x. if x then state_number Chosen else (with_choices l t b).states i) other
  elsewhere b i false other = refl

  more_at : (b i : ℕ) → stepped b (is_choice l t b) i ≡ (with_choices l t (b + 1)).states i
  more_at b i = elim (eqb_tells i b) [
    | inl e ↦ subst (λ k. stepped b (is_choice l t b) k ≡ (with_choices l t (b + 1)).states k) (sym e.1)
        (here b (is_choice l t b) ∙ sym (ap (λ x. state_by t b (x && is_choice l t b)) (below b (b + 1) (omega arith))))
    | inr e ↦ let ne = e.1 in
        elsewhere b i (is_choice l t b) e.0
        ∙ ap (λ x. state_by t i (x && is_choice l t i)) (let same : nat_lt i b ≡ nat_lt i (b + 1) = grind (arith, nat_tests) in same)
  ]

  one_more : (b : ℕ) → with_block_chosen (with_choices l t b) b (is_choice l t b) ≡ with_choices l t (b + 1)
  one_more b = ap (λ f. record t { states = f }) (λ j i. more_at b i j)

  -- whether it may be chosen is told as before
  pub may_still : (b : ℕ) → may_choose (with_choices l t b) b ≡ may_choose t b
  may_still b = ap (λ s. is_partly (state_of s) && nat_le (taken_count t b) 32) (unchosen_yet b)

-- a block more is chosen where it is one of those
pub more_chosen : (a b c : Space) (block : ℕ) (chosen : Bool) → chosen ≡ is_choice a.limits (tables_of a) block → Turns a b (with_choices a.limits (tables_of a) block)
    → Turns b c (with_block_chosen (tables_of b) block chosen) → Turns a c (with_choices a.limits (tables_of a) (block + 1))
more_chosen a b c block chosen is first second =
    subst (Turns a c)
    (ap (λ u. with_block_chosen u block chosen) first.tables ∙ ap (with_block_chosen (with_choices a.limits (tables_of a) block) block) is ∙ one_more a.limits (tables_of a) block)
    (turns_then a b c (with_choices a.limits (tables_of a) block) (with_block_chosen (tables_of b) block chosen) first second)

-- ---- in a small heap, while some are left

module _ (l : Limits) (t u : Tables) (b left : ℕ) (is : left ≡ l.evacuate - passing (may_choose t) b) (at : u ≡ with_choices l t b) where
  may_now : may_choose u b ≡ may_choose t b
  may_now = ap (λ v. may_choose v b) at ∙ may_still l t b

  some_left : (most before : ℕ) → nat_lt 0 (most - before) ≡ nat_lt before most
  some_left most before = grind (arith, nat_tests)

  turned : (x y : Bool) → (x && y) ≡ (y && x)
  turned true true = refl
  turned true false = refl
  turned false true = refl
  turned false false = refl

  pub chosen_while_left : l.blocks ≤ MOST_BLOCKS_OF_SMALL → b ≤ l.blocks → (nat_lt 0 left && may_choose u b) ≡ is_choice l t b
  chosen_while_left small within =
      ap (λ n. nat_lt 0 n && may_choose u b) is
      ∙ ap (λ x. x && may_choose u b) (some_left l.evacuate (passing (may_choose t) b))
      ∙ ap (λ x. nat_lt (passing (may_choose t) b) l.evacuate && x) may_now
      ∙ turned (nat_lt (passing (may_choose t) b) l.evacuate) (may_choose t b)
      ∙ ap (λ n. may_choose t b && nat_lt n l.evacuate) (sym (before_in_small t l.blocks b small within))

  pub fewer_left : (result : ℕ) → result ≡ left_after u b left → result ≡ l.evacuate - passing (may_choose t) (b + 1)
  fewer_left result after =
      let more : passing (may_choose t) (b + 1) ≡ passing (may_choose t) b + (if may_choose t b then 1 else 0) =
      ap (passing (may_choose t)) (let same : b + 1 ≡ suc b = omega arith in same) in
      let now = after ∙ ap (λ x. left - (if x then 1 else 0)) may_now in
      omega (arith, now, more, is)
