-- Blocks that are released one after another are released all.
use Rattle.std.proofs.Common.{◌≡◌, ℕ, zero, suc, ◌+◌, ◌<◌, ◌≤◌, refl, sym, ap, subst, ◌∙◌, inl, inr, arith, Bool, true, false}
use Rattle.std.specs.Prelude.{if◌then◌else◌, nat_eq, nat_lt, ◌&&◌, ◌==◌}
use Rattle.std.proofs.lemmas.Bool.Decides.{eqb_tells, nat_tests}
use Rattle.lxr_layout.specs.declared.TheConstants.{LINES_IN_BLOCK}
use Rattle.lxr_image.specs.declared.space.Space.{Space}
use Rattle.lxr_image.specs.Tables.{Tables, changed}
use Rattle.lxr_image.specs.Spaces.{Turns, tables_of}
use Rattle.lxr_image.proofs.SpaceLemmas.{turns_then}
use Rattle.lxr_blocks.specs.declared.states.BlockState.{BlockState}
use Rattle.lxr_blocks.specs.declared.states.BlockState.TheVariants.{Chosen, Free, Partly, Whole, World}
use Rattle.lxr_blocks.specs.Lines.{free_count, free_in}
use Rattle.lxr_blocks.specs.States.{is_fixed, state_by_lines, state_in, state_number, state_of}
use Rattle.lxr_invariant.specs.Lines.{HasStates, chosen_count, is_chosen}
use Rattle.lxr_evac_blocks.specs.Releasing.{ReleasesLeaveNone, with_block_released, with_releases}
use Rattle.lxr_evac_blocks.proofs.TestLemmas.{and_false, below, not_below, told, unchosen}

-- the state of a block, where a test says whether it is released
abbrev pub state_by : Tables → ℕ → Bool → ℕ
state_by t b released = if released then state_number (state_by_lines t b) else t.states b

-- ---- one block more

none_at : (t : Tables) (i : ℕ) → t.states i ≡ (with_releases t 0).states i
none_at t i = sym (ap (λ x. state_by t i (x && is_chosen (state_in t i))) (not_below i 0 (omega arith)))

pub none_released : (t : Tables) → t ≡ with_releases t 0
none_released t = ap (λ f. record t { states = f }) (λ j i. none_at t i j)

-- the states after block b, where a test says whether it is released
abbrev stepped : Tables → ℕ → Bool → ℕ → ℕ
stepped t b released = if released then (changed (with_releases t b).states b (state_number (state_by_lines t b))) else (with_releases t b).states

unreleased_yet : (t : Tables) (b : ℕ) → (with_releases t b).states b ≡ t.states b
unreleased_yet t b = ap (λ x. state_by t b (x && is_chosen (state_in t b))) (not_below b b (omega arith))

here : (t : Tables) (b : ℕ) (released : Bool) → stepped t b released b ≡ state_by t b released
here t b true = ap (λ x. if x then state_number (state_by_lines t b) else (with_releases t b).states b) (let e : nat_eq b b ≡ true = grind (arith, nat_tests) in e)
here t b false = unreleased_yet t b

elsewhere : (t : Tables) (b i : ℕ) (released : Bool) → nat_eq i b ≡ false → stepped t b released i ≡ (with_releases t b).states i
elsewhere t b i true other = ap (λ x. if x then state_number (state_by_lines t b) else (with_releases t b).states i) other
elsewhere t b i false other = refl

more_at : (t : Tables) (b i : ℕ) → stepped t b (is_chosen (state_in t b)) i ≡ (with_releases t (b + 1)).states i
more_at t b i = elim (eqb_tells i b) [
  | inl e ↦ subst (λ k. stepped t b (is_chosen (state_in t b)) k ≡ (with_releases t (b + 1)).states k) (sym e.1)
      (here t b (is_chosen (state_in t b)) ∙ sym (ap (λ x. state_by t b (x && is_chosen (state_in t b))) (below b (b + 1) (omega arith))))
  | inr e ↦ let ne = e.1 in
      elsewhere t b i (is_chosen (state_in t b)) e.0
      ∙ ap (λ x. state_by t i (x && is_chosen (state_in t i))) (let same : nat_lt i b ≡ nat_lt i (b + 1) = grind (arith, nat_tests) in same)
]

one_more : (t : Tables) (b : ℕ) → with_block_released (with_releases t b) b ≡ with_releases t (b + 1)
one_more t b =
    ap (λ s. record t { states = stepped t b (is_chosen (state_of s)) }) (unreleased_yet t b)
    ∙ ap (λ f. record t { states = f }) (λ j i. more_at t b i j)

pub more_released : (a b c : Space) (block : ℕ) → Turns a b (with_releases (tables_of a) block) → Turns b c (with_block_released (tables_of b) block)
    → Turns a c (with_releases (tables_of a) (block + 1))
more_released a b c block first second =
    subst (Turns a c)
    (ap (λ u. with_block_released u block) first.tables ∙ one_more (tables_of a) block)
    (turns_then a b c (with_releases (tables_of a) block) (with_block_released (tables_of b) block) first second)

-- ---- what a release means

-- a state is read as it was written
read_back : (s : BlockState) → state_of (state_number s) ≡ s
read_back Free = refl
read_back Partly = refl
read_back Whole = refl
read_back Chosen = refl
read_back World = refl

-- the state of its lines isn't Chosen
unchosen_by_lines : (all none : Bool) → is_chosen (if all then Free else (if none then Whole else Partly)) ≡ false
unchosen_by_lines true none = refl
unchosen_by_lines false true = refl
unchosen_by_lines false false = refl

module _ (t : Tables) (blocks : ℕ) where
  released_there : (b : ℕ) → b < blocks → is_chosen (state_in t b) ≡ true → state_in (with_releases t blocks) b ≡ state_by_lines t b
  released_there b within is =
      ap (λ x. state_of (state_by t b (x && is_chosen (state_in t b)))) (below b blocks within) ∙ ap (λ x. state_of (state_by t b x)) is ∙ read_back (state_by_lines t b)

  stays : (b : ℕ) → is_chosen (state_in t b) ≡ false → (with_releases t blocks).states b ≡ t.states b
  stays b is = ap (λ x. state_by t b (nat_lt b blocks && x)) is ∙ ap (state_by t b) (and_false (nat_lt b blocks))

  unchosen_there : (b : ℕ) → b < blocks → is_chosen (state_in (with_releases t blocks) b) ≡ false
  unchosen_there b within = elim (told (is_chosen (state_in t b))) [
    | inl holds ↦ ap is_chosen (released_there b within holds)
        ∙ unchosen_by_lines (free_count (free_in t b) LINES_IN_BLOCK == LINES_IN_BLOCK) (free_count (free_in t b) LINES_IN_BLOCK == 0)
    | inr fails ↦ ap (λ n. is_chosen (state_of n)) (stays b fails) ∙ fails
  ]

  none_counts : (n : ℕ) → n ≤ blocks → chosen_count (with_releases t blocks) n ≡ 0
  none_counts zero within = refl
  none_counts (suc n) within = ap (λ x. (if x then 1 else 0) + chosen_count (with_releases t blocks) n) (unchosen_there n (omega arith)) ∙ ap (λ k. 0 + k) (none_counts n (omega arith))

  still_by_lines : HasStates t blocks → HasStates (with_releases t blocks) blocks
  still_by_lines by_lines b within free = elim (told (is_chosen (state_in t b))) [
    | inl holds ↦ released_there b within holds
    | inr fails ↦ ap state_of (stays b fails) ∙ by_lines b within (sym (ap (λ n. is_fixed (state_of n)) (stays b fails)) ∙ free)
  ]

pub releases_leave_none : ReleasesLeaveNone
releases_leave_none t blocks = record {
  none = none_counts t blocks blocks (omega arith);
  by_lines = λ b within is. released_there t blocks b within (ap is_chosen is);
  others = λ b other. stays t blocks b (unchosen (state_in t b) other);
  states = still_by_lines t blocks;
}
