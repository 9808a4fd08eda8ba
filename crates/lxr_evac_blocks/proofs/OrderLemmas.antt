-- The order in which blocks go, and how many of those that may be chosen go before a block.
use Rattle.std.proofs.Common.{◌≡◌, ◌≢◌, ℕ, ◌+◌, ◌<◌, ◌≤◌, refl, sym, ap, ◌∙◌, arith, Bool, true, false, ltb-true}
use Rattle.std.specs.Prelude.{◌&&◌, ◌||◌, nat_eq, nat_le, nat_lt, if◌then◌else◌}
use Rattle.std.proofs.lemmas.Bool.Decides.{nat_tests}
use Rattle.lxr_layout.specs.declared.TheConstants.{MOST_BLOCKS_OF_SMALL}
use Rattle.lxr_layout.specs.declared.limits.Limits.{Limits}
use Rattle.lxr_image.specs.Tables.{Tables}
use Rattle.lxr_invariant.specs.Counting.{passing}
use Rattle.lxr_invariant.proofs.EntryLemmas.{one_if, passing_more}
use Rattle.lxr_evac_blocks.specs.Choosing.{choices_before, goes_before, is_choice, may_choose, taken_count}
use Rattle.lxr_evac_blocks.specs.Ranks.{as_many_taken, fewer_taken}
use Rattle.lxr_evac_blocks.proofs.PassingLemmas.{few_pass, passing_either, passing_first}
use Rattle.lxr_evac_blocks.proofs.TestLemmas.{both}

-- ---- the order

-- whether one goes before another, in a small heap or in a larger one, by how many lines aren't free
abbrev order : Bool → (ℕ → ℕ) → ℕ → ℕ → Bool
order small taken a b = if small then nat_lt a b else (nat_lt (taken a) (taken b) || (nat_eq (taken a) (taken b) && nat_lt a b))

order_follows : (small : Bool) (taken : ℕ → ℕ) (a b c : ℕ) → order small taken a b ≡ true → order small taken b c ≡ true → order small taken a c ≡ true
order_follows true taken a b c first second = grind (arith, nat_tests)
order_follows false taken a b c first second = grind (arith, nat_tests)

order_total : (small : Bool) (taken : ℕ → ℕ) (a b : ℕ) → a ≢ b → order small taken a b ≡ false → order small taken b a ≡ true
order_total true taken a b unlike first = grind (arith, nat_tests)
order_total false taken a b unlike first = grind (arith, nat_tests)

-- ---- how many go before

is_small : (blocks : ℕ) → blocks ≤ MOST_BLOCKS_OF_SMALL → nat_le blocks MOST_BLOCKS_OF_SMALL ≡ true
is_small blocks small = grind (arith, nat_tests)

is_large : (blocks : ℕ) → MOST_BLOCKS_OF_SMALL < blocks → nat_le blocks MOST_BLOCKS_OF_SMALL ≡ false
is_large blocks large = grind (arith, nat_tests)

-- one that may be chosen has fewer lines that aren't free, or as many and goes first
one_goes : (may fewer as_many first : Bool) → (fewer ≡ true → as_many ≡ false)
    → one_if (may && (fewer || (as_many && first))) ≡ one_if (may && fewer) + one_if ((may && as_many) && first)
one_goes false fewer as_many first unlike = refl
one_goes true true as_many first unlike = sym (ap (λ x. 1 + one_if (x && first)) (unlike refl))
one_goes true false as_many first unlike = let same : one_if (as_many && first) ≡ 0 + one_if (as_many && first) = omega arith in same

module _ (t : Tables) where
  -- in a small heap, those that may be chosen and stand before it
  pub before_in_small : (blocks b : ℕ) → blocks ≤ MOST_BLOCKS_OF_SMALL → b ≤ blocks → choices_before blocks t b ≡ passing (may_choose t) b
  unfolding choices_before
  before_in_small blocks b small within =
      ap (λ x. passing (λ a. may_choose t a && order x (taken_count t) a b) blocks) (is_small blocks small) ∙ passing_first (may_choose t) b blocks within

  -- in a larger heap, those that have fewer lines that aren't free, and those that have as many and stand before it
  pub before_in_large : (blocks b : ℕ) → MOST_BLOCKS_OF_SMALL < blocks → b ≤ blocks
      → choices_before blocks t b ≡ fewer_taken t (taken_count t b) blocks + as_many_taken t (taken_count t b) b
  unfolding choices_before
  before_in_large blocks b large within =
      let lines = taken_count t b in
      ap (λ x. passing (λ a. may_choose t a && order x (taken_count t) a b) blocks) (is_large blocks large)
      ∙ passing_either (λ a. may_choose t a && nat_lt (taken_count t a) lines) (λ a. (may_choose t a && nat_eq (taken_count t a) lines) && nat_lt a b)
      (λ a. may_choose t a && order false (taken_count t) a b) blocks
      (λ a. one_goes (may_choose t a) (nat_lt (taken_count t a) lines) (nat_eq (taken_count t a) lines) (nat_lt a b) (λ fewer. grind (arith, nat_tests)))
      ∙ ap (λ n. fewer_taken t lines blocks + n) (passing_first (λ a. may_choose t a && nat_eq (taken_count t a) lines) b blocks within)

  -- ---- fewer lines than so many, and one more

  one_number : (may : Bool) (taken lines : ℕ) → one_if (may && nat_lt taken (lines + 1)) ≡ one_if (may && nat_lt taken lines) + one_if (may && nat_eq taken lines)
  one_number false taken lines = refl
  one_number true taken lines = grind (arith, nat_tests)

  pub fewer_of_next : (lines n : ℕ) → fewer_taken t (lines + 1) n ≡ fewer_taken t lines n + as_many_taken t lines n
  fewer_of_next lines n =
      passing_either (λ a. may_choose t a && nat_lt (taken_count t a) lines) (λ a. may_choose t a && nat_eq (taken_count t a) lines)
      (λ a. may_choose t a && nat_lt (taken_count t a) (lines + 1)) n (λ a. one_number (may_choose t a) (taken_count t a) lines)

-- ---- how many are chosen

-- no more blocks are chosen than may be
pub few_choices : (l : Limits) (t : Tables) → passing (is_choice l t) l.blocks ≤ l.evacuate
unfolding choices_before
few_choices l t =
    let small = nat_le l.blocks MOST_BLOCKS_OF_SMALL in
    few_pass (is_choice l t) (goes_before l.blocks t) (order_follows small (taken_count t)) (order_total small (taken_count t)) l.blocks l.evacuate
    (λ b within chosen.
    let fewer = ltb-true (choices_before l.blocks t b) l.evacuate (both (may_choose t b) (nat_lt (choices_before l.blocks t b) l.evacuate) chosen).1 in
    let less = passing_more (λ a. is_choice l t a && goes_before l.blocks t a b) (λ a. may_choose t a && goes_before l.blocks t a b) l.blocks
    (λ a one. let parts = both (is_choice l t a) (goes_before l.blocks t a b) one in
    ap (λ x. x && goes_before l.blocks t a b) (both (may_choose t a) (nat_lt (choices_before l.blocks t a) l.evacuate) parts.0).0 ∙ parts.1) in
    omega (arith, fewer, less))
