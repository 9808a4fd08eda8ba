-- Blocks that aren't Chosen are passed whole; in the others the first object of a word is the next one.
use Rattle.std.proofs.Common.{◌≡◌, ℕ, ◌+◌, ◌*◌, ◌/◌, ◌<◌, ◌≤◌, sym, ap, ◌∙◌, inl, inr, arith, false}
use Rattle.std.specs.Prelude.{IsTrue}
use Rattle.std.proofs.lemmas.Bool.{and_from, and_left, and_right}
use Rattle.std.proofs.lemmas.Bool.Decides.{leb_tells}
use Rattle.lxr_layout.specs.declared.TheConstants.{GRANULES_IN_BLOCK}
use Rattle.lxr_image.specs.Tables.{Tables}
use Rattle.lxr_image_search.specs.declared.Wanted.TheVariants as wanted
use Rattle.lxr_image_search.specs.Search.{IsNextWanted, NoneWanted}
use Rattle.lxr_blocks.specs.States.{AreFreeBlocks, state_in}
use Rattle.lxr_invariant.specs.Lines.{is_chosen}
use Rattle.lxr_evac_moving.specs.Steps.{IsNextChosen, NoneBegins}

-- none up to a granule, and none from there on
pub none_further : (t : Tables) (from at to : ℕ) → NoneBegins t from at → NoneBegins t at to → NoneBegins t from to
none_further t from at to before behind k above below = elim (leb_tells at k) [ inl c ↦ behind k c.1 below | inr c ↦ before k above c.1 ]

-- Free blocks have none
none_in_free : (t : Tables) (from end : ℕ) → AreFreeBlocks t from end → NoneBegins t (GRANULES_IN_BLOCK * from) (GRANULES_IN_BLOCK * end)
none_in_free t from end free k above below =
    let here = free (k / GRANULES_IN_BLOCK) (omega (arith, above)) (omega (arith, below)) in
    and_left (is_chosen (state_in t (k / GRANULES_IN_BLOCK))) (t.starts k) (ap is_chosen here)

module _ (t : Tables) (at : ℕ) where
  -- a block that isn't Chosen has none
  pub none_in_block : is_chosen (state_in t (at / GRANULES_IN_BLOCK)) ≡ false → NoneBegins t at ((at / GRANULES_IN_BLOCK + 1) * GRANULES_IN_BLOCK)
  none_in_block unchosen k above below =
      let same : at / GRANULES_IN_BLOCK ≡ k / GRANULES_IN_BLOCK = omega (arith, above, below) in
      and_left (is_chosen (state_in t (k / GRANULES_IN_BLOCK))) (t.starts k) (ap (λ b. is_chosen (state_in t b)) (sym same) ∙ unchosen)

  -- nor do the Free blocks behind it
  pub none_to_block : (block : ℕ) → is_chosen (state_in t (at / GRANULES_IN_BLOCK)) ≡ false → AreFreeBlocks t (at / GRANULES_IN_BLOCK + 1) block → NoneBegins t at (GRANULES_IN_BLOCK * block)
  none_to_block block unchosen free =
      none_further t at ((at / GRANULES_IN_BLOCK + 1) * GRANULES_IN_BLOCK) (GRANULES_IN_BLOCK * block) (none_in_block unchosen)
      (λ k above below. none_in_free t (at / GRANULES_IN_BLOCK + 1) block free k (omega (arith, above)) below)

  -- nor do the granules of a word whose start bits are clear
  pub none_of_word : NoneWanted t wanted.Object at (64 * (at / 64 + 1)) → NoneBegins t at ((at / 64 + 1) * 64)
  none_of_word none k above below = and_right (is_chosen (state_in t (k / GRANULES_IN_BLOCK))) (t.starts k) (none k above (omega (arith, below)))

  -- the first one of a word is the next one
  pub next_of_word : (from blocks granule : ℕ) → from ≤ at → at < GRANULES_IN_BLOCK * blocks → NoneBegins t from at → IsTrue (is_chosen (state_in t (at / GRANULES_IN_BLOCK))) → IsNextWanted t wanted.Object at (64 * (at / 64 + 1)) granule
      → IsNextChosen t from (GRANULES_IN_BLOCK * blocks) granule
  next_of_word from blocks granule past in_heap before chosen first =
      let reached = first.reached in
      let within = first.within in
      let same : at / GRANULES_IN_BLOCK ≡ granule / GRANULES_IN_BLOCK = omega (arith, reached, within) in
      record {
        reached = omega (arith, past, reached);
        within = omega (arith, within, in_heap);
        is = and_from (is_chosen (state_in t (granule / GRANULES_IN_BLOCK))) (t.starts granule) (ap (λ b. is_chosen (state_in t b)) (sym same) ∙ chosen) first.is;
        passed = none_further t from at granule before (λ k above below. and_right (is_chosen (state_in t (k / GRANULES_IN_BLOCK))) (t.starts k) (first.passed k above below));
      }
