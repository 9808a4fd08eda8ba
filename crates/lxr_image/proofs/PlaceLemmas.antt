-- What a word tells of lines, by its place among the words of a space.
use Rattle.std.proofs.Common.{◌≡◌, ◌≢◌, ℕ, ◌+◌, ◌-◌, ◌*◌, ◌/◌, ◌%◌, ◌^◌, ◌<◌, ◌≤◌, sym, ap, subst, ◌∙◌, inl, inr, arith, lit<, List, [], length}
use Rattle.std.specs.Prelude.{◌⊎◌, IsTrue, slice_index, slice_index_or, slice_set}
use Rattle.std.proofs.lemmas.Bool.{cases_lt}
use Rattle.std.proofs.lemmas.List.{get_or-set_other, get_or_past, length-set}
use Rattle.lxr_layout.specs.declared.TheConstants.{COUNT_BITS}
use Rattle.lxr_layout.specs.Spaces.{counts_region, outs_region, region_begin, region_sizes, starts_region, states_region}
use Rattle.lxr_tables.specs.declared.counts.TheConstants.{COUNTS_IN_WORD}
use Rattle.lxr_tables.specs.Entries.{table}
use Rattle.lxr_tables.proofs.EntryLemmas.{entry_read, length-table}
use Rattle.lxr_image.specs.declared.settled.Settled.{Settled}
use Rattle.lxr_image.specs.Settled.{Disturbs, Knows, KnowsWords, SameLines, of_blocks}
use Rattle.lxr_image.specs.Tables.{bits_in, counts_in, cut, tables_in, words_in}
use Rattle.lxr_image.proofs.RegionLemmas.{region_outside, region_word_written}

-- a count is as it was where another word of counts is written
count_elsewhere : (ws : List ℕ) (at v g : ℕ) → g / 16 ≢ at → counts_in (slice_set ws at v) g ≡ counts_in ws g
count_elsewhere ws at v g other =
    let l = length-set ws at v in
    elim (cases_lt (g / 16) (length ws)) as (λ _. counts_in (slice_set ws at v) g ≡ counts_in ws g) [
      | inl within ↦
          entry_read COUNT_BITS COUNTS_IN_WORD 0 g (slice_set ws at v) (lit< tt) (omega (arith, l, within))
          ∙ ap (λ w. w / 2 ^ (4 * (g % 16)) % 2 ^ 4) (get_or-set_other ws at (0 + g / 16) v 0 (λ e. other (omega (arith, e)))) ∙ sym (entry_read COUNT_BITS COUNTS_IN_WORD 0 g ws (lit< tt) (omega (arith, within)))
      | inr past ↦
          let many = length-table COUNT_BITS COUNTS_IN_WORD ws in
          let still = length-table COUNT_BITS COUNTS_IN_WORD (slice_set ws at v) in
          get_or_past (table COUNT_BITS COUNTS_IN_WORD (slice_set ws at v)) g 0 (omega (arith, still, l, past)) ∙ sym (get_or_past (table COUNT_BITS COUNTS_IN_WORD ws) g 0 (omega (arith, many, past)))
    ]

-- ---- words outside the regions that tell of lines

-- a place isn't in this region of the words of a space of so many blocks
abbrev pub Misses : ℕ → ℕ → ℕ → Type 0
Misses blocks n at = (at < region_begin (of_blocks blocks) n) ⊎ (region_begin (of_blocks blocks) n + slice_index (region_sizes (of_blocks blocks)) n ≤ at)

pub misses_counts : (blocks at : ℕ) → (at < 4096 * blocks) ⊎ (4224 * blocks ≤ at) → Misses blocks counts_region at
misses_counts blocks at (inl before) = inl (omega arith)
misses_counts blocks at (inr past) = inr (omega arith)

pub misses_starts : (blocks at : ℕ) → (at < 4224 * blocks) ⊎ (4256 * blocks ≤ at) → Misses blocks starts_region at
misses_starts blocks at (inl before) = inl (omega arith)
misses_starts blocks at (inr past) = inr (omega arith)

pub misses_outs : (blocks at : ℕ) → (at < 4480 * blocks) ⊎ (4482 * blocks ≤ at) → Misses blocks outs_region at
misses_outs blocks at (inl before) = inl (omega arith)
misses_outs blocks at (inr past) = inr (omega arith)

pub misses_states : (blocks at : ℕ) → (at < 4482 * blocks) ⊎ (4483 * blocks ≤ at) → Misses blocks states_region at
misses_states blocks at (inl before) = inl (omega arith)
misses_states blocks at (inr past) = inr (omega arith)

module _ (blocks : ℕ) (ws : List ℕ) (at v : ℕ) where
  starts_stay : Misses blocks starts_region at → (g : ℕ) → (tables_in (of_blocks blocks) (slice_set ws at v)).starts g ≡ (tables_in (of_blocks blocks) ws).starts g
  unfolding tables_in
  starts_stay other g = ap (λ r. bits_in r g) (region_outside (region_sizes (of_blocks blocks)) ws starts_region at v (lit< tt) other)

  outs_stay : Misses blocks outs_region at → (line : ℕ) → (tables_in (of_blocks blocks) (slice_set ws at v)).outs line ≡ (tables_in (of_blocks blocks) ws).outs line
  unfolding tables_in
  outs_stay other line = ap (λ r. bits_in r line) (region_outside (region_sizes (of_blocks blocks)) ws outs_region at v (lit< tt) other)

  states_stay : Misses blocks states_region at → (b : ℕ) → (tables_in (of_blocks blocks) (slice_set ws at v)).states b ≡ (tables_in (of_blocks blocks) ws).states b
  unfolding tables_in
  states_stay other b = ap (λ r. words_in r b) (region_outside (region_sizes (of_blocks blocks)) ws states_region at v (lit< tt) other)

  counts_stay : Misses blocks counts_region at → (g : ℕ) → (tables_in (of_blocks blocks) (slice_set ws at v)).counts g ≡ (tables_in (of_blocks blocks) ws).counts g
  unfolding tables_in
  counts_stay other g = ap (λ r. counts_in r g) (region_outside (region_sizes (of_blocks blocks)) ws counts_region at v (lit< tt) other)

  -- a word that is in none of these changes nothing of lines
  pub lines_stay : Misses blocks counts_region at → Misses blocks starts_region at → Misses blocks outs_region at → Misses blocks states_region at
      → SameLines (tables_in (of_blocks blocks) ws) (tables_in (of_blocks blocks) (slice_set ws at v))
  lines_stay counts starts outs states = record { counts = counts_stay counts; starts = starts_stay starts; outs = outs_stay outs; states = states_stay states }

  -- a word of counts has those of 16 granules
  counts_elsewhere : 4096 * blocks ≤ at → at < 4224 * blocks → (g : ℕ) → g / 16 ≢ at - 4096 * blocks → (tables_in (of_blocks blocks) (slice_set ws at v)).counts g ≡ (tables_in (of_blocks blocks) ws).counts g
  unfolding tables_in
  counts_elsewhere from below g other =
      let place : at ≡ region_begin (of_blocks blocks) counts_region + (at - 4096 * blocks) = omega (arith, from) in
      ap (λ k. counts_in (slice_index_or (cut (region_sizes (of_blocks blocks)) (slice_set ws k v)) counts_region []) g) place
      ∙ ap (λ r. counts_in r g) (region_word_written (region_sizes (of_blocks blocks)) ws counts_region (at - 4096 * blocks) v (lit< tt) (omega (arith, from, below)))
      ∙ count_elsewhere (slice_index_or (cut (region_sizes (of_blocks blocks)) ws) counts_region []) (at - 4096 * blocks) v g other

  -- they are all of one block
  pub counts_written : 4096 * blocks ≤ at → at < 4224 * blocks → Disturbs ((at - 4096 * blocks) / 128) (tables_in (of_blocks blocks) ws) (tables_in (of_blocks blocks) (slice_set ws at v))
  counts_written from below = record {
    agree = record {
      counts = λ g other. counts_elsewhere from below g (λ here. other (omega (arith, here)));
      starts = λ g other. starts_stay (misses_starts blocks at (inl (omega (arith, below)))) g;
      outs = λ line other. outs_stay (misses_outs blocks at (inl (omega (arith, below)))) line;
      states = λ b other. states_stay (misses_states blocks at (inl (omega (arith, below)))) b;
    };
    outs = λ line here out. subst IsTrue (outs_stay (misses_outs blocks at (inl (omega (arith, below)))) line) out;
  }

-- what is known of words for as many blocks is known of them
pub for_blocks : (s v : Settled) (ws : List ℕ) → v.blocks ≡ s.blocks → Knows v (tables_in (of_blocks s.blocks) ws) → KnowsWords v ws
for_blocks s v ws same known = subst (λ n. Knows v (tables_in (of_blocks n) ws)) (sym same) known
