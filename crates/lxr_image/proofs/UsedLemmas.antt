-- The heap comes first among the words of a space. A block of it is a page of them, so a word of a used block is one of a used page.
use Rattle.std.proofs.Common.{◌≡◌, ℕ, ◌+◌, ◌*◌, ◌/◌, ◌<◌, ◌∙◌, ap, subst, sym, arith, List, length}
use Rattle.std.specs.Prelude.{slice_index, slice_set}
use Rattle.lxr_layout.specs.declared.TheConstants.{WORDS_IN_BLOCK}
use Rattle.lxr_layout.specs.declared.limits.Limits.{Limits}
use Rattle.lxr_layout.specs.Spaces.{all_regions, heap_region, region_begin, region_sizes}
use Rattle.lxr_image.specs.declared.space.Space.{Space}
use Rattle.lxr_image.specs.declared.tables.WordTable.TheVariants as word
use Rattle.lxr_image.specs.Spaces.{BlockIsZero, IsInUsedBlock, IsSpace, with_word}
use Rattle.lxr_image.specs.Tables.{tables_in}
use Rattle.lxr_image.proofs.TableLaws.{word_read, word_within, word_written}
use Rattle.lxr_tables.specs.Pages.{IsInUsedPage, PageIsZero}

none_before : (k : ℕ) → 0 + k ≡ k
none_before k = omega arith

module _ (l : Limits) (words : List ℕ) (at : ℕ) (within : at < slice_index (region_sizes l) heap_region) where
  pub heap_read : slice_index words at ≡ (tables_in l words).heap at
  heap_read = ap (slice_index words) (sym (none_before at)) ∙ word_read l words word.Heap at within

  pub heap_inside : (tables_in l words).size ≡ region_begin l all_regions → at < length words
  heap_inside size = subst (λ k. k < length words) (none_before at) (word_within l words word.Heap at size within)

  pub heap_written : (value : ℕ) → (tables_in l words).size ≡ region_begin l all_regions → tables_in l (slice_set words at value) ≡ with_word (tables_in l words) word.Heap at value
  heap_written value size = ap (λ k. tables_in l (slice_set words k value)) (sym (none_before at)) ∙ word_written l words word.Heap at value size within

pub used_page : (s : Space) (at : ℕ) → IsSpace s → IsInUsedBlock s at → IsInUsedPage s.words at
used_page s at is used = record {
  other = used.other;
  there = heap_inside s.limits s.words used.other used.there is.size;
  page = used.block;
  some = λ zero. used.some (sym (heap_read s.limits s.words used.other used.there) ∙ zero);
}

-- and a block is 0 where its page is
pub zero_block : (s : Space) (at : ℕ) → IsSpace s → PageIsZero s.words at → BlockIsZero s (at / WORDS_IN_BLOCK)
zero_block s at is zeros w within same = sym (heap_read s.limits s.words w within) ∙ zeros w (heap_inside s.limits s.words w within is.size) same
