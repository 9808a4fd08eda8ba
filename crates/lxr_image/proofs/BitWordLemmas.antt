-- A word of bits that is written changes 64 entries of one table.
use Rattle.std.proofs.Common.{◌≡◌, ℕ, ◌+◌, ◌*◌, ◌/◌, ◌%◌, ◌^◌, ◌<◌, sym, ap, ◌∙◌, inl, inr, arith, Bool, false, cond, List, [], length, lit<}
use Rattle.std.specs.Prelude.{◌==◌, if◌then◌else◌, slice_index, slice_index_or, slice_set}
use Rattle.std.specs.Int.{bit_at}
use Rattle.std.proofs.lemmas.Bool.Decides.{eqb_tells, leb_tells}
use Rattle.std.proofs.lemmas.List.{get_or-set_same, get_or-set_other}
use Rattle.std.proofs.Math.ListN.{get_or-eq_default, length-set}
use Rattle.lxr_layout.specs.declared.limits.Limits.{Limits}
use Rattle.lxr_layout.specs.Spaces.{all_regions, region_begin, region_sizes}
use Rattle.lxr_tables.specs.Entries.{table}
use Rattle.lxr_tables.proofs.EntryLemmas.{entry_read, length-table, others_stay}
use Rattle.lxr_image.specs.declared.tables.BitTable.{BitTable}
use Rattle.lxr_image.specs.declared.tables.BitTable.TheVariants.{Starts, Marks, Grays, Dones, Unlogged, Outs}
use Rattle.lxr_image.specs.Tables.{bits_in, cut, tables_in, tables_from}
use Rattle.lxr_image.specs.Spaces.{bit_region, replaced_bits, with_bit_word}
use Rattle.lxr_image.proofs.RegionLemmas.{length_region, region_word_written}
use Rattle.lxr_image.proofs.TableLaws.{bit_region_known, bit_word_within, rebuilt}

-- the bits of words of which one is written
replaced : (ws : List ℕ) (at v i : ℕ) → at < length ws → bits_in (slice_set ws at v) i ≡ replaced_bits (bits_in ws) at v i
replaced ws at v i within = elim (leb_tells (length ws) (i / 64)) [
  | inl c ↦
      let past = c.1 in
      let len = length-set ws at v in
      let new_len = length-table 1 64 (slice_set ws at v) in
      let old_len = length-table 1 64 ws in
      let new : slice_index (table 1 64 (slice_set ws at v)) i ≡ 0 = get_or-eq_default (table 1 64 (slice_set ws at v)) 0 {n = i} (omega arith) in
      let old : slice_index (table 1 64 ws) i ≡ 0 = get_or-eq_default (table 1 64 ws) 0 {n = i} (omega arith) in
      elim (eqb_tells (i / 64) at) [
        | inl same ↦ let e = same.1 in absurd (omega arith)
        | inr other ↦ ap (λ x. x == 1) (new ∙ sym old) ∙ sym (ap (λ b. cond b (bit_at v (i % 64) == 1) (bits_in ws i)) other.0)
      ]
  | inr c ↦
      let inside = c.1 in
      let len = length-set ws at v in
      let read : slice_index (table 1 64 (slice_set ws at v)) i ≡ slice_index (slice_set ws at v) (0 + i / 64) / 2 ^ (1 * (i % 64)) % 2 ^ 1 = entry_read 1 64 0 i (slice_set ws at v) (lit< tt) (omega arith) in
      let whole : 0 + i / 64 ≡ i / 64 = omega arith in
      let place : 1 * (i % 64) ≡ i % 64 = omega arith in
      elim (eqb_tells (i / 64) at) [
        | inl same ↦
            ap (λ x. x == 1) (read ∙ ap (λ x. slice_index (slice_set ws at v) x / 2 ^ (1 * (i % 64)) % 2 ^ 1) (whole ∙ same.1) ∙ ap (λ x. x / 2 ^ (1 * (i % 64)) % 2 ^ 1) (get_or-set_same ws at v 0 within) ∙ ap (λ x. v / 2 ^ x % 2 ^ 1) place)
            ∙ sym (ap (λ b. cond b (bit_at v (i % 64) == 1) (bits_in ws i)) same.0)
        | inr other ↦
            ap (λ x. x == 1) (read ∙ ap (λ x. slice_index (slice_set ws at v) x / 2 ^ (1 * (i % 64)) % 2 ^ 1) whole ∙ ap (λ x. x / 2 ^ (1 * (i % 64)) % 2 ^ 1) (get_or-set_other ws at (i / 64) v 0 other.1 ∙ ap (slice_index ws) (sym whole)) ∙ sym (entry_read 1 64 0 i ws (lit< tt) (omega arith)))
            ∙ sym (ap (λ b. cond b (bit_at v (i % 64) == 1) (bits_in ws i)) other.0)
      ]
]

-- the tables with a region of bits replaced
word_replaced : (l : Limits) (ws : List ℕ) (t : BitTable) (at v : ℕ) (region : List ℕ)
    → ((i : ℕ) → bits_in region i ≡ replaced_bits (bits_in (slice_index_or (cut (region_sizes l) ws) (bit_region t) [])) at v i)
    → tables_from (length ws) (slice_set (cut (region_sizes l) ws) (bit_region t) region) ≡ with_bit_word (tables_in l ws) t at v
unfolding tables_in
word_replaced l ws Starts at v region is = λ j. record (tables_from (length ws) (cut (region_sizes l) ws)) { starts = λ i. is i j }
word_replaced l ws Marks at v region is = λ j. record (tables_from (length ws) (cut (region_sizes l) ws)) { marks = λ i. is i j }
word_replaced l ws Grays at v region is = λ j. record (tables_from (length ws) (cut (region_sizes l) ws)) { grays = λ i. is i j }
word_replaced l ws Dones at v region is = λ j. record (tables_from (length ws) (cut (region_sizes l) ws)) { dones = λ i. is i j }
word_replaced l ws Unlogged at v region is = λ j. record (tables_from (length ws) (cut (region_sizes l) ws)) { unlogged = λ i. is i j }
word_replaced l ws Outs at v region is = λ j. record (tables_from (length ws) (cut (region_sizes l) ws)) { outs = λ i. is i j }

-- a word of bits is written
pub bit_word_written : (l : Limits) (ws : List ℕ) (t : BitTable) (at v : ℕ) → (tables_in l ws).size ≡ region_begin l all_regions → at < slice_index (region_sizes l) (bit_region t)
    → tables_in l (slice_set ws (region_begin l (bit_region t) + at) v) ≡ with_bit_word (tables_in l ws) t at v
unfolding tables_in
bit_word_written l ws t at v size within =
    let n : ℕ = bit_region t in
    let known = bit_region_known t in
    let sizes : List ℕ = region_sizes l in
    let old : List ℕ = slice_index_or (cut sizes ws) n [] in
    let new : List ℕ = slice_index_or (cut sizes (slice_set ws (region_begin l n + at) v)) n [] in
    let len = length_region sizes ws n known (omega arith) in
    let is : new ≡ slice_set old at v = region_word_written sizes ws n at v known within in
    rebuilt l ws (slice_set ws (region_begin l n + at) v) n at known within (others_stay ws (region_begin l n + at) v (bit_word_within l ws t at size within))
    ∙ word_replaced l ws t at v new (λ i. ap (λ x. bits_in x i) is ∙ replaced old at v i (omega arith))

-- a word that becomes 0 has no bit set
pub cleared_bits : (f : ℕ → Bool) (at : ℕ) → replaced_bits f at 0 ≡ (λ n. if n / 64 == at then false else f n)
cleared_bits f at =
    let none : (n : ℕ) → bit_at 0 (n % 64) ≡ 0 = λ n. omega arith in
    let zero : (n : ℕ) → (bit_at 0 (n % 64) == 1) ≡ false = λ n. ap (λ x. x == 1) (none n) in
    λ j n. cond (n / 64 == at) (zero n j) (f n)
