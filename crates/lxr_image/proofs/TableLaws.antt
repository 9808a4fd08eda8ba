-- One bit, count, half or word that is written in its region changes one entry of one table.
use Rattle.std.proofs.Common.{◌≡◌, ℕ, ◌+◌, ◌*◌, ◌/◌, ◌%◌, ◌^◌, ◌<◌, ◌≤◌, refl, sym, ap, subst, ◌∙◌, inl, inr, arith, Bool, true, false, cond, List, [], length, drop, lit<, eq-eqb}
use Rattle.std.specs.Prelude.{◌==◌, ◌↔◌, IsTrue, slice_index, slice_index_or, slice_set}
use Rattle.std.specs.Int.{bit_at}
use Rattle.std.proofs.lemmas.Bool.Decides.{eqb_tells}
use Rattle.std.proofs.lemmas.List.{get_or-set_same, get_or-set_other}
use Rattle.std.proofs.Math.ListN.{get_or-eq_default, length-set}
use Rattle.lxr_tables.specs.declared.counts.TheConstants.{COUNTS_IN_WORD}
use Rattle.lxr_layout.specs.declared.TheConstants.{COUNT_BITS, GRANULES_IN_BLOCK, LINES_IN_BLOCK, STUCK}
use Rattle.lxr_layout.specs.declared.limits.Limits.{Limits}
use Rattle.lxr_layout.specs.Spaces.{all_regions, counts_region, region_begin, region_sizes, reuse_region}
use Rattle.lxr_tables.specs.Entries.{OthersStay, table}
use Rattle.lxr_tables.proofs.EntryLemmas.{IsWritten, entry_below, entry_read, others_stay, read_at, written_at}
use Rattle.lxr_image.specs.declared.tables.BitTable.{BitTable}
use Rattle.lxr_image.specs.declared.tables.BitTable.TheVariants.{Starts, Marks, Grays, Dones, Unlogged, Outs}
use Rattle.lxr_image.specs.declared.tables.WordTable.{WordTable}
use Rattle.lxr_image.specs.declared.tables.WordTable.TheVariants.{Heap, States, Runs, Frees, Decrements, Remembered, Cursors}
use Rattle.lxr_image.specs.Tables.{cut, tables_in, tables_from, changed, bits_in, counts_in, halves_in, words_in}
use Rattle.lxr_image.specs.Spaces.{bit_region, word_region, bit_table, word_table, with_bit, with_word}
use Rattle.lxr_image.proofs.RegionLemmas.{length_region, length_region_table, region_entry_written, region_read, region_within, region_word, region_word_written, region_written}

-- a table of which one entry was written
entry : {A : Type 0} (h : ℕ → A) (xs ys : List ℕ) (k e : ℕ) → ys ≡ slice_set xs k e → k < length xs → (i : ℕ) → h (slice_index ys i) ≡ changed (λ j. h (slice_index xs j)) k (h e) i
entry h xs ys k e is within i = elim (eqb_tells i k) as (λ _. h (slice_index ys i) ≡ changed (λ j. h (slice_index xs j)) k (h e) i) [
  | inl q ↦ ap h (ap (λ x. slice_index x i) is ∙ ap (slice_index (slice_set xs k e)) q.1 ∙ get_or-set_same xs k e 0 within) ∙ sym (ap (λ b. cond b (h e) (h (slice_index xs i))) q.0)
  | inr q ↦ ap h (ap (λ x. slice_index x i) is ∙ get_or-set_other xs k i e 0 q.1) ∙ sym (ap (λ b. cond b (h e) (h (slice_index xs i))) q.0)
]

-- only the region of the word that was written has changed
pub rebuilt : (l : Limits) (ws vs : List ℕ) (n o : ℕ) → n < 15 → o < slice_index (region_sizes l) n → OthersStay ws vs (region_begin l n + o)
    → tables_in l vs ≡ tables_from (length ws) (slice_set (cut (region_sizes l) ws) n (slice_index_or (cut (region_sizes l) vs) n []))
unfolding tables_in
rebuilt l ws vs n o h within others =
    let len : length vs ≡ length ws = ap length others ∙ length-set ws (region_begin l n + o) (slice_index vs (region_begin l n + o)) in
    ap (λ z. tables_from z (cut (region_sizes l) vs)) len ∙ ap (tables_from (length ws)) (region_written (region_sizes l) ws vs n o h within others)

-- the tables with a region of bits replaced
bits_replaced : (l : Limits) (ws : List ℕ) (t : BitTable) (k : ℕ) (b : Bool) (region : List ℕ)
    → ((i : ℕ) → bits_in region i ≡ changed (bits_in (slice_index_or (cut (region_sizes l) ws) (bit_region t) [])) k b i)
    → tables_from (length ws) (slice_set (cut (region_sizes l) ws) (bit_region t) region) ≡ with_bit (tables_in l ws) t k b
unfolding tables_in
bits_replaced l ws Starts k b region is = λ j. record (tables_from (length ws) (cut (region_sizes l) ws)) { starts = λ i. is i j }
bits_replaced l ws Marks k b region is = λ j. record (tables_from (length ws) (cut (region_sizes l) ws)) { marks = λ i. is i j }
bits_replaced l ws Grays k b region is = λ j. record (tables_from (length ws) (cut (region_sizes l) ws)) { grays = λ i. is i j }
bits_replaced l ws Dones k b region is = λ j. record (tables_from (length ws) (cut (region_sizes l) ws)) { dones = λ i. is i j }
bits_replaced l ws Unlogged k b region is = λ j. record (tables_from (length ws) (cut (region_sizes l) ws)) { unlogged = λ i. is i j }
bits_replaced l ws Outs k b region is = λ j. record (tables_from (length ws) (cut (region_sizes l) ws)) { outs = λ i. is i j }

pub bit_region_known : (t : BitTable) → bit_region t < 15
bit_region_known Starts = lit< tt
bit_region_known Marks = lit< tt
bit_region_known Grays = lit< tt
bit_region_known Dones = lit< tt
bit_region_known Unlogged = lit< tt
bit_region_known Outs = lit< tt

bit_table_is : (l : Limits) (ws : List ℕ) (t : BitTable) (k : ℕ) → bit_table (tables_in l ws) t k ≡ bits_in (slice_index_or (cut (region_sizes l) ws) (bit_region t) []) k
unfolding tables_in
bit_table_is l ws Starts k = refl
bit_table_is l ws Marks k = refl
bit_table_is l ws Grays k = refl
bit_table_is l ws Dones k = refl
bit_table_is l ws Unlogged k = refl
bit_table_is l ws Outs k = refl

-- a bit is read
pub bit_read : (l : Limits) (ws : List ℕ) (t : BitTable) (k : ℕ) → k < 64 * slice_index (region_sizes l) (bit_region t)
    → bit_table (tables_in l ws) t k ≡ (slice_index (table 1 64 (drop (region_begin l (bit_region t)) ws)) k == 1)
bit_read l ws t k within = bit_table_is l ws t k ∙ ap (λ x. x == 1) (sym (region_read 1 64 (region_sizes l) ws (bit_region t) k (bit_region_known t) within))

-- a bit is written
pub bit_written : (l : Limits) (ws vs : List ℕ) (t : BitTable) (k e : ℕ) → (tables_in l ws).size ≡ region_begin l all_regions → k < 64 * slice_index (region_sizes l) (bit_region t)
    → table 1 64 (drop (region_begin l (bit_region t)) vs) ≡ slice_set (table 1 64 (drop (region_begin l (bit_region t)) ws)) k e
    → OthersStay ws vs (region_begin l (bit_region t) + k / 64)
    → tables_in l vs ≡ with_bit (tables_in l ws) t k (e == 1)
unfolding tables_in
bit_written l ws vs t k e size within written others =
    let n : ℕ = bit_region t in
    let known = bit_region_known t in
    let sizes : List ℕ = region_sizes l in
    let old : List ℕ = slice_index_or (cut sizes ws) n [] in
    let new : List ℕ = slice_index_or (cut sizes vs) n [] in
    let len = length_region_table 1 64 sizes ws n known (omega arith) in
    rebuilt l ws vs n (k / 64) known (omega arith) others
    ∙ bits_replaced l ws t k (e == 1) new (entry (λ x. x == 1) (table 1 64 old) (table 1 64 new) k e (region_entry_written 1 64 sizes ws vs n k e known within written) (omega arith))

-- the word of a bit is one of the words
pub bit_within : (l : Limits) (ws : List ℕ) (t : BitTable) (k : ℕ) → (tables_in l ws).size ≡ region_begin l all_regions → k < 64 * slice_index (region_sizes l) (bit_region t)
    → region_begin l (bit_region t) + k / 64 < length ws
unfolding tables_in
bit_within l ws t k size within = region_within (region_sizes l) ws (bit_region t) (k / 64) (bit_region_known t) (omega arith) (omega arith)

-- a word of bits is one of the words
pub bit_word_within : (l : Limits) (ws : List ℕ) (t : BitTable) (at : ℕ) → (tables_in l ws).size ≡ region_begin l all_regions → at < slice_index (region_sizes l) (bit_region t)
    → region_begin l (bit_region t) + at < length ws
unfolding tables_in
bit_word_within l ws t at size within = region_within (region_sizes l) ws (bit_region t) at (bit_region_known t) within (omega arith)

-- and each of its bits is one of the table
pub bit_of_word : (l : Limits) (ws : List ℕ) (t : BitTable) (at i : ℕ) → (tables_in l ws).size ≡ region_begin l all_regions → at < slice_index (region_sizes l) (bit_region t) → i < 64
    → bit_table (tables_in l ws) t (64 * at + i) ≡ (bit_at (slice_index ws (region_begin l (bit_region t) + at)) i == 1)
bit_of_word l ws t at i size within in_word =
    let k : ℕ = 64 * at + i in
    let word : k / 64 ≡ at = omega arith in
    let place : 1 * (k % 64) ≡ i = omega arith in
    let begin : ℕ = region_begin l (bit_region t) in
    bit_read l ws t k (omega arith)
    ∙ ap (λ x. x == 1) (entry_read 1 64 begin k ws (lit< tt) (subst (λ x. begin + x < length ws) (sym word) (bit_word_within l ws t at size within))
    ∙ ap (λ x. slice_index ws (begin + x) / 2 ^ (1 * (k % 64)) % 2 ^ 1) word ∙ ap (λ x. slice_index ws (begin + at) / 2 ^ x % 2 ^ 1) place)

-- ---- whole words

words_replaced : (l : Limits) (ws : List ℕ) (t : WordTable) (k v : ℕ) (region : List ℕ)
    → ((i : ℕ) → words_in region i ≡ changed (words_in (slice_index_or (cut (region_sizes l) ws) (word_region t) [])) k v i)
    → tables_from (length ws) (slice_set (cut (region_sizes l) ws) (word_region t) region) ≡ with_word (tables_in l ws) t k v
unfolding tables_in
words_replaced l ws Heap k v region is = λ j. record (tables_from (length ws) (cut (region_sizes l) ws)) { heap = λ i. is i j }
words_replaced l ws States k v region is = λ j. record (tables_from (length ws) (cut (region_sizes l) ws)) { states = λ i. is i j }
words_replaced l ws Runs k v region is = λ j. record (tables_from (length ws) (cut (region_sizes l) ws)) { runs = λ i. is i j }
words_replaced l ws Frees k v region is = λ j. record (tables_from (length ws) (cut (region_sizes l) ws)) { frees = λ i. is i j }
words_replaced l ws Decrements k v region is = λ j. record (tables_from (length ws) (cut (region_sizes l) ws)) { decs = λ i. is i j }
words_replaced l ws Remembered k v region is = λ j. record (tables_from (length ws) (cut (region_sizes l) ws)) { remembered = λ i. is i j }
words_replaced l ws Cursors k v region is = λ j. record (tables_from (length ws) (cut (region_sizes l) ws)) { cursors = λ i. is i j }

word_region_known : (t : WordTable) → word_region t < 15
word_region_known Heap = lit< tt
word_region_known States = lit< tt
word_region_known Runs = lit< tt
word_region_known Frees = lit< tt
word_region_known Decrements = lit< tt
word_region_known Remembered = lit< tt
word_region_known Cursors = lit< tt

word_table_is : (l : Limits) (ws : List ℕ) (t : WordTable) (k : ℕ) → word_table (tables_in l ws) t k ≡ words_in (slice_index_or (cut (region_sizes l) ws) (word_region t) []) k
unfolding tables_in
word_table_is l ws Heap k = refl
word_table_is l ws States k = refl
word_table_is l ws Runs k = refl
word_table_is l ws Frees k = refl
word_table_is l ws Decrements k = refl
word_table_is l ws Remembered k = refl
word_table_is l ws Cursors k = refl

-- a word is read
pub word_read : (l : Limits) (ws : List ℕ) (t : WordTable) (k : ℕ) → k < slice_index (region_sizes l) (word_region t)
    → slice_index ws (region_begin l (word_region t) + k) ≡ word_table (tables_in l ws) t k
word_read l ws t k within = region_word (region_sizes l) ws (word_region t) k (word_region_known t) within ∙ sym (word_table_is l ws t k)

pub word_within : (l : Limits) (ws : List ℕ) (t : WordTable) (k : ℕ) → (tables_in l ws).size ≡ region_begin l all_regions → k < slice_index (region_sizes l) (word_region t)
    → region_begin l (word_region t) + k < length ws
unfolding tables_in
word_within l ws t k size within = region_within (region_sizes l) ws (word_region t) k (word_region_known t) within (omega arith)

-- a word is written
pub word_written : (l : Limits) (ws : List ℕ) (t : WordTable) (k v : ℕ) → (tables_in l ws).size ≡ region_begin l all_regions → k < slice_index (region_sizes l) (word_region t)
    → tables_in l (slice_set ws (region_begin l (word_region t) + k) v) ≡ with_word (tables_in l ws) t k v
unfolding tables_in
word_written l ws t k v size within =
    let n : ℕ = word_region t in
    let known = word_region_known t in
    let sizes : List ℕ = region_sizes l in
    let old : List ℕ = slice_index_or (cut sizes ws) n [] in
    let inside = word_within l ws t k size within in
    let len = length_region sizes ws n known (omega arith) in
    rebuilt l ws (slice_set ws (region_begin l n + k) v) n k known within (others_stay ws (region_begin l n + k) v inside)
    ∙ words_replaced l ws t k v (slice_index_or (cut sizes (slice_set ws (region_begin l n + k) v)) n [])
    (entry (λ x. x) old (slice_index_or (cut sizes (slice_set ws (region_begin l n + k) v)) n []) k v (region_word_written sizes ws n k v known within) (omega arith))

-- ---- reference counts

pub count_read : (l : Limits) (ws : List ℕ) (g : ℕ) → g < GRANULES_IN_BLOCK * l.blocks → slice_index (table COUNT_BITS COUNTS_IN_WORD (drop (region_begin l counts_region) ws)) g ≡ (tables_in l ws).counts g
unfolding tables_in
count_read l ws g within = region_read COUNT_BITS COUNTS_IN_WORD (region_sizes l) ws 1 g (lit< tt) (omega arith)

pub count_within : (l : Limits) (ws : List ℕ) (g : ℕ) → (tables_in l ws).size ≡ region_begin l all_regions → g < GRANULES_IN_BLOCK * l.blocks → region_begin l counts_region + g / COUNTS_IN_WORD < length ws
unfolding tables_in
count_within l ws g size within = region_within (region_sizes l) ws 1 (g / COUNTS_IN_WORD) (lit< tt) (omega arith) (omega arith)

pub count_written : (l : Limits) (ws vs : List ℕ) (g e : ℕ) → (tables_in l ws).size ≡ region_begin l all_regions → g < GRANULES_IN_BLOCK * l.blocks
    → table COUNT_BITS COUNTS_IN_WORD (drop (region_begin l counts_region) vs) ≡ slice_set (table COUNT_BITS COUNTS_IN_WORD (drop (region_begin l counts_region) ws)) g e → OthersStay ws vs (region_begin l counts_region + g / COUNTS_IN_WORD)
    → tables_in l vs ≡ record (tables_in l ws) { counts = changed (tables_in l ws).counts g e }
unfolding tables_in
count_written l ws vs g e size within written others =
    let sizes : List ℕ = region_sizes l in
    let old : List ℕ = slice_index_or (cut sizes ws) 1 [] in
    let new : List ℕ = slice_index_or (cut sizes vs) 1 [] in
    let len = length_region_table COUNT_BITS COUNTS_IN_WORD sizes ws 1 (lit< tt) (omega arith) in
    let is : (i : ℕ) → counts_in new i ≡ changed (counts_in old) g e i = entry (λ x. x) (table COUNT_BITS COUNTS_IN_WORD old) (table COUNT_BITS COUNTS_IN_WORD new) g e (region_entry_written COUNT_BITS COUNTS_IN_WORD sizes ws vs 1 g e (lit< tt) (omega arith) written) (omega arith) in
    rebuilt l ws vs 1 (g / COUNTS_IN_WORD) (lit< tt) (omega arith) others ∙ (λ j. record (tables_from (length ws) (cut sizes ws)) { counts = λ i. is i j })

-- ---- reuse counters

pub reuse_read : (l : Limits) (ws : List ℕ) (n : ℕ) → n < LINES_IN_BLOCK * l.blocks → slice_index (table 32 2 (drop (region_begin l reuse_region) ws)) n ≡ (tables_in l ws).reuse n
unfolding tables_in
reuse_read l ws n within = region_read 32 2 (region_sizes l) ws 7 n (lit< tt) (omega arith)

pub reuse_within : (l : Limits) (ws : List ℕ) (n : ℕ) → (tables_in l ws).size ≡ region_begin l all_regions → n < LINES_IN_BLOCK * l.blocks → region_begin l reuse_region + n / 2 < length ws
unfolding tables_in
reuse_within l ws n size within = region_within (region_sizes l) ws 7 (n / 2) (lit< tt) (omega arith) (omega arith)

pub reuse_written : (l : Limits) (ws vs : List ℕ) (n e : ℕ) → (tables_in l ws).size ≡ region_begin l all_regions → n < LINES_IN_BLOCK * l.blocks
    → table 32 2 (drop (region_begin l reuse_region) vs) ≡ slice_set (table 32 2 (drop (region_begin l reuse_region) ws)) n e → OthersStay ws vs (region_begin l reuse_region + n / 2)
    → tables_in l vs ≡ record (tables_in l ws) { reuse = changed (tables_in l ws).reuse n e }
unfolding tables_in
reuse_written l ws vs n e size within written others =
    let sizes : List ℕ = region_sizes l in
    let old : List ℕ = slice_index_or (cut sizes ws) 7 [] in
    let new : List ℕ = slice_index_or (cut sizes vs) 7 [] in
    let len = length_region_table 32 2 sizes ws 7 (lit< tt) (omega arith) in
    let is : (i : ℕ) → halves_in new i ≡ changed (halves_in old) n e i = entry (λ x. x) (table 32 2 old) (table 32 2 new) n e (region_entry_written 32 2 sizes ws vs 7 n e (lit< tt) (omega arith) written) (omega arith) in
    rebuilt l ws vs 7 (n / 2) (lit< tt) (omega arith) others ∙ (λ j. record (tables_from (length ws) (cut sizes ws)) { reuse = λ i. is i j })

-- an answer that is told by an equation on numbers
pub test_of : (b : Bool) (x : ℕ) → (IsTrue b ↔ (x ≡ 1)) → b ≡ (x == 1)
test_of true x (from, back) = sym (eq-eqb x 1 (from refl))
test_of false x (from, back) = elim (eqb_tells x 1) [ inl k ↦ back k.1 ∙ sym k.0 | inr k ↦ sym k.0 ]

-- the half of a word that was read
pub half_is : (l : Limits) (ws : List ℕ) (n at w : ℕ) → (tables_in l ws).size ≡ region_begin l all_regions → n < LINES_IN_BLOCK * l.blocks → at ≡ region_begin l reuse_region + n / 2 → w ≡ slice_index ws at
    → w / 2 ^ (32 * (n % 2)) % 2 ^ 32 ≡ (tables_in l ws).reuse n
half_is l ws n at w size within at_is w_is = read_at 32 2 (region_begin l reuse_region) n ws at w (32 * (n % 2)) (lit< tt) (reuse_within l ws n size within) at_is w_is refl ∙ reuse_read l ws n within

-- a half of a word that was read is written
pub half_put : (l : Limits) (ws vs : List ℕ) (n at w v e : ℕ) → (tables_in l ws).size ≡ region_begin l all_regions → n < LINES_IN_BLOCK * l.blocks → at ≡ region_begin l reuse_region + n / 2 → w ≡ slice_index ws at → vs ≡ slice_set ws at v
    → e < 2 ^ 32 → IsWritten 32 w v (n % 2) e → tables_in l vs ≡ record (tables_in l ws) { reuse = changed (tables_in l ws).reuse n e }
half_put l ws vs n at w v e size within at_is w_is vs_is fits written =
    let inside = reuse_within l ws n size within in
    reuse_written l ws vs n e size within (written_at 32 2 (region_begin l reuse_region) n ws vs at w v e (lit< tt) inside fits at_is w_is vs_is written)
    (subst (λ x. OthersStay ws x (region_begin l reuse_region + n / 2)) (sym (vs_is ∙ ap (λ k. slice_set ws k v) at_is)) (others_stay ws (region_begin l reuse_region + n / 2) v inside))

-- past the heap no object begins
pub no_start_past : (l : Limits) (ws : List ℕ) (g : ℕ) → (tables_in l ws).size ≡ region_begin l all_regions → GRANULES_IN_BLOCK * l.blocks ≤ g → (tables_in l ws).starts g ≡ false
unfolding tables_in
no_start_past l ws g size past =
    let region : List ℕ = slice_index_or (cut (region_sizes l) ws) 2 [] in
    let len = length_region_table 1 64 (region_sizes l) ws 2 (lit< tt) (omega arith) in
    let none : slice_index (table 1 64 region) g ≡ 0 = get_or-eq_default (table 1 64 region) 0 {n = g} (omega arith) in
    ap (λ x. x == 1) none

-- past the last block no state is told
pub no_state_past : (l : Limits) (ws : List ℕ) (b : ℕ) → (tables_in l ws).size ≡ region_begin l all_regions → l.blocks ≤ b → (tables_in l ws).states b ≡ 0
unfolding tables_in
no_state_past l ws b size past =
    let region : List ℕ = slice_index_or (cut (region_sizes l) ws) 9 [] in
    let len = length_region (region_sizes l) ws 9 (lit< tt) (omega arith) in
    get_or-eq_default region 0 {n = b} (omega arith)

-- ---- what entries can be

pub count_fits : (l : Limits) (ws : List ℕ) (g : ℕ) → (tables_in l ws).counts g ≤ STUCK
unfolding tables_in
count_fits l ws g = let below = entry_below COUNT_BITS COUNTS_IN_WORD g (slice_index_or (cut (region_sizes l) ws) 1 []) in omega arith

pub reuse_fits : (l : Limits) (ws : List ℕ) (n : ℕ) → (tables_in l ws).reuse n < 2 ^ 32
unfolding tables_in
reuse_fits l ws n = entry_below 32 2 n (slice_index_or (cut (region_sizes l) ws) 7 [])
