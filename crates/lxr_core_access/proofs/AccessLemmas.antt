-- Each access's action does the access: a lemma for each access, and all of them as one.
use Rattle.std.proofs.Common.{◌≡◌, ◌≢◌, ℕ, ◌+◌, ◌-◌, ◌*◌, ◌/◌, ◌%◌, ◌^◌, ◌<◌, refl, sym, ap, subst, ◌∙◌, inl, inr, cond, arith, lit<, true, false, List, [], length, length-set, nat_eq}
use Rattle.std.specs.Prelude.{◌==◌, slice_index, slice_index_or, slice_set}
use Rattle.std.specs.Int.Bits.{bit_and, bit_or}
use Rattle.std.proofs.Math.Nat.{mod-eq_of_lt}
use Rattle.std.proofs.lemmas.List.Sums.{sum_by_more_le}
use Rattle.std.proofs.lemmas.Nat.{mul-le}
use Rattle.std.proofs.lemmas.Bool.Decides.{eqb_tells}
use Rattle.std.proofs.lemmas.List.{get_or-set_other, get_or-set_same, set-get_or}
use Rattle.lxr_layout.specs.declared.TheConstants.{COUNT_BITS, GRANULES_IN_BLOCK, STUCK, WORDS_IN_BLOCK}
use Rattle.lxr_tables.specs.declared.counts.TheConstants.{COUNTS_IN_WORD}
use Rattle.lxr_layout.specs.declared.limits.Limits.{Limits}
use Rattle.lxr_layout.specs.declared.limits.Regions.{Regions}
use Rattle.lxr_layout.specs.Spaces.{AreLimits, all_regions, region_begin, region_sizes, regions_of}
use Rattle.lxr_tables.specs.Entries.{all_but, is_set, table}
use Rattle.lxr_tables.proofs.EntryLemmas.{entry_read}
use Rattle.lxr_image.specs.Tables.{bits_in, changed, cut, tables_from, tables_in, words_in}
use Rattle.lxr_image.proofs.TableLaws.{count_fits}
use Rattle.lxr_image.proofs.RegionLemmas.{cut_written, length_region, length_region_table, region_read, region_within, region_word}
use Rattle.lxr_core_access.specs.declared.TableEntry.{TableEntry}
use Rattle.lxr_core_access.specs.declared.TableEntry.TheVariants.{Heap, Count, Start, Mark, Gray, Done, Unlogged, Reuse, Out, State, Run, Free, Decrement, Remembered, Cursor}
use Rattle.lxr_core_access.specs.declared.Access.{Access}
use Rattle.lxr_core_access.specs.declared.Access.TheVariants.{Look, PutHeap, SwapHeap, AddHeap, ClearUnlogged, SetMark, SetGray, SetDone, LowerCount, Draw, PutCursor, PutRemembered}
use Rattle.lxr_core_access.specs.Accesses.{AreRegions, IsTableEntry, MayBeDone, Tells, action_of, done_to, table_entry_of, table_entry_word}
use Rattle.lxr_core_access.specs.Laws.{DoesAccess, acted_words}
use Rattle.lxr_core_access.proofs.WordLemmas.{IsSetIn, cleared_in, lowered_in, set_in, table-set_at}

-- a region of a space
abbrev region : Limits → List ℕ → ℕ → List ℕ
region l ws n = slice_index_or (cut (region_sizes l) ws) n []

-- a table of which one entry was written
entry : {A : Type 0} (h : ℕ → A) (xs ys : List ℕ) (k e : ℕ) → ys ≡ slice_set xs k e → k < length xs → (i : ℕ) → h (slice_index ys i) ≡ changed (λ j. h (slice_index xs j)) k (h e) i
entry h xs ys k e is within i = elim (eqb_tells i k) as (λ _. h (slice_index ys i) ≡ changed (λ j. h (slice_index xs j)) k (h e) i) [
  | inl q ↦ ap h (ap (λ x. slice_index x i) is ∙ ap (slice_index (slice_set xs k e)) q.1 ∙ get_or-set_same xs k e 0 within) ∙ sym (ap (λ b. cond b (h e) (h (slice_index xs i))) q.0)
  | inr q ↦ ap h (ap (λ x. slice_index x i) is ∙ get_or-set_other xs k i e 0 q.1) ∙ sym (ap (λ b. cond b (h e) (h (slice_index xs i))) q.0)
]

-- a word of a region is one of the words of the space
below : (l : Limits) (n b o : ℕ) → n < 15 → b ≡ region_begin l n → o < slice_index (region_sizes l) n → b + o < region_begin l all_regions
below l n b o known is within = let past = sum_by_more_le (λ x. x) (region_sizes l) n 0 known in omega arith

module _ (l : Limits) (ws : List ℕ) (size : length ws ≡ region_begin l all_regions) (n b : ℕ) (known : n < 15) (is : b ≡ region_begin l n) where
  -- a word of a region is read
  word_told : (k : ℕ) → k < slice_index (region_sizes l) n → slice_index ws (b + k) ≡ words_in (region l ws n) k
  word_told k within = ap (λ x. slice_index ws (x + k)) is ∙ region_word (region_sizes l) ws n k known within

  -- a word of a region is written, and the other regions stay
  region_put : (o v : ℕ) → o < slice_index (region_sizes l) n
      → tables_in l (slice_set ws (b + o) v) ≡ tables_from (length ws) (slice_set (cut (region_sizes l) ws) n (slice_set (region l ws n) o v))
  unfolding tables_in
  region_put o v within =
      ap (λ x. tables_in l (slice_set ws (x + o) v)) is
      ∙ ap (λ x. tables_from x (cut (region_sizes l) (slice_set ws (region_begin l n + o) v))) (length-set ws (region_begin l n + o) v)
      ∙ ap (tables_from (length ws)) (cut_written (region_sizes l) ws n o v within)

  -- the written region as a table of words
  words_put : (k v : ℕ) → k < slice_index (region_sizes l) n → (i : ℕ) → words_in (slice_set (region l ws n) k v) i ≡ changed (words_in (region l ws n)) k v i
  words_put k v within = entry (λ x. x) (region l ws n) (slice_set (region l ws n) k v) k v refl (let len = length_region (region_sizes l) ws n known (omega arith) in omega arith)

  -- the entry of a word of a region, of so many bits, so many to a word
  entry_told : (bits count k : ℕ) → 0 < count → k < count * slice_index (region_sizes l) n → k / count < slice_index (region_sizes l) n
      → slice_index ws (b + k / count) / 2 ^ (bits * (k % count)) % 2 ^ bits ≡ slice_index (table bits count (region l ws n)) k
  entry_told bits count k pos within word =
      ap (λ x. slice_index ws (x + k / count) / 2 ^ (bits * (k % count)) % 2 ^ bits) is
      ∙ sym (entry_read bits count (region_begin l n) k ws pos (region_within (region_sizes l) ws n (k / count) known word (omega arith)))
      ∙ region_read bits count (region_sizes l) ws n k known within

  -- the written region as a table of such entries
  table_put : (bits count k v e : ℕ) → 0 < count → k / count < slice_index (region_sizes l) n → IsSetIn bits count (slice_index ws (b + k / count)) v (k % count) e
      → table bits count (slice_set (region l ws n) (k / count) v) ≡ slice_set (table bits count (region l ws n)) k e
  table_put bits count k v e pos word set =
      let len = length_region (region_sizes l) ws n known (omega arith) in
      table-set_at bits count k (region l ws n) v e pos (omega arith) (subst (λ x. IsSetIn bits count x v (k % count) e) (word_told (k / count) word) set)

  -- a bit of a region is read
  bit_told : (k : ℕ) → k < 64 * slice_index (region_sizes l) n → is_set (slice_index ws (b + k / 64)) (k % 64) ≡ bits_in (region l ws n) k
  bit_told k within =
      let one : k % 64 ≡ 1 * (k % 64) = omega arith in
      ap (λ (x : ℕ). nat_eq (slice_index ws (b + k / 64) / 2 ^ x % 2) 1) one ∙ ap (λ x. nat_eq x 1) (entry_told 1 64 k (lit< tt) within (omega arith))

  -- the written region as a table of bits
  bits_put : (k v e : ℕ) → k < 64 * slice_index (region_sizes l) n → IsSetIn 1 64 (slice_index ws (b + k / 64)) v (k % 64) e
      → (i : ℕ) → bits_in (slice_set (region l ws n) (k / 64) v) i ≡ changed (bits_in (region l ws n)) k (e == 1) i
  bits_put k v e within set =
      let len = length_region_table 1 64 (region_sizes l) ws n known (omega arith) in
      entry (λ x. x == 1) (table 1 64 (region l ws n)) (table 1 64 (slice_set (region l ws n) (k / 64) v)) k e (table_put 1 64 k v e (lit< tt) (omega arith) set) (omega arith)

-- the regions that are computed for limits are those of the limits
pub regions_are : (l : Limits) (r : Regions)
    → r ≡ regions_of l
    → AreRegions l r
regions_are l r is = record {
  heap = ap (λ x. x.heap) is;
  counts = ap (λ x. x.counts) is;
  starts = ap (λ x. x.starts) is;
  marks = ap (λ x. x.marks) is;
  grays = ap (λ x. x.grays) is;
  dones = ap (λ x. x.dones) is;
  unlogged = ap (λ x. x.unlogged) is;
  reuse = ap (λ x. x.reuse) is;
  outs = ap (λ x. x.outs) is;
  states = ap (λ x. x.states) is;
  runs = ap (λ x. x.runs) is;
  frees = ap (λ x. x.frees) is;
  decs = ap (λ x. x.decs) is;
  remembered = ap (λ x. x.remembered) is;
  cursors = ap (λ x. x.cursors) is;
}

-- the word of an entry is one of the words of the space
pub table_entry_below : (l : Limits) (r : Regions) → AreRegions l r → (s : TableEntry) → IsTableEntry l s → table_entry_word r s < region_begin l all_regions
table_entry_below l r are (Heap at) h = below l 0 r.heap at (lit< tt) are.heap h
table_entry_below l r are (Count granule) h = below l 1 r.counts (granule / COUNTS_IN_WORD) (lit< tt) are.counts (omega arith)
table_entry_below l r are (Start granule) h = below l 2 r.starts (granule / 64) (lit< tt) are.starts (omega arith)
table_entry_below l r are (Mark granule) h = below l 3 r.marks (granule / 64) (lit< tt) are.marks (omega arith)
table_entry_below l r are (Gray granule) h = below l 4 r.grays (granule / 64) (lit< tt) are.grays (omega arith)
table_entry_below l r are (Done granule) h = below l 5 r.dones (granule / 64) (lit< tt) are.dones (omega arith)
table_entry_below l r are (Unlogged at) h = below l 6 r.unlogged (at / 64) (lit< tt) are.unlogged (omega arith)
table_entry_below l r are (Reuse line) h = below l 7 r.reuse (line / 2) (lit< tt) are.reuse (omega arith)
table_entry_below l r are (Out line) h = below l 8 r.outs (line / 64) (lit< tt) are.outs (omega arith)
table_entry_below l r are (State block) h = below l 9 r.states block (lit< tt) are.states h
table_entry_below l r are (Run at) h = below l 10 r.runs at (lit< tt) are.runs h
table_entry_below l r are (Free at) h = below l 11 r.frees at (lit< tt) are.frees h
table_entry_below l r are (Decrement at) h = below l 12 r.decs at (lit< tt) are.decs h
table_entry_below l r are (Remembered at) h = below l 13 r.remembered at (lit< tt) are.remembered h
table_entry_below l r are (Cursor number) h = below l 14 r.cursors number (lit< tt) are.cursors h

-- a space has fewer than 2^32 words
total_fits : (l : Limits) → AreLimits l → region_begin l all_regions < 2 ^ 32
total_fits l are =
    let log = are.log.1 in
    let registers = are.registers.1 in
    let decs = mul-le l.threads (l.log + l.registers) 255 65792 are.threads.1 (omega (arith, log, registers)) in
    omega arith

-- so the word of an entry has its index
pub spot_fits : (l : Limits) (r : Regions) → AreLimits l → AreRegions l r → (s : TableEntry) → IsTableEntry l s → table_entry_word r s < 2 ^ 32
spot_fits l r limits are s h =
    let lt = table_entry_below l r are s h in
    let fits = total_fits l limits in
    omega arith

module _ (l : Limits) (r : Regions) (ws : List ℕ) (are : AreRegions l r) (size : length ws ≡ region_begin l all_regions) where
  -- the word of an entry exists
  pub table_entry_there : (s : TableEntry) → IsTableEntry l s → table_entry_word r s < length ws
  table_entry_there s h = subst (λ x. table_entry_word r s < x) (sym size) (table_entry_below l r are s h)

  -- and it tells of the entry
  pub table_entry_told : (s : TableEntry) → IsTableEntry l s → Tells (tables_in l ws) s (slice_index ws (table_entry_word r s))
  unfolding tables_in
  table_entry_told (Heap at) h = word_told l ws size 0 r.heap (lit< tt) are.heap at h
  table_entry_told (Count granule) h = entry_told l ws size 1 r.counts (lit< tt) are.counts COUNT_BITS COUNTS_IN_WORD granule (lit< tt) (omega arith) (omega arith)
  table_entry_told (Start granule) h = bit_told l ws size 2 r.starts (lit< tt) are.starts granule (omega arith)
  table_entry_told (Mark granule) h = bit_told l ws size 3 r.marks (lit< tt) are.marks granule (omega arith)
  table_entry_told (Gray granule) h = bit_told l ws size 4 r.grays (lit< tt) are.grays granule (omega arith)
  table_entry_told (Done granule) h = bit_told l ws size 5 r.dones (lit< tt) are.dones granule (omega arith)
  table_entry_told (Unlogged at) h = bit_told l ws size 6 r.unlogged (lit< tt) are.unlogged at (omega arith)
  table_entry_told (Reuse line) h = entry_told l ws size 7 r.reuse (lit< tt) are.reuse 32 2 line (lit< tt) (omega arith) (omega arith)
  table_entry_told (Out line) h = bit_told l ws size 8 r.outs (lit< tt) are.outs line (omega arith)
  table_entry_told (State block) h = word_told l ws size 9 r.states (lit< tt) are.states block h
  table_entry_told (Run at) h = word_told l ws size 10 r.runs (lit< tt) are.runs at h
  table_entry_told (Free at) h = word_told l ws size 11 r.frees (lit< tt) are.frees at h
  table_entry_told (Decrement at) h = word_told l ws size 12 r.decs (lit< tt) are.decs at h
  table_entry_told (Remembered at) h = word_told l ws size 13 r.remembered (lit< tt) are.remembered at h
  table_entry_told (Cursor number) h = word_told l ws size 14 r.cursors (lit< tt) are.cursors number h

  -- an access is done where the tables become its own
  done_by : (d : Access) → IsTableEntry l (table_entry_of d) → tables_in l (acted_words ws (action_of r d)) ≡ done_to (tables_in l ws) d → DoesAccess l ws (action_of r d) d
  done_by d h tables = record {
    within = table_entry_there (table_entry_of d) h;
    told = table_entry_told (table_entry_of d) h;
    tables = tables;
    size = length-set ws (table_entry_word r (table_entry_of d)) _;
  }

  -- a look changes nothing
  pub look_done : (s : TableEntry) → IsTableEntry l s → DoesAccess l ws (action_of r (Look s)) (Look s)
  look_done s h = done_by (Look s) h (ap (tables_in l) (set-get_or ws (table_entry_word r s) 0))

  -- one word of the heap changes
  heap_put : (at value : ℕ) → at < WORDS_IN_BLOCK * l.blocks → tables_in l (slice_set ws (r.heap + at) value) ≡ record (tables_in l ws) { heap = changed (tables_in l ws).heap at value }
  unfolding tables_in
  heap_put at value h =
      region_put l ws size 0 r.heap (lit< tt) are.heap at value h
      ∙ (λ j. record (tables_from (length ws) (cut (region_sizes l) ws)) { heap = λ i. words_put l ws size 0 r.heap (lit< tt) are.heap at value h i j })

  -- one remembered entry changes
  remembered_put : (at word : ℕ) → at < l.remember → tables_in l (slice_set ws (r.remembered + at) word) ≡ record (tables_in l ws) { remembered = changed (tables_in l ws).remembered at word }
  unfolding tables_in
  remembered_put at word h =
      region_put l ws size 13 r.remembered (lit< tt) are.remembered at word h
      ∙ (λ j. record (tables_from (length ws) (cut (region_sizes l) ws)) { remembered = λ i. words_put l ws size 13 r.remembered (lit< tt) are.remembered at word h i j })

  -- one cursor changes
  cursor_put : (cursor value : ℕ) → cursor < 16 → tables_in l (slice_set ws (r.cursors + cursor) value) ≡ record (tables_in l ws) { cursors = changed (tables_in l ws).cursors cursor value }
  unfolding tables_in
  cursor_put cursor value h =
      region_put l ws size 14 r.cursors (lit< tt) are.cursors cursor value h
      ∙ (λ j. record (tables_from (length ws) (cut (region_sizes l) ws)) { cursors = λ i. words_put l ws size 14 r.cursors (lit< tt) are.cursors cursor value h i j })

  -- a word of the heap is written
  pub put_heap_done : (at value : ℕ) → at < WORDS_IN_BLOCK * l.blocks → DoesAccess l ws (action_of r (PutHeap at value)) (PutHeap at value)
  put_heap_done at value h = done_by (PutHeap at value) h (heap_put at value h)

  -- one is swapped
  pub swap_heap_done : (at value : ℕ) → at < WORDS_IN_BLOCK * l.blocks → DoesAccess l ws (action_of r (SwapHeap at value)) (SwapHeap at value)
  swap_heap_done at value h = done_by (SwapHeap at value) h (heap_put at value h)

  -- one is added to
  pub add_heap_done : (at value : ℕ) → at < WORDS_IN_BLOCK * l.blocks → DoesAccess l ws (action_of r (AddHeap at value)) (AddHeap at value)
  add_heap_done at value h =
      let told = table_entry_told (Heap at) h in
      done_by (AddHeap at value) h (ap (λ x. tables_in l (slice_set ws (r.heap + at) ((x + value) % 2 ^ 64))) told ∙ heap_put at (((tables_in l ws).heap at + value) % 2 ^ 64) h)

  -- a remembered entry is written
  pub put_remembered_done : (at word : ℕ) → at < l.remember → DoesAccess l ws (action_of r (PutRemembered at word)) (PutRemembered at word)
  put_remembered_done at word h = done_by (PutRemembered at word) h (remembered_put at word h)

  -- a cursor is written
  pub put_cursor_done : (cursor value : ℕ) → cursor < 16 → DoesAccess l ws (action_of r (PutCursor cursor value)) (PutCursor cursor value)
  put_cursor_done cursor value h = done_by (PutCursor cursor value) h (cursor_put cursor value h)

  -- a number is drawn
  pub draw_done : (cursor : ℕ) → cursor < 16 → (tables_in l ws).cursors cursor + 1 < 2 ^ 64 → DoesAccess l ws (action_of r (Draw cursor)) (Draw cursor)
  draw_done cursor h fits =
      let told = table_entry_told (Cursor cursor) h in
      let next : (slice_index ws (r.cursors + cursor) + 1) % 2 ^ 64 ≡ (tables_in l ws).cursors cursor + 1 = ap (λ x. (x + 1) % 2 ^ 64) told ∙ mod-eq_of_lt fits in
      done_by (Draw cursor) h (ap (λ x. tables_in l (slice_set ws (r.cursors + cursor) x)) next ∙ cursor_put cursor ((tables_in l ws).cursors cursor + 1) h)

  -- one unlogged bit is cleared
  unlogged_put : (at : ℕ) → at < WORDS_IN_BLOCK * l.blocks
      → tables_in l (slice_set ws (r.unlogged + at / 64) (bit_and (slice_index ws (r.unlogged + at / 64)) (all_but (at % 64)))) ≡ record (tables_in l ws) { unlogged = changed (tables_in l ws).unlogged at false }
  unfolding tables_in
  unlogged_put at h =
      let old : ℕ = slice_index ws (r.unlogged + at / 64) in
      let new : ℕ = bit_and old (all_but (at % 64)) in
      region_put l ws size 6 r.unlogged (lit< tt) are.unlogged (at / 64) new (omega arith)
      ∙ (λ j. record (tables_from (length ws) (cut (region_sizes l) ws)) { unlogged = λ i. bits_put l ws size 6 r.unlogged (lit< tt) are.unlogged at new 0 (omega arith) (cleared_in old (at % 64) (omega arith)) i j })

  -- the unlogged bit of a heap word is cleared
  pub clear_unlogged_done : (at : ℕ) → at < WORDS_IN_BLOCK * l.blocks → DoesAccess l ws (action_of r (ClearUnlogged at)) (ClearUnlogged at)
  clear_unlogged_done at h = done_by (ClearUnlogged at) h (unlogged_put at h)

  -- one mark is set
  mark_put : (granule : ℕ) → granule < GRANULES_IN_BLOCK * l.blocks
      → tables_in l (slice_set ws (r.marks + granule / 64) (bit_or (slice_index ws (r.marks + granule / 64)) (2 ^ (granule % 64)))) ≡ record (tables_in l ws) { marks = changed (tables_in l ws).marks granule true }
  unfolding tables_in
  mark_put granule h =
      let old : ℕ = slice_index ws (r.marks + granule / 64) in
      let new : ℕ = bit_or old (2 ^ (granule % 64)) in
      region_put l ws size 3 r.marks (lit< tt) are.marks (granule / 64) new (omega arith)
      ∙ (λ j. record (tables_from (length ws) (cut (region_sizes l) ws)) { marks = λ i. bits_put l ws size 3 r.marks (lit< tt) are.marks granule new 1 (omega arith) (set_in old (granule % 64) (omega arith)) i j })

  -- one gray bit is set
  gray_put : (granule : ℕ) → granule < GRANULES_IN_BLOCK * l.blocks
      → tables_in l (slice_set ws (r.grays + granule / 64) (bit_or (slice_index ws (r.grays + granule / 64)) (2 ^ (granule % 64)))) ≡ record (tables_in l ws) { grays = changed (tables_in l ws).grays granule true }
  unfolding tables_in
  gray_put granule h =
      let old : ℕ = slice_index ws (r.grays + granule / 64) in
      let new : ℕ = bit_or old (2 ^ (granule % 64)) in
      region_put l ws size 4 r.grays (lit< tt) are.grays (granule / 64) new (omega arith)
      ∙ (λ j. record (tables_from (length ws) (cut (region_sizes l) ws)) { grays = λ i. bits_put l ws size 4 r.grays (lit< tt) are.grays granule new 1 (omega arith) (set_in old (granule % 64) (omega arith)) i j })

  -- one done bit is set
  done_put : (granule : ℕ) → granule < GRANULES_IN_BLOCK * l.blocks
      → tables_in l (slice_set ws (r.dones + granule / 64) (bit_or (slice_index ws (r.dones + granule / 64)) (2 ^ (granule % 64)))) ≡ record (tables_in l ws) { dones = changed (tables_in l ws).dones granule true }
  unfolding tables_in
  done_put granule h =
      let old : ℕ = slice_index ws (r.dones + granule / 64) in
      let new : ℕ = bit_or old (2 ^ (granule % 64)) in
      region_put l ws size 5 r.dones (lit< tt) are.dones (granule / 64) new (omega arith)
      ∙ (λ j. record (tables_from (length ws) (cut (region_sizes l) ws)) { dones = λ i. bits_put l ws size 5 r.dones (lit< tt) are.dones granule new 1 (omega arith) (set_in old (granule % 64) (omega arith)) i j })

  -- an object is marked
  pub set_mark_done : (granule : ℕ) → granule < GRANULES_IN_BLOCK * l.blocks → DoesAccess l ws (action_of r (SetMark granule)) (SetMark granule)
  set_mark_done granule h = done_by (SetMark granule) h (mark_put granule h)

  -- an object is found
  pub set_gray_done : (granule : ℕ) → granule < GRANULES_IN_BLOCK * l.blocks → DoesAccess l ws (action_of r (SetGray granule)) (SetGray granule)
  set_gray_done granule h = done_by (SetGray granule) h (gray_put granule h)

  -- a dead object is claimed
  pub set_done_done : (granule : ℕ) → granule < GRANULES_IN_BLOCK * l.blocks → DoesAccess l ws (action_of r (SetDone granule)) (SetDone granule)
  set_done_done granule h = done_by (SetDone granule) h (done_put granule h)

  -- one count changes
  count_put : (granule v e : ℕ) → granule < GRANULES_IN_BLOCK * l.blocks → IsSetIn COUNT_BITS COUNTS_IN_WORD (slice_index ws (r.counts + granule / COUNTS_IN_WORD)) v (granule % COUNTS_IN_WORD) e
      → tables_in l (slice_set ws (r.counts + granule / COUNTS_IN_WORD) v) ≡ record (tables_in l ws) { counts = changed (tables_in l ws).counts granule e }
  unfolding tables_in
  count_put granule v e h set =
      let len = length_region_table COUNT_BITS COUNTS_IN_WORD (region_sizes l) ws 1 (lit< tt) (omega arith) in
      let put = table_put l ws size 1 r.counts (lit< tt) are.counts COUNT_BITS COUNTS_IN_WORD granule v e (lit< tt) (omega arith) set in
      region_put l ws size 1 r.counts (lit< tt) are.counts (granule / COUNTS_IN_WORD) v (omega arith)
      ∙ (λ j. record (tables_from (length ws) (cut (region_sizes l) ws)) { counts = λ i. entry (λ x. x) (table COUNT_BITS COUNTS_IN_WORD (region l ws 1)) (table COUNT_BITS COUNTS_IN_WORD (slice_set (region l ws 1) (granule / COUNTS_IN_WORD) v)) granule e put (omega arith) i j })

  -- a count that is neither 0 nor stuck is lowered
  pub lower_count_done : (granule : ℕ) → granule < GRANULES_IN_BLOCK * l.blocks → (tables_in l ws).counts granule ≢ 0 → (tables_in l ws).counts granule ≢ STUCK
      → DoesAccess l ws (action_of r (LowerCount granule)) (LowerCount granule)
  lower_count_done granule h some free =
      let old : ℕ = slice_index ws (r.counts + granule / COUNTS_IN_WORD) in
      let count : ℕ = (tables_in l ws).counts granule in
      let most = count_fits l ws granule in
      let is = table_entry_told (Count granule) h in
      done_by (LowerCount granule) h (count_put granule ((old + (2 ^ 64 - 2 ^ (COUNT_BITS * (granule % COUNTS_IN_WORD)))) % 2 ^ 64) (count - 1) h (lowered_in old (granule % COUNTS_IN_WORD) count (omega arith) most is some free))

  -- each access that may be done is done by its action
  pub access_done : (d : Access) → MayBeDone l (tables_in l ws) d → DoesAccess l ws (action_of r d) d
  access_done (Look s) may = look_done s may.table_entry
  access_done (PutHeap at value) may = put_heap_done at value may.table_entry
  access_done (SwapHeap at value) may = swap_heap_done at value may.table_entry
  access_done (AddHeap at value) may = add_heap_done at value may.table_entry
  access_done (ClearUnlogged at) may = clear_unlogged_done at may.table_entry
  access_done (SetMark granule) may = set_mark_done granule may.table_entry
  access_done (SetGray granule) may = set_gray_done granule may.table_entry
  access_done (SetDone granule) may = set_done_done granule may.table_entry
  access_done (LowerCount granule) may = lower_count_done granule may.table_entry may.entry.0 may.entry.1
  access_done (Draw cursor) may = draw_done cursor may.table_entry may.entry
  access_done (PutCursor cursor value) may = put_cursor_done cursor value may.table_entry
  access_done (PutRemembered at word) may = put_remembered_done at word may.table_entry
