-- What writes to words change of lines, and that what is known of them stays so.
use Rattle.std.proofs.Common.{◌≡◌, ◌≢◌, ℕ, ◌+◌, ◌*◌, ◌/◌, ◌%◌, ◌<◌, ◌≤◌, refl, sym, ap, subst, ◌∙◌, inl, inr, arith, Bool, cond, lit<, List, drop, length}
use Rattle.std.specs.Prelude.{◌==◌, IfSome, IsTrue, None, Option, Some, slice_index, slice_set}
use Rattle.std.specs.Int.{bit_at}
use Rattle.std.proofs.lemmas.Bool.Decides.{eqb_tells}
use Rattle.lxr_tables.specs.declared.counts.TheConstants.{COUNTS_IN_WORD}
use Rattle.lxr_tables.specs.Entries.{OthersStay, counts_from, table}
use Rattle.lxr_layout.specs.declared.TheConstants.{GRANULES_IN_BLOCK, GRANULES_IN_LINE, LINES_IN_BLOCK}
use Rattle.lxr_layout.specs.declared.limits.Limits.{Limits}
use Rattle.lxr_layout.specs.Spaces.{all_regions, counts_region, region_sizes, region_begin, reuse_region}
use Rattle.lxr_image.specs.declared.settled.Settled.{Settled}
use Rattle.lxr_image.specs.declared.tables.BitTable.{BitTable}
use Rattle.lxr_image.specs.declared.tables.BitTable.TheVariants.{Starts, Marks, Grays, Dones, Unlogged, Outs}
use Rattle.lxr_image.specs.declared.tables.WordTable.{WordTable}
use Rattle.lxr_image.specs.declared.tables.WordTable.TheVariants.{Heap, States, Runs, Frees, Decrements, Remembered, Cursors}
use Rattle.lxr_image.specs.Settled.{AgreeBut, AreClear, AreCounted, AreCountedIn, AreRunsOfFree, BitTouches, ChangesCount, Disturbs, HasLongest, HasNoLonger, IsFreeByLines, IsFreeLine, IsMaskOfFree, IsStateOf, KeepsOpenLines, Knows, KnowsBlock, KnowsWords, NoneIsOut, SameLines, StandsByLines, WordTouches, block_of_bit, line_of, of_blocks}
use Rattle.lxr_image.specs.Runs.{with_runs}
use Rattle.lxr_image.specs.Spaces.{bit_region, replaced_bits, with_bit, with_bit_word, with_word}
use Rattle.lxr_image.specs.Tables.{Tables, changed, tables_in}
use Rattle.lxr_image.specs.Opened.{cleared_tables}
use Rattle.lxr_image.proofs.RegionLemmas.{region_within}
use Rattle.lxr_image.proofs.TableLaws.{bit_within, bit_written, count_read, count_within, count_written, rebuilt}
use Rattle.lxr_image.proofs.RunLemmas.{few_words}
use Rattle.lxr_image.proofs.SettledLemmas.{block_of_free, count_disturbs, longest_alike, state_alike}

pub size_is : (l : Limits) (ws : List ℕ) → (tables_in l ws).size ≡ length ws
unfolding tables_in
size_is l ws = refl

-- a word of reuse counters is one of the words
pub reuse_word_within : (l : Limits) (ws : List ℕ) (at : ℕ) → length ws ≡ region_begin l all_regions → at < slice_index (region_sizes l) reuse_region → region_begin l reuse_region + at < length ws
reuse_word_within l ws at size within = region_within (region_sizes l) ws 7 at (lit< tt) within (omega arith)

-- a count is read, and written, in the words behind the first of the counts
pub count_at : (l : Limits) (ws : List ℕ) (g base : ℕ) → base ≡ region_begin l counts_region → g < GRANULES_IN_BLOCK * l.blocks → slice_index (counts_from ws base) g ≡ (tables_in l ws).counts g
count_at l ws g base base_is within = ap (λ b. slice_index (counts_from ws b) g) base_is ∙ count_read l ws g within

pub count_put : (l : Limits) (ws vs : List ℕ) (g e base : ℕ) → base ≡ region_begin l counts_region → length ws ≡ region_begin l all_regions → g < GRANULES_IN_BLOCK * l.blocks → counts_from vs base ≡ slice_set (counts_from ws base) g e
    → OthersStay ws vs (base + g / COUNTS_IN_WORD) → tables_in l vs ≡ record (tables_in l ws) { counts = changed (tables_in l ws).counts g e }
count_put l ws vs g e base base_is size within put others =
    count_written l ws vs g e (size_is l ws ∙ size) within (subst (λ b. counts_from vs b ≡ slice_set (counts_from ws b) g e) base_is put) (subst (λ b. OthersStay ws vs (b + g / COUNTS_IN_WORD)) base_is others)

-- a bit is written in the words after the first of its table
pub bit_put : (l : Limits) (ws vs : List ℕ) (t : BitTable) (k e base : ℕ) → base ≡ region_begin l (bit_region t) → length ws ≡ region_begin l all_regions → k < 64 * slice_index (region_sizes l) (bit_region t)
    → table 1 64 (drop base vs) ≡ slice_set (table 1 64 (drop base ws)) k e → OthersStay ws vs (base + k / 64) → tables_in l vs ≡ with_bit (tables_in l ws) t k (e == 1)
bit_put l ws vs t k e base base_is size within put others =
    bit_written l ws vs t k e (size_is l ws ∙ size) within (subst (λ b. table 1 64 (drop b vs) ≡ slice_set (table 1 64 (drop b ws)) k e) base_is put)
    (subst (λ b. OthersStay ws vs (b + k / 64)) base_is others)

pub bit_place : (l : Limits) (ws : List ℕ) (t : BitTable) (k base : ℕ) → base ≡ region_begin l (bit_region t) → length ws ≡ region_begin l all_regions → k < 64 * slice_index (region_sizes l) (bit_region t)
    → base + k / 64 < length ws
bit_place l ws t k base base_is size within = subst (λ b. b + k / 64 < length ws) (sym base_is) (bit_within l ws t k (size_is l ws ∙ size) within)

pub count_place : (l : Limits) (ws : List ℕ) (g base : ℕ) → base ≡ region_begin l counts_region → length ws ≡ region_begin l all_regions → g < GRANULES_IN_BLOCK * l.blocks → base + g / COUNTS_IN_WORD < length ws
count_place l ws g base base_is size within = subst (λ b. b + g / COUNTS_IN_WORD < length ws) (sym base_is) (count_within l ws g (size_is l ws ∙ size) within)

-- ---- the tables of lines depend on the number of blocks alone

same_lines : (l : Limits) (ws : List ℕ) → SameLines (tables_in l ws) (tables_in (of_blocks l.blocks) ws)
unfolding tables_in
same_lines l ws = record { counts = λ g. refl; starts = λ g. refl; outs = λ line. refl; states = λ b. refl }

pub lines_at : (l : Limits) (ws : List ℕ) (n : ℕ) → l.blocks ≡ n → SameLines (tables_in l ws) (tables_in (of_blocks n) ws)
lines_at l ws n blocks = subst (λ m. SameLines (tables_in l ws) (tables_in (of_blocks m) ws)) blocks (same_lines l ws)

same_back : (t u : Tables) → SameLines t u → SameLines u t
same_back t u same = record { counts = λ g. sym (same.counts g); starts = λ g. sym (same.starts g); outs = λ line. sym (same.outs line); states = λ b. sym (same.states b) }

same_moved : (t w t' u' : Tables) → SameLines t t' → SameLines w u' → SameLines t w → SameLines t' u'
same_moved t w t' u' a b c = record {
  counts = λ g. b.counts g ∙ c.counts g ∙ sym (a.counts g);
  starts = λ g. b.starts g ∙ c.starts g ∙ sym (a.starts g);
  outs = λ line. b.outs line ∙ c.outs line ∙ sym (a.outs line);
  states = λ n. b.states n ∙ c.states n ∙ sym (a.states n);
}

agrees_moved : (t w t' u' : Tables) (block : ℕ) → SameLines t t' → SameLines w u' → AgreeBut block t w → AgreeBut block t' u'
agrees_moved t w t' u' block a b c = record {
  counts = λ g other. b.counts g ∙ c.counts g other ∙ sym (a.counts g);
  starts = λ g other. b.starts g ∙ c.starts g other ∙ sym (a.starts g);
  outs = λ line other. b.outs line ∙ c.outs line other ∙ sym (a.outs line);
  states = λ n other. b.states n ∙ c.states n other ∙ sym (a.states n);
}

disturbs_moved : (t w t' u' : Tables) (block : ℕ) → SameLines t t' → SameLines w u' → Disturbs block t w → Disturbs block t' u'
disturbs_moved t w t' u' block a b c = record {
  agree = agrees_moved t w t' u' block a b c.agree;
  outs = λ line here out. subst IsTrue (sym (a.outs line)) (c.outs line here (subst IsTrue (b.outs line) out));
}

count_moved : (t w t' u' : Tables) (granule old new : ℕ) → SameLines t t' → SameLines w u' → ChangesCount granule old new t w → ChangesCount granule old new t' u'
count_moved t w t' u' granule old new a b c = record {
  was = a.counts granule ∙ c.was;
  is = b.counts granule ∙ c.is;
  counts = λ g other. b.counts g ∙ c.counts g other ∙ sym (a.counts g);
  starts = λ g. b.starts g ∙ c.starts g ∙ sym (a.starts g);
  outs = λ line. b.outs line ∙ c.outs line ∙ sym (a.outs line);
  states = λ n. b.states n ∙ c.states n ∙ sym (a.states n);
}

keeps_moved : (t w t' u' : Tables) → SameLines t t' → SameLines w u' → KeepsOpenLines t w → KeepsOpenLines t' u'
keeps_moved t w t' u' a b c = record {
  starts = λ g. b.starts g ∙ c.starts g ∙ sym (a.starts g);
  outs = λ line. b.outs line ∙ c.outs line ∙ sym (a.outs line);
  states = λ n. b.states n ∙ c.states n ∙ sym (a.states n);
  counts = λ g closed. b.counts g ∙ c.counts g (sym (a.starts g) ∙ closed) ∙ sym (a.counts g);
}

bit_moved : (t w t' u' : Tables) (table : BitTable) (block : ℕ) → SameLines t t' → SameLines w u' → BitTouches table block t w → BitTouches table block t' u'
bit_moved t w t' u' Starts block a b c = disturbs_moved t w t' u' block a b c
bit_moved t w t' u' Outs block a b c = agrees_moved t w t' u' block a b c
bit_moved t w t' u' Marks block a b c = same_moved t w t' u' a b c
bit_moved t w t' u' Grays block a b c = same_moved t w t' u' a b c
bit_moved t w t' u' Dones block a b c = same_moved t w t' u' a b c
bit_moved t w t' u' Unlogged block a b c = same_moved t w t' u' a b c

word_moved : (t w t' u' : Tables) (table : WordTable) (block : ℕ) → SameLines t t' → SameLines w u' → WordTouches table block t w → WordTouches table block t' u'
word_moved t w t' u' States block a b c = disturbs_moved t w t' u' block a b c
word_moved t w t' u' Heap block a b c = same_moved t w t' u' a b c
word_moved t w t' u' Runs block a b c = same_moved t w t' u' a b c
word_moved t w t' u' Frees block a b c = same_moved t w t' u' a b c
word_moved t w t' u' Decrements block a b c = same_moved t w t' u' a b c
word_moved t w t' u' Remembered block a b c = same_moved t w t' u' a b c
word_moved t w t' u' Cursors block a b c = same_moved t w t' u' a b c

-- ---- what a write changes

changed_other : {A : Type 0} (f : ℕ → A) (k : ℕ) (v : A) (j : ℕ) → j ≢ k → changed f k v j ≡ f j
changed_other f k v j other = elim (eqb_tells j k) [ inl q ↦ absurd (other q.1) | inr q ↦ ap (λ b. cond b v (f j)) q.0 ]

changed_here : {A : Type 0} (f : ℕ → A) (k : ℕ) (v : A) → changed f k v k ≡ v
changed_here f k v = elim (eqb_tells k k) [ inl q ↦ ap (λ b. cond b v (f k)) q.0 | inr q ↦ absurd (q.1 refl) ]

replaced_other : (f : ℕ → Bool) (at v n : ℕ) → n / 64 ≢ at → replaced_bits f at v n ≡ f n
replaced_other f at v n other = elim (eqb_tells (n / 64) at) [ inl q ↦ absurd (other q.1) | inr q ↦ ap (λ b. cond b (bit_at v (n % 64) == 1) (f n)) q.0 ]

bit_touches : (t : Tables) (table : BitTable) (k : ℕ) (v : Bool) → BitTouches table (block_of_bit table k) t (with_bit t table k v)
bit_touches t Starts k v = record {
  agree = record { counts = λ g other. refl; starts = λ g other. changed_other t.starts k v g (λ e. other (ap (λ x. x / GRANULES_IN_BLOCK) e)); outs = λ line other. refl; states = λ b other. refl };
  outs = λ line here out. out;
}
bit_touches t Outs k v = record { counts = λ g other. refl; starts = λ g other. refl; outs = λ line other. changed_other t.outs k v line (λ e. other (ap (λ x. x / LINES_IN_BLOCK) e)); states = λ b other. refl }
bit_touches t Marks k v = record { counts = λ g. refl; starts = λ g. refl; outs = λ line. refl; states = λ b. refl }
bit_touches t Grays k v = record { counts = λ g. refl; starts = λ g. refl; outs = λ line. refl; states = λ b. refl }
bit_touches t Dones k v = record { counts = λ g. refl; starts = λ g. refl; outs = λ line. refl; states = λ b. refl }
bit_touches t Unlogged k v = record { counts = λ g. refl; starts = λ g. refl; outs = λ line. refl; states = λ b. refl }

bits_touch : (t : Tables) (table : BitTable) (at v : ℕ) → BitTouches table (block_of_bit table (64 * at)) t (with_bit_word t table at v)
bits_touch t Starts at v = record {
  agree = record { counts = λ g other. refl; starts = λ g other. replaced_other t.starts at v g (λ e. other (omega (arith, e))); outs = λ line other. refl; states = λ b other. refl };
  outs = λ line here out. out;
}
bits_touch t Outs at v = record { counts = λ g other. refl; starts = λ g other. refl; outs = λ line other. replaced_other t.outs at v line (λ e. other (omega (arith, e))); states = λ b other. refl }
bits_touch t Marks at v = record { counts = λ g. refl; starts = λ g. refl; outs = λ line. refl; states = λ b. refl }
bits_touch t Grays at v = record { counts = λ g. refl; starts = λ g. refl; outs = λ line. refl; states = λ b. refl }
bits_touch t Dones at v = record { counts = λ g. refl; starts = λ g. refl; outs = λ line. refl; states = λ b. refl }
bits_touch t Unlogged at v = record { counts = λ g. refl; starts = λ g. refl; outs = λ line. refl; states = λ b. refl }

word_touches : (t : Tables) (table : WordTable) (k v : ℕ) → WordTouches table k t (with_word t table k v)
word_touches t States k v = record {
  agree = record { counts = λ g other. refl; starts = λ g other. refl; outs = λ line other. refl; states = λ b other. changed_other t.states k v b other };
  outs = λ line here out. out;
}
word_touches t Heap k v = record { counts = λ g. refl; starts = λ g. refl; outs = λ line. refl; states = λ b. refl }
word_touches t Runs k v = record { counts = λ g. refl; starts = λ g. refl; outs = λ line. refl; states = λ b. refl }
word_touches t Frees k v = record { counts = λ g. refl; starts = λ g. refl; outs = λ line. refl; states = λ b. refl }
word_touches t Decrements k v = record { counts = λ g. refl; starts = λ g. refl; outs = λ line. refl; states = λ b. refl }
word_touches t Remembered k v = record { counts = λ g. refl; starts = λ g. refl; outs = λ line. refl; states = λ b. refl }
word_touches t Cursors k v = record { counts = λ g. refl; starts = λ g. refl; outs = λ line. refl; states = λ b. refl }

count_changes : (t : Tables) (granule old new : ℕ) → t.counts granule ≡ old → ChangesCount granule old new t (record t { counts = changed t.counts granule new })
count_changes t granule old new was = record {
  was = was;
  is = changed_here t.counts granule new;
  counts = λ g other. changed_other t.counts granule new g other;
  starts = λ g. refl;
  outs = λ line. refl;
  states = λ b. refl;
}

-- a reuse counter tells nothing of lines
reuse_keeps : (l : Limits) (ws vs : List ℕ) (at : ℕ) → at < slice_index (region_sizes l) reuse_region → OthersStay ws vs (region_begin l reuse_region + at) → SameLines (tables_in l ws) (tables_in l vs)
unfolding tables_in
reuse_keeps l ws vs at within others =
    let is = rebuilt l ws vs 7 at (lit< tt) within others in
    record { counts = λ g. ap (λ t. t.counts g) is; starts = λ g. ap (λ t. t.starts g) is; outs = λ line. ap (λ t. t.outs line) is; states = λ b. ap (λ t. t.states b) is }

-- ---- what is known of words, after a write that was noted

knows_after : (P : Tables → Tables → Type 0) (s v : Settled) (blocks : ℕ) (ws vs : List ℕ) → v.blocks ≡ s.blocks → ((t u : Tables) → Knows s t → (blocks ≡ s.blocks → P t u) → Knows v u)
    → P (tables_in (of_blocks blocks) ws) (tables_in (of_blocks blocks) vs) → KnowsWords s ws → KnowsWords v vs
knows_after P s v blocks ws vs same note change k =
    subst (λ n. Knows v (tables_in (of_blocks n) vs)) (sym same)
    (note (tables_in (of_blocks s.blocks) ws) (tables_in (of_blocks s.blocks) vs) k (λ here. subst (λ n. P (tables_in (of_blocks n) ws) (tables_in (of_blocks n) vs)) here change))

after_write : (l : Limits) (vs : List ℕ) (w : Tables) → tables_in l vs ≡ w → SameLines w (tables_in (of_blocks l.blocks) vs)
after_write l vs w is = subst (λ t. SameLines t (tables_in (of_blocks l.blocks) vs)) is (same_lines l vs)

module _ (s v : Settled) (l : Limits) (ws vs : List ℕ) (same : v.blocks ≡ s.blocks) where
  pub bit_known : (table : BitTable) (block k : ℕ) (b : Bool) → block ≡ block_of_bit table k → ((t u : Tables) → Knows s t → (l.blocks ≡ s.blocks → BitTouches table block t u) → Knows v u)
      → tables_in l vs ≡ with_bit (tables_in l ws) table k b → KnowsWords s ws → KnowsWords v vs
  bit_known table block k b block_is note is known =
      knows_after (BitTouches table block) s v l.blocks ws vs same note
      (bit_moved (tables_in l ws) (with_bit (tables_in l ws) table k b) (tables_in (of_blocks l.blocks) ws) (tables_in (of_blocks l.blocks) vs) table block (same_lines l ws) (after_write l vs (with_bit (tables_in l ws) table k b) is)
      (subst (λ n. BitTouches table n (tables_in l ws) (with_bit (tables_in l ws) table k b)) (sym block_is) (bit_touches (tables_in l ws) table k b))) known

  pub bit_word_known : (table : BitTable) (block at value : ℕ) → block ≡ block_of_bit table (64 * at) → ((t u : Tables) → Knows s t → (l.blocks ≡ s.blocks → BitTouches table block t u) → Knows v u)
      → tables_in l vs ≡ with_bit_word (tables_in l ws) table at value → KnowsWords s ws → KnowsWords v vs
  bit_word_known table block at value block_is note is known =
      knows_after (BitTouches table block) s v l.blocks ws vs same note
      (bit_moved (tables_in l ws) (with_bit_word (tables_in l ws) table at value) (tables_in (of_blocks l.blocks) ws) (tables_in (of_blocks l.blocks) vs) table block (same_lines l ws) (after_write l vs (with_bit_word (tables_in l ws) table at value) is)
      (subst (λ n. BitTouches table n (tables_in l ws) (with_bit_word (tables_in l ws) table at value)) (sym block_is) (bits_touch (tables_in l ws) table at value))) known

  pub word_known : (table : WordTable) (k value : ℕ) → ((t u : Tables) → Knows s t → (l.blocks ≡ s.blocks → WordTouches table k t u) → Knows v u)
      → tables_in l vs ≡ with_word (tables_in l ws) table k value → KnowsWords s ws → KnowsWords v vs
  word_known table k value note is known =
      knows_after (WordTouches table k) s v l.blocks ws vs same note
      (word_moved (tables_in l ws) (with_word (tables_in l ws) table k value) (tables_in (of_blocks l.blocks) ws) (tables_in (of_blocks l.blocks) vs) table k (same_lines l ws) (after_write l vs (with_word (tables_in l ws) table k value) is)
      (word_touches (tables_in l ws) table k value)) known

  pub reuse_known : (at : ℕ) → ((t u : Tables) → Knows s t → (l.blocks ≡ s.blocks → SameLines t u) → Knows v u) → at < slice_index (region_sizes l) reuse_region → OthersStay ws vs (region_begin l reuse_region + at)
      → KnowsWords s ws → KnowsWords v vs
  reuse_known at note within others known =
      knows_after SameLines s v l.blocks ws vs same note
      (same_moved (tables_in l ws) (tables_in l vs) (tables_in (of_blocks l.blocks) ws) (tables_in (of_blocks l.blocks) vs) (same_lines l ws) (same_lines l vs) (reuse_keeps l ws vs at within others)) known

  pub run_words_known : (at : ℕ) (words : List ℕ) → ((t u : Tables) → Knows s t → (l.blocks ≡ s.blocks → SameLines t u) → Knows v u) → tables_in l vs ≡ with_runs (tables_in l ws) at words → KnowsWords s ws → KnowsWords v vs
  run_words_known at words note is known =
      knows_after SameLines s v l.blocks ws vs same note
      (same_moved (tables_in l ws) (with_runs (tables_in l ws) at words) (tables_in (of_blocks l.blocks) ws) (tables_in (of_blocks l.blocks) vs) (same_lines l ws) (after_write l vs (with_runs (tables_in l ws) at words) is)
      (record { counts = λ g. refl; starts = λ g. refl; outs = λ line. refl; states = λ b. refl })) known

  changed_count : (granule old new : ℕ) → (tables_in l ws).counts granule ≡ old → tables_in l vs ≡ record (tables_in l ws) { counts = changed (tables_in l ws).counts granule new }
      → ChangesCount granule old new (tables_in (of_blocks l.blocks) ws) (tables_in (of_blocks l.blocks) vs)
  changed_count granule old new was is =
      count_moved (tables_in l ws) (record (tables_in l ws) { counts = changed (tables_in l ws).counts granule new }) (tables_in (of_blocks l.blocks) ws) (tables_in (of_blocks l.blocks) vs) granule old new (same_lines l ws)
      (after_write l vs (record (tables_in l ws) { counts = changed (tables_in l ws).counts granule new }) is) (count_changes (tables_in l ws) granule old new was)

  pub count_known : (granule old new : ℕ) → ((t u : Tables) → Knows s t → (l.blocks ≡ s.blocks → ChangesCount granule old new t u) → Knows v u) → (tables_in l ws).counts granule ≡ old
      → tables_in l vs ≡ record (tables_in l ws) { counts = changed (tables_in l ws).counts granule new } → KnowsWords s ws → KnowsWords v vs
  count_known granule old new note was is known = knows_after (ChangesCount granule old new) s v l.blocks ws vs same note (changed_count granule old new was is) known

  pub put_count_known : (block granule new : ℕ) → block ≡ granule / GRANULES_IN_BLOCK → ((t u : Tables) → Knows s t → (l.blocks ≡ s.blocks → Disturbs block t u) → Knows v u)
      → tables_in l vs ≡ record (tables_in l ws) { counts = changed (tables_in l ws).counts granule new } → KnowsWords s ws → KnowsWords v vs
  put_count_known block granule new block_is note is known =
      knows_after (Disturbs block) s v l.blocks ws vs same note
      (subst (λ n. Disturbs n (tables_in (of_blocks l.blocks) ws) (tables_in (of_blocks l.blocks) vs)) (sym block_is)
      (count_disturbs granule ((tables_in l ws).counts granule) new (tables_in (of_blocks l.blocks) ws) (tables_in (of_blocks l.blocks) vs) (changed_count granule ((tables_in l ws).counts granule) new refl is))) known

  -- an epoch has passed
  pub keeps_words : ((t u : Tables) → Knows s t → (l.blocks ≡ s.blocks → KeepsOpenLines t u) → Knows v u) → KeepsOpenLines (tables_in l ws) (tables_in l vs) → KnowsWords s ws → KnowsWords v vs
  keeps_words note keeps known =
      knows_after KeepsOpenLines s v l.blocks ws vs same note
      (keeps_moved (tables_in l ws) (tables_in l vs) (tables_in (of_blocks l.blocks) ws) (tables_in (of_blocks l.blocks) vs) (same_lines l ws) (same_lines l vs) keeps) known

-- ---- words that are all 0

pub zeros_are_clear : (l : Limits) (size : ℕ) (ws : List ℕ) → tables_in l ws ≡ cleared_tables size → AreClear (tables_in l ws)
zeros_are_clear l size ws is = subst AreClear (sym is) (record { counts = λ g. refl; starts = λ g. refl; outs = λ line. refl; states = λ b. refl })

-- ---- what is told of lines, in the tables of a space's own limits

free_moved : (t u : Tables) → SameLines t u → (line : ℕ) → IsFreeLine t line → IsFreeLine u line
free_moved t u same line is = record { in_hand = same.outs line ∙ is.in_hand; uncounted = λ k h. same.counts (GRANULES_IN_LINE * line + k) ∙ is.uncounted k h }

pub mask_moved : (t u : Tables) (b mask : ℕ) → SameLines t u → IsMaskOfFree mask t b → IsMaskOfFree mask u b
mask_moved t u b mask same is i h = ((λ set. free_moved t u same (line_of b i) ((is i h).0 set)), (λ free. (is i h).1 (free_moved u t (same_back t u same) (line_of b i) free)))

pub runs_moved : (t u : Tables) (b : ℕ) (words : List ℕ) → SameLines t u → AreRunsOfFree words t b → AreRunsOfFree words u b
runs_moved t u b words same (free, is, told) = (
  free,
  (λ i h. ((λ yes. free_moved t u same (line_of b i) ((is i h).0 yes)), (λ line. (is i h).1 (free_moved u t (same_back t u same) (line_of b i) line)))),
  told,
)

-- there are few of them
pub runs_few : (words : List ℕ) (t : Tables) (b : ℕ) → AreRunsOfFree words t b → length words ≤ 64
runs_few words t b (free, is, told) = let same = ap length told in let few = few_words free b in omega arith

pub longer_moved : (t u : Tables) (b longest : ℕ) → SameLines t u → HasNoLonger t b longest → HasNoLonger u b longest
longer_moved t u b longest same are first many within each = are first many within (λ i h. free_moved u t (same_back t u same) (line_of b (first + i)) (each i h))

pub longest_moved : (t u : Tables) (b longest : ℕ) → SameLines t u → HasLongest t b longest → HasLongest u b longest
longest_moved t u b longest same is =
    longest_alike (λ i. IsFreeLine t (line_of b i)) (λ i. IsFreeLine u (line_of b i)) longest (λ i h. (free_moved t u same (line_of b i), free_moved u t (same_back t u same) (line_of b i))) is

pub stands_moved : (t u : Tables) (b : ℕ) → SameLines t u → StandsByLines t b → StandsByLines u b
stands_moved t u b same is = subst (λ n. IsStateOf (λ i. IsFreeLine u (line_of b i)) n) (sym (same.states b))
    (state_alike (λ i. IsFreeLine t (line_of b i)) (λ i. IsFreeLine u (line_of b i)) (t.states b) (λ i h. (free_moved t u same (line_of b i), free_moved u t (same_back t u same) (line_of b i))) is)

pub whole_moved : (t u : Tables) (b : ℕ) → SameLines t u → IsFreeByLines t b → IsFreeByLines u b
whole_moved t u b same whole all = same.states b ∙ whole (λ i h. free_moved u t (same_back t u same) (line_of b i) (all i h))

pub counted_moved : (t u : Tables) (b : ℕ) → SameLines t u → AreCountedIn t b → AreCountedIn u b
counted_moved t u b same counted g in_b begins none = counted g in_b (subst IsTrue (same.starts g) begins) (sym (same.counts g) ∙ none)

pub all_counted_moved : (t u : Tables) → SameLines t u → AreCounted t → AreCounted u
all_counted_moved t u same counted g begins none = counted g (subst IsTrue (same.starts g) begins) (sym (same.counts g) ∙ none)

pub none_out_moved : (t u : Tables) (b : ℕ) → SameLines t u → NoneIsOut t b → NoneIsOut u b
none_out_moved t u b same none line in_b = same.outs line ∙ none line in_b

-- what the tables of a space's limits tell, those of its blocks tell, and the other way round
module _ (P : Tables → Type 0) (moved : (t u : Tables) → SameLines t u → P t → P u) (l : Limits) (ws : List ℕ) (n : ℕ) (blocks : l.blocks ≡ n) where
  pub told_to : P (tables_in l ws) → P (tables_in (of_blocks n) ws)
  told_to is = moved (tables_in l ws) (tables_in (of_blocks n) ws) (lines_at l ws n blocks) is

  pub told_by : P (tables_in (of_blocks n) ws) → P (tables_in l ws)
  told_by is = moved (tables_in (of_blocks n) ws) (tables_in l ws) (same_back (tables_in l ws) (tables_in (of_blocks n) ws) (lines_at l ws n blocks)) is

-- a block is settled
pub settled_words : (s v : Settled) (l : Limits) (ws : List ℕ) (block mask longest : ℕ) → l.blocks ≡ s.blocks → v.blocks ≡ s.blocks
    → ((t : Tables) → Knows s t → KnowsBlock t block mask longest → AreCountedIn t block → Knows v t)
    → IsMaskOfFree mask (tables_in l ws) block → HasLongest (tables_in l ws) block longest → StandsByLines (tables_in l ws) block → IsFreeByLines (tables_in l ws) block → AreCountedIn (tables_in l ws) block
    → KnowsWords s ws → KnowsWords v ws
settled_words s v l ws block mask longest here same settle is runs state whole counted known =
    let t : Tables = tables_in (of_blocks s.blocks) ws in
    let all : AreCountedIn t block = told_to (λ x. AreCountedIn x block) (λ a b. counted_moved a b block) l ws s.blocks here counted in
    subst (λ n. Knows v (tables_in (of_blocks n) ws)) (sym same)
    (settle t known
    (block_of_free t block mask longest all (told_to (λ x. IsMaskOfFree mask x block) (λ a b. mask_moved a b block mask) l ws s.blocks here is) (told_to (λ x. HasLongest x block longest) (λ a b. longest_moved a b block longest) l ws s.blocks here runs)
    (told_to (λ x. StandsByLines x block) (λ a b. stands_moved a b block) l ws s.blocks here state) (told_to (λ x. IsFreeByLines x block) (λ a b. whole_moved a b block) l ws s.blocks here whole)) all)

-- no line of a block is out
pub none_out_words : (s v : Settled) (l : Limits) (ws : List ℕ) (block : ℕ) → l.blocks ≡ s.blocks → v.blocks ≡ s.blocks → ((t : Tables) → Knows s t → NoneIsOut t block → Knows v t) → NoneIsOut (tables_in l ws) block
    → KnowsWords s ws → KnowsWords v ws
none_out_words s v l ws block here same note none known =
    subst (λ n. Knows v (tables_in (of_blocks n) ws)) (sym same) (note (tables_in (of_blocks s.blocks) ws) known (told_to (λ x. NoneIsOut x block) (λ a b. none_out_moved a b block) l ws s.blocks here none))

-- each object that begins has a count
pub trust_words : (s v : Settled) (l : Limits) (ws : List ℕ) → l.blocks ≡ s.blocks → v.blocks ≡ s.blocks → ((t : Tables) → Knows s t → AreCounted t → Knows v t) → AreCounted (tables_in l ws) → KnowsWords s ws → KnowsWords v ws
trust_words s v l ws here same trust counted known =
    subst (λ n. Knows v (tables_in (of_blocks n) ws)) (sym same) (trust (tables_in (of_blocks s.blocks) ws) known (told_to AreCounted all_counted_moved l ws s.blocks here counted))

-- what is told where it is known
pub free_words : (s : Settled) (l : Limits) (ws : List ℕ) (block : ℕ) (result : Option ℕ) → IfSome result (λ _. s.blocks ≡ l.blocks) → IfSome result (λ mask. (t : Tables) → Knows s t → IsMaskOfFree mask t block) → KnowsWords s ws
    → IfSome result (λ mask. IsMaskOfFree mask (tables_in l ws) block)
free_words s l ws block None here told known = here
free_words s l ws block (Some mask) here told known = told_by (λ x. IsMaskOfFree mask x block) (λ a b. mask_moved a b block mask) l ws s.blocks (sym here) (told (tables_in (of_blocks s.blocks) ws) known)

-- the runs of a block are kept
pub keep_words : (s v : Settled) (l : Limits) (ws words : List ℕ) (block : ℕ) → v.blocks ≡ s.blocks → ((t : Tables) → Knows s t → (l.blocks ≡ s.blocks → AreRunsOfFree words t block) → Knows v t)
    → AreRunsOfFree words (tables_in l ws) block → KnowsWords s ws → KnowsWords v ws
keep_words s v l ws words block same keep told known =
    subst (λ n. Knows v (tables_in (of_blocks n) ws)) (sym same)
    (keep (tables_in (of_blocks s.blocks) ws) known (λ here. told_to (λ x. AreRunsOfFree words x block) (λ a b. runs_moved a b block words) l ws s.blocks here told))

-- and are told where they are kept
pub kept_words : (s : Settled) (l : Limits) (ws words : List ℕ) (block : ℕ) → s.blocks ≡ l.blocks → ((t : Tables) → Knows s t → AreRunsOfFree words t block) → KnowsWords s ws → AreRunsOfFree words (tables_in l ws) block
kept_words s l ws words block here told known =
    told_by (λ x. AreRunsOfFree words x block) (λ a b. runs_moved a b block words) l ws s.blocks (sym here) (told (tables_in (of_blocks s.blocks) ws) known)
