-- Bits of a heap are cleared block by block, and in a block word by word; Free blocks are passed over.
use Rattle.std.proofs.Common.{◌≡◌, ℕ, ◌+◌, ◌*◌, ◌/◌, ◌<◌, ◌≤◌, refl, length, sym, ap, ◌∙◌, arith, lit<, Bool, true, false, cond, List, [], inl, inr, ◌⊎◌}
use Rattle.std.specs.Prelude.{◌==◌, ◌&&◌, nat_le, nat_lt, slice_index, slice_index_or, IsTrue}
use Rattle.std.proofs.Math.ListN.{get_or-eq_default}
use Rattle.std.proofs.lemmas.Bool.Decides.{leb_tells, nat_tests}
use Rattle.lxr_layout.specs.declared.limits.Limits.{Limits}
use Rattle.lxr_layout.specs.declared.TheConstants.{LINES_IN_BLOCK}
use Rattle.lxr_layout.specs.Spaces.{all_regions, grays_region, marks_region, outs_region, region_begin, region_sizes}
use Rattle.lxr_tables.specs.Entries.{table}
use Rattle.lxr_image.specs.declared.space.Space.{Space}
use Rattle.lxr_image.specs.Settled.{NoneIsOut}
use Rattle.lxr_image.specs.Spaces.{IsSpace, Turns, tables_of}
use Rattle.lxr_image.specs.Tables.{Tables, bits_in, cut, tables_in}
use Rattle.lxr_image.proofs.RegionLemmas.{length_region_table}
use Rattle.lxr_image.proofs.SpaceLemmas.{still_space}
use Rattle.lxr_blocks.specs.ClearingAll.{AreUnsetInFree, IsSet, bits_in_block, with_clear, words_in_block}
use Rattle.lxr_blocks.specs.declared.clearing_all.Bits.{Bits}
use Rattle.lxr_blocks.specs.declared.clearing_all.Bits.TheVariants.{Outs, Traced}
use Rattle.lxr_blocks.specs.declared.states.BlockState.TheVariants.{Free}
use Rattle.lxr_blocks.specs.States.{AreFreeBlocks, state_in, state_of}

-- ---- one bit

true_false : true ≡ false → ⊥
true_false e = cc

unset_both : (b c : Bool) → cond b false false ≡ cond c false false
unset_both true true = refl
unset_both true false = refl
unset_both false true = refl
unset_both false false = refl

-- a bit that isn't set is clear by any test
same_where_set : (b c f : Bool) → (IsTrue f → b ≡ c) → cond b false f ≡ cond c false f
same_where_set b c true same = ap (λ x. cond x false true) (same refl)
same_where_set b c false same = unset_both b c

-- ---- tables

-- a test may be another that differs from it only where no bit is set
pub clear_same : (t : Tables) (bits : Bits) (g h : ℕ → Bool) → ((k : ℕ) → IsSet t bits k → g k ≡ h k) → with_clear t bits g ≡ with_clear t bits h
clear_same t Outs g h same = λ i. record t { outs = λ k. same_where_set (g k) (h k) (t.outs k) (same k) i }
clear_same t Traced g h same = λ i. record t {
  marks = λ k. same_where_set (g k) (h k) (t.marks k) (λ set. same k (inl set)) i;
  grays = λ k. same_where_set (g k) (h k) (t.grays k) (λ set. same k (inr set)) i;
}

clear_none : (t : Tables) (bits : Bits) → t ≡ with_clear t bits (λ k. false)
clear_none t Outs = refl
clear_none t Traced = refl

-- one test after another
clear_twice : (t : Tables) (bits : Bits) (g h both : ℕ → Bool) → ((k : ℕ) (x : Bool) → cond (h k) false (cond (g k) false x) ≡ cond (both k) false x)
    → with_clear (with_clear t bits g) bits h ≡ with_clear t bits both
clear_twice t Outs g h both is = λ i. record t { outs = λ k. is k (t.outs k) i }
clear_twice t Traced g h both is = λ i. record t { marks = λ k. is k (t.marks k) i; grays = λ k. is k (t.grays k) i }

-- their number of words stays
pub clear_size : (t : Tables) (bits : Bits) (g : ℕ → Bool) → (with_clear t bits g).size ≡ t.size
clear_size t Outs g = refl
clear_size t Traced g = refl

clear_states : (t : Tables) (bits : Bits) (g : ℕ → Bool) → (with_clear t bits g).states ≡ t.states
clear_states t Outs g = refl
clear_states t Traced g = refl

-- ---- spaces

pub clear_begin : (s : Space) (bits : Bits) (g : ℕ → Bool) → ((k : ℕ) → g k ≡ false) → Turns s s (with_clear (tables_of s) bits g)
clear_begin s bits g none = record { tables = clear_none (tables_of s) bits ∙ clear_same (tables_of s) bits (λ k. false) g (λ k set. sym (none k)); rest = refl }

pub clear_then : (a b c : Space) (bits : Bits) (g h both : ℕ → Bool) → ((k : ℕ) (x : Bool) → cond (h k) false (cond (g k) false x) ≡ cond (both k) false x)
    → Turns a b (with_clear (tables_of a) bits g) → Turns b c (with_clear (tables_of b) bits h) → Turns a c (with_clear (tables_of a) bits both)
clear_then a b c bits g h both is x y = record {
  tables = y.tables ∙ ap (λ t. with_clear t bits h) x.tables ∙ clear_twice (tables_of a) bits g h both is;
  rest = y.rest ∙ ap (λ (s : Space). record s { words = c.words }) x.rest;
}

pub clear_space : (a b : Space) (bits : Bits) (g : ℕ → Bool) → IsSpace a → Turns a b (with_clear (tables_of a) bits g) → IsSpace b
clear_space a b bits g is turns = still_space a b (with_clear (tables_of a) bits g) is turns (clear_size (tables_of a) bits g)

-- ---- one block

-- bits from a block's first one on and below those of a word
abbrev pub in_words : Bits → ℕ → ℕ → ℕ → Bool
in_words bits block at k = nat_le (bits_in_block bits * block) k && nat_lt k (64 * at)

pub words_none : (bits : Bits) (block k : ℕ) → in_words bits block (words_in_block bits * block) k ≡ false
words_none Outs block k = grind (arith, nat_tests)
words_none Traced block k = grind (arith, nat_tests)

pub words_more : (bits : Bits) (block at k : ℕ) (x : Bool) → words_in_block bits * block ≤ at
    → cond (k / 64 == at) false (cond (in_words bits block at k) false x) ≡ cond (in_words bits block (at + 1) k) false x
words_more Outs block at k x from = grind (arith, nat_tests)
words_more Traced block at k x from = grind (arith, nat_tests)

pub words_all : (bits : Bits) (block k : ℕ) → in_words bits block (words_in_block bits * block + words_in_block bits) k ≡ (k / bits_in_block bits == block)
words_all Outs block k = grind (arith, nat_tests)
words_all Traced block k = grind (arith, nat_tests)

-- words of the heap
pub words_within : (bits : Bits) (block blocks at : ℕ) → block < blocks → at < words_in_block bits * block + words_in_block bits → at < words_in_block bits * blocks
words_within Outs block blocks at below inside = omega (arith, below, inside)
words_within Traced block blocks at below inside = omega (arith, below, inside)

-- ---- block after block

-- bits of the first blocks
abbrev pub in_first : Bits → ℕ → ℕ → Bool
in_first bits blocks k = nat_lt k (bits_in_block bits * blocks)

pub first_none : (bits : Bits) (k : ℕ) → in_first bits 0 k ≡ false
first_none Outs k = grind (arith, nat_tests)
first_none Traced k = grind (arith, nat_tests)

pub first_more : (bits : Bits) (block k : ℕ) (x : Bool) → cond (k / bits_in_block bits == block) false (cond (in_first bits block k) false x) ≡ cond (in_first bits (block + 1) k) false x
first_more Outs block k x = grind (arith, nat_tests)
first_more Traced block k x = grind (arith, nat_tests)

first_is : (bits : Bits) (end k : ℕ) → k / bits_in_block bits < end → in_first bits end k ≡ true
first_is Outs end k below = grind (arith, nat_tests)
first_is Traced end k below = grind (arith, nat_tests)

first_not : (bits : Bits) (end k : ℕ) → end ≤ k / bits_in_block bits → in_first bits end k ≡ false
first_not Outs end k behind = grind (arith, nat_tests)
first_not Traced end k behind = grind (arith, nat_tests)

-- a bit is of both, of neither, or of a block in between
first_cases : (bits : Bits) (from end k : ℕ) → from ≤ end → (in_first bits from k ≡ in_first bits end k) ⊎ ((from ≤ k / bits_in_block bits) × (k / bits_in_block bits < end))
first_cases bits from end k past = elim (leb_tells from (k / bits_in_block bits)) [
  | inr c ↦ let below = c.1 in inl (first_is bits from k below ∙ sym (first_is bits end k (omega (arith, below, past))))
  | inl c ↦ elim (leb_tells end (k / bits_in_block bits)) [
    | inl d ↦ inl (first_not bits from k c.1 ∙ sym (first_not bits end k d.1))
    | inr d ↦ inr (c.1, d.1)
  ]
]

-- blocks whose state is Free have none set
pub clear_passed : (s b : Space) (bits : Bits) (from end : ℕ) → AreUnsetInFree (tables_of s) bits → from ≤ end → AreFreeBlocks (tables_of b) from end
    → Turns s b (with_clear (tables_of s) bits (in_first bits from)) → Turns s b (with_clear (tables_of s) bits (in_first bits end))
clear_passed s b bits from end avoid past free turns = record {
  tables = turns.tables ∙ clear_same (tables_of s) bits (in_first bits from) (in_first bits end) same;
  rest = turns.rest;
}
  where
    block_free : (block : ℕ) → from ≤ block → block < end → state_in (tables_of s) block ≡ Free
    block_free block above below = sym (ap (λ t. state_of (t.states block)) turns.tables ∙ ap (λ f. state_of (f block)) (clear_states (tables_of s) bits (in_first bits from))) ∙ free block above below

    same : (k : ℕ) → IsSet (tables_of s) bits k → in_first bits from k ≡ in_first bits end k
    same k set = elim (first_cases bits from end k past) [ inl e ↦ e | inr h ↦ absurd (avoid k set (block_free (k / bits_in_block bits) h.0 h.1)) ]

-- and so are blocks of which no line is out
pub outs_passed : (s b : Space) (from end : ℕ) → from ≤ end → ((k : ℕ) → from ≤ k → k < end → NoneIsOut (tables_of b) k)
    → Turns s b (with_clear (tables_of s) Outs (in_first Outs from)) → Turns s b (with_clear (tables_of s) Outs (in_first Outs end))
outs_passed s b from end past none turns = record {
  tables = turns.tables ∙ clear_same (tables_of s) Outs (in_first Outs from) (in_first Outs end) same;
  rest = turns.rest;
}
  where
    unset : (line : ℕ) → from ≤ line / LINES_IN_BLOCK → line / LINES_IN_BLOCK < end → (tables_of s).outs line ≡ false
    unset line above below =
        sym (ap (λ x. cond x false ((tables_of s).outs line)) (first_not Outs from line above)) ∙ sym (ap (λ t. t.outs line) turns.tables) ∙ none (line / LINES_IN_BLOCK) above below line refl

    same : (k : ℕ) → IsSet (tables_of s) Outs k → in_first Outs from k ≡ in_first Outs end k
    same k set = elim (first_cases Outs from end k past) [ inl e ↦ e | inr h ↦ absurd (true_false (sym set ∙ unset k h.0 h.1)) ]

-- no line of a block that was cleared is out
pub none_out : (a b : Space) (block : ℕ) → Turns a b (with_clear (tables_of a) Outs (λ k. k / LINES_IN_BLOCK == block)) → NoneIsOut (tables_of b) block
none_out a b block turns line of_block =
    ap (λ t. t.outs line) turns.tables ∙ ap (λ x. cond x false ((tables_of a).outs line)) (let e : (line / LINES_IN_BLOCK == block) ≡ true = grind (arith, nat_tests) in e)

-- ---- past the heap

-- past a region of bits none is set
unset_past : (l : Limits) (ws : List ℕ) (n k : ℕ) → n < length (region_sizes l) → (tables_in l ws).size ≡ region_begin l all_regions → 64 * slice_index (region_sizes l) n ≤ k
    → bits_in (slice_index_or (cut (region_sizes l) ws) n []) k ≡ false
unfolding tables_in
unset_past l ws n k known size past =
    let region : List ℕ = slice_index_or (cut (region_sizes l) ws) n [] in
    let len = length_region_table 1 64 (region_sizes l) ws n known (omega arith) in
    let none : slice_index (table 1 64 region) k ≡ 0 = get_or-eq_default (table 1 64 region) 0 {n = k} (omega arith) in
    ap (λ x. x == 1) none

none_past : (l : Limits) (ws : List ℕ) (bits : Bits) (k : ℕ) → (tables_in l ws).size ≡ region_begin l all_regions → bits_in_block bits * l.blocks ≤ k → IsSet (tables_in l ws) bits k → ⊥
unfolding tables_in
none_past l ws Outs k size past set = let none = unset_past l ws outs_region k (lit< tt) size (omega (arith, past)) in true_false (sym set ∙ none)
none_past l ws Traced k size past (inl set) = let none = unset_past l ws marks_region k (lit< tt) size (omega (arith, past)) in true_false (sym set ∙ none)
none_past l ws Traced k size past (inr set) = let none = unset_past l ws grays_region k (lit< tt) size (omega (arith, past)) in true_false (sym set ∙ none)

-- so those of all blocks are all
pub clear_end : (s b : Space) (bits : Bits) → IsSpace s → Turns s b (with_clear (tables_of s) bits (in_first bits s.limits.blocks)) → Turns s b (with_clear (tables_of s) bits (λ k. true))
clear_end s b bits space turns = record { tables = turns.tables ∙ clear_same (tables_of s) bits (in_first bits s.limits.blocks) (λ k. true) within; rest = turns.rest }
  where
    within : (k : ℕ) → IsSet (tables_of s) bits k → in_first bits s.limits.blocks k ≡ true
    within k set = elim (in_first bits s.limits.blocks k) as (λ x. in_first bits s.limits.blocks k ≡ x → x ≡ true) [
      | true ↦ λ e. refl
      | false ↦ λ e. absurd (none_past s.limits s.words bits k space.size (let h : bits_in_block bits * s.limits.blocks ≤ k = grind (arith, nat_tests, e) in h) set)
    ] refl
