-- The heap words of an object that is copied.
use Rattle.std.proofs.Common.{◌≡◌, ◌≢◌, ℕ, ◌+◌, ◌-◌, ◌*◌, ◌<◌, ◌≤◌, ap, sym, ◌∙◌, inl, inr, ◌⊎◌, arith, cond, true, false, nat_eq}
use Rattle.std.proofs.lemmas.Bool.Decides.{leb_tells, nat_tests}
use Rattle.lxr_layout.specs.declared.Shape.{Shape}
use Rattle.lxr_layout.specs.Objects.{moved_word, word_count}
use Rattle.lxr_layout.specs.declared.TheConstants.{WORDS_IN_BLOCK}
use Rattle.lxr_layout.specs.Places.{first_word}
use Rattle.lxr_image.specs.declared.space.Space.{Space}
use Rattle.lxr_image.specs.Spaces.{IsInUsedBlock, Turns, tables_of}
use Rattle.lxr_image.specs.Tables.{Tables}
use Rattle.lxr_blocks.specs.Kept.{IsAmong}
use Rattle.lxr_blocks.proofs.HandedLemmas.{between, outside}
use Rattle.lxr_pause_promote.specs.Copying.{IsUsedRow, with_copy, with_words}

-- ---- words written to other words

pub word_copied : (t : Tables) (from to words i : ℕ) → 1 ≤ i → i < words → (with_words t from to words).heap (to + i) ≡ t.heap (from + i)
word_copied t from to words i some within =
    ap (λ b. cond b (t.heap (from + (to + i - to))) (t.heap (to + i))) (between (to + 1) (to + words) (to + i) (omega arith) (omega arith))
    ∙ ap (λ k. t.heap (from + k)) (let z : to + i - to ≡ i = omega arith in z)

pub word_left : (t : Tables) (from to words w : ℕ) → (w < to + 1) ⊎ (to + words ≤ w) → (with_words t from to words).heap w ≡ t.heap w
word_left t from to words w out = ap (λ b. cond b (t.heap (from + (w - to))) (t.heap w)) (outside (to + 1) (to + words) w out)

-- where the first word of a row in one block isn't 0 and stays, that block is in use
pub in_used_row : (before after : Space) (t : Tables) (first words i : ℕ) → Turns before after t → t.heap first ≡ (tables_of before).heap first → IsUsedRow (tables_of before) first words → i < words
    → first + words ≤ WORDS_IN_BLOCK * before.limits.blocks → IsInUsedBlock after (first + i)
in_used_row before after t first words i turns same row within heap =
    let blocks : after.limits.blocks ≡ before.limits.blocks = ap (λ s. s.limits.blocks) turns.rest in
    let block = row.in_block in
    record {
      other = first;
      there = omega (arith, blocks, heap, within);
      block = omega (arith, block, within);
      some = λ zero. row.some (sym same ∙ sym (ap (λ x. x.heap first) turns.tables) ∙ zero);
    }

-- ---- an object copied

-- the word at its old place
pub moved_there : (t : Tables) (p q : ℕ) (shape : Shape) → (with_copy t p q shape).heap (first_word p) ≡ moved_word q
moved_there t p q shape =
    let e : nat_eq (first_word p) (first_word p) ≡ true = grind (arith, nat_tests) in
    ap (λ b. cond b (moved_word q) ((with_words t (first_word p) (first_word q) (word_count shape)).heap (first_word p))) e

-- all other words are as they were but for those behind its header
pub elsewhere_copied : (t : Tables) (p q w : ℕ) (shape : Shape) → w ≢ first_word p → (with_copy t p q shape).heap w ≡ (with_words t (first_word p) (first_word q) (word_count shape)).heap w
elsewhere_copied t p q w shape other =
    let e : nat_eq w (first_word p) ≡ false = grind (arith, nat_tests) in
    ap (λ b. cond b (moved_word q) ((with_words t (first_word p) (first_word q) (word_count shape)).heap w)) e

-- ---- granules that aren't shared

-- so many granules in a row that have none of others in a row lie before or behind these
pub ranges_apart : (r g q h : ℕ) → 1 ≤ g → 1 ≤ h → ((k : ℕ) → IsAmong r g k → ¬ IsAmong q h k) → (r + g ≤ q) ⊎ (q + h ≤ r)
ranges_apart r g q h some other none = elim (leb_tells (r + g) q) [
  | inl c ↦ inl c.1
  | inr c ↦ let long = c.1 in elim (leb_tells (q + h) r) [
    | inl d ↦ inr d.1
    | inr d ↦ let wide = d.1 in elim (leb_tells r q) [
      | inl e ↦ let low = e.1 in absurd (none q (low, omega (arith, long)) (omega arith, omega (arith, other)))
      | inr e ↦ let high = e.1 in absurd (none r (omega arith, omega (arith, some)) (omega (arith, high), omega (arith, wide)))
    ]
  ]
]
