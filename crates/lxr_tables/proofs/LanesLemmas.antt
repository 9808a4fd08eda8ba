-- Words are compared as lanes, a group at a time; and the counts of a line are one word, which is 0 exactly where each of them is.
use Rattle.std.proofs.Common.{◌≡◌, ℕ, zero, suc, ◌+◌, ◌*◌, ◌/◌, ◌%◌, ◌^◌, ◌<◌, ◌≤◌, refl, sym, ap, subst, ◌∙◌, inl, inr, arith, List, [], ◌∷◌, length, drop, lit<}
use Rattle.std.specs.Prelude.{⊤, ◌↔◌, slice_index}
use Rattle.std.specs.Int.Bits.{bit_or}
use Rattle.std.proofs.lemmas.Bool.Decides.{eqb_tells}
use Rattle.std.proofs.Math.Nat.{eq_of_mul-eq-mul_right, mod-eq_of_lt}
use Rattle.std.proofs.lemmas.Nat.{mod-pow-add, pow_pos}
use Rattle.lxr_layout.specs.declared.TheConstants.{COUNT_BITS, COUNT_WORDS_IN_BLOCK, GRANULES_IN_BLOCK, GRANULES_IN_LINE, LINES_IN_BLOCK}
use Rattle.lxr_tables.specs.declared.counts.TheConstants.{COUNTS_IN_WORD}
use Rattle.lxr_tables.specs.Entries.{table}
use Rattle.lxr_tables.specs.declared.lanes.TheConstants.{LANES}
use Rattle.lxr_tables.proofs.BitLemmas.{TellsOf, more_fit, more_told}
use Rattle.lxr_tables.proofs.EntryLemmas.{read_at}

-- ---- words, one after another

-- words that were read one after another, from the word k behind a first one on
abbrev pub AreReadFrom : List ℕ → ℕ → ℕ → List ℕ → Type 0
AreReadFrom ws first k [] = ⊤
AreReadFrom ws first k (w ∷ lines) = (w ≡ slice_index ws (first + k)) × AreReadFrom ws first (suc k) lines

-- each of them is the word at its place
pub read_each : (ws : List ℕ) (first k : ℕ) (lines : List ℕ) → AreReadFrom ws first k lines → (i : ℕ) → i < length lines → slice_index lines i ≡ slice_index ws (first + (k + i))
read_each ws first k [] read i within = absurd (omega (arith, within))
read_each ws first k (w ∷ lines) read zero within = let e : first + k ≡ first + (k + 0) = omega arith in read.0 ∙ ap (slice_index ws) e
read_each ws first k (w ∷ lines) read (suc i) within = let e : first + (suc k + i) ≡ first + (k + suc i) = omega arith in read_each ws first (suc k) lines read.1 i (omega (arith, within)) ∙ ap (slice_index ws) e

-- ---- lanes, a group at a time

-- the mask with the bits of one more group of lanes
pub more_lanes : (fact : ℕ → Type 0) (group bits told : ℕ) → LANES * group + LANES ≤ LINES_IN_BLOCK → bits < 2 ^ (LANES * group) → told < 2 ^ LANES → TellsOf fact (LANES * group) bits → TellsOf (λ i. fact (LANES * group + i)) LANES told
    → (bit_or bits (told * 2 ^ (LANES * group) % 2 ^ 128) < 2 ^ (LANES * (group + 1))) × TellsOf fact (LANES * (group + 1)) (bit_or bits (told * 2 ^ (LANES * group) % 2 ^ 128))
more_lanes fact group bits told room fit fits before lanes =
    let next : LANES * group + LANES ≡ LANES * (group + 1) = omega arith in (
      subst (λ k. bit_or bits (told * 2 ^ (LANES * group) % 2 ^ 128) < 2 ^ k) next (more_fit fact 128 LANES (LANES * group) bits told room fit fits),
      subst (λ k. TellsOf fact k (bit_or bits (told * 2 ^ (LANES * group) % 2 ^ 128))) next (more_told fact 128 LANES (LANES * group) bits told room fit fits before lanes),
    )

-- ---- the counts of a word

-- so many lowest counts of a word, by the one on top
top_count : (w n : ℕ) → w % 2 ^ (COUNT_BITS * suc n) ≡ w / 2 ^ (COUNT_BITS * n) % 2 ^ COUNT_BITS * 2 ^ (COUNT_BITS * n) + w % 2 ^ (COUNT_BITS * n)
top_count w n = let e : COUNT_BITS * suc n ≡ COUNT_BITS + COUNT_BITS * n = omega arith in ap (λ x. w % 2 ^ x) e ∙ mod-pow-add w COUNT_BITS (COUNT_BITS * n)

-- they are 0 where each is
all_none : (w n : ℕ) → ((k : ℕ) → k < n → w / 2 ^ (COUNT_BITS * k) % 2 ^ COUNT_BITS ≡ 0) → w % 2 ^ (COUNT_BITS * n) ≡ 0
all_none w zero each = omega arith
all_none w (suc n) each =
    let before = all_none w n (λ k h. each k (omega (arith, h))) in
    top_count w n ∙ ap (λ d. d * 2 ^ (COUNT_BITS * n) + w % 2 ^ (COUNT_BITS * n)) (each n (omega arith)) ∙ omega arith

-- and each is 0 where they are
each_none : (w n : ℕ) → w % 2 ^ (COUNT_BITS * n) ≡ 0 → (k : ℕ) → k < n → w / 2 ^ (COUNT_BITS * k) % 2 ^ COUNT_BITS ≡ 0
each_none w zero none k within = absurd (omega arith)
each_none w (suc n) none k within =
    let top : ℕ = w / 2 ^ (COUNT_BITS * n) % 2 ^ COUNT_BITS in
    let sum : top * 2 ^ (COUNT_BITS * n) + w % 2 ^ (COUNT_BITS * n) ≡ 0 = sym (top_count w n) ∙ none in
    elim (eqb_tells k n) [
      | inl same ↦ ap (λ i. w / 2 ^ (COUNT_BITS * i) % 2 ^ COUNT_BITS) same.1 ∙ eq_of_mul-eq-mul_right (2 ^ (COUNT_BITS * n)) (pow_pos (COUNT_BITS * n)) top 0 (omega arith)
      | inr other ↦ let ne = other.1 in each_none w n (omega arith) k (omega arith)
    ]

-- a count of a line, by its bits in the line's word
count_in_word : (ws : List ℕ) (base block i k : ℕ) → base + COUNT_WORDS_IN_BLOCK * (block + 1) ≤ length ws → i < LINES_IN_BLOCK → k < GRANULES_IN_LINE
    → slice_index ws (base + COUNT_WORDS_IN_BLOCK * block + i) / 2 ^ (COUNT_BITS * k) % 2 ^ COUNT_BITS ≡ slice_index (table COUNT_BITS COUNTS_IN_WORD (drop base ws)) (GRANULES_IN_BLOCK * block + GRANULES_IN_LINE * i + k)
count_in_word ws base block i k within in_block in_line =
    let index : ℕ = GRANULES_IN_BLOCK * block + GRANULES_IN_LINE * i + k in
    let w : ℕ = slice_index ws (base + COUNT_WORDS_IN_BLOCK * block + i) in
    read_at COUNT_BITS COUNTS_IN_WORD base index ws (base + COUNT_WORDS_IN_BLOCK * block + i) w (COUNT_BITS * k) (lit< tt) (omega arith) (omega arith) refl (omega arith)

-- the word of a line tells whether all counts of the line are 0
pub word_tells : (ws : List ℕ) (base block i : ℕ) → slice_index ws (base + COUNT_WORDS_IN_BLOCK * block + i) < 2 ^ 64 → base + COUNT_WORDS_IN_BLOCK * (block + 1) ≤ length ws → i < LINES_IN_BLOCK
    → (slice_index ws (base + COUNT_WORDS_IN_BLOCK * block + i) ≡ 0) ↔ ((k : ℕ) → k < GRANULES_IN_LINE → slice_index (table COUNT_BITS COUNTS_IN_WORD (drop base ws)) (GRANULES_IN_BLOCK * block + GRANULES_IN_LINE * i + k) ≡ 0)
word_tells ws base block i fits within in_block =
    let w : ℕ = slice_index ws (base + COUNT_WORDS_IN_BLOCK * block + i) in
    let whole : w % 2 ^ 64 ≡ w = mod-eq_of_lt fits in (
      (λ none k h. sym (count_in_word ws base block i k within in_block h) ∙ each_none w GRANULES_IN_LINE (whole ∙ none) k h),
      (λ each. sym whole ∙ all_none w GRANULES_IN_LINE (λ k h. count_in_word ws base block i k within in_block h ∙ each k h)),
    )
