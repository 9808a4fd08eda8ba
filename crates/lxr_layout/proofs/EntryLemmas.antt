-- What a remembered entry keeps can be read back: two entries with one word are of one reference.
use Rattle.std.proofs.Common.{◌≡◌, ℕ, ◌+◌, ◌-◌, ◌*◌, ◌/◌, ◌%◌, ◌^◌, ◌<◌, ◌≤◌, inl, inr, sym, ap, subst, ◌∙◌, arith, true, false}
use Rattle.std.specs.Prelude.{nat_le, if◌then◌else◌}
use Rattle.std.proofs.lemmas.Bool.Decides.{leb_tells, nat_tests}
use Rattle.lxr_layout.specs.declared.TheConstants.{MOST_BLOCKS_OF_SMALL}
use Rattle.lxr_layout.specs.declared.Place.{Place}
use Rattle.lxr_layout.specs.Runs.{IsEntry, kept_counter, place_bits, word_of_entry}

-- in a small heap a place has 22 bits
pub small_bits : (blocks : ℕ) → blocks ≤ MOST_BLOCKS_OF_SMALL → place_bits blocks ≡ 22
small_bits blocks small = ap (λ b. if b then 22 else 28) (let e : nat_le blocks MOST_BLOCKS_OF_SMALL ≡ true = grind (arith, nat_tests) in e)

-- and 28 in a larger one
pub large_bits : (blocks : ℕ) → MOST_BLOCKS_OF_SMALL < blocks → place_bits blocks ≡ 28
large_bits blocks large = ap (λ b. if b then 22 else 28) (let e : nat_le blocks MOST_BLOCKS_OF_SMALL ≡ false = grind (arith, nat_tests) in e)

-- the word of an entry whose place has so many bits
abbrev pub word_by : ℕ → ℕ → Place → ℕ → ℕ
word_by bits counter p index = index + p.0 % 2 ^ bits * 2 ^ 10 + counter % 2 ^ (54 - bits) * 2 ^ (10 + bits)

-- the parts of an entry are read back from its word
pub record HasParts (bits word c : ℕ) (p : Place) (i : ℕ) : Type 0 where
  pub counter : word / 2 ^ (10 + bits) ≡ c % 2 ^ (54 - bits)
  pub place : word / 2 ^ 10 % 2 ^ bits ≡ p.0
  pub index : word % 2 ^ 10 ≡ i

small_parts : (c p i : ℕ) → p < 2 ^ 22 → i ≤ 1022 → HasParts 22 (word_by 22 c (record { 0 = p }) i) c (record { 0 = p }) i
small_parts c p i place index = record { counter = omega arith; place = omega arith; index = omega arith }

large_parts : (c p i : ℕ) → p < 2 ^ 28 → i ≤ 1022 → HasParts 28 (word_by 28 c (record { 0 = p }) i) c (record { 0 = p }) i
large_parts c p i place index = record { counter = omega arith; place = omega arith; index = omega arith }

pub parts_of_entry : (blocks c : ℕ) (p : Place) (i : ℕ) → IsEntry blocks c p i → HasParts (place_bits blocks) (word_of_entry blocks c p i) c p i
parts_of_entry blocks c p i is =
    let heap = is.heap in
    let place = is.place.1 in
    elim (leb_tells blocks MOST_BLOCKS_OF_SMALL) [
      | inl small ↦ subst (λ bits. HasParts bits (word_by bits c p i) c p i) (sym (small_bits blocks (omega arith))) (small_parts c p.0 i (omega arith) is.index)
      | inr large ↦ subst (λ bits. HasParts bits (word_by bits c p i) c p i) (sym (large_bits blocks (omega arith))) (large_parts c p.0 i (omega arith) is.index)
    ]

-- entries with one word are of one reference, and what they keep of their counters is the same
pub record AreOneEntry (blocks c d : ℕ) (p q : Place) (i j : ℕ) : Type 0 where
  pub counter : kept_counter blocks c ≡ kept_counter blocks d
  pub place : p.0 ≡ q.0
  pub index : i ≡ j

pub one_entry : (blocks c d : ℕ) (p q : Place) (i j : ℕ) → IsEntry blocks c p i → IsEntry blocks d q j → word_of_entry blocks c p i ≡ word_of_entry blocks d q j → AreOneEntry blocks c d p q i j
one_entry blocks c d p q i j first second same =
    let one = parts_of_entry blocks c p i first in
    let two = parts_of_entry blocks d q j second in
    record {
      counter = sym one.counter ∙ ap (λ w. w / 2 ^ (10 + place_bits blocks)) same ∙ two.counter;
      place = sym one.place ∙ ap (λ w. w / 2 ^ 10 % 2 ^ place_bits blocks) same ∙ two.place;
      index = sym one.index ∙ ap (λ w. w % 2 ^ 10) same ∙ two.index;
    }

-- equal counters are kept alike
pub kept_alike : (blocks c d : ℕ) → c ≡ d → kept_counter blocks c ≡ kept_counter blocks d
kept_alike blocks c d same = ap (kept_counter blocks) same
