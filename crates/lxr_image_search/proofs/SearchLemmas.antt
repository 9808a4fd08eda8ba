-- The bits of a word from one on tell of the granules from one on; the lowest that is set is the first that has what is wanted.
use Rattle.std.proofs.Common.{◌≡◌, ◌≢◌, ℕ, zero, suc, ◌+◌, ◌-◌, ◌*◌, ◌/◌, ◌%◌, ◌^◌, ◌<◌, refl, sym, ap, ◌∙◌, inl, inr, arith, Bool, false, w64}
use Rattle.std.specs.Prelude.{◌↔◌, ◌==◌, ◌&&◌, not, min, IsBitSet, IsTrue}
use Rattle.std.specs.Int.{bit_at, bit_not, trailing_zeros}
use Rattle.std.specs.Int.Bits.{bit_and, bit_or}
use Rattle.std.proofs.lemmas.Bool.{and_parts, false_from_ne_true}
use Rattle.std.proofs.lemmas.Bool.Decides.{leb_tells}
use Rattle.std.proofs.lemmas.Nat.{le_or_l, le_or_r, shr-shr}
use Rattle.std.proofs.lemmas.Nat.Bits.{bit_at-lt, bit_at-trailing_zeros, bit_at-zero, bit_at_above, bit_at_and, bit_at_not}
use Rattle.lxr_layout.specs.declared.TheConstants.{GRANULES_IN_BLOCK}
use Rattle.lxr_tables.proofs.BitLemmas.{one_is_set, set_is_one}
use Rattle.lxr_image.specs.Tables.{Tables}
use Rattle.lxr_image.proofs.OutLemmas.{told_by_bit}
use Rattle.lxr_blocks.specs.declared.states.BlockState.TheVariants.{Free}
use Rattle.lxr_blocks.specs.States.{AreFreeBlocks, state_in}
use Rattle.lxr_image_search.specs.declared.Wanted.{Wanted}
use Rattle.lxr_image_search.specs.declared.Wanted.TheVariants.{Object, ToScan, Unmarked}
use Rattle.lxr_image_search.specs.Search.{AvoidsFree, IsNextWanted, NoneWanted, is_wanted}

-- ---- what one word tells

-- a bit of one word that is clear in another
pub told_by_bits : (has lacks : Bool) (word other i : ℕ) → other < 2 ^ 64 → i < 64 → has ≡ (bit_at word i == 1) → lacks ≡ (bit_at other i == 1)
    → IsBitSet (bit_and word (bit_not w64 other)) i ↔ IsTrue (has && not lacks)
told_by_bits has lacks word other i fits within is_set is_clear =
    told_by_bit (has && not lacks) (bit_and word (bit_not w64 other)) i
    ((λ j. is_set j && not (is_clear j))
    ∙ sym (two_bits (bit_at word i) (bit_at other i) (bit_at-lt word i) (bit_at-lt other i))
    ∙ ap (λ x. x == 1) (sym (bit_at_and word (bit_not w64 other) i ∙ ap (min (bit_at word i)) (bit_at_not w64 other i fits within))))
  where
    two_bits : (a b : ℕ) → a < 2 → b < 2 → (min a (1 - b) == 1) ≡ ((a == 1) && not (b == 1))
    two_bits zero zero l r = refl
    two_bits zero (suc zero) l r = refl
    two_bits (suc zero) zero l r = refl
    two_bits (suc zero) (suc zero) l r = refl
    two_bits (suc (suc a)) b l r = absurd (omega arith)
    two_bits a (suc (suc b)) l r = absurd (omega arith)

-- a mask tells which granules of a word have what is wanted
abbrev pub TellsWanted : Tables → Wanted → ℕ → ℕ → Type 0
TellsWanted t wanted word mask = (i : ℕ) → i < 64 → IsBitSet mask i ↔ IsTrue (is_wanted t wanted (64 * word + i))

module _ (t : Tables) (wanted : Wanted) (at mask : ℕ) (fits : mask < 2 ^ 64) (tells : TellsWanted t wanted (at / 64) mask) where
  rest_bit : (i : ℕ) → bit_at (mask / 2 ^ (at % 64)) i ≡ bit_at mask (at % 64 + i)
  rest_bit i = ap (λ x. x % 2) (shr-shr mask (at % 64) i)

  -- a granule whose bit is clear doesn't have it
  clear_bit : (i : ℕ) → at % 64 + i < 64 → bit_at (mask / 2 ^ (at % 64)) i ≡ 0 → is_wanted t wanted (at + i) ≡ false
  clear_bit i within none =
      let place : 64 * (at / 64) + (at % 64 + i) ≡ at + i = omega arith in
      ap (is_wanted t wanted) (sym place)
      ∙ false_from_ne_true (is_wanted t wanted (64 * (at / 64) + (at % 64 + i))) (λ yes.
      let one = set_is_one mask (at % 64 + i) ((tells (at % 64 + i) within).1 yes) in
      let same = rest_bit i in
      absurd (omega (arith, one, same, none)))

  pub none_in_word : mask / 2 ^ (at % 64) ≡ 0 → NoneWanted t wanted at (64 * (at / 64 + 1))
  none_in_word none k from below =
      let place : at + (k - at) ≡ k = omega (arith, from) in
      ap (is_wanted t wanted) (sym place) ∙ clear_bit (k - at) (omega (arith, from, below)) (ap (λ x. bit_at x (k - at)) none ∙ bit_at-zero (k - at))

  pub first_in_word : mask / 2 ^ (at % 64) ≢ 0 → IsNextWanted t wanted at (64 * (at / 64 + 1)) (at + trailing_zeros w64 (mask / 2 ^ (at % 64)))
  first_in_word some =
      let low : ℕ = mask / 2 ^ (at % 64) in
      let first : ℕ = trailing_zeros w64 low in
      let lowest = bit_at-trailing_zeros w64 low (omega arith) (omega arith) in
      let set : bit_at mask (at % 64 + first) ≡ 1 = sym (rest_bit first) ∙ lowest.1 in
      let within : at % 64 + first < 64 = elim (leb_tells 64 (at % 64 + first)) [
        | inl c ↦ let none = bit_at_above mask 64 (at % 64 + first) fits c.1 in absurd (omega (arith, none, set))
        | inr c ↦ c.1
      ] in
      let place : 64 * (at / 64) + (at % 64 + first) ≡ at + first = omega arith in
      record {
        reached = omega arith;
        within = omega (arith, within);
        is = ap (is_wanted t wanted) (sym place) ∙ (tells (at % 64 + first) within).0 (one_is_set mask (at % 64 + first) set);
        passed = λ k from below.
            let there : at + (k - at) ≡ k = omega (arith, from) in
            ap (is_wanted t wanted) (sym there) ∙ clear_bit (k - at) (omega (arith, from, below, within)) (lowest.2 (k - at) (omega (arith, from, below)));
      }

-- ---- many words

-- none up to a granule, and none from there on
pub none_further : (t : Tables) (wanted : Wanted) (from at to : ℕ) → NoneWanted t wanted from at → NoneWanted t wanted at to → NoneWanted t wanted from to
none_further t wanted from at to before behind k above below = elim (leb_tells at k) [ inl c ↦ behind k c.1 below | inr c ↦ before k above c.1 ]

-- where no bit of a word is set, none of its 64 granules has what is wanted
pub none_of_word : (t : Tables) (wanted : Wanted) (at mask : ℕ) → TellsWanted t wanted at mask → mask ≡ 0 → NoneWanted t wanted (64 * at) (64 * at + 64)
none_of_word t wanted at mask tells clear k from below =
    let i : ℕ = k - 64 * at in
    let place : 64 * at + i ≡ k = omega (arith, from) in
    ap (is_wanted t wanted) (sym place) ∙ false_from_ne_true (is_wanted t wanted (64 * at + i)) (λ yes.
    let one = set_is_one mask i ((tells i (omega (arith, from, below))).1 yes) in
    let none = ap (λ w. bit_at w i) clear ∙ bit_at-zero i in
    absurd (omega (arith, one, none)))

-- what was seen and one word more are 0 only where both are
pub none_seen : (t : Tables) (wanted : Wanted) (block at seen hint : ℕ) → (seen ≡ 0 → NoneWanted t wanted (GRANULES_IN_BLOCK * block) (64 * at))
    → (hint ≡ 0 → NoneWanted t wanted (64 * at) (64 * at + 64)) → bit_or seen hint ≡ 0 → NoneWanted t wanted (GRANULES_IN_BLOCK * block) (64 * (at + 1))
none_seen t wanted block at seen hint before here clear k above below =
    let left = le_or_l seen hint in
    let right = le_or_r seen hint in
    none_further t wanted (GRANULES_IN_BLOCK * block) (64 * at) (64 * at + 64) (before (omega (arith, left, clear))) (here (omega (arith, right, clear))) k above (omega (arith, below))

-- blocks in a row that are Free have none
pub none_in_frees : (t : Tables) (wanted : Wanted) (from end : ℕ) → AvoidsFree t wanted → AreFreeBlocks t from end → NoneWanted t wanted (GRANULES_IN_BLOCK * from) (GRANULES_IN_BLOCK * end)
none_in_frees t wanted from end avoids free k above below = false_from_ne_true (is_wanted t wanted k) (λ yes. avoids k yes (free (k / GRANULES_IN_BLOCK) (omega (arith, above)) (omega (arith, below))))

-- what is wanted stands outside Free blocks where start bits do, and gray and done bits stand only at these
pub avoids_by_starts : (t : Tables) (wanted : Wanted) → ((k : ℕ) → IsTrue (t.starts k) → state_in t (k / GRANULES_IN_BLOCK) ≢ Free) → ((k : ℕ) → IsTrue (t.grays k) → IsTrue (t.starts k))
    → ((k : ℕ) → IsTrue (t.dones k) → IsTrue (t.starts k)) → AvoidsFree t wanted
avoids_by_starts t Object starts grays dones k is = starts k is
avoids_by_starts t Unmarked starts grays dones k is = starts k (and_parts (t.starts k) (not (t.marks k)) is).0
avoids_by_starts t ToScan starts grays dones k is = starts k (grays k (and_parts (t.grays k) (not (t.marks k)) is).0)
