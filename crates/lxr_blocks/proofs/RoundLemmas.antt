-- Blocks round a heap, and how many listings in turn it takes until each was passed.
use Rattle.std.proofs.Common.{◌≡◌, ℕ, zero, suc, ◌+◌, ◌-◌, ◌*◌, ◌<◌, ◌≤◌, refl, sym, ap, subst, ◌∙◌, inl, inr, arith, add-one, true, false, List, length, length-append}
use Rattle.std.specs.Prelude.{◌⊎◌, nat_lt, if◌then◌else◌}
use Rattle.std.proofs.lemmas.Bool.Decides.{leb_tells, nat_tests}
use Rattle.lxr_blocks.specs.Listing.{joined}
use Rattle.lxr_blocks.specs.InTurn.{IsPassed, IsTurn, NoRunIsLeftOut, round_from, total}

-- ---- blocks round a heap

pub round_low : (blocks a i : ℕ) → a + i < blocks → round_from blocks a i ≡ a + i
round_low blocks a i low = ap (λ b. if b then (a + i) else (a + i - blocks)) (let e : nat_lt (a + i) blocks ≡ true = grind (arith, nat_tests) in e)

pub round_high : (blocks a i : ℕ) → blocks ≤ a + i → round_from blocks a i ≡ a + i - blocks
round_high blocks a i high = ap (λ b. if b then (a + i) else (a + i - blocks)) (let e : nat_lt (a + i) blocks ≡ false = grind (arith, nat_tests) in e)

pub round_within : (blocks a i : ℕ) → a < blocks → i ≤ blocks → round_from blocks a i < blocks
round_within blocks a i first few = elim (leb_tells blocks (a + i)) [
  | inl e ↦ let high = e.1 in let is = round_high blocks a i high in omega (arith, is, high, first, few)
  | inr e ↦ let low = e.1 in let is = round_low blocks a i low in omega (arith, is, low)
]

-- one way round after another
pub round_round : (blocks a p i : ℕ) → a < blocks → p + i < blocks → round_from blocks (round_from blocks a p) i ≡ round_from blocks a (p + i)
round_round blocks a p i first few = elim (leb_tells blocks (a + p)) [
  | inl e ↦
      let high = e.1 in
      ap (λ x. round_from blocks x i) (round_high blocks a p high)
      ∙ round_low blocks (a + p - blocks) i (omega (arith, high, first, few))
      ∙ (let z : a + p - blocks + i ≡ a + (p + i) - blocks = omega (arith, high) in z)
      ∙ sym (round_high blocks a (p + i) (omega (arith, high)))
  | inr e ↦
      let low = e.1 in
      ap (λ x. round_from blocks x i) (round_low blocks a p low) ∙ further blocks a p i
]
  where
    further : (blocks a p i : ℕ) → round_from blocks (a + p) i ≡ round_from blocks a (p + i)
    further blocks a p i = ap (λ n. if nat_lt n blocks then n else (n - blocks)) (let z : a + p + i ≡ a + (p + i) = omega arith in z)

-- each block lies so many places after each
far : (blocks a b : ℕ) → a < blocks → b < blocks → (d : ℕ) × (d < blocks) × (round_from blocks a d ≡ b)
far blocks a b first within = elim (leb_tells a b) [
  | inl e ↦ let over = e.1 in (b - a, omega (arith, over, within), round_low blocks a (b - a) (omega (arith, over, within)) ∙ (let z : a + (b - a) ≡ b = omega (arith, over) in z))
  | inr e ↦
      let under = e.1 in
      (b + blocks - a, omega (arith, under, first), round_high blocks a (b + blocks - a) (omega (arith, under, first)) ∙ (let z : a + (b + blocks - a) - blocks ≡ b = omega (arith, under, first) in z))
]

-- ---- sums

total_more : (f : ℕ → ℕ) (n : ℕ) → total f (n + 1) ≡ total f n + f n
unfolding total
total_more f n = rw add-one refl

total_none : (f : ℕ → ℕ) → total f 0 ≡ 0
unfolding total
total_none f = refl

total_same : (f g : ℕ → ℕ) (n : ℕ) → ((i : ℕ) → i < n → f i ≡ g i) → total f n ≡ total g n
unfolding total
total_same f g zero same = refl
total_same f g (suc n) same = λ j. total_same f g n (λ i less. same i (omega (arith, less))) j + same n (omega arith) j

total_split : (f : ℕ → ℕ) (m n : ℕ) → total f (m + n) ≡ total f m + total (λ i. f (m + i)) n
unfolding total
total_split f m zero = ap (total f) (let z : m + 0 ≡ m = omega arith in z) ∙ (let z : total f m ≡ total f m + 0 = omega arith in z)
total_split f m (suc n) =
    ap (total f) (let z : m + suc n ≡ m + n + 1 = omega arith in z)
    ∙ total_more f (m + n)
    ∙ ap (λ x. x + f (m + n)) (total_split f m n)
    ∙ (let z : total f m + total (λ i. f (m + i)) n + f (m + n) ≡ total f m + (total (λ i. f (m + i)) n + f (m + n)) = omega arith in z)

total_grows : (f : ℕ → ℕ) (p n : ℕ) → p ≤ n → total f p ≤ total f n
total_grows f p n order =
    let split = ap (total f) (let z : n ≡ p + (n - p) = omega (arith, order) in z) ∙ total_split f p (n - p) in
    omega (arith, split)

-- the sum round a heap is the sum over it
total_round : (f : ℕ → ℕ) (blocks a : ℕ) → a < blocks → total (λ i. f (round_from blocks a i)) blocks ≡ total f blocks
total_round f blocks a first =
    let g : ℕ → ℕ = λ i. f (round_from blocks a i) in
    let rest : ℕ = blocks - a in
    let before = total_same g (λ i. f (a + i)) rest (λ i less. ap f (round_low blocks a i (omega (arith, less)))) in
    let after = total_same (λ i. g (rest + i)) f a
    (λ i less. ap f (round_high blocks a (rest + i) (omega (arith, first)) ∙ (let z : a + (rest + i) - blocks ≡ i = omega (arith, first) in z))) in
    ap (total g) (let z : blocks ≡ rest + a = omega (arith, first) in z)
    ∙ total_split g rest a
    ∙ (λ j. before j + after j)
    ∙ (let z : total (λ i. f (a + i)) rest + total f a ≡ total f a + total (λ i. f (a + i)) rest = omega arith in z)
    ∙ sym (total_split f a rest)
    ∙ ap (total f) (let z : a + rest ≡ blocks = omega (arith, first) in z)

-- what is joined is no longer than the sum of what each has at most
joined_most : (f : ℕ → List ℕ) (g : ℕ → ℕ) (n : ℕ) → ((i : ℕ) → i < n → length (f i) ≤ g i) → length (joined f n) ≤ total g n
unfolding joined total
joined_most f g zero few = omega arith
joined_most f g (suc n) few =
    let more = length-append (joined f n) (f n) in
    let before = joined_most f g n (λ i less. few i (omega (arith, less))) in
    let last = few n (omega arith) in
    omega (arith, more, before, last)

times_more : (k c : ℕ) → suc k * c ≡ k * c + c
times_more k c = omega arith

-- ---- listings one after another

-- The first so many listings have come to a block so many places after the first one, all before the place, and have listed as many runs as they do
-- where they pass not all.
abbrev HasCome : (blocks most place : ℕ) (from has : ℕ → ℕ) (k : ℕ) → Type 0
HasCome blocks most place from has k =
    (p : ℕ) × (p ≤ place) × (from k ≡ round_from blocks (from 0) p) × (k * (most - 63) ≤ total (λ i. has (round_from blocks (from 0) i)) p)

module _ (blocks most listings : ℕ) (runs : ℕ → ℕ → List ℕ) (from many has : ℕ → ℕ) (first : from 0 < blocks) (turns : (k : ℕ) → k < listings → IsTurn blocks most (runs k) (from k) (many k) (from (k + 1)))
    (few : (k b : ℕ) → k < listings → b < blocks → length (runs k b) ≤ has b) where
  abbrev around : ℕ → ℕ
  around i = has (round_from blocks (from 0) i)

  -- a listing that doesn't come to a place
  goes_on : (place k : ℕ) → place < blocks → k < listings → (p : ℕ) → from k ≡ round_from blocks (from 0) p → k * (most - 63) ≤ total around p → p + many k ≤ place → HasCome blocks most place from has (k + 1)
  goes_on place k inside less p at listed short =
      let turn = turns k less in
      let full = turn.full (omega (arith, short, inside)) in
      let most_of = joined_most (λ i. runs k (round_from blocks (from k) i)) (λ i. around (p + i)) (many k) (λ i under.
      let same : round_from blocks (from k) i ≡ round_from blocks (from 0) (p + i) =
      ap (λ x. round_from blocks x i) at ∙ round_round blocks (from 0) p i first (omega (arith, under, short, inside)) in
      let have = few k (round_from blocks (from k) i) less (round_within blocks (from k) i turn.begins (omega (arith, under, short, inside))) in
      subst (λ x. length (runs k (round_from blocks (from k) i)) ≤ has x) same have) in
      let split = total_split around p (many k) in
      let more = times_more k (most - 63) in (
        p + many k,
        short,
        turn.goes_on ∙ ap (λ x. round_from blocks x (many k)) at ∙ round_round blocks (from 0) p (many k) first (omega (arith, short, inside)),
        subst (λ n. n * (most - 63) ≤ total around (p + many k)) (let z : suc k ≡ k + 1 = omega arith in z) (omega (arith, full, most_of, split, more, listed)),
      )

  -- one of the first so many passes the block at a place, or all end before it
  pub comes : (place k : ℕ) → place < blocks → k ≤ listings → ((j : ℕ) × (j < listings) × IsPassed blocks (from j) (many j) (round_from blocks (from 0) place)) ⊎ HasCome blocks most place from has k
  comes place zero inside few_listings = inr (
    0,
    omega arith,
    sym (round_low blocks (from 0) 0 (omega (arith, first)) ∙ (let z : from 0 + 0 ≡ from 0 = omega arith in z)),
    (let none = total_none around in omega (arith, none)),
  )
  comes place (suc k) inside few_listings = elim (comes place k inside (omega (arith, few_listings))) [
    | inl passed ↦ inl passed
    | inr (p, before, at, listed) ↦ elim (leb_tells (p + many k) place) [
      | inl e ↦ inr (subst (HasCome blocks most place from has) (let z : k + 1 ≡ suc k = omega arith in z) (goes_on place k inside (omega (arith, few_listings)) p at listed e.1))
      | inr e ↦
          let within = e.1 in
          inl (
            k,
            omega (arith, few_listings),
            record {
              places = place - p;
              within = omega (arith, within, before);
              block = ap (λ x. round_from blocks x (place - p)) at
                  ∙ round_round blocks (from 0) p (place - p) first (omega (arith, before, inside))
                  ∙ ap (round_from blocks (from 0)) (let z : p + (place - p) ≡ place = omega (arith, before) in z);
            },
          )
    ]
  ]

pub none_left_out : NoRunIsLeftOut
none_left_out blocks most zero runs from many has turns few fewer b within = absurd (omega (arith, fewer))
none_left_out blocks most (suc n) runs from many has turns few fewer b within =
    let first = (turns 0 (omega arith)).begins in
    let (place, inside, there) = far blocks (from 0) b first within in
    elim (comes blocks most (suc n) runs from many has first turns few place (suc n) inside (omega arith)) [
      | inl (j, less, passed) ↦ (j, less, subst (IsPassed blocks (from j) (many j)) there passed)
      | inr (p, before, at, listed) ↦
          let grows = total_grows (λ i. has (round_from blocks (from 0) i)) p blocks (omega (arith, before, inside)) in
          let all = total_round has blocks (from 0) first in
          absurd (omega (arith, listed, grows, all, fewer))
    ]
