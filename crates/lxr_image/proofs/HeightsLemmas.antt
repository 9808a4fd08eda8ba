-- The highest number of each group, where a block's number changes.
use Rattle.std.proofs.Common.{◌≡◌, ◌≢◌, ℕ, ◌+◌, ◌-◌, ◌*◌, ◌/◌, ◌<◌, ◌≤◌, sym, ap, ◌∙◌, inl, inr, arith, List, length, take, drop, replicate}
use Rattle.std.specs.Prelude.{◌==◌, if◌then◌else◌, slice_index, slice_set}
use Rattle.std.proofs.lemmas.Bool.{cases_eq, cases_lt}
use Rattle.std.proofs.lemmas.List.{get_or-drop, get_or-replicate, get_or-set_other, get_or-set_same, get_or-take, get_or_past, length-drop, length-replicate, length-set, length-take-le}
use Rattle.std.proofs.lemmas.List.Folds.{sum_by-replicate}
use Rattle.std.proofs.lemmas.List.Sums.{get_or-le-sum_by, sum_by-set}
use Rattle.lxr_image.specs.declared.heights.TheConstants.{FULL, GROUP}
use Rattle.lxr_image.specs.Heights.{AreHighest, full_among}

-- all have the same
pub all_same : (n m h : ℕ) → n ≤ 64 * m → ((g : ℕ) → g < m → 64 * g < n) → AreHighest (replicate n h) (replicate m h)
all_same n m h enough few =
    let ln = length-replicate n h in
    let lm = length-replicate m h in
    record {
      many = omega (arith, ln, lm);
      bounds = λ b. elim (cases_lt b n) as (λ _. slice_index (replicate n h) b ≤ slice_index (replicate m h) (b / GROUP)) [
        | inl within ↦ let one = get_or-replicate n b h 0 within in let all = get_or-replicate m (b / 64) h 0 (omega arith) in omega (arith, one, all)
        | inr past ↦ let none = get_or_past (replicate n h) b 0 (omega (arith, ln)) in omega (arith, none)
      ];
      reached = λ group within. (
        64 * group,
        (let some = few group (omega (arith, lm)) in omega (arith, ln, some)),
        omega arith,
        get_or-replicate n (64 * group) h 0 (few group (omega (arith, lm))) ∙ sym (get_or-replicate m group h 0 (omega (arith, lm))),
      );
    }

-- a block's number has changed, and its group has the highest of its blocks again
pub found_again : (hs gs : List ℕ) (b h most : ℕ) → AreHighest hs gs → b < length hs
    → ((c : ℕ) → c / 64 ≡ b / 64 → slice_index (slice_set hs b h) c ≤ most)
    → ((c : ℕ) × (c < length (slice_set hs b h)) × (c / 64 ≡ b / 64) × (slice_index (slice_set hs b h) c ≡ most))
    → AreHighest (slice_set hs b h) (slice_set gs (b / 64) most)
found_again hs gs b h most is within bound some =
    let lh = length-set hs b h in
    let lg = length-set gs (b / 64) most in
    let many = is.many in
    let own = get_or-set_same gs (b / 64) most 0 (omega (arith, many)) in
    record {
      many = omega (arith, lh, lg, many);
      bounds = λ c. elim (cases_eq (c / 64) (b / 64)) as (λ _. slice_index (slice_set hs b h) c ≤ slice_index (slice_set gs (b / 64) most) (c / GROUP)) [
        | inl e ↦ let of : slice_index (slice_set gs (b / 64) most) (c / 64) ≡ most = ap (slice_index (slice_set gs (b / 64) most)) e ∙ own in let less = bound c e in omega (arith, of, less)
        | inr e ↦
            let other : c ≢ b = λ q. e (ap (λ x. x / 64) q) in
            let same = get_or-set_other hs b c h 0 other in
            let of = get_or-set_other gs (b / 64) (c / 64) most 0 e in
            let was = is.bounds c in
            omega (arith, same, of, was)
      ];
      reached = λ g has. elim (cases_eq g (b / 64)) as (λ _. (c : ℕ) × (c < length (slice_set hs b h)) × (c / GROUP ≡ g) × (slice_index (slice_set hs b h) c ≡ slice_index (slice_set gs (b / 64) most) g)) [
        | inl e ↦ (some.0, some.1, some.2 ∙ sym e, some.3 ∙ sym (ap (slice_index (slice_set gs (b / 64) most)) e ∙ own))
        | inr e ↦
            let old = is.reached g (omega (arith, lg, has)) in
            let other : old.0 ≢ b = λ q. e (sym old.2 ∙ ap (λ x. x / 64) q) in
            let below = old.1 in
            (old.0, omega (arith, lh, below), old.2, get_or-set_other hs b old.0 h 0 other ∙ old.3 ∙ sym (get_or-set_other gs (b / 64) g most 0 e))
      ];
    }

-- it is no less than its group's was
pub risen : (hs gs : List ℕ) (b h : ℕ) → AreHighest hs gs → b < length hs → slice_index gs (b / 64) ≤ h → AreHighest (slice_set hs b h) (slice_set gs (b / 64) h)
risen hs gs b h is within low =
    let lh = length-set hs b h in
    found_again hs gs b h h is within
    (λ c in_group. elim (cases_eq c b) as (λ _. slice_index (slice_set hs b h) c ≤ h) [
      | inl e ↦ let own : slice_index (slice_set hs b h) c ≡ h = ap (slice_index (slice_set hs b h)) e ∙ get_or-set_same hs b h 0 within in omega (arith, own)
      | inr e ↦ let same = get_or-set_other hs b c h 0 e in let was = is.bounds c in let of : slice_index gs (c / 64) ≡ slice_index gs (b / 64) = ap (slice_index gs) in_group in omega (arith, same, was, of, low)
    ])
    (b, omega (arith, lh), omega arith, get_or-set_same hs b h 0 within)

-- the numbers of a group, and those of its blocks
abbrev pub of_group : List ℕ → ℕ → ℕ → List ℕ
of_group xs g end = take (end - 64 * g) (drop (64 * g) xs)

pub in_group : (xs : List ℕ) (g end : ℕ) → end ≤ length xs → ((c : ℕ) → c / 64 ≡ g → c < length xs → c < end) → (most : ℕ) → ((i : ℕ) → slice_index (of_group xs g end) i ≤ most)
    → (c : ℕ) → c / 64 ≡ g → slice_index xs c ≤ most
in_group xs g end within all most bound c in_g = elim (cases_lt c (length xs)) as (λ _. slice_index xs c ≤ most) [
  | inl some ↦
      let below = all c in_g some in
      let i : ℕ = c - 64 * g in
      let at : 64 * g + i ≡ c = omega (arith, in_g) in
      let there = get_or-take (end - 64 * g) (drop (64 * g) xs) i 0 (omega (arith, below, in_g)) ∙ get_or-drop (64 * g) xs i 0 ∙ ap (slice_index xs) at in
      let less = bound i in
      omega (arith, there, less)
  | inr past ↦ let none = get_or_past xs c 0 past in omega (arith, none)
]

pub of_whole : (xs : List ℕ) (g end : ℕ) → end ≤ length xs → end ≤ 64 * g + 64 → (most i : ℕ) → i < length (of_group xs g end) → slice_index (of_group xs g end) i ≡ most
    → (c : ℕ) × (c < length xs) × (c / 64 ≡ g) × (slice_index xs c ≡ most)
of_whole xs g end within few most i below is =
    let rest = length-drop (64 * g) xs in
    let many = length-take-le (end - 64 * g) (drop (64 * g) xs) (omega (arith, rest)) in
    (64 * g + i, omega (arith, many, rest), omega (arith, many), sym (get_or-take (end - 64 * g) (drop (64 * g) xs) i 0 (omega (arith, many)) ∙ get_or-drop (64 * g) xs i 0) ∙ is)

-- ---- how many blocks are full

abbrev pub one_if_full : ℕ → ℕ
one_if_full height = if height == FULL then 1 else 0

pub full_of_same : (n height : ℕ) → full_among (replicate n height) ≡ n * one_if_full height
full_of_same n height = sum_by-replicate one_if_full n height

-- one that was full was counted
pub full_before : (heights : List ℕ) (block full one : ℕ) → block < length heights → full ≡ full_among heights → one ≡ one_if_full (slice_index heights block) → one ≤ full
full_before heights block full one within counted is = let some = get_or-le-sum_by one_if_full heights block 0 within in omega (arith, counted, is, some)

-- where a block's number changes, it is counted by its new one in the place of its old one
pub full_after : (heights : List ℕ) (block height full one : ℕ) → block < length heights → full ≡ full_among heights → one ≡ one_if_full (slice_index heights block)
    → full - one + one_if_full height ≡ full_among (slice_set heights block height)
full_after heights block height full one within counted is =
    let both = sum_by-set one_if_full heights block height 0 within in
    let some = full_before heights block full one within counted is in
    omega (arith, both, counted, is, some)
