-- Blocks are taken one after the other: each that was free makes one more.
use Rattle.std.proofs.Common.{◌≡◌, ◌≢◌, ℕ, zero, suc, ◌+◌, ◌-◌, ◌<◌, ◌≤◌, ◌⊎◌, inl, inr, refl, ap, ◌∙◌, arith, Bool, true, false, cond, List, [], ◌∷◌, length, get_or, set, replicate, take, ltb, leb, ◌&&◌}
use Rattle.std.proofs.lemmas.List.{get_or-set_same, get_or-set_other}
use Rattle.lxr_large_bodies.specs.Blocks.{AreFree, TakesRun, taken_count}

pub count_set : (taken : List Bool) (i : ℕ) → i < length taken → get_or taken i false ≡ false → taken_count (set taken i true) ≡ taken_count taken + 1
count_set [] i within free = absurd (omega (arith, within))
count_set (true ∷ bs) zero within free = cc
count_set (false ∷ bs) zero within free = omega arith
count_set (true ∷ bs) (suc i) within free = let more = count_set bs i (omega (arith, within)) free in omega (arith, more)
count_set (false ∷ bs) (suc i) within free = count_set bs i (omega (arith, within)) free

pub count_few : (taken : List Bool) → taken_count taken ≤ length taken
count_few [] = omega arith
count_few (true ∷ bs) = let few = count_few bs in omega (arith, few)
count_few (false ∷ bs) = let few = count_few bs in omega (arith, few)

none_yet : (taken : List Bool) → taken_count (take 0 taken) ≡ 0
none_yet [] = refl
none_yet (b ∷ bs) = refl

-- one block more
pub count_more : (taken : List Bool) (k : ℕ) → k < length taken → taken_count (take (k + 1) taken) ≡ taken_count (take k taken) + cond (get_or taken k false) 1 0
count_more [] k within = absurd (omega (arith, within))
count_more (true ∷ bs) zero within = let none = none_yet bs in omega (arith, none)
count_more (false ∷ bs) zero within = none_yet bs
count_more (true ∷ bs) (suc k) within =
    let more = count_more bs k (omega (arith, within)) in
    let next : suc k + 1 ≡ suc (k + 1) = omega arith in
    rw next (omega (arith, more))
count_more (false ∷ bs) (suc k) within =
    let next : suc k + 1 ≡ suc (k + 1) = omega arith in
    rw next (count_more bs k (omega (arith, within)))

-- a free block makes one more, and a taken one none
pub free_next : (taken : List Bool) (free k : ℕ) → k < length taken → get_or taken k false ≡ false → free + taken_count (take k taken) ≡ k → free + 1 + taken_count (take (k + 1) taken) ≡ k + 1
free_next taken free k within is so_far = let more = count_more taken k within ∙ ap (λ b. taken_count (take k taken) + cond b 1 0) is in omega (arith, more, so_far)

pub free_same : (taken : List Bool) (free k : ℕ) → k < length taken → get_or taken k false ≡ true → free + taken_count (take k taken) ≡ k → free + taken_count (take (k + 1) taken) ≡ k + 1
free_same taken free k within is so_far = let more = count_more taken k within ∙ ap (λ b. taken_count (take k taken) + cond b 1 0) is in omega (arith, more, so_far)

-- where a block is free, not all are taken
pub count_below : (taken : List Bool) (k : ℕ) → k < length taken → get_or taken k false ≡ false → taken_count taken < length taken
count_below [] k within free = absurd (omega (arith, within))
count_below (true ∷ bs) zero within free = cc
count_below (false ∷ bs) zero within free = let few = count_few bs in omega (arith, few)
count_below (true ∷ bs) (suc k) within free = let fewer = count_below bs k (omega (arith, within)) free in omega (arith, fewer)
count_below (false ∷ bs) (suc k) within free = let fewer = count_below bs k (omega (arith, within)) free in omega (arith, fewer)

pub none_count : (n : ℕ) → taken_count (replicate n false) ≡ 0
none_count zero = refl
none_count (suc n) = none_count n

pub none_taken : (n k : ℕ) → get_or (replicate n false) k false ≡ false
none_taken zero k = refl
none_taken (suc n) zero = refl
none_taken (suc n) (suc k) = none_taken n k

-- the blocks from one on and below another are taken now
pub record TakesSoFar (old now : List Bool) (first at : ℕ) : Type 0 where
  pub as_many : length now ≡ length old
  pub each : (k : ℕ) → get_or now k false ≡ cond (leb first k && ltb k at) true (get_or old k false)
  pub count : taken_count now + first ≡ taken_count old + at

within_next : (first at k : ℕ) → k ≢ at → (leb first k && ltb k (at + 1)) ≡ (leb first k && ltb k at)
within_next first at k other = grind arith

within_itself : (first at : ℕ) → first ≤ at → (leb first at && ltb at (at + 1)) ≡ true
within_itself first at le = grind arith

outside : (first at : ℕ) → (leb first at && ltb at at) ≡ false
outside first at = grind arith

compare : (k at : ℕ) → (k ≡ at) ⊎ (k ≢ at)
compare k at = grind arith

each_next : (old now : List Bool) (first at : ℕ) → first ≤ at → at < length now → TakesSoFar old now first at
    → (k : ℕ) → (k ≡ at) ⊎ (k ≢ at) → get_or (set now at true) k false ≡ cond (leb first k && ltb k (at + 1)) true (get_or old k false)
each_next old now first at le within so_far k (inl same) = rw (same, within_itself first at le) (get_or-set_same now at true false within)
each_next old now first at le within so_far k (inr other) = rw (within_next first at k other) (get_or-set_other now at k true false other ∙ so_far.each k)

pub takes_next : (old now : List Bool) (first at : ℕ) → first ≤ at → at < length now → get_or old at false ≡ false → TakesSoFar old now first at → length (set now at true) ≡ length now
    → TakesSoFar old (set now at true) first (at + 1)
takes_next old now first at le within free so_far same =
    let still : get_or now at false ≡ false = rw (outside first at) at (so_far.each at) ∙ free in
    let more = count_set now at within still in
    let count = so_far.count in
    record {
      as_many = same ∙ so_far.as_many;
      each = λ k. each_next old now first at le within so_far k (compare k at);
      count = omega (arith, more, count);
    }

none_within : (first k : ℕ) → (leb first k && ltb k first) ≡ false
none_within first k = grind arith

pub takes_none : (taken : List Bool) (first : ℕ) → TakesSoFar taken taken first first
takes_none taken first = record {
  as_many = refl;
  each = λ k. rw (none_within first k) refl;
  count = refl;
}

pub takes_all : (old new : List Bool) (first blocks : ℕ) → TakesSoFar old new first (first + blocks) → TakesRun old new first blocks
takes_all old new first blocks so_far =
    let count = so_far.count in
    record { as_many = so_far.as_many; each = so_far.each; count = omega (arith, count) }

-- ---- the search of a run

-- The last so many blocks below one are free, the one before them isn't, and no run of the length that is sought lies below.
pub record Searches (taken : List Bool) (blocks free at : ℕ) : Type 0 where
  pub few : free < blocks
  pub reached : free ≤ at
  pub run : (k : ℕ) → at ≤ k + free → k < at → get_or taken k false ≡ false
  pub before : (k : ℕ) → k + free + 1 ≡ at → get_or taken k false ≡ true
  pub none : (first : ℕ) → first + blocks ≤ at → AreFree taken first blocks → ⊥

pub searches_first : (taken : List Bool) (blocks : ℕ) → 1 ≤ blocks → Searches taken blocks 0 0
searches_first taken blocks some = record {
  few = omega (arith, some);
  reached = omega arith;
  run = λ k over below. absurd (omega (arith, below));
  before = λ k is. absurd (omega (arith, is));
  none = λ first within free. absurd (omega (arith, some, within));
}

-- a run that ends at a block has the one that is taken
has_taken : (taken : List Bool) (blocks first k : ℕ) → first ≤ k → k < first + blocks → get_or taken k false ≡ true → AreFree taken first blocks → ⊥
has_taken taken blocks first k from below is free = let no = free k from below in cc

either : (first blocks at : ℕ) → first + blocks ≤ at + 1 → (first + blocks ≤ at) ⊎ (first + blocks ≡ at + 1)
either first blocks at le = grind arith

pub searches_taken : (taken : List Bool) (blocks free at : ℕ) → get_or taken at false ≡ true → 1 ≤ blocks → Searches taken blocks free at → Searches taken blocks 0 (at + 1)
searches_taken taken blocks free at is some so_far = record {
  few = omega (arith, some);
  reached = omega arith;
  run = λ k over below. absurd (omega (arith, over, below));
  before = λ k same. let k_is : k ≡ at = omega (arith, same) in rw k_is is;
  none = λ first within frees. none_at first (either first blocks at within) frees;
}
  where
    none_at : (first : ℕ) → (first + blocks ≤ at) ⊎ (first + blocks ≡ at + 1) → AreFree taken first blocks → ⊥
    none_at first (inl le) frees = so_far.none first le frees
    none_at first (inr same) frees = has_taken taken blocks first at (omega (arith, same, some)) (omega (arith, same)) is frees

last_or_before : (k at : ℕ) → k < at + 1 → (k ≡ at) ⊎ (k < at)
last_or_before k at below = grind arith

pub searches_free : (taken : List Bool) (blocks free at : ℕ) → get_or taken at false ≡ false → free + 1 < blocks → Searches taken blocks free at → Searches taken blocks (free + 1) (at + 1)
searches_free taken blocks free at is few so_far =
    let reached = so_far.reached in
    record {
      few = few;
      reached = omega (arith, reached);
      run = λ k over below. run_at k over (last_or_before k at below);
      before = λ k same. so_far.before k (omega (arith, same));
      none = λ first within frees. none_at first (either first blocks at within) frees;
    }
  where
    run_at : (k : ℕ) → at + 1 ≤ k + (free + 1) → (k ≡ at) ⊎ (k < at) → get_or taken k false ≡ false
    run_at k over (inl same) = rw same is
    run_at k over (inr below) = so_far.run k (omega (arith, over)) below

    none_at : (first : ℕ) → (first + blocks ≤ at) ⊎ (first + blocks ≡ at + 1) → AreFree taken first blocks → ⊥
    none_at first (inl le) frees = so_far.none first le frees
    none_at first (inr same) frees =
        let k : ℕ = at - (free + 1) in
        has_taken taken blocks first k (omega (arith, same, few)) (omega (arith, same, few)) (so_far.before k (omega (arith, same, few))) frees

pub found_run : (taken : List Bool) (blocks free at : ℕ) → get_or taken at false ≡ false → free + 1 ≡ blocks → Searches taken blocks free at → AreFree taken (at - (blocks - 1)) blocks
found_run taken blocks free at is full so_far k from below =
    let reached = so_far.reached in
    run_at k (omega (arith, from, full, reached)) (last_or_before k at (omega (arith, below, full, reached)))
  where
    run_at : (k : ℕ) → at ≤ k + free → (k ≡ at) ⊎ (k < at) → get_or taken k false ≡ false
    run_at k over (inl same) = rw same is
    run_at k over (inr earlier) = so_far.run k over earlier
