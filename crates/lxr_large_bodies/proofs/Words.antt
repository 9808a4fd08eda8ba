-- The words of a run of blocks, where words elsewhere are written.
use Rattle.std.proofs.Common.{◌≡◌, ◌≢◌, ℕ, zero, suc, ◌+◌, ◌-◌, ◌*◌, ◌<◌, ◌≤◌, ◌⊎◌, inl, inr, refl, sym, ap, ◌∙◌, arith, List, [], ◌∷◌, ◌++◌, length, get_or, set, take, drop, replicate, None, length-set, length-append}
use Rattle.std.specs.Prelude.{slice_get}
use Rattle.std.proofs.lemmas.List.{drop-take, ext_get_or, get_or-drop, get_or-replicate, get_or-set_other, get_or-take, length-drop, length-take-le, drop-set-add}
use Rattle.std.proofs.Math.Seq.{take-set-lt}
use Rattle.lxr_large_bodies.specs.Entries.{ClearsBlocks, words_in}

pub take_take : {X : Type 0} (c m : ℕ) (xs : List X) → c ≤ m → take c (take m xs) ≡ take c xs
take_take zero m [] le = refl
take_take zero zero (x ∷ xs) le = refl
take_take zero (suc m) (x ∷ xs) le = refl
take_take (suc c) zero xs le = absurd (omega (arith, le))
take_take (suc c) (suc m) [] le = refl
take_take (suc c) (suc m) (x ∷ xs) le = ap (λ (ys : List _). x ∷ ys) (take_take c m xs (omega (arith, le)))

pub drop_drop : {X : Type 0} (i s : ℕ) (xs : List X) → drop i (drop s xs) ≡ drop (s + i) xs
drop_drop i zero [] = let e : zero + i ≡ i = omega arith in rw e refl
drop_drop i zero (x ∷ xs) = let e : zero + i ≡ i = omega arith in rw e refl
drop_drop zero (suc s) [] = let e : suc s + zero ≡ suc s = omega arith in rw e refl
drop_drop (suc i) (suc s) [] = let e : suc s + suc i ≡ suc (s + suc i) = omega arith in rw e refl
drop_drop i (suc s) (x ∷ xs) = let e : suc s + i ≡ suc (s + i) = omega arith in rw e (drop_drop i s xs)

-- words inside a run
pub take_inside : (ws : List ℕ) (s n i c : ℕ) → i + c ≤ n → take c (drop i (take n (drop s ws))) ≡ take c (drop (s + i) ws)
take_inside ws s n i c le =
    let m : ℕ = n - i in
    let whole : n ≡ i + m = omega (arith, le) in
    rw whole (rw (drop-take i m (drop s ws), take_take c m (drop i (drop s ws)) (omega (arith, le)), drop_drop i s ws) refl)

pub get_take : (i n : ℕ) (ws : List ℕ) → i < n → slice_get (take n ws) i ≡ slice_get ws i
get_take i zero ws lt = absurd (omega (arith, lt))
get_take i (suc n) [] lt = refl
get_take zero (suc n) (w ∷ ws) lt = refl
get_take (suc i) (suc n) (w ∷ ws) lt = get_take i n ws (omega (arith, lt))

pub get_drop : (i s : ℕ) (ws : List ℕ) → slice_get (drop s ws) i ≡ slice_get ws (s + i)
get_drop i zero [] = refl
get_drop i (suc s) [] = refl
get_drop i zero (w ∷ ws) = let e : zero + i ≡ i = omega arith in rw e refl
get_drop i (suc s) (w ∷ ws) = let e : suc s + i ≡ suc (s + i) = omega arith in rw e (get_drop i s ws)

pub get_inside : (ws : List ℕ) (s n i : ℕ) → i < n → slice_get (take n (drop s ws)) i ≡ slice_get ws (s + i)
get_inside ws s n i lt = get_take i n (drop s ws) lt ∙ get_drop i s ws

pub get_outside : (ws : List ℕ) (n i : ℕ) → n ≤ i → slice_get (take n ws) i ≡ None
get_outside ws zero i le = none ws
  where
    none : (ws : List ℕ) → slice_get (take 0 ws) i ≡ None
    none [] = refl
    none (w ∷ ws) = refl
get_outside [] (suc n) i le = refl
get_outside (w ∷ ws) (suc n) zero le = absurd (omega (arith, le))
get_outside (w ∷ ws) (suc n) (suc i) le = get_outside ws n i (omega (arith, le))

-- how many words a run has
pub run_length : (ws : List ℕ) (s n : ℕ) → s + n ≤ length ws → length (take n (drop s ws)) ≡ n
run_length ws s n le = length-take-le n (drop s ws) (let l = length-drop s ws in omega (arith, l, le))

-- from one word on and below another the words are others now, and those before and behind them as they were
pub record KeepsOthers (old new : List ℕ) (from end : ℕ) : Type 0 where
  pub longer : length old ≤ length new
  pub each : (i : ℕ) → i < length old → (i < from) ⊎ (end ≤ i) → get_or new i 0 ≡ get_or old i 0

-- a run that lies apart from them is as it was
pub run_kept : (old new : List ℕ) (from end s n : ℕ) → KeepsOthers old new from end → s + n ≤ length old → (s + n ≤ from) ⊎ (end ≤ s) → take n (drop s new) ≡ take n (drop s old)
run_kept old new from end s n keeps le apart =
    let longer = keeps.longer in
    let old_length = run_length old s n le in
    let new_length = run_length new s n (omega (arith, le, longer)) in
    ext_get_or 0 (take n (drop s new)) (take n (drop s old)) (new_length ∙ sym old_length)
    (λ i lt. let below : i < n = rw new_length at lt in
    get_or-take n (drop s new) i 0 below ∙ get_or-drop s new i 0 ∙ keeps.each (s + i) (omega (arith, below, le)) (side i below apart) ∙ sym (get_or-drop s old i 0) ∙ sym (get_or-take n (drop s old) i 0 below))
  where
    side : (i : ℕ) → i < n → (s + n ≤ from) ⊎ (end ≤ s) → (s + i < from) ⊎ (end ≤ s + i)
    side i below (inl before) = inl (omega (arith, below, before))
    side i below (inr behind) = inr (omega (arith, behind))

-- ---- one word

pub set_keeps : (ws : List ℕ) (at v : ℕ) → KeepsOthers ws (set ws at v) at (at + 1)
set_keeps ws at v = record {
  longer = let same = length-set ws at v in omega (arith, same);
  each = λ i lt apart. get_or-set_other ws at i v 0 (other i apart);
}
  where
    other : (i : ℕ) → (i < at) ⊎ (at + 1 ≤ i) → i ≢ at
    other i (inl lt) = λ e. absurd (omega (arith, lt, e))
    other i (inr le) = λ e. absurd (omega (arith, le, e))

pub set_inside : (ws : List ℕ) (s n i v : ℕ) → i < n → take n (drop s (set ws (s + i) v)) ≡ set (take n (drop s ws)) i v
set_inside ws s n i v lt = ap (take n) (drop-set-add s ws i v) ∙ take-set-lt n (drop s ws) i v lt

-- ---- words written over others

abbrev pub spliced : List ℕ → ℕ → List ℕ → List ℕ
spliced ws at more = take at ws ++ (more ++ drop (at + length more) ws)

pub spliced_length : (ws : List ℕ) (at : ℕ) (more : List ℕ) → at + length more ≤ length ws → length (spliced ws at more) ≡ length ws
spliced_length ws at more le =
    let a = length-take-le at ws (omega (arith, le)) in
    let b = length-drop (at + length more) ws in
    length-append (take at ws) (more ++ drop (at + length more) ws) ∙ (let c = length-append more (drop (at + length more) ws) in omega (arith, a, b, c, le))

get_front : (xs ys : List ℕ) (i : ℕ) → i < length xs → get_or (xs ++ ys) i 0 ≡ get_or xs i 0
get_front [] ys i lt = absurd (omega (arith, lt))
get_front (x ∷ xs) ys zero lt = refl
get_front (x ∷ xs) ys (suc i) lt = get_front xs ys i (omega (arith, lt))

get_behind : (xs ys : List ℕ) (i : ℕ) → length xs ≤ i → get_or (xs ++ ys) i 0 ≡ get_or ys (i - length xs) 0
get_behind [] ys i le = let none : List ℕ = [] in let e : i - length none ≡ i = omega arith in rw e refl
get_behind (x ∷ xs) ys zero le = absurd (omega (arith, le))
get_behind (x ∷ xs) ys (suc i) le = let e : suc i - suc (length xs) ≡ i - length xs = omega arith in rw e (get_behind xs ys i (omega (arith, le)))

pub spliced_keeps : (ws : List ℕ) (at : ℕ) (more : List ℕ) → at + length more ≤ length ws → KeepsOthers ws (spliced ws at more) at (at + length more)
spliced_keeps ws at more le = record {
  longer = let same = spliced_length ws at more le in omega (arith, same);
  each = each;
}
  where
    front : length (take at ws) ≡ at
    front = length-take-le at ws (omega (arith, le))

    each : (i : ℕ) → i < length ws → (i < at) ⊎ (at + length more ≤ i) → get_or (spliced ws at more) i 0 ≡ get_or ws i 0
    each i lt (inl before) = get_front (take at ws) (more ++ drop (at + length more) ws) i (rw front before) ∙ get_or-take at ws i 0 before
    each i lt (inr behind) =
        let first = get_behind (take at ws) (more ++ drop (at + length more) ws) i (omega (arith, front, behind)) in
        let second = get_behind more (drop (at + length more) ws) (i - length (take at ws)) (omega (arith, front, behind)) in
        let third = get_or-drop (at + length more) ws (i - length (take at ws) - length more) 0 in
        let index : at + length more + (i - length (take at ws) - length more) ≡ i = omega (arith, front, behind) in
        first ∙ second ∙ third ∙ ap (λ (k : ℕ). get_or ws k 0) index

pub spliced_inside : (ws : List ℕ) (s n i : ℕ) (more : List ℕ) → i + length more ≤ n → s + n ≤ length ws → take n (drop s (spliced ws (s + i) more)) ≡ spliced (take n (drop s ws)) i more
spliced_inside ws s n i more le within =
    let whole = spliced_length ws (s + i) more (omega (arith, le, within)) in
    let left = run_length (spliced ws (s + i) more) s n (omega (arith, whole, within)) in
    let run = run_length ws s n within in
    let right = spliced_length (take n (drop s ws)) i more (omega (arith, run, le)) in
    ext_get_or 0 (take n (drop s (spliced ws (s + i) more))) (spliced (take n (drop s ws)) i more) (left ∙ sym (right ∙ run))
    (λ k lt. let below : k < n = rw left at lt in
    get_or-take n (drop s (spliced ws (s + i) more)) k 0 below ∙ get_or-drop s (spliced ws (s + i) more) k 0 ∙ each k below (where_is k))
  where
    where_is : (k : ℕ) → (k < i) ⊎ ((i + length more ≤ k) ⊎ ((i ≤ k) × (k < i + length more)))
    where_is k = grind arith

    run_is : length (take n (drop s ws)) ≡ n
    run_is = run_length ws s n within

    back : (k : ℕ) → k < n → get_or ws (s + k) 0 ≡ get_or (take n (drop s ws)) k 0
    back k below = sym (get_or-drop s ws k 0) ∙ sym (get_or-take n (drop s ws) k 0 below)

    outer : length (take (s + i) ws) ≡ s + i
    outer = length-take-le (s + i) ws (omega (arith, le, within))

    inner : length (take i (take n (drop s ws))) ≡ i
    inner = length-take-le i (take n (drop s ws)) (omega (arith, le, run_is))

    each : (k : ℕ) → k < n → (k < i) ⊎ ((i + length more ≤ k) ⊎ ((i ≤ k) × (k < i + length more))) → get_or (spliced ws (s + i) more) (s + k) 0 ≡ get_or (spliced (take n (drop s ws)) i more) k 0
    each k below (inl before) =
        (spliced_keeps ws (s + i) more (omega (arith, le, within))).each (s + k) (omega (arith, below, within)) (inl (omega (arith, before)))
        ∙ back k below
        ∙ sym ((spliced_keeps (take n (drop s ws)) i more (omega (arith, run_is, le))).each k (omega (arith, run_is, below)) (inl before))
    each k below (inr (inl behind)) =
        (spliced_keeps ws (s + i) more (omega (arith, le, within))).each (s + k) (omega (arith, below, within)) (inr (omega (arith, behind)))
        ∙ back k below
        ∙ sym ((spliced_keeps (take n (drop s ws)) i more (omega (arith, run_is, le))).each k (omega (arith, run_is, below)) (inr behind))
    each k below (inr (inr between)) =
        let from = between.0 in
        let to = between.1 in
        let a = get_behind (take (s + i) ws) (more ++ drop (s + i + length more) ws) (s + k) (omega (arith, outer, from)) in
        let b = get_front more (drop (s + i + length more) ws) (s + k - length (take (s + i) ws)) (omega (arith, outer, from, to)) in
        let d = get_behind (take i (take n (drop s ws))) (more ++ drop (i + length more) (take n (drop s ws))) k (omega (arith, inner, from)) in
        let e = get_front more (drop (i + length more) (take n (drop s ws))) (k - length (take i (take n (drop s ws)))) (omega (arith, inner, from, to)) in
        let index : s + k - length (take (s + i) ws) ≡ k - length (take i (take n (drop s ws))) = omega (arith, inner, outer, from) in
        a ∙ b ∙ ap (λ (j : ℕ). get_or more j 0) index ∙ sym e ∙ sym d

-- ---- blocks that are cleared

pub clears_keep : (old new : List ℕ) (first blocks : ℕ) → ClearsBlocks old new first blocks → KeepsOthers old new (4096 * first) (4096 * (first + blocks))
clears_keep old new first blocks clears = record { longer = clears.longer; each = λ i lt apart. clears.others i 0 lt apart }

pub clears_run : (old new : List ℕ) (first blocks : ℕ) → ClearsBlocks old new first blocks → words_in new first blocks ≡ replicate (4096 * blocks) 0
clears_run old new first blocks clears =
    let reaches = clears.reaches in
    let many = run_length new (4096 * first) (4096 * blocks) (omega (arith, reaches)) in
    ext_get_or 0 (words_in new first blocks) (replicate (4096 * blocks) 0) (many ∙ sym (zeros_length (4096 * blocks)))
    (λ i lt. let below : i < 4096 * blocks = rw many at lt in
    get_or-take (4096 * blocks) (drop (4096 * first) new) i 0 below ∙ get_or-drop (4096 * first) new i 0 ∙ clears.zeros i 0 below ∙ sym (get_or-replicate (4096 * blocks) i 0 0 below))
  where
    nought : ℕ
    nought = 0

    zeros_length : (n : ℕ) → length (replicate n nought) ≡ n
    zeros_length zero = refl
    zeros_length (suc n) = ap suc (zeros_length n)

-- zeros are added at the end, up to a length
pub record Grows (old new : List ℕ) (end : ℕ) : Type 0 where
  pub longer : length old ≤ length new
  pub fits : (length new ≤ length old) ⊎ (length new ≤ end)
  pub same : (i d : ℕ) → i < length old → get_or new i d ≡ get_or old i d

pub grows_not : (ws : List ℕ) (end : ℕ) → Grows ws ws end
grows_not ws end = record { longer = omega arith; fits = inl (omega arith); same = λ i d lt. refl }

pub grows_on : (old new : List ℕ) (end : ℕ) → length new < end → Grows old new end → Grows old (new ++ 0 ∷ []) end
grows_on old new end lt so_far =
    let longer = so_far.longer in
    let more = length-append new (0 ∷ []) in
    record {
      longer = omega (arith, longer, more);
      fits = inr (omega (arith, lt, more));
      same = λ i d within. get_front_or new (0 ∷ []) i d (omega (arith, longer, within)) ∙ so_far.same i d within;
    }
  where
    get_front_or : (xs ys : List ℕ) (i d : ℕ) → i < length xs → get_or (xs ++ ys) i d ≡ get_or xs i d
    get_front_or [] ys i d lt = absurd (omega (arith, lt))
    get_front_or (x ∷ xs) ys zero d lt = refl
    get_front_or (x ∷ xs) ys (suc i) d lt = get_front_or xs ys i d (omega (arith, lt))
