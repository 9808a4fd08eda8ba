-- The runs of a block: of lines at which none begins, how many there are, and that lines that are alike have the same runs.
use Rattle.std.proofs.Common.{◌≡◌, ℕ, zero, suc, ◌+◌, ◌-◌, ◌*◌, ◌<◌, ◌≤◌, refl, sym, ap, ◌∙◌, inl, inr, ◌⊎◌, arith, Bool, true, false, List, [], ◌∷◌, ◌++◌, length, length-append}
use Rattle.std.proofs.lemmas.List.{append-nil, length-map}
use Rattle.std.specs.Prelude.{◌↔◌, ◌&&◌, IsTrue, map, not, if◌then◌else◌}
use Rattle.std.proofs.lemmas.Bool.Decides.{eqb_tells}
use Rattle.lxr_layout.specs.declared.TheConstants.{LINES_IN_BLOCK}
use Rattle.lxr_layout.specs.declared.runs.Run.{Run}
use Rattle.lxr_layout.specs.Runs.{word_of_run}
use Rattle.lxr_image.specs.Runs.{begins_run, free_from, runs_below, words_of_runs}

-- lines at which no run begins add none
pub none_begin : (free : ℕ → Bool) (b from k : ℕ) → from ≤ k → ((i : ℕ) → from ≤ i → i < k → begins_run free i ≡ false) → runs_below free b k ≡ runs_below free b from
unfolding runs_below
none_begin free b from zero after none = let is : from ≡ 0 = omega arith in ap (runs_below free b) (sym is)
none_begin free b from (suc k) after none = elim (eqb_tells from (suc k)) [
  | inl e ↦ ap (runs_below free b) (sym e.1)
  | inr e ↦ let ne = e.1 in
      ap (λ x. runs_below free b k ++ (if x then (record { block = b; line = k; lines = free_from free k (LINES_IN_BLOCK - k) } ∷ []) else [])) (none k (omega arith) (omega arith))
      ∙ append-nil (runs_below free b k) ∙ none_begin free b from k (omega arith) (λ i h below. none i h (omega (arith, below)))
]

-- a line at which a run begins adds it
pub one_begins : (free : ℕ → Bool) (b k : ℕ) → begins_run free k ≡ true → runs_below free b (suc k) ≡ runs_below free b k ++ (record { block = b; line = k; lines = free_from free k (LINES_IN_BLOCK - k) } ∷ [])
unfolding runs_below
one_begins free b k begins = ap (λ x. runs_below free b k ++ (if x then (record { block = b; line = k; lines = free_from free k (LINES_IN_BLOCK - k) } ∷ []) else [])) begins

pub begins_none : (free : ℕ → Bool) (i : ℕ) → free i ≡ false → begins_run free i ≡ false
begins_none free zero taken = taken
begins_none free (suc i) taken = ap (λ x. x && not (free i)) taken

pub begins_no_more : (free : ℕ → Bool) (i : ℕ) → free i ≡ true → begins_run free (suc i) ≡ false
begins_no_more free i before = ap (λ x. free (suc i) && not x) before ∙ elim (free (suc i)) as (λ x. (x && false) ≡ false) [ true ↦ refl | false ↦ refl ]

pub first_listed : (free : ℕ → Bool) (b : ℕ) → runs_below free b 0 ≡ []
unfolding runs_below
first_listed free b = refl

either : (b : Bool) → (b ≡ true) ⊎ (b ≡ false)
either true = inl refl
either false = inr refl

begins_behind : (free : ℕ → Bool) (i : ℕ) → begins_run free (suc i) ≡ true → free i ≡ false
begins_behind free i begins = elim (either (free i)) [
  | inl before ↦ let none = begins_no_more free i before in cc
  | inr before ↦ before
]

begins_free : (free : ℕ → Bool) (i : ℕ) → begins_run free i ≡ true → free i ≡ true
begins_free free i begins = elim (either (free i)) [
  | inl here ↦ here
  | inr here ↦ let none = begins_none free i here in cc
]

abbrev AreFew : (ℕ → Bool) → ℕ → ℕ → Type 0
AreFew free b k = (2 * length (runs_below free b k) ≤ k + 1) × ((j : ℕ) → k ≡ suc j → free j ≡ false → 2 * length (runs_below free b k) ≤ k)

few_same : (free : ℕ → Bool) (b k : ℕ) → begins_run free k ≡ false → 2 * length (runs_below free b k) ≤ k + 1 → AreFew free b (suc k)
few_same free b k none few =
    let same : length (runs_below free b (suc k)) ≡ length (runs_below free b k) = ap length (none_begin free b k (suc k) (omega arith) (λ i h below. ap (begins_run free) (let z : i ≡ k = omega (arith, h, below) in z) ∙ none)) in
    (omega arith, λ _ _ _. omega arith)

few_more : (free : ℕ → Bool) (b k : ℕ) → begins_run free k ≡ true → 2 * length (runs_below free b k) ≤ k → AreFew free b (suc k)
few_more free b k begins few =
    let run : Run = record { block = b; line = k; lines = free_from free k (LINES_IN_BLOCK - k) } in
    let more : length (runs_below free b (suc k)) ≡ length (runs_below free b k) + 1 = ap length (one_begins free b k begins) ∙ length-append (runs_below free b k) (run ∷ []) in
    let here = begins_free free k begins in
    (omega arith, λ j is taken. let same : k ≡ j = omega (arith, is) in let there = ap free same in absurd (let z : true ≡ false = sym here ∙ there ∙ taken in cc z))

few_next : (free : ℕ → Bool) (b k : ℕ) → AreFew free b k → AreFew free b (suc k)
few_next free b zero few = elim (either (begins_run free 0)) [
  | inl begins ↦ let none : length (runs_below free b 0) ≡ 0 = ap length (first_listed free b) in few_more free b 0 begins (omega arith)
  | inr none ↦ few_same free b 0 none few.0
]
few_next free b (suc k) few = elim (either (begins_run free (suc k))) [
  | inl begins ↦ few_more free b (suc k) begins (few.1 k refl (begins_behind free k begins))
  | inr none ↦ few_same free b (suc k) none few.0
]

few_runs_below : (free : ℕ → Bool) (b k : ℕ) → AreFew free b k
few_runs_below free b zero =
    let none : length (runs_below free b 0) ≡ 0 = ap length (first_listed free b) in
    (omega arith, λ j is _. absurd (omega (arith, is)))
few_runs_below free b (suc k) = few_next free b k (few_runs_below free b k)

-- between two runs lies a line, so a block has no more than 64
pub few_runs : (free : ℕ → Bool) (b k : ℕ) → k ≤ LINES_IN_BLOCK → length (runs_below free b k) ≤ 64
few_runs free b k within = let few = (few_runs_below free b k).0 in omega arith

-- ---- lines that are alike

from_alike : (p q : ℕ → Bool) (k n : ℕ) → n + k ≤ LINES_IN_BLOCK → ((i : ℕ) → i < LINES_IN_BLOCK → p i ≡ q i) → free_from p n k ≡ free_from q n k
unfolding free_from
from_alike p q zero n within same = refl
from_alike p q (suc k) n within same =
    ap (λ x. if x then (suc (free_from p (n + 1) k)) else 0) (same n (omega arith))
    ∙ ap (λ m. if q n then (suc m) else 0) (from_alike p q k (n + 1) (omega arith) same)

begins_alike : (p q : ℕ → Bool) (i : ℕ) → i < LINES_IN_BLOCK → ((k : ℕ) → k < LINES_IN_BLOCK → p k ≡ q k) → begins_run p i ≡ begins_run q i
begins_alike p q zero within same = same 0 within
begins_alike p q (suc i) within same = ap (λ x. x && not (p i)) (same (suc i) within) ∙ ap (λ x. q (suc i) && not x) (same i (omega arith))

below_alike : (p q : ℕ → Bool) (b k : ℕ) → k ≤ LINES_IN_BLOCK → ((i : ℕ) → i < LINES_IN_BLOCK → p i ≡ q i) → runs_below p b k ≡ runs_below q b k
unfolding runs_below
below_alike p q b zero within same = refl
below_alike p q b (suc k) within same =
    ap (λ x. runs_below p b k ++ (if x then (record { block = b; line = k; lines = free_from p k (LINES_IN_BLOCK - k) } ∷ []) else [])) (begins_alike p q k (omega arith) same)
    ∙ ap (λ n. runs_below p b k ++ (if begins_run q k then (record { block = b; line = k; lines = n } ∷ []) else [])) (from_alike p q (LINES_IN_BLOCK - k) k (omega arith) same)
    ∙ ap (λ xs. xs ++ (if begins_run q k then (record { block = b; line = k; lines = free_from q k (LINES_IN_BLOCK - k) } ∷ []) else [])) (below_alike p q b k (omega arith) same)

bools_alike : (p q : Bool) → (IsTrue p ↔ IsTrue q) → p ≡ q
bools_alike true true is = refl
bools_alike true false is = sym (is.0 refl)
bools_alike false true is = is.1 refl
bools_alike false false is = refl

pub words_alike : (p q : ℕ → Bool) (b : ℕ) → ((i : ℕ) → i < LINES_IN_BLOCK → IsTrue (p i) ↔ IsTrue (q i)) → words_of_runs p b ≡ words_of_runs q b
words_alike p q b same = ap (map word_of_run) (below_alike p q b LINES_IN_BLOCK (omega arith) (λ i h. bools_alike (p i) (q i) (same i h)))

-- a block has no more words of runs than 64
pub few_words : (free : ℕ → Bool) (b : ℕ) → length (words_of_runs free b) ≤ 64
few_words free b = let same = length-map (runs_below free b LINES_IN_BLOCK) word_of_run in let few = few_runs free b LINES_IN_BLOCK (omega arith) in omega arith
