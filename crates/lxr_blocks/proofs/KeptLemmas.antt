-- Which lines are free, and which an object keeps.
use Rattle.std.proofs.Common.{◌≡◌, ◌≢◌, ℕ, ◌+◌, ◌-◌, ◌*◌, ◌/◌, ◌<◌, refl, ap, subst, ◌∙◌, inl, inr, arith, Bool, true, false}
use Rattle.std.specs.Prelude.{◌&&◌, IsTrue, not}
use Rattle.std.proofs.lemmas.Bool.Decides.{leb_tells}
use Rattle.lxr_layout.specs.declared.TheConstants.{GRANULES_IN_LINE}
use Rattle.lxr_image.specs.Settled.{IsFreeLine}
use Rattle.lxr_image.specs.Tables.{Tables}
use Rattle.lxr_blocks.specs.Lines.{are_zero, is_free}
use Rattle.lxr_blocks.specs.Kept.{FreeLineIsTold, KeptLineIsTaken}
use Rattle.lxr_blocks.proofs.LineLemmas.{all_zero, zero_each, zero_ends}

-- ---- free lines

and_false : (b : Bool) → (b && false) ≡ false
and_false true = refl
and_false false = refl

-- a count on a line keeps it
count_keeps : (t : Tables) (n i : ℕ) → i < 16 → t.counts (GRANULES_IN_LINE * n + i) ≢ 0 → is_free t n ≡ false
count_keeps t n i within here = ap (λ z. not (t.outs n) && z) (zero_ends t.counts (GRANULES_IN_LINE * n) i GRANULES_IN_LINE within here) ∙ and_false (not (t.outs n))

-- and so does its out bit
pub out_keeps : (t : Tables) (n : ℕ) → IsTrue (t.outs n) → is_free t n ≡ false
out_keeps t n out = ap (λ b. not b && are_zero t.counts (GRANULES_IN_LINE * n) GRANULES_IN_LINE) out

told_free : (t : Tables) (n : ℕ) (out : Bool) → t.outs n ≡ out → (not out && are_zero t.counts (GRANULES_IN_LINE * n) GRANULES_IN_LINE) ≡ true → IsFreeLine t n
told_free t n true is free = let no : false ≡ true = free in cc
told_free t n false is free = record { in_hand = is; uncounted = zero_each t.counts (GRANULES_IN_LINE * n) GRANULES_IN_LINE free }

pub free_line_is_told : FreeLineIsTold
free_line_is_told t n = (
  (λ free. told_free t n (t.outs n) refl free),
  (λ free. ap (λ b. not b && are_zero t.counts (GRANULES_IN_LINE * n) GRANULES_IN_LINE) free.in_hand ∙ all_zero t.counts (GRANULES_IN_LINE * n) GRANULES_IN_LINE free.uncounted),
)

-- a line that isn't free still isn't, where no count has become 0 and the line hasn't ceased to be out
pub still_taken : (t u : Tables) (l : ℕ) → ((k : ℕ) → u.counts k ≡ 0 → t.counts k ≡ 0) → (IsTrue (t.outs l) → IsTrue (u.outs l)) → is_free t l ≡ false → is_free u l ≡ false
still_taken t u l counts stays taken = elim (is_free u l) as (λ b. is_free u l ≡ b → b ≡ false) [
  | false ↦ λ e. refl
  | true ↦ λ e.
      let free = (free_line_is_told u l).0 e in
      let in_hand : t.outs l ≡ false = elim (t.outs l) as (λ b. t.outs l ≡ b → b ≡ false) [
        | false ↦ λ o. refl
        | true ↦ λ o. let out = stays o in let hand = free.in_hand in cc
      ] refl in
      let was = (free_line_is_told t l).1 (record { in_hand = in_hand; uncounted = λ k within. counts (GRANULES_IN_LINE * l + k) (free.uncounted k within) }) in
      cc
] refl

pub kept_line_is_taken : KeptLineIsTaken
kept_line_is_taken t g k n keeps before after = elim (leb_tells (g + 1) (GRANULES_IN_LINE * n)) [
  | inl c ↦ let low = c.1 in elim (keeps.further n (omega arith) after) [
    | inl marked ↦ count_keeps t n 0 (omega arith) (subst (λ x. t.counts x ≢ 0) (let z : GRANULES_IN_LINE * n ≡ GRANULES_IN_LINE * n + 0 = omega arith in z) marked)
    | inr out ↦ out_keeps t n out
  ]
  | inr c ↦ let high = c.1 in elim keeps.first [
    | inl counted ↦ count_keeps t n (g - GRANULES_IN_LINE * n) (omega arith) (subst (λ x. t.counts x ≢ 0) (let z : g ≡ GRANULES_IN_LINE * n + (g - GRANULES_IN_LINE * n) = omega arith in z) counted)
    | inr out ↦ out_keeps t n (subst (λ x. IsTrue (t.outs x)) (let z : g / GRANULES_IN_LINE ≡ n = omega arith in z) out)
  ]
]
