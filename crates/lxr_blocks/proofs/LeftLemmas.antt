-- A run's bits are taken out of a mask: the rest are the lines that are free once the run is handed out.
use Rattle.std.proofs.Common.{◌≡◌, ℕ, ◌+◌, ◌-◌, ◌*◌, ◌^◌, ◌<◌, ◌≤◌, sym, ap, ◌∙◌, inl, inr, ◌⊎◌, arith, cond, Bool, true, false}
use Rattle.std.specs.Prelude.{◌&&◌, if◌then◌else◌, not}
use Rattle.std.specs.Int.{bit_at, bit_not, w128}
use Rattle.std.specs.Int.Bits.{bit_and}
use Rattle.std.proofs.lemmas.Bool.Decides.{leb_tells}
use Rattle.std.proofs.Math.Pow.{pow_mono, pow_pos}
use Rattle.std.proofs.lemmas.Nat.Bits.{bit_at-lt, bit_at_and, bit_at_mask_above, bit_at_mask_below, bit_at_mask_inside, bit_at_not}
use Rattle.lxr_layout.specs.declared.TheConstants.{GRANULES_IN_LINE, LINES_IN_BLOCK}
use Rattle.lxr_layout.specs.declared.runs.Run.{Run}
use Rattle.lxr_tables.proofs.BitLemmas.{one_is_set, set_is_one}
use Rattle.lxr_image.specs.Tables.{Tables}
use Rattle.lxr_blocks.specs.Lines.{are_zero, free_in}
use Rattle.lxr_blocks.specs.Masks.{IsMask}
use Rattle.lxr_blocks.specs.Handing.{first_line, is_between, with_lines_out}
use Rattle.lxr_blocks.proofs.HandedLemmas.{between, outside}

-- a number is between two others, or below one or not below the other
abbrev Sides : ℕ → ℕ → ℕ → Type 0
Sides a b i = ((a ≤ i) × (i < b)) ⊎ ((i < a) ⊎ (b ≤ i))

sides : (a b i : ℕ) → Sides a b i
sides a b i = elim (leb_tells a i) [
  | inr low ↦ inr (inl low.1)
  | inl low ↦ elim (leb_tells b i) [
    | inl high ↦ inr (inr high.1)
    | inr high ↦ inl (low.1, high.1)
  ]
]

-- the bits from one on are no fewer than those from a later one on
pub later_fewer : (line end : ℕ) → line ≤ end → end ≤ 128 → 2 ^ 128 - 2 ^ end ≤ 2 ^ 128 - 2 ^ line
later_fewer line end up within = let grows : 2 ^ line ≤ 2 ^ end = pow_mono up in omega arith

-- the bits of a run's lines
run_mask : (line end : ℕ) → line ≤ end → end ≤ 128 → 2 ^ 128 - 2 ^ line - (2 ^ 128 - 2 ^ end) ≡ 2 ^ end - 2 ^ line
run_mask line end up within =
    let grows : 2 ^ line ≤ 2 ^ end = pow_mono up in let fits : 2 ^ end ≤ 2 ^ 128 = pow_mono within in omega arith

-- a mask without the bits from one to below another
without_bits : (mask line end i : ℕ) → line ≤ end → end ≤ 128 → i < 128 → bit_at (bit_and mask (bit_not w128 (2 ^ end - 2 ^ line))) i ≡ (if is_between line end i then 0 else bit_at mask i)
without_bits mask line end i up within inside =
    let fits : 2 ^ end ≤ 2 ^ 128 = pow_mono within in
    let some : 1 ≤ 2 ^ line = pow_pos line in
    let both = bit_at_and mask (bit_not w128 (2 ^ end - 2 ^ line)) i in
    let turned = bit_at_not w128 (2 ^ end - 2 ^ line) i (omega arith) inside in
    let bit = bit_at-lt mask i in
    elim (sides line end i) [
      | inl in_run ↦
          let one = bit_at_mask_inside line end i in_run.0 in_run.1 in
          (let none : bit_at (bit_and mask (bit_not w128 (2 ^ end - 2 ^ line))) i ≡ 0 = omega arith in none) ∙ ap (λ b. cond b 0 (bit_at mask i)) (sym (between line end i in_run.0 in_run.1))
      | inr (inl low) ↦
          let none = bit_at_mask_below line end i low in
          (let same : bit_at (bit_and mask (bit_not w128 (2 ^ end - 2 ^ line))) i ≡ bit_at mask i = omega arith in same) ∙ ap (λ b. cond b 0 (bit_at mask i)) (sym (outside line end i (inl low)))
      | inr (inr high) ↦
          let none = bit_at_mask_above line end i high in
          (let same : bit_at (bit_and mask (bit_not w128 (2 ^ end - 2 ^ line))) i ≡ bit_at mask i = omega arith in same) ∙ ap (λ b. cond b 0 (bit_at mask i)) (sym (outside line end i (inr high)))
    ]

pub without_run_bits : (mask line end i : ℕ) → line ≤ end → end ≤ 128 → i < 128
    → bit_at (bit_and mask (bit_not w128 (2 ^ 128 - 2 ^ line - (2 ^ 128 - 2 ^ end)))) i ≡ (if is_between line end i then 0 else bit_at mask i)
without_run_bits mask line end i up within inside =
    ap (λ m. bit_at (bit_and mask (bit_not w128 m)) i) (run_mask line end up within) ∙ without_bits mask line end i up within inside

-- what is left of a mask of free lines is the mask of the lines that are free behind handing out
pub left_mask : (t : Tables) (r : Run) (mask left : ℕ) → IsMask mask (free_in t r.block)
    → ((i : ℕ) → i < LINES_IN_BLOCK → bit_at left i ≡ (if is_between r.line (r.line + r.lines) i then 0 else bit_at mask i))
    → IsMask left (free_in (with_lines_out t (first_line r) (first_line r + r.lines)) r.block)
left_mask t r mask left is told i within =
    let n : ℕ = LINES_IN_BLOCK * r.block + i in
    let zeros : Bool = are_zero t.counts (GRANULES_IN_LINE * n) GRANULES_IN_LINE in
    let first : ℕ = first_line r in
    elim (sides r.line (r.line + r.lines) i) [
      | inl in_run ↦
          let none : bit_at left i ≡ 0 = told i within ∙ ap (λ b. cond b 0 (bit_at mask i)) (between r.line (r.line + r.lines) i in_run.0 in_run.1) in
          let low = in_run.0 in let high = in_run.1 in
          let taken : is_between first (first + r.lines) n ≡ true = between first (first + r.lines) n (omega arith) (omega arith) in (
            (λ set. let one = set_is_one left i set in absurd (omega arith)),
            (λ free. let no : false ≡ true = ap (λ b. not (cond b true (t.outs n)) && zeros) (sym taken) ∙ free in cc),
          )
      | inr out ↦
          let same : bit_at left i ≡ bit_at mask i = told i within ∙ ap (λ b. cond b 0 (bit_at mask i)) (outside r.line (r.line + r.lines) i out) in
          let stays : is_between first (first + r.lines) n ≡ false = elim out [ inl low ↦ outside first (first + r.lines) n (inl (omega (arith, low))) | inr high ↦ outside first (first + r.lines) n (inr (omega (arith, high))) ] in
          let free_same : (not (cond (is_between first (first + r.lines) n) true (t.outs n)) && zeros) ≡ free_in t r.block i = ap (λ b. not (cond b true (t.outs n)) && zeros) stays in (
            (λ set. free_same ∙ (is i within).0 (one_is_set mask i (sym same ∙ set_is_one left i set))),
            (λ free. one_is_set left i (same ∙ set_is_one mask i ((is i within).1 (sym free_same ∙ free)))),
          )
    ]
