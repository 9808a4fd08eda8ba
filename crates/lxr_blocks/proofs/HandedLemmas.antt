-- A run is handed out: which lines are out then, and which states blocks have.
use Rattle.std.proofs.Common.{◌≡◌, ◌≢◌, ℕ, ◌+◌, ◌*◌, ◌/◌, ◌<◌, ◌≤◌, refl, sym, ap, subst, ◌∙◌, inl, inr, ◌⊎◌, arith, cond, Bool, true, false, nat_eq}
use Rattle.std.specs.Prelude.{◌==◌, IsTrue}
use Rattle.std.proofs.lemmas.Bool.Decides.{eqb_tells, leb_tells, nat_tests}
use Rattle.lxr_layout.specs.declared.TheConstants.{LINES_IN_BLOCK}
use Rattle.lxr_layout.specs.declared.runs.Run.{Run}
use Rattle.lxr_image.specs.Tables.{Tables, changed}
use Rattle.lxr_blocks.specs.declared.states.BlockState.TheVariants.{Free, Partly, Whole}
use Rattle.lxr_blocks.specs.Lines.{free_count, free_in, is_free}
use Rattle.lxr_blocks.specs.States.{KeepsFree, KeepsState, is_fixed, state_by_lines, state_in, state_number, state_of}
use Rattle.lxr_blocks.specs.Handing.{first_line, handed_out, is_between, with_lines_out}
use Rattle.lxr_blocks.proofs.KeptLemmas.{out_keeps}
use Rattle.lxr_blocks.proofs.LineLemmas.{taken_by_lines}
use Rattle.lxr_blocks.proofs.SweptLemmas.{read_back}

-- numbers from one on and below another are between them, and others aren't
pub between : (a b w : ℕ) → a ≤ w → w < b → is_between a b w ≡ true
between a b w low high = grind arith

pub outside : (a b w : ℕ) → (w < a) ⊎ (b ≤ w) → is_between a b w ≡ false
outside a b w (inl h) = grind arith
outside a b w (inr h) = grind arith

-- ---- lines

-- what is out stays so
pub still_out : (t : Tables) (r : Run) (k : ℕ) → IsTrue (t.outs k) → IsTrue ((handed_out t r).outs k)
still_out t r k out = elim (is_between (first_line r) (first_line r + r.lines) k) as (λ b. IsTrue (cond b true (t.outs k))) [
  | true ↦ refl
  | false ↦ out
]

-- the lines of the run are out
pub run_out : (t : Tables) (r : Run) (k : ℕ) → first_line r ≤ k → k < first_line r + r.lines → IsTrue ((handed_out t r).outs k)
run_out t r k low high = ap (λ b. cond b true (t.outs k)) (between (first_line r) (first_line r + r.lines) k low high)

-- a line that is out was so, or is one of the run
pub out_before : (t : Tables) (r : Run) (k : ℕ) → IsTrue ((handed_out t r).outs k) → IsTrue (t.outs k) ⊎ ((first_line r ≤ k) × (k < first_line r + r.lines))
out_before t r k out = elim (leb_tells (first_line r) k) [
  | inr h ↦ inl (subst (λ b. IsTrue (cond b true (t.outs k))) (outside (first_line r) (first_line r + r.lines) k (inl h.1)) out)
  | inl h ↦ elim (leb_tells (first_line r + r.lines) k) [
    | inl m ↦ inl (subst (λ b. IsTrue (cond b true (t.outs k))) (outside (first_line r) (first_line r + r.lines) k (inr m.1)) out)
    | inr m ↦ inr (h.1, m.1)
  ]
]

-- ---- states

-- a state by lines is neither Chosen nor World
by_lines : (a b : Bool) → is_fixed (state_of (state_number (cond a Free (cond b Whole Partly)))) ≡ false
by_lines true b = refl
by_lines false true = refl
by_lines false false = refl

-- each block keeps its state, or has that of its lines
pub handing_keeps_states : (t : Tables) (r : Run) (b : ℕ) → KeepsState t (handed_out t r) b
handing_keeps_states t r b =
    let v : Tables = with_lines_out t (first_line r) (first_line r + r.lines) in
    let new : ℕ = state_number (state_by_lines v r.block) in
    elim (is_fixed (state_in v r.block)) as (λ c. is_fixed (state_in t r.block) ≡ c
    → ((cond c t.states (changed t.states r.block new)) b ≡ t.states b) ⊎ ((is_fixed (state_in t b) ≡ false) × (is_fixed (state_of ((cond c t.states (changed t.states r.block new)) b)) ≡ false))) [
      | true ↦ λ e. inl refl
      | false ↦ λ e. elim (nat_eq b r.block) as (λ c. nat_eq b r.block ≡ c
          → (cond c new (t.states b) ≡ t.states b) ⊎ ((is_fixed (state_in t b) ≡ false) × (is_fixed (state_of (cond c new (t.states b))) ≡ false))) [
            | false ↦ λ f. inl refl
            | true ↦ λ f.
                let same : b ≡ r.block = grind arith in
                inr (ap (λ z. is_fixed (state_in t z)) same ∙ e, by_lines (free_count (free_in v r.block) LINES_IN_BLOCK == LINES_IN_BLOCK) (free_count (free_in v r.block) LINES_IN_BLOCK == 0))
          ] refl
    ] refl

-- a line of a run is one of its block
line_of_run : (b l n k : ℕ) → l + n ≤ LINES_IN_BLOCK → LINES_IN_BLOCK * b + l ≤ k → k < LINES_IN_BLOCK * b + l + n → k / LINES_IN_BLOCK ≡ b
line_of_run b l n k within low high = omega arith

-- a block of which lines are handed out isn't Free then, and no line of another is
pub handing_keeps_free : (t : Tables) (r : Run) → 1 ≤ r.lines → r.line + r.lines ≤ LINES_IN_BLOCK → KeepsFree t (handed_out t r)
handing_keeps_free t r some within b free = elim (eqb_tells b r.block) [
  | inl same ↦ absurd (not_free (subst (λ x. state_in (handed_out t r) x ≡ Free) same.1 free))
  | inr other ↦ (
    sym (elsewhere (is_fixed (state_in v r.block)) other.0) ∙ free,
    (λ line of_b out. elim (out_before t r line out) [
      | inl was ↦ was
      | inr within_run ↦ absurd (other.1 (sym of_b ∙ line_of_run r.block r.line r.lines line within within_run.0 within_run.1))
    ]),
  )
]
  where
    v : Tables
    v = with_lines_out t (first_line r) (first_line r + r.lines)

    new : ℕ
    new = state_number (state_by_lines v r.block)

    states_by : Bool → ℕ → ℕ
    states_by c = cond c t.states (changed t.states r.block new)

    elsewhere : (c : Bool) → nat_eq b r.block ≡ false → state_of (states_by c b) ≡ state_in t b
    elsewhere true other = refl
    elsewhere false other = ap (λ x. state_of (cond x new (t.states b))) other

    out_there : is_free v (LINES_IN_BLOCK * r.block + r.line) ≡ false
    out_there = out_keeps v (LINES_IN_BLOCK * r.block + r.line) (run_out t r (LINES_IN_BLOCK * r.block + r.line) (omega arith) (omega arith))

    there : (c : Bool) → is_fixed (state_in v r.block) ≡ c → state_of (states_by c r.block) ≢ Free
    there true fixed free = let no : true ≡ false = sym fixed ∙ ap is_fixed free in cc
    there false fixed free = taken_by_lines v r.block r.line (omega arith) out_there
        (sym (read_back (state_by_lines v r.block))
        ∙ sym (ap (λ x. state_of (cond x new (t.states r.block))) (let e : nat_eq r.block r.block ≡ true = grind (arith, nat_tests) in e)) ∙ free)

    not_free : state_in (handed_out t r) r.block ≢ Free
    not_free = there (is_fixed (state_in v r.block)) refl
