-- States of blocks where lines of one of them are handed out.
use Rattle.std.proofs.Common.{◌≡◌, ◌≢◌, ℕ, ◌+◌, ◌≤◌, refl, sym, ap, ◌∙◌, cond, true, false, nat_eq}
use Rattle.lxr_layout.specs.declared.TheConstants.{LINES_IN_BLOCK}
use Rattle.lxr_layout.specs.declared.runs.Run.{Run}
use Rattle.lxr_image.specs.Tables.{Tables, changed}
use Rattle.lxr_blocks.specs.declared.states.BlockState.{BlockState}
use Rattle.lxr_blocks.specs.declared.states.BlockState.TheVariants.{Chosen, Free, Partly, Whole, World}
use Rattle.lxr_blocks.specs.States.{is_fixed, state_by_lines, state_in, state_number, state_of}
use Rattle.lxr_blocks.specs.Handing.{first_line, handed_out, with_lines_out}
use Rattle.lxr_invariant.specs.Lines.{HasStates}
use Rattle.lxr_invariant.proofs.BlockLemmas.{other_lines, other_number, states_alike}
use Rattle.lxr_invariant.proofs.EntryLemmas.{equal_numbers}

-- ---- states by lines

-- a state is what its number says
number_back : (s : BlockState) → state_of (state_number s) ≡ s
number_back Free = refl
number_back Partly = refl
number_back Whole = refl
number_back Chosen = refl
number_back World = refl

-- ---- lines are handed out

-- each block keeps to the state of its lines
pub handed_states : (t : Tables) (r : Run) (blocks : ℕ) → r.line + r.lines ≤ LINES_IN_BLOCK → HasStates t blocks → HasStates (handed_out t r) blocks
handed_states t r blocks within is b low =
    let v : Tables = with_lines_out t (first_line r) (first_line r + r.lines) in
    let new : ℕ = state_number (state_by_lines v r.block) in
    let other : b ≢ r.block → is_fixed (state_in t b) ≡ false → state_in t b ≡ state_by_lines v b = λ differ loose. is b low loose
    ∙ sym (states_alike t v b (λ i small. other_lines t r b i within differ small)) in
    elim (is_fixed (state_in t r.block)) as (λ c. is_fixed (state_in t r.block) ≡ c → is_fixed (state_of ((cond c t.states (changed t.states r.block new)) b)) ≡ false
    → state_of ((cond c t.states (changed t.states r.block new)) b) ≡ state_by_lines v b) [
      | true ↦ λ fixed loose. other (λ e. (let k : true ≡ false = sym fixed ∙ ap (λ z. is_fixed (state_in t z)) (sym e) ∙ loose in cc)) loose
      | false ↦ λ unfixed. elim (nat_eq b r.block) as (λ c. nat_eq b r.block ≡ c → is_fixed (state_of (cond c new (t.states b))) ≡ false → state_of (cond c new (t.states b)) ≡ state_by_lines v b) [
        | true ↦ λ e loose. number_back (state_by_lines v r.block) ∙ ap (state_by_lines v) (sym (equal_numbers b r.block e))
        | false ↦ λ e loose. other (other_number b r.block e) loose
      ] refl
    ] refl
