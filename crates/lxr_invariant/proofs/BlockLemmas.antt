-- What is known of Chosen blocks and of the world's block stays where each block keeps its state, and lines that are handed
-- out leave other blocks as free as they were.
use Rattle.std.proofs.Common.{◌≡◌, ◌≢◌, ℕ, zero, suc, ◌+◌, ◌-◌, ◌*◌, ◌<◌, ◌≤◌, refl, sym, ap, subst, ◌∙◌, inl, inr, ◌⊎◌, arith, cond, Bool, true, false, nat_eq}
use Rattle.std.specs.Prelude.{◌&&◌, ◌==◌, not, IsTrue, Option, None, if◌then◌else◌}
use Rattle.std.proofs.lemmas.Bool.Decides.{eqb_tells}
use Rattle.lxr_layout.specs.declared.TheConstants.{GRANULES_IN_LINE, LINES_IN_BLOCK, TRACING_WORD}
use Rattle.lxr_layout.specs.declared.limits.Limits.{Limits}
use Rattle.lxr_layout.specs.declared.runs.Run.{Run}
use Rattle.lxr_image.specs.Tables.{Tables}
use Rattle.lxr_blocks.specs.declared.states.BlockState.{BlockState}
use Rattle.lxr_blocks.specs.declared.states.BlockState.TheVariants.{Chosen, Free, Partly, Whole, World}
use Rattle.lxr_blocks.specs.Lines.{IsFreeRun, are_zero, free_count, free_in, is_free}
use Rattle.lxr_blocks.specs.States.{KeepsState, is_fixed, state_by_lines, state_in, state_of}
use Rattle.lxr_blocks.specs.Handing.{first_line, is_between, with_lines_out}
use Rattle.lxr_model.specs.Moments.{Trace}
use Rattle.lxr_invariant.specs.Lines.{ChosenNeedTrace, HasBlocks, NoneChosen, is_chosen}
use Rattle.lxr_invariant.proofs.FrameLemmas.{chosen_same, need_same}

-- ---- kept states

-- a state that is neither Chosen nor World is not Chosen
unfixed_unchosen : (s : BlockState) → is_fixed s ≡ false → is_chosen s ≡ false
unfixed_unchosen Free e = refl
unfixed_unchosen Partly e = refl
unfixed_unchosen Whole e = refl
unfixed_unchosen Chosen e = absurd (cc)
unfixed_unchosen World e = refl

-- where states are those of other tables, a block keeps its state where it does there
pub keeps_state_still : (t u v w : Tables) (b : ℕ) → v.states ≡ t.states → w.states ≡ u.states → KeepsState t u b → KeepsState v w b
keeps_state_still t u v w b before after is =
    subst (λ f. (w.states b ≡ f b) ⊎ ((is_fixed (state_of (f b)) ≡ false) × (is_fixed (state_in w b) ≡ false))) (sym before)
    (subst (λ f. (f b ≡ t.states b) ⊎ ((is_fixed (state_in t b) ≡ false) × (is_fixed (state_of (f b)) ≡ false))) (sym after) is)

-- a block is Chosen exactly where it was
still_chosen : (t u : Tables) (b : ℕ) → KeepsState t u b → is_chosen (state_in u b) ≡ is_chosen (state_in t b)
still_chosen t u b (inl e) = ap (λ k. is_chosen (state_of k)) e
still_chosen t u b (inr (was, now)) = unfixed_unchosen (state_in u b) now ∙ sym (unfixed_unchosen (state_in t b) was)

-- a block that isn't in a fixed state doesn't get into it
pub still_not : (t u : Tables) (b : ℕ) (s : BlockState) → is_fixed s ≡ true → KeepsState t u b → state_in t b ≢ s → state_in u b ≢ s
still_not t u b s fixed (inl e) not_s h = not_s (sym (ap state_of e) ∙ h)
still_not t u b s fixed (inr (was, now)) not_s h = let k : true ≡ false = sym fixed ∙ ap is_fixed (sym h) ∙ now in cc

-- the block of the world stays World
still_world : (t u : Tables) → KeepsState t u 0 → state_in t 0 ≡ World → state_in u 0 ≡ World
still_world t u (inl e) h = ap state_of e ∙ h
still_world t u (inr (was, now)) h = absurd (let k : true ≡ false = ap is_fixed (sym h) ∙ was in cc)

-- the same blocks are Chosen, and block 0 alone is World
pub blocks_kept : (t u : Tables) (l : Limits) (trace : Option Trace) → ((b : ℕ) → KeepsState t u b) → u.cursors TRACING_WORD ≡ t.cursors TRACING_WORD → HasBlocks t l trace → HasBlocks u l trace
blocks_kept t u l trace states cursor is =
    let same = chosen_same t u l.blocks (λ b low. still_chosen t u b (states b)) in
    record {
      world = still_world t u (states 0) is.world;
      others = λ b low high. still_not t u b World refl (states b) (is.others b low high);
      few = subst (λ z. z ≤ l.evacuate) (sym same) is.few;
      chosen = need_same t u l.blocks trace same is.chosen;
      tracing = cursor ∙ is.tracing;
    }

-- ---- where no block is Chosen

-- none becomes Chosen
pub none_kept : (t u : Tables) (blocks : ℕ) → ((b : ℕ) → KeepsState t u b) → NoneChosen t blocks → NoneChosen u blocks
none_kept t u blocks states none = chosen_same t u blocks (λ b low. still_chosen t u b (states b)) ∙ none

-- a Chosen block counts
chosen_counts : (state : BlockState) → state ≡ Chosen → 1 ≤ (if is_chosen state then 1 else 0)
chosen_counts state is = subst (λ x. 1 ≤ (if is_chosen x then 1 else 0)) (sym is) (omega arith)

-- where none counts, none is Chosen
pub none_counted : (t : Tables) (blocks b : ℕ) → NoneChosen t blocks → b < blocks → state_in t b ≢ Chosen
none_counted t zero b none within is = absurd (omega arith)
none_counted t (suc k) b none within is = elim (eqb_tells b k) [
  | inl e ↦
      let here = chosen_counts (state_in t k) (sym (ap (state_in t) e.1) ∙ is) in
      absurd (omega (arith, here, none))
  | inr e ↦ let differ = e.1 in none_counted t k b (omega (arith, none)) (omega arith) is
]

-- no block is Chosen where no trace runs
pub none_chosen : (t : Tables) (l : Limits) (trace : Option Trace) (b : ℕ) → HasBlocks t l trace → trace ≡ None → b < l.blocks → state_in t b ≢ Chosen
none_chosen t l trace b has_blocks no_trace within = none_counted t l.blocks b (subst (ChosenNeedTrace t l.blocks) no_trace has_blocks.chosen) within

-- ---- free lines

-- a line of a free run is free
pub line_free : (t : Tables) (blocks : ℕ) (r : Run) (line : ℕ) → IsFreeRun t blocks r → first_line r ≤ line → line < first_line r + r.lines → IsTrue (is_free t line)
line_free t blocks r line free low high =
    let at : LINES_IN_BLOCK * r.block + (line - LINES_IN_BLOCK * r.block) ≡ line = omega (arith, low) in
    subst (λ z. IsTrue (is_free t z)) at (free.free (line - LINES_IN_BLOCK * r.block) (omega (arith, low)) (omega (arith, low, high)))

-- blocks with the same free lines have as many
counted_alike : (f h : ℕ → Bool) (n : ℕ) → ((i : ℕ) → i < n → f i ≡ h i) → free_count f n ≡ free_count h n
unfolding free_count
counted_alike f h zero same = refl
counted_alike f h (suc n) same =
    ap (λ c. c + cond (f n) 1 0) (counted_alike f h n (λ i below. same i (omega (arith, below)))) ∙ ap (λ b. free_count h n + cond b 1 0) (same n (omega arith))

-- and the same state by them
pub states_alike : (t u : Tables) (b : ℕ) → ((i : ℕ) → i < LINES_IN_BLOCK → free_in u b i ≡ free_in t b i) → state_by_lines u b ≡ state_by_lines t b
states_alike t u b same = ap (λ c. cond (c == LINES_IN_BLOCK) Free (cond (c == 0) Whole Partly)) (counted_alike (free_in u b) (free_in t b) LINES_IN_BLOCK same)

-- a line of another block is none of the run
off_lines : (block line lines b i : ℕ) → line + lines ≤ LINES_IN_BLOCK → i < LINES_IN_BLOCK → b ≢ block → is_between (LINES_IN_BLOCK * block + line) (LINES_IN_BLOCK * block + line + lines) (LINES_IN_BLOCK * b + i) ≡ false
off_lines block line lines b i within small differ = grind arith

-- the lines of another block are as free as before
pub other_lines : (t : Tables) (r : Run) (b i : ℕ) → r.line + r.lines ≤ LINES_IN_BLOCK → b ≢ r.block → i < LINES_IN_BLOCK → free_in (with_lines_out t (first_line r) (first_line r + r.lines)) b i ≡ free_in t b i
other_lines t r b i within differ small =
    ap (λ c. not (cond c true (t.outs (LINES_IN_BLOCK * b + i))) && are_zero t.counts (GRANULES_IN_LINE * (LINES_IN_BLOCK * b + i)) GRANULES_IN_LINE) (off_lines r.block r.line r.lines b i within small differ)

-- numbers that are told apart differ
pub other_number : (a b : ℕ) → nat_eq a b ≡ false → a ≢ b
other_number a b unlike same = grind arith
