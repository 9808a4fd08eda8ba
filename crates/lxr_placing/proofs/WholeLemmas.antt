-- Each Free block is among those that are listed.
use Rattle.std.proofs.Common.{◌≡◌, ℕ, zero, suc, ◌<◌, sym, ap, subst, ◌∙◌, inl, inr, arith, List, [], ◌∷◌, ◌++◌, length, length-append}
use Rattle.std.proofs.Math.Seq.{get_or-append_seam}
use Rattle.std.proofs.lemmas.Bool.Decides.{eqb_tells}
use Rattle.std.proofs.lemmas.List.{get_or_append_left}
use Rattle.std.specs.Prelude.{slice_index, if◌then◌else◌}
use Rattle.lxr_layout.specs.declared.TheConstants.{FREE_BLOCK_COUNT}
use Rattle.lxr_layout.specs.declared.limits.Limits.{Limits}
use Rattle.lxr_image.specs.declared.space.Space.{Space}
use Rattle.lxr_image.specs.Tables.{Tables}
use Rattle.lxr_image.specs.Spaces.{tables_of}
use Rattle.lxr_blocks.specs.declared.states.BlockState.TheVariants.{Free}
use Rattle.lxr_blocks.specs.States.{state_in}
use Rattle.lxr_blocks.specs.Listing.{TurnsWithRest, block_frees, joined, listed_frees, lists_block, with_lists}
use Rattle.lxr_invariant.specs.Listed.{FreeBlocksAreListed}
use Rattle.lxr_placing.proofs.ListedLemmas.{written_read}

-- what one of the joined lists has alone, the joined list has at some index
pub in_joined : (f : ℕ → List ℕ) (n b x : ℕ) → b < n → f b ≡ x ∷ [] → (k : ℕ) × (k < length (joined f n)) × (slice_index (joined f n) k ≡ x)
unfolding joined
in_joined f zero b x below is = absurd (omega arith)
in_joined f (suc n) b x below is = elim (eqb_tells b n) [
  | inl e ↦
      let last : f n ≡ x ∷ [] = ap f (sym e.1) ∙ is in
      let longer = length-append (joined f n) (f n) in
      let one : length (f n) ≡ 1 = ap length last in (
        length (joined f n),
        omega arith,
        ap (λ ys. slice_index (joined f n ++ ys) (length (joined f n))) last ∙ get_or-append_seam (joined f n) x [] 0,
      )
  | inr e ↦
      let (k, within, there) = in_joined f n b x (let ne = e.1 in omega arith) is in
      let longer = length-append (joined f n) (f n) in
      (k, omega arith, get_or_append_left (joined f n) (f n) 0 k within ∙ there)
]

-- a Free block is listed once blocks are listed anew, whatever runs are
pub free_is_listed : (t : Tables) (runs : List ℕ) (blocks n : ℕ) → n < blocks → state_in t n ≡ Free
    → let after = with_lists t runs (listed_frees t blocks) in (k : ℕ) × (k < after.cursors FREE_BLOCK_COUNT) × (after.frees k ≡ n)
free_is_listed t runs blocks n below free =
    let (k, within, there) = in_joined (block_frees t) blocks n n below (ap (λ s. if lists_block s then (n ∷ []) else []) free) in
    (k, within, written_read t.frees (listed_frees t blocks) k within ∙ there)

pub all_listed_now : (s after : Space) (runs : List ℕ)
    → TurnsWithRest s after (with_lists (tables_of s) runs (listed_frees (tables_of s) s.limits.blocks)) 0 0
    → FreeBlocksAreListed after
all_listed_now s after runs lists n below free =
    let limits : after.limits ≡ s.limits = ap (λ z. z.limits) lists.rest in
    let low : n < s.limits.blocks = subst (λ (l : Limits). n < l.blocks) limits below in
    let was : state_in (tables_of s) n ≡ Free = subst (λ t. state_in t n ≡ Free) lists.tables free in
    subst (λ t. (k : ℕ) × (k < t.cursors FREE_BLOCK_COUNT) × (t.frees k ≡ n)) (sym lists.tables) (free_is_listed (tables_of s) runs s.limits.blocks n low was)
