-- What stays of a space where some of its tables are others: the rest of its lines, and what is kept.
use Rattle.std.proofs.Common.{◌≡◌, ◌≢◌, ℕ, ◌-◌, ◌/◌, ◌%◌, refl, sym, ap, subst, ◌∙◌, inl, inr, ◌⊎◌, arith, Bool, cond, true, false}
use Rattle.std.specs.Prelude.{◌&&◌, IsTrue, nat_eq}
use Rattle.lxr_layout.specs.declared.TheConstants.{GRANULES_IN_BLOCK, GRANULES_IN_LINE, STUCK}
use Rattle.lxr_image.specs.declared.space.Space.{Space}
use Rattle.lxr_image.specs.Spaces.{tables_of}
use Rattle.lxr_blocks.specs.declared.states.BlockState.TheVariants.{Chosen}
use Rattle.lxr_blocks.specs.Handing.{is_between}
use Rattle.lxr_blocks.specs.Kept.{KeepsGranules}
use Rattle.lxr_blocks.specs.Placing.{IsRest}
use Rattle.lxr_blocks.specs.States.{KeepsState, state_in}
use Rattle.lxr_blocks.proofs.KeptLemmas.{still_taken}
use Rattle.lxr_pause_promote.specs.Promotion.{marked_between}

-- no out bit, no state of a block and no part of the rest has changed
pub record KeepsLinesAndBlocks (a b : Space) : Type 0 where
  pub blocks : b.limits.blocks ≡ a.limits.blocks
  pub rest_next : b.rest_next ≡ a.rest_next
  pub rest_end : b.rest_end ≡ a.rest_end
  pub outs : (tables_of b).outs ≡ (tables_of a).outs
  pub states : (tables_of b).states ≡ (tables_of a).states

pub still_rest : (a b : Space) → KeepsLinesAndBlocks a b → IsRest a → IsRest b
still_rest a b same (inl none) = inl (same.rest_next ∙ none ∙ sym same.rest_end)
still_rest a b same (inr rest) =
    let next = same.rest_next in let end = same.rest_end in let blocks = same.blocks in let some = rest.some in let heap = rest.in_heap in
    inr (record {
      some = omega arith;
      in_heap = omega arith;
      in_line = ap (λ z. z / GRANULES_IN_LINE) next ∙ rest.in_line ∙ ap (λ z. (z - 1) / GRANULES_IN_LINE) (sym end);
      out = subst (λ z. IsTrue ((tables_of b).outs (z / GRANULES_IN_LINE))) (sym next) (subst (λ f. IsTrue (f (a.rest_next / GRANULES_IN_LINE))) (sym same.outs) rest.out);
      outside = subst (λ z. state_in (tables_of b) (z / GRANULES_IN_BLOCK) ≢ Chosen) (sym next)
          (subst (λ f. state_in (record (tables_of a) { states = f }) (a.rest_next / GRANULES_IN_BLOCK) ≢ Chosen) (sym same.states) rest.outside);
    })

pub still_kept : (a b : Space) (taken : ℕ → Type 0) → KeepsLinesAndBlocks a b → ((k : ℕ) → (tables_of b).counts k ≡ 0 → (tables_of a).counts k ≡ 0) → KeepsGranules a taken → KeepsGranules b taken
still_kept a b taken same counts keeps = record {
  lines = λ k has. still_taken (tables_of a) (tables_of b) (k / GRANULES_IN_LINE) counts (λ out. subst (λ f. IsTrue (f (k / GRANULES_IN_LINE))) (sym same.outs) out) (keeps.lines k has);
  rest = λ k has. elim (keeps.rest k has) [ inl h ↦ inl (let next = same.rest_next in omega (arith, h)) | inr h ↦ inr (let end = same.rest_end in omega (arith, h)) ];
}

pub keeps_state : (a b : Space) (k : ℕ) → KeepsLinesAndBlocks a b → KeepsState (tables_of a) (tables_of b) k
keeps_state a b k same = subst (λ f. KeepsState (tables_of a) (record (tables_of a) { states = f }) k) (sym same.states) (inl refl)

-- two of these are kept
pub keeps_both : (s : Space) (f g : ℕ → Type 0) → KeepsGranules s f → KeepsGranules s g → KeepsGranules s (λ k. f k ⊎ g k)
keeps_both s f g first second = record {
  lines = λ k has. elim has [ inl h ↦ first.lines k h | inr h ↦ second.lines k h ];
  rest = λ k has. elim has [ inl h ↦ first.rest k h | inr h ↦ second.rest k h ];
}

pub keeps_fewer : (s : Space) (f g : ℕ → Type 0) → ((k : ℕ) → g k → f k) → KeepsGranules s f → KeepsGranules s g
keeps_fewer s f g fewer keeps = record { lines = λ k has. keeps.lines k (fewer k has); rest = λ k has. keeps.rest k (fewer k has) }

-- a mark takes no count away
mark_counts : (b : Bool) (x : ℕ) → cond b STUCK x ≡ 0 → x ≡ 0
mark_counts true x is = let no : STUCK ≡ 0 = is in absurd (omega arith)
mark_counts false x is = is

pub marked_zero : (f : ℕ → ℕ) (first end k : ℕ) → marked_between f first end k ≡ 0 → f k ≡ 0
marked_zero f first end k is = mark_counts (nat_eq (k % GRANULES_IN_LINE) 0 && is_between first end (k / GRANULES_IN_LINE)) (f k) is
