-- A sweep of all blocks changes states alone: Chosen blocks stay so, no other becomes Chosen, and each block then has the state of its lines.
use Rattle.std.proofs.Common.{◌≡◌, ◌≢◌, ℕ, ◌<◌, ◌≤◌, refl, sym, ap, subst, ◌∙◌, inl, inr, ◌⊎◌, Bool, true, false, cond, List, IsTrue}
use Rattle.std.specs.Prelude.{Option, ◌==◌}
use Rattle.std.proofs.lemmas.Bool.Decides.{leb_tells}
use Rattle.lxr_layout.specs.declared.Name.{Name}
use Rattle.lxr_layout.specs.declared.TheConstants.{LINES_IN_BLOCK}
use Rattle.lxr_layout.specs.declared.limits.Limits.{Limits}
use Rattle.lxr_graph.specs.Names.{has}
use Rattle.lxr_graph.specs.State.{Graph}
use Rattle.lxr_image.specs.Settled.{AreCounted}
use Rattle.lxr_image.specs.Tables.{Tables}
use Rattle.lxr_blocks.specs.declared.states.BlockState.{BlockState}
use Rattle.lxr_blocks.specs.declared.states.BlockState.TheVariants.{Free, Partly, Whole, Chosen, World}
use Rattle.lxr_blocks.specs.Lines.{free_count, free_in}
use Rattle.lxr_blocks.specs.States.{is_fixed, state_by_lines, state_in, state_of}
use Rattle.lxr_model.specs.Moments.{Moment, Trace}
use Rattle.lxr_blocks.specs.Swept.{AreSwept, with_states_by_lines}
use Rattle.lxr_blocks.proofs.SweptLemmas.{swept_is_by_lines}
use Rattle.lxr_invariant.specs.Counting.{IsUndecremented, count_at}
use Rattle.lxr_invariant.specs.Lines.{HasBlocks, HasMarks, HasStates, KeepLines, chosen_count, is_chosen}
use Rattle.lxr_invariant.specs.Standing.{HasBits}
use Rattle.lxr_invariant.proofs.FrameLemmas.{chosen_same, need_same}
use Rattle.lxr_invariant.proofs.LandingLemmas.{counted_line}

-- ---- states

-- a state is Chosen, is World, or is neither
pub which_state : (s : BlockState) → (s ≡ Chosen) ⊎ ((s ≡ World) ⊎ ((s ≢ Chosen) × (s ≢ World)))
which_state Free = inr (inr ((λ e. cc), (λ e. cc)))
which_state Partly = inr (inr ((λ e. cc), (λ e. cc)))
which_state Whole = inr (inr ((λ e. cc), (λ e. cc)))
which_state Chosen = inl refl
which_state World = inr (inl refl)

open_state : (all none : Bool) → (cond all Free (cond none Whole Partly) ≢ Chosen) × (cond all Free (cond none Whole Partly) ≢ World)
open_state true none = ((λ e. cc), (λ e. cc))
open_state false true = ((λ e. cc), (λ e. cc))
open_state false false = ((λ e. cc), (λ e. cc))

-- the state of lines is neither
pub by_lines_open : (t : Tables) (b : ℕ) → (state_by_lines t b ≢ Chosen) × (state_by_lines t b ≢ World)
by_lines_open t b = open_state (free_count (free_in t b) LINES_IN_BLOCK == LINES_IN_BLOCK) (free_count (free_in t b) LINES_IN_BLOCK == 0)

not_chosen : (s : BlockState) → s ≢ Chosen → is_chosen s ≡ false
not_chosen Free other = refl
not_chosen Partly other = refl
not_chosen Whole other = refl
not_chosen Chosen other = absurd (other refl)
not_chosen World other = refl

module _ (t : Tables) (blocks : ℕ) where
  -- the tables once they are swept
  abbrev pub swept : Tables
  swept = with_states_by_lines t blocks

  are_swept : AreSwept t swept blocks
  are_swept = swept_is_by_lines t blocks

  open_then : (b : ℕ) → b < blocks → (state_in t b ≢ Chosen) × (state_in t b ≢ World) → (state_in swept b ≢ Chosen) × (state_in swept b ≢ World)
  open_then b within other =
      let is = are_swept.by_lines b within other.0 other.1 in
      ((λ e. (by_lines_open swept b).0 (sym is ∙ e)), (λ e. (by_lines_open swept b).1 (sym is ∙ e)))

  same_chosen : (b : ℕ) → b < blocks → is_chosen (state_in swept b) ≡ is_chosen (state_in t b)
  same_chosen b within = elim (which_state (state_in t b)) [
    | inl c ↦ ap is_chosen (are_swept.chosen b c ∙ sym c)
    | inr q ↦ elim q [
      | inl w ↦ ap is_chosen (are_swept.world b w ∙ sym w)
      | inr other ↦ not_chosen (state_in swept b) (open_then b within other).0 ∙ sym (not_chosen (state_in t b) other.0)
    ]
  ]

  world_same : (b : ℕ) → b < blocks → state_in t b ≢ World → state_in swept b ≢ World
  world_same b within wasnt e = elim (which_state (state_in t b)) [
    | inl c ↦ let is = are_swept.chosen b c in cc
    | inr q ↦ elim q [
      | inl w ↦ wasnt w
      | inr other ↦ (open_then b within other).1 e
    ]
  ]

  pub as_many_chosen : chosen_count swept blocks ≡ chosen_count t blocks
  as_many_chosen = chosen_same t swept blocks same_chosen

  -- what is Chosen stays so, and what is Chosen then was so before
  pub stays_chosen : (b : ℕ) → state_in t b ≡ Chosen → state_in swept b ≡ Chosen
  stays_chosen b = are_swept.chosen b

  pub was_chosen : (b : ℕ) → state_in swept b ≡ Chosen → state_in t b ≡ Chosen
  was_chosen b is = elim (which_state (state_in t b)) [
    | inl c ↦ c
    | inr q ↦ elim q [
      | inl w ↦ let k = are_swept.world b w in cc
      | inr other ↦ elim (leb_tells blocks b) [
        | inl past ↦ sym (ap state_of (are_swept.past b past.1)) ∙ is
        | inr within ↦ absurd ((open_then b within.1 other).0 is)
      ]
    ]
  ]

  -- a block that is Free then was so, or is by its lines
  pub swept_free : (b : ℕ) → state_in swept b ≡ Free → (state_in t b ≡ Free) ⊎ (state_by_lines t b ≡ Free)
  swept_free b is = elim (which_state (state_in t b)) [
    | inl c ↦ absurd (let k = are_swept.chosen b c in cc)
    | inr q ↦ elim q [
      | inl w ↦ absurd (let k = are_swept.world b w in cc)
      | inr other ↦ elim (leb_tells blocks b) [
        | inl past ↦ inl (sym (ap state_of (are_swept.past b past.1)) ∙ is)
        | inr within ↦ inr (sym (are_swept.lines b) ∙ sym (are_swept.by_lines b within.1 other.0 other.1) ∙ is)
      ]
    ]
  ]

  pub swept_past : (b : ℕ) → blocks ≤ b → swept.states b ≡ t.states b
  swept_past b high = are_swept.past b high

  pub swept_states : HasStates swept blocks
  swept_states b within free = elim (which_state (state_in t b)) [
    | inl c ↦ let is : is_fixed (state_in swept b) ≡ true = ap is_fixed (are_swept.chosen b c) in absurd (cc)
    | inr q ↦ elim q [
      | inl w ↦ let is : is_fixed (state_in swept b) ≡ true = ap is_fixed (are_swept.world b w) in absurd (cc)
      | inr other ↦ are_swept.by_lines b within other.0 other.1
    ]
  ]

pub swept_blocks : (t : Tables) (l : Limits) (trace : Option Trace) → HasBlocks t l trace → HasBlocks (swept t l.blocks) l trace
swept_blocks t l trace is = record {
  world = (are_swept t l.blocks).world 0 is.world;
  others = λ b from within. world_same t l.blocks b within (is.others b from within);
  few = subst (λ n. n ≤ l.evacuate) (sym (as_many_chosen t l.blocks)) is.few;
  chosen = need_same t (swept t l.blocks) l.blocks trace (as_many_chosen t l.blocks) is.chosen;
  tracing = is.tracing;
}

-- ---- lines

-- an object whose count isn't 0 and whose further lines are marked keeps its lines
pub lines_kept : (t : Tables) (g : Graph) (at : Name → ℕ) (us : List Name) → HasMarks t g at us → ((n : Name) → IsTrue (has us n) → count_at t at n ≢ 0) → KeepLines t g at us
lines_kept t g at us marks positive n o k member covers =
    counted_line t at n o k (positive n member) (λ j mark. marks.marked n o j member covers.object mark) covers.first covers.behind

-- ---- counts

-- where no object that is left has count 0, each that begins has a count
pub all_counted : (t : Tables) (m : Moment) (at : Name → ℕ) → HasBits t m at m.unreclaimed → IsUndecremented t m at → AreCounted t
all_counted t m at bits is g start none = let found = bits.starts.only g start in is.positive found.0 found.1 (ap t.counts found.2 ∙ none)
