-- Events at which no granule goes from one owner to another: what a mutator has drawn stays, or it lets go of it.
use Rattle.std.proofs.Common.{◌≡◌, ℕ, ◌+◌, ◌<◌, refl, sym, subst, inl, inr, arith, cond, Bool, true, false, nat_eq}
use Rattle.std.specs.Prelude.{None, slice_set}
use Rattle.lxr_layout.specs.declared.TheConstants.{FREE_BLOCK_COUNT}
use Rattle.lxr_layout.specs.declared.Place.{Place}
use Rattle.lxr_layout.specs.declared.Shape.{Shape}
use Rattle.lxr_graph.specs.declared.Op.{Op}
use Rattle.lxr_core_invariant.specs.ThreadStates.{Intent, Stage, ThreadState, Plain, AtReference, AtValue, Clears, Stores, DrewRun, HasRun, NeedsBlock, DrewBlock, HasBlock, Makes, GivesUp, Rests, Works, Names, Through, is_end}
use Rattle.lxr_core_invariant.specs.ThreadStates as why
use Rattle.lxr_core_invariant.specs.EpochStates.{Beginning, EpochState, opening_tables}
use Rattle.lxr_core_invariant.specs.Events.{done_with, found_reply, span_from, stage_after}
use Rattle.lxr_core_invariant.specs.Happening.{at_stage, loaded_with}
use Rattle.lxr_core_invariant.specs.Drawn.{Drawers, HasDrawn, HasGranule, IsDrawnMemory, IsHandOf, IsOfHand, IsOfMaking, IsUsed, MakesIn, MakesInBlock, UndrawnRun}
use Rattle.lxr_core_inv_memory.proofs.CarryLemmas.{Carries}
use Rattle.lxr_core_inv_memory.proofs.OwnerLemmas.{GoBack, SpanLies, StandStill, Turns, drawers_still, drawn_kept, made_carried, made_in_carried, one_kept, same_drawers, used_kept}

-- ---- a mutator that has nothing in hand and makes nothing

-- at this stage a mutator has nothing in hand and makes nothing
pub record IsIdle (b : Beginning) (stage : Stage) : Type 0 where
  pub hand : (g : ℕ) → IsOfHand b stage g → ⊥
  pub making : (g : ℕ) → IsOfMaking stage g → ⊥
  pub drawn : (d : Drawers) (t : ℕ) → HasDrawn b d t stage
  pub makes : (place : ℕ) (shape : Shape) (wiped : ℕ) → stage ≡ Works (Makes place shape wiped) → ⊥
  pub unused : (k : ℕ) → IsHandOf stage k → ⊥
  pub unmade : (k : ℕ) → MakesInBlock b stage k → ⊥

-- whether it is such a stage
abbrev pub is_idle : Stage → Bool
is_idle (Works (DrewRun k)) = false
is_idle (Works (HasRun k)) = false
is_idle (Works (DrewBlock k)) = false
is_idle (Works (HasBlock k)) = false
is_idle (Works (Makes place shape wiped)) = false
is_idle _ = true

-- at such a stage it has nothing
pub idle : (b : Beginning) (stage : Stage) → is_idle stage ≡ true → IsIdle b stage
idle b (Works (DrewRun k)) is = absurd (cc)
idle b (Works (HasRun k)) is = absurd (cc)
idle b (Works (DrewBlock k)) is = absurd (cc)
idle b (Works (HasBlock k)) is = absurd (cc)
idle b (Works (Makes place shape wiped)) is = absurd (cc)
idle b stage is = record { hand = λ g h. h; making = λ g h. h; drawn = λ d t. tt; makes = λ place shape wiped e. cc; unused = λ k h. h; unmade = λ k h. h }

-- once an operation is done
pub after_idle : (v : ThreadState) (o : Op) → is_idle (stage_after v o) ≡ true
after_idle v o = elim (is_end o) as (λ c. is_idle (cond c (Through why.Ended) (cond (nat_eq (v.since + 1) v.every) (Through why.Turns) Rests)) ≡ true) [
  | true ↦ refl
  | false ↦ elim (nat_eq (v.since + 1) v.every) as (λ c. is_idle (cond c (Through why.Turns) Rests) ≡ true) [ true ↦ refl | false ↦ refl ]
]

-- once a load or a swap has taken a place
pub loaded_idle : (v : ThreadState) (o : Op) (dest : ℕ) (p : Place) → (is_idle (loaded_with v o dest p).stage ≡ true) × ((loaded_with v o dest p).spans ≡ v.spans)
loaded_idle v o dest p =
    let held : ThreadState = record v { registers = slice_set v.registers dest p } in
    elim (nat_eq p.0 0) as (λ c. (is_idle (cond c (done_with held o (found_reply o None)) (at_stage held (Names p.0))).stage ≡ true) × ((cond c (done_with held o (found_reply o None)) (at_stage held (Names p.0))).spans ≡ v.spans)) [
      | true ↦ (after_idle held o, refl)
      | false ↦ (refl, refl)
    ]

-- ---- quiet events

-- A mutator has no more than before, and the drawn blocks that it used are used.
pub record IsQuiet (b : Beginning) (s u : EpochState) (d : Drawers) (i : ℕ) (v w : ThreadState) : Type 0 where
  pub turns : Turns s u i v w
  pub carries : Carries b s u
  pub spans : w.spans ≡ v.spans
  pub hand : (g : ℕ) → IsOfHand b w.stage g → IsOfHand b v.stage g
  pub making : (g : ℕ) → IsOfMaking w.stage g → IsOfMaking v.stage g
  pub drawn : HasDrawn b d (i + 1) w.stage
  pub makes : (place : ℕ) (shape : Shape) (wiped : ℕ) → w.stage ≡ Works (Makes place shape wiped) → MakesIn b d (i + 1) place shape
  pub still : StandStill s u
  pub hand_used : (k : ℕ) → k < (opening_tables b).cursors FREE_BLOCK_COUNT → IsHandOf v.stage k → IsUsed b u k
  pub making_used : (k : ℕ) → MakesInBlock b v.stage k → IsUsed b u k

-- a quiet event keeps drawn memory one maker's
pub quiet_kept : (b : Beginning) (s u : EpochState) (i : ℕ) (v w : ThreadState) (is : IsDrawnMemory b s) → IsQuiet b s u is.drawers i v w → IsDrawnMemory b u
quiet_kept b s u i v w is quiet =
    let turns = quiet.turns in
    let cursor = quiet.still.blocks in
    let back : GoBack b s u i v w (UndrawnRun 0) (λ _. ⊥) = record {
      hand = λ g h. inl (quiet.hand g h);
      span = λ from g h. inl (subst (λ spans. HasGranule (span_from from spans) g) quiet.spans h);
      making = λ g h. inl (quiet.making g h);
      member = λ n g h. inl (quiet.carries.members n g h);
      apart = λ x y g new. absurd new;
    } in
    drawn_kept b s u i v w is is.drawers turns (one_kept b s u i v w (UndrawnRun 0) (λ _. ⊥) turns back is.one)
    (record {
      more = same_drawers is.drawers;
      numbers = drawers_still b s u is.drawers is.numbers quiet.still;
      hand = quiet.drawn;
      spans = λ from. subst (λ spans. SpanLies b is.drawers (i + 1) (span_from from spans)) (sym quiet.spans) (is.spans i v from turns.shown);
      makes = quiet.makes;
    })
    (made_carried b is.drawers is.drawers s u (same_drawers is.drawers) quiet.carries is.made)
    (λ k drawn listed. used_kept b s u i v w k turns (quiet.hand_used k listed) (quiet.making_used k) (λ made. inr (inr (made_in_carried b s u k quiet.carries made)))
    (is.used k (omega (arith, drawn, cursor)) listed))

-- a mutator that had no block, or lets go of one that isn't there, has nothing in hand afterwards
pub idle_kept : (b : Beginning) (s u : EpochState) (i : ℕ) (v w : ThreadState) → IsDrawnMemory b s → Turns s u i v w → Carries b s u → w.spans ≡ v.spans → is_idle w.stage ≡ true → StandStill s u
    → ((k : ℕ) → k < (opening_tables b).cursors FREE_BLOCK_COUNT → IsHandOf v.stage k → ⊥) → ((k : ℕ) → MakesInBlock b v.stage k → ⊥) → IsDrawnMemory b u
idle_kept b s u i v w is turns carries spans rests still unused unmade =
    let none = idle b w.stage rests in
    quiet_kept b s u i v w is (record {
      turns = turns;
      carries = carries;
      spans = spans;
      hand = λ g h. absurd (none.hand g h);
      making = λ g h. absurd (none.making g h);
      drawn = none.drawn is.drawers (i + 1);
      makes = λ place shape wiped e. absurd (none.makes place shape wiped e);
      still = still;
      hand_used = λ k listed h. absurd (unused k listed h);
      making_used = λ k h. absurd (unmade k h);
    })
