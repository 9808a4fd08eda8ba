-- What the blocks are once some are chosen or released: block 0 alone is World, and no more are Chosen than may be.
use Rattle.std.proofs.Common.{◌≡◌, ◌≢◌, ℕ, ◌<◌, ◌≤◌, refl, sym, ap, subst, ◌∙◌, inl, inr, arith, true, false, ◌⊎◌}
use Rattle.std.specs.Prelude.{Option, Some, None, ◌&&◌, if◌then◌else◌}
use Rattle.lxr_layout.specs.declared.TheConstants.{REMEMBERED_CURSOR, TRACING_WORD}
use Rattle.lxr_layout.specs.declared.limits.Limits.{Limits}
use Rattle.lxr_graph.specs.declared.report.Kind.{Kind}
use Rattle.lxr_graph.specs.declared.report.Kind.TheVariants as kind
use Rattle.lxr_image.specs.Tables.{Tables, changed}
use Rattle.lxr_blocks.specs.declared.states.BlockState.TheVariants.{Chosen, World, Free}
use Rattle.lxr_blocks.specs.States.{KeepsState, is_fixed, state_in, state_of, state_by_lines, state_number}
use Rattle.lxr_model.specs.Moments.{Trace}
use Rattle.lxr_invariant.specs.Lines.{ChosenNeedTrace, HasBlocks, NoneChosen, tracing_word, is_chosen}
use Rattle.lxr_invariant.proofs.EntryLemmas.{changed_here, changed_other}
use Rattle.lxr_evac_blocks.specs.Choosing.{AreChosen, sparse_before, with_choice}
use Rattle.lxr_evac_blocks.specs.Releasing.{AreReleased, with_releases}
use Rattle.lxr_evac_blocks.proofs.ChosenLemmas.{chosen_go_first}
use Rattle.lxr_evac_blocks.proofs.ReleaseLemmas.{releases_leave_none}
use Rattle.lxr_blocks.specs.Swept.{with_states_by_lines}
use Rattle.lxr_one_pause.specs.Relocating.{ChoosesBlocks}
use Rattle.lxr_one_pause.proofs.SweepLemmas.{as_many_chosen, by_lines_open, stays_chosen, swept_blocks, swept_states, was_chosen, which_state, swept_free}
use Rattle.std.proofs.lemmas.Bool.Decides.{leb_tells}
use Rattle.lxr_evac_blocks.proofs.TestLemmas.{not_below}

-- ---- blocks that keep their states

-- what is Chosen stays so, and what is Chosen then was so
pub chosen_then : (t u : Tables) (b : ℕ) → KeepsState t u b → state_in t b ≡ Chosen → state_in u b ≡ Chosen
chosen_then t u b (inl same) is = ap state_of same ∙ is
chosen_then t u b (inr (was, now)) is = absurd (let e : true ≡ false = ap is_fixed (sym is) ∙ was in cc)

pub chosen_before : (t u : Tables) (b : ℕ) → KeepsState t u b → state_in u b ≡ Chosen → state_in t b ≡ Chosen
chosen_before t u b (inl same) is = ap state_of (sym same) ∙ is
chosen_before t u b (inr (was, now)) is = absurd (let e : true ≡ false = ap is_fixed (sym is) ∙ now in cc)

-- with the same numbers, the same blocks are Chosen
pub chosen_alike : (t u : Tables) (b : ℕ) → u.states ≡ t.states → state_in u b ≡ Chosen → state_in t b ≡ Chosen
chosen_alike t u b same is = sym (ap (λ f. state_of (f b)) same) ∙ is

-- ---- sparse blocks

-- whatever the states of blocks, as many sparse ones go before a block
sparse_same : (blocks : ℕ) (t : Tables) (states cursors : ℕ → ℕ) (b : ℕ) → sparse_before blocks (record t { states = states; cursors = cursors }) b ≡ sparse_before blocks t b
unfolding sparse_before
sparse_same blocks t states cursors b = refl

-- a sweep leaves the same blocks Chosen
pub chooses_swept : (k : Kind) (t u : Tables) (l : Limits) → ChoosesBlocks k t u l → ChoosesBlocks k t (with_states_by_lines u l.blocks) l
chooses_swept kind.Plain t u l is = λ b. ((λ c. (is b).0 (was_chosen u l.blocks b c)), (λ c. stays_chosen u l.blocks b ((is b).1 c)))
chooses_swept kind.Begin t u l is = λ b within.
    let same = sparse_same l.blocks u (with_states_by_lines u l.blocks).states u.cursors b in (
      λ c. let a = (is b within).0 (was_chosen u l.blocks b c) in (a.0, subst (λ n. n < l.evacuate) (sym same) a.1),
      λ a. stays_chosen u l.blocks b ((is b within).1 (a.0, subst (λ n. n < l.evacuate) same a.1)),
    )
chooses_swept (kind.End j) t u l is = as_many_chosen u l.blocks ∙ is
chooses_swept kind.Collect t u l is = as_many_chosen u l.blocks ∙ is

-- ---- a trace begins

needs_none : (t : Tables) (blocks : ℕ) (trace : Option Trace) → NoneChosen t blocks → ChosenNeedTrace t blocks trace
needs_none t blocks None none = none
needs_none t blocks (Some trace) none = tt

-- blocks are as they are asked for with another trace, where no block is Chosen
pub blocks_set : (t : Tables) (l : Limits) (word : ℕ) (was trace : Option Trace) → tracing_word trace ≡ word → NoneChosen t l.blocks → HasBlocks t l was
    → HasBlocks (record t { cursors = changed t.cursors TRACING_WORD word }) l trace
blocks_set t l word was trace tells none is = record {
  world = is.world;
  others = is.others;
  few = is.few;
  chosen = needs_none (record t { cursors = changed t.cursors TRACING_WORD word }) l.blocks trace none;
  tracing = changed_here t.cursors TRACING_WORD word TRACING_WORD refl ∙ sym tells;
}

module _ (t : Tables) (l : Limits) where
  -- the tables once blocks were swept and chosen, and the trace is set
  abbrev chosen_anew : Tables
  chosen_anew = with_choice l (with_states_by_lines t l.blocks)

  abbrev pub begun_anew : Tables
  begun_anew = record chosen_anew { cursors = changed chosen_anew.cursors TRACING_WORD 1 }

  pub begun_cursor : (k : ℕ) → k ≢ REMEMBERED_CURSOR → k ≢ TRACING_WORD → begun_anew.cursors k ≡ t.cursors k
  begun_cursor k a b = changed_other chosen_anew.cursors TRACING_WORD 1 k b ∙ changed_other t.cursors REMEMBERED_CURSOR 0 k a

  pub none_remembered : begun_anew.cursors REMEMBERED_CURSOR ≡ 0
  none_remembered = changed_other chosen_anew.cursors TRACING_WORD 1 REMEMBERED_CURSOR (λ e. cc) ∙ changed_here t.cursors REMEMBERED_CURSOR 0 REMEMBERED_CURSOR refl

  module _ (is : HasBlocks t l None) where
    are_chosen : AreChosen l (with_states_by_lines t l.blocks) chosen_anew
    are_chosen = chosen_go_first l (with_states_by_lines t l.blocks) None (swept_blocks t l None is) (as_many_chosen t l.blocks ∙ is.chosen) (swept_states t l.blocks)

    pub begun_blocks : (trace : Trace) → HasBlocks begun_anew l (Some trace)
    begun_blocks trace = record {
      world = are_chosen.world;
      others = are_chosen.lone;
      few = are_chosen.few;
      chosen = tt;
      tracing = changed_here chosen_anew.cursors TRACING_WORD 1 TRACING_WORD refl;
    }

    -- a block that is Free then was so, or is by its lines
    pub begun_free : (b : ℕ) → state_in begun_anew b ≡ Free → (state_in t b ≡ Free) ⊎ (state_by_lines t b ≡ Free)
    begun_free b free = swept_free t l.blocks b (sym (ap state_of (are_chosen.others b (λ c. let no : Free ≡ Chosen = sym free ∙ c in cc))) ∙ free)

    -- exactly those sparse ones are Chosen that go first
    pub begun_chosen : (before : Tables) → ChoosesBlocks kind.Begin before begun_anew l
    begun_chosen before b within =
        let exactly = are_chosen.exactly b within in
        let same : sparse_before l.blocks begun_anew b ≡ sparse_before l.blocks (with_states_by_lines t l.blocks) b =
        sparse_same l.blocks (with_states_by_lines t l.blocks) begun_anew.states begun_anew.cursors b in (
          λ c. let a = exactly.0 c in (a.0, subst (λ n. n < l.evacuate) (sym same) a.1),
          λ a. exactly.1 (a.0, subst (λ n. n < l.evacuate) same a.1),
        )

-- ---- blocks are released

module _ (t : Tables) (blocks : ℕ) where
  abbrev pub released : Tables
  released = with_releases t blocks

  are_released : AreReleased t released blocks
  are_released = releases_leave_none t blocks

  pub none_released : NoneChosen released blocks
  none_released = are_released.none

  -- no block becomes Chosen
  pub was_so : (b : ℕ) → state_in released b ≡ Chosen → state_in t b ≡ Chosen
  was_so b is = elim (which_state (state_in t b)) [
    | inl c ↦ c
    | inr q ↦ elim q [
      | inl w ↦ sym (ap state_of (are_released.others b (λ c. let e = sym w ∙ c in cc))) ∙ is
      | inr other ↦ sym (ap state_of (are_released.others b other.0)) ∙ is
    ]
  ]

  -- a block that is Free then was so, or is by its lines
  pub released_free : (b : ℕ) → state_in released b ≡ Free → (state_in t b ≡ Free) ⊎ (state_by_lines t b ≡ Free)
  released_free b free = elim (which_state (state_in t b)) [
    | inl c ↦ elim (leb_tells blocks b) [
      | inl past ↦ inl (sym (ap (λ x. state_of (if x && is_chosen (state_in t b) then state_number (state_by_lines t b) else t.states b)) (not_below b blocks past.1)) ∙ free)
      | inr within ↦ inr (sym (are_released.by_lines b within.1 c) ∙ free)
    ]
    | inr q ↦ inl (sym (ap state_of (are_released.others b (elim q [ inl w ↦ (λ c. let no : World ≡ Chosen = sym w ∙ c in cc) | inr other ↦ other.0 ]))) ∙ free)
  ]

  released_world : (b : ℕ) → b < blocks → state_in t b ≢ World → state_in released b ≢ World
  released_world b within wasnt e = elim (which_state (state_in t b)) [
    | inl c ↦ (by_lines_open released b).1 (sym (are_released.by_lines b within c) ∙ e)
    | inr q ↦ elim q [
      | inl w ↦ wasnt w
      | inr other ↦ wasnt (sym (ap state_of (are_released.others b other.0)) ∙ e)
    ]
  ]

pub released_blocks : (t : Tables) (l : Limits) (trace : Option Trace) → HasBlocks t l trace → HasBlocks (released t l.blocks) l trace
released_blocks t l trace is =
    let are = are_released t l.blocks in
    record {
      world = ap state_of (are.others 0 (λ c. let e = sym is.world ∙ c in cc)) ∙ is.world;
      others = λ b from within. released_world t l.blocks b within (is.others b from within);
      few = subst (λ n. n ≤ l.evacuate) (sym are.none) (omega arith);
      chosen = needs_none (released t l.blocks) l.blocks trace are.none;
      tracing = is.tracing;
    }
