-- Where no block is Chosen, no tracer comes to the remembered set, and none draws a number.
use Rattle.std.proofs.Common.{◌≡◌, ℕ, ◌+◌, ◌-◌, ◌*◌, ◌/◌, ◌<◌, ◌≤◌, refl, sym, ap, subst, ◌∙◌, inl, inr, arith, true, false, cond}
use Rattle.std.specs.Prelude.{nat_lt, Some, slice_get}
use Rattle.lxr_layout.specs.declared.Name.{Name}
use Rattle.lxr_layout.specs.declared.TheConstants.{GRANULES_IN_BLOCK, REMEMBERED_CURSOR}
use Rattle.lxr_image.specs.Tables.{Tables}
use Rattle.lxr_image.specs.Reads.{granule_of}
use Rattle.lxr_blocks.specs.States.{state_of}
use Rattle.lxr_model.specs.Moments.{Moment}
use Rattle.lxr_invariant.specs.Lines.{NoneChosen}
use Rattle.lxr_invariant.proofs.BlockLemmas.{none_counted}
use Rattle.lxr_core_access.specs.declared.Access.{Access}
use Rattle.lxr_core_access.specs.Tracers.{Attempts, Tracing, TracerGoes, IsTry, begins, goes_on, nothing, pocket, scanned_next, tracer_access, Rests, AsksGray, AsksObject, Marks, ReadsShape, Scans, AsksReferent, GraysReferent, AsksBlock, ReadsReuse, DrawsNumber, Enters, FindsNothing}
use Rattle.lxr_core_access.specs.Tracers as goes
use Rattle.lxr_core_invariant.specs.EpochStates.{Beginning, EpochState, limits_of, opening_tables}
use Rattle.lxr_core_invariant.specs.Counted.{StandsAt}
use Rattle.lxr_core_invariant.specs.Decremented.{MayTrace, traced}
use Rattle.lxr_core_invariant.specs.Traced.{KnowsObjects}
use Rattle.lxr_core_invariant.specs.Remembered.{AreIdle, IsRemembering}
use Rattle.lxr_core_invariant.specs.Epoch.{IsEpoch}
use Rattle.lxr_core_invariant.proofs.ShowingLemmas.{shown_cases}
use Rattle.lxr_core_inv_counts.proofs.StepLemmas.{after_access}
use Rattle.lxr_core_inv_counts.proofs.GroundLemmas as counts

-- neither the next reference, nor the end of the unit, nor what is tried is one that is to be remembered
next_forgets : (place refs index : ℕ) → ¬ IsRemembering (scanned_next place refs index)
next_forgets place refs index = elim (nat_lt index refs) as (λ c. ¬ IsRemembering (cond c (Scans place refs index) Rests)) [ true ↦ λ k. k | false ↦ λ k. k ]

pub try_forgets : (blocks : ℕ) (d : Tracing) → IsTry blocks d → ¬ IsRemembering d
try_forgets blocks d (pocket place some within) k = k
try_forgets blocks d (nothing) k = k

-- who remembers nothing draws no number
undrawn_still : (blocks : ℕ) (t : Tables) (d : Tracing) → ¬ IsRemembering d → (after_access t (tracer_access blocks d)).cursors REMEMBERED_CURSOR ≡ t.cursors REMEMBERED_CURSOR
undrawn_still blocks t (DrawsNumber place refs index counter) none = absurd (none tt)
undrawn_still blocks t Rests none = refl
undrawn_still blocks t (AsksGray place) none = refl
undrawn_still blocks t (AsksObject place gray) none = refl
undrawn_still blocks t (Marks place) none = refl
undrawn_still blocks t (ReadsShape place) none = refl
undrawn_still blocks t (Scans place refs index) none = refl
undrawn_still blocks t (AsksReferent place refs index referent) none = refl
undrawn_still blocks t (GraysReferent place refs index referent) none = refl
undrawn_still blocks t (AsksBlock place refs index referent) none = refl
undrawn_still blocks t (ReadsReuse place refs index) none = refl
undrawn_still blocks t (Enters place refs index counter number) none = refl
undrawn_still blocks t FindsNothing none = refl

-- an object of the heap begins in one of its blocks
block_within : (blocks p refs : ℕ) → 1 ≤ p → 2 * (p - 1) + 1 + refs ≤ 4096 * blocks → (p - 1) / 2048 < blocks
block_within blocks p refs some within = omega arith

module _ (b : Beginning) (s : EpochState) (is : IsEpoch b s) (unchosen : NoneChosen (opening_tables b) (limits_of b).blocks) where
  abbrev was : Moment
  was = b.abstract_state.moment

  abbrev stood : Name → ℕ
  stood = b.abstract_state.at

  -- no unreclaimed object stands in a Chosen block: states of blocks are the opening's
  unchosen_there : (place : ℕ) → StandsAt was stood place → s.tables.states (granule_of place / GRANULES_IN_BLOCK) ≡ 3 → ⊥
  unchosen_there place stands e =
      let block : ℕ = granule_of place / GRANULES_IN_BLOCK in
      let there = (counts.ground_of b s is).stands stands.name stands.member in
      let within : block < (limits_of b).blocks = subst (λ p. granule_of p / GRANULES_IN_BLOCK < (limits_of b).blocks) (sym stands.stands) (block_within (limits_of b).blocks (stood stands.name) there.shape.refs there.placed there.in_heap) in
      let opening : (opening_tables b).states block ≡ 3 = sym (ap (λ (t : Tables). t.states block) is.fixed.tables) ∙ e in
      none_counted (opening_tables b) (limits_of b).blocks block unchosen within (ap state_of opening)

  -- so no step leads to the remembered set
  step_forgets : (remember : ℕ) (d e : Tracing) → KnowsObjects (limits_of b).blocks s.tables was stood d → ¬ IsRemembering d → TracerGoes (limits_of b).blocks remember s.tables d e → ¬ IsRemembering e
  step_forgets remember d e knows none (goes.asks_gray place) k = k
  step_forgets remember d e knows none (goes.is_white place next try) k = try_forgets (limits_of b).blocks e try k
  step_forgets remember d e knows none (goes.is_none place gray next clear try) k = try_forgets (limits_of b).blocks e try k
  step_forgets remember d e knows none (goes.is_object place set) k = k
  step_forgets remember d e knows none (goes.marked_before place next set try) k = try_forgets (limits_of b).blocks e try k
  step_forgets remember d e knows none (goes.marks place clear) k = k
  step_forgets remember d e knows none (goes.reads_shape place n shape told) k = next_forgets place shape.refs 0 k
  step_forgets remember d e knows none (goes.scans_nil place refs index nil) k = next_forgets place refs (index + 1) k
  step_forgets remember d e knows none (goes.scans place refs index some) k = k
  step_forgets remember d e knows none (goes.finds_young place refs index referent clear) k = next_forgets place refs (index + 1) k
  step_forgets remember d e knows none (goes.finds_object place refs index referent set) k = k
  step_forgets remember d e knows none (goes.grays place refs index referent) k = k
  step_forgets remember d e knows none (goes.is_other place refs index referent other) k = next_forgets place refs (index + 1) k
  step_forgets remember d e knows none (goes.is_chosen place refs index referent chosen) k = unchosen_there referent knows.1 chosen
  step_forgets remember d e knows none (goes.reads_reuse place refs index) k = none tt
  step_forgets remember d e knows none (goes.is_full place refs index counter full) k = next_forgets place refs (index + 1) k
  step_forgets remember d e knows none (goes.has_room place refs index counter room) k = none tt
  step_forgets remember d e knows none (goes.enters place refs index counter number) k = next_forgets place refs (index + 1) k
  step_forgets remember d e knows none (goes.finds_nothing) k = k

  -- what a tracer is about to do, be it what it tries first
  about_knows : (i : ℕ) (before about : Tracing) → slice_get s.tracers i ≡ Some before → Attempts (limits_of b).blocks before about → KnowsObjects (limits_of b).blocks s.tables was stood about
  about_knows i before about shows (begins d (pocket place some within)) = (some, within)
  about_knows i before about shows (begins d (nothing)) = tt
  about_knows i before about shows (goes_on d) = is.scanned.knows i before shows

  about_forgets : (i : ℕ) (before about : Tracing) → slice_get s.tracers i ≡ Some before → Attempts (limits_of b).blocks before about → ¬ IsRemembering about
  about_forgets i before about shows (begins d try) k = try_forgets (limits_of b).blocks about try k
  about_forgets i before about shows (goes_on d) k = (is.remembered.idle unchosen).none i before shows k

  -- each step of a tracer leaves this
  pub idle_stays : (i : ℕ) (access : Access) (after : Tracing) → MayTrace b s i access after → AreIdle b (traced s i access after)
  idle_stays i access after may =
      let idle : AreIdle b s = is.remembered.idle unchosen in
      let forgets = about_forgets i may.before may.steps.about may.shows may.steps.attempts in
      record {
        none = λ j f shows k. elim (shown_cases s.tracers i may.before after j f may.shows shows) [
          | inl p ↦ step_forgets (limits_of b).remember may.steps.about after (about_knows i may.before may.steps.about may.shows may.steps.attempts) forgets may.steps.goes (subst IsRemembering p.1 k)
          | inr p ↦ idle.none j f p.1 k
        ];
        drawn = ap (λ o. (after_access s.tables o).cursors REMEMBERED_CURSOR) (sym may.steps.access_is) ∙ undrawn_still (limits_of b).blocks s.tables may.steps.about forgets ∙ idle.drawn;
      }
