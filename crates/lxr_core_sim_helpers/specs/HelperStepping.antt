-- Each step of a helper's machine is a step of the epoch. Of a kind of helpers is said what an epoch state shows of one, by its phase,
-- and which accesses may happen to one, with what is shown of it then.
use Rattle.std.specs.Prelude.{◌≡◌, ℕ, IsSome, Some, List, length, slice_get}
use Rattle.lxr_layout.specs.declared.Place.{Place}
use Rattle.lxr_layout.specs.declared.limits.Limits.{Limits}
use Rattle.lxr_layout.specs.Spaces.{AreLimits, all_regions, region_begin, regions_of}
use Rattle.lxr_image.specs.Tables.{tables_in}
use Rattle.lxr_actor.specs.Machine.{Fits}
use Rattle.lxr_actor.specs.Run.{stepped}
use Rattle.lxr_helper.specs.declared.states.HelperState.{HelperState}
use Rattle.lxr_helper.specs.Helpers.{IsHelper, Work, action, again, first, helper_machine, offered, spared}
use Rattle.lxr_core_access.specs.declared.Access.{Access}
use Rattle.lxr_core_access.specs.Accesses.{done_to}
use Rattle.lxr_core_invariant.specs.EpochStates.{Beginning, EpochState, limits_of}
use Rattle.lxr_core_invariant.specs.Epoch.{IsEpoch}

module _ {P E X : Type 0} (w : Work P E) (shown_in : P → X) where
  -- what a helper is about to do, by its phase
  abbrev pub shown_of : HelperState P E → X
  shown_of h = shown_in h.phase

  -- a helper of a space of these limits
  pub record IsHelperOf (l : Limits) (h : HelperState P E) : Type 0 where
    pub sound : IsHelper w h
    pub regions : h.regions ≡ regions_of l

  -- A place that is offered, or given up, changes neither what it is about to do nor what holds of it; so it is made, and begins anew.
  pub record HintsStay (l : Limits) (h : HelperState P E) : Type 0 where
    pub offered : (place : Place) → IsHelperOf l (offered w h place).0 × (shown_of (offered w h place).0 ≡ shown_of h)
    pub spared : IsHelperOf l (spared w h).0 × (shown_of (spared w h).0 ≡ shown_of h)
    pub again : IsHelperOf l (again w h)

  abbrev pub HintsChangeNothing : Type 0
  HintsChangeNothing = (l : Limits) (h : HelperState P E) → IsHelperOf l h → HintsStay l h

  abbrev pub FirstIsHelper : Type 0
  FirstIsHelper = (l : Limits) → AreLimits l → IsHelperOf l (first w l)

  module _ (shown : EpochState → List X) (May : Beginning → EpochState → ℕ → Access → X → Type 0) where
    -- The words and helper i are those of an epoch state of the epoch.
    pub record ShowsHelper (b : Beginning) (s : EpochState) (words : List ℕ) (i : ℕ) (h : HelperState P E) : Type 0 where
      pub epoch : IsEpoch b s
      pub size : length words ≡ region_begin (limits_of b) all_regions
      pub tables : s.tables ≡ tables_in (limits_of b) words
      pub shows : slice_get (shown s) i ≡ Some (shown_of h)
      pub helper : IsHelperOf (limits_of b) h

    -- A step of its machine fits, is an access that leads from what it was about to do to what it is about to do then, and does to the
    -- tables what this access does.
    pub record HelperStepIs (b : Beginning) (s : EpochState) (words : List ℕ) (i : ℕ) (h : HelperState P E) : Type 0 where
      pub fits : Fits (helper_machine w) words h
      pub access : Access
      pub may : May b s i access (shown_of (stepped (helper_machine w) words h).1)
      pub size : length (stepped (helper_machine w) words h).0 ≡ length words
      pub tables : done_to s.tables access ≡ tables_in (limits_of b) (stepped (helper_machine w) words h).0
      pub helper : IsHelperOf (limits_of b) (stepped (helper_machine w) words h).1

    abbrev pub HelperStepsAreEvents : Type 0
    HelperStepsAreEvents = (b : Beginning) (s : EpochState) (words : List ℕ) (i : ℕ) (h : HelperState P E) → ShowsHelper b s words i h → IsSome (action w h) → HelperStepIs b s words i h
