-- What holds of every helper, whatever its work, as long as that keeps to a few rules.
use Rattle.std.specs.Prelude.{◌≡◌, ◌↔◌, ℕ, ◌<◌, ◌≤◌, true, false, List, [], Option, Some, None, IsSome}
use Rattle.lxr_layout.specs.declared.Place.{Place}
use Rattle.lxr_layout.specs.declared.limits.Limits.{Limits}
use Rattle.lxr_layout.specs.declared.limits.Regions.{Regions}
use Rattle.lxr_layout.specs.Spaces.{AreLimits}
use Rattle.lxr_base.specs.Roomy.{Roomy}
use Rattle.lxr_helper.specs.declared.states.HelperState.{HelperState}
use Rattle.lxr_helper.specs.Indexes.{HaveIndexes}
use Rattle.lxr_helper.specs.Words.{InHeap}
use Rattle.lxr_helper.specs.Units.{Runs, Told}
use Rattle.lxr_helper.specs.Helpers.{IsHelper, Outcome, Work, action, after, again, ends, first, goes_to, helper_machine, left, offered, spared, tries_next}

module _ {P E : Type 0} (w : Work P E) where
  -- ---- rules of work

  -- Fewer steps are left than there were, wherever a step leads; so many places are in the pocket then. In a phase that it leads to
  -- holds what may be.
  abbrev pub MayLead : Regions → ℕ → ℕ → Outcome P E → Type 0
  MayLead r places most (goes_to p) = w.may r p × (w.left places p < most)
  MayLead r places most tries_next = w.left places w.resting < most
  MayLead r places most (ends how) = 0 < most

  -- a unit goes on wherever a step leads, unless it ends
  abbrev pub IsInUnit : Outcome P E → Type 0
  IsInUnit (goes_to p) = w.rests p ≡ false
  IsInUnit tries_next = Unit {0}
  IsInUnit (ends how) = Unit {0}

  -- the rules
  pub record IsLawful : Type 0 where
    -- there is one phase between units, in which anything may be; a unit in another one has a next step
    pub resting : w.rests w.resting ≡ true
    pub one_rest : (p : P) → w.rests p ≡ true → p ≡ w.resting
    pub may_rest : (r : Regions) → w.may r w.resting
    pub acts : (r : Regions) (p : P) → w.rests p ≡ false → IsSome (w.action r p)
    -- there is one way to end with nothing
    pub nothing : w.is_nothing w.nothing ≡ true
    pub one_nothing : (how : E) → w.is_nothing how ≡ true → how ≡ w.nothing
    -- a unit may begin with a place of the heap, or with none, and has no more steps left than there were
    pub asks : (place : Option Place) → w.rests (w.question place) ≡ false
    pub may_ask : (r : Regions) (place : Place) → InHeap r place → w.may r (w.question (Some place))
    pub may_turn : (r : Regions) → w.may r (w.question None)
    pub ask_nearer : (n m : ℕ) (place : Place) → m < n → w.left m (w.question (Some place)) ≤ w.left n w.resting
    pub turn_nearer : (n m : ℕ) → w.left m (w.question None) ≤ w.left n w.resting
    -- so it goes on, whatever the word was; a place that is put into the pocket is one of the heap
    pub in_unit : (r : Regions) (p : P) (word : ℕ) → w.rests p ≡ false → IsInUnit (w.leads r p word)
    pub leads : (r : Regions) (p : P) (word n m : ℕ) → HaveIndexes r → w.may r p → w.rests p ≡ false → (w.keeps p word ≡ None → m ≡ n)
        → MayLead r m (w.left n p) (w.leads r p word)
    pub keeps : (r : Regions) (p : P) (word : ℕ) (place : Place) → w.may r p → w.keeps p word ≡ Some place → InHeap r place
    -- few steps are left in each phase
    pub few : (r : Regions) (p : P) (n : ℕ) → n ≤ 64 → w.may r p → w.left n p ≤ 8192

  -- ---- laws

  -- a unit has at most 8,192 steps
  abbrev pub UnitsAreShort : Type 0
  UnitsAreShort = (h : HelperState P E) → IsHelper w h → left w h ≤ 8192

  -- it is finished for the epoch: it rests, its last unit found nothing to do, and its pocket is empty
  pub record IsFinished (h : HelperState P E) : Type 0 where
    pub rests : h.phase ≡ w.resting
    pub found_nothing : h.end ≡ Some w.nothing
    pub no_place : h.pocket.items ≡ []

  -- There is a next step exactly where a helper isn't finished. So a place that it takes brings one, and so does a new epoch; one
  -- that it refuses changes nothing.
  pub record FinishedByRule : Type 0 where
    pub finished : (h : HelperState P E) → (action w h ≡ None) ↔ IsFinished h
    pub taken : (h : HelperState P E) (place : Place) → (offered w h place).1 ≡ true → IsSome (action w (offered w h place).0)
    pub refused : (h : HelperState P E) (place : Place) → (offered w h place).1 ≡ false → (offered w h place).0 ≡ h
    pub again : (h : HelperState P E) → IsSome (action w (again w h))

  -- What holds of each helper holds of one that is made or begins a new epoch, and it holds still after each step, whatever the
  -- word was, once a place is offered, and once one is given up. No step leads to another space.
  pub record StaysSo : Type 0 where
    pub regions : (h : HelperState P E) (word : ℕ) → (after w h word).regions ≡ h.regions
    pub first : (l : Limits) → AreLimits l → IsHelper w (first w l)
    pub again : (h : HelperState P E) → IsHelper w h → IsHelper w (again w h)
    pub after : (h : HelperState P E) (word : ℕ) → IsHelper w h → IsHelper w (after w h word)
    pub offered : (h : HelperState P E) (place : Place) → IsHelper w h → IsHelper w (offered w h place).0
    pub spared : (h : HelperState P E) → IsHelper w h → IsHelper w (spared w h).0

  -- where whole units do this: the space, the pocket before, the steps, the pocket after, and how the unit ended
  module _ (DoesUnit : Regions → Roomy Place → List Told → Roomy Place → E → Type 0) where
    -- how the last unit ended, and that this is how the whole of it went
    pub record EndsByRules (h : HelperState P E) (ts : List Told) (h' : HelperState P E) : Type 0 where
      pub how : E
      pub end : h'.end ≡ Some how
      pub does : DoesUnit h.regions h.pocket ts h'.pocket how

    -- so it is of each unit, from rest to rest
    abbrev pub UnitsEndByRules : Type 0
    UnitsEndByRules = (h h' : HelperState P E) (ts : List Told) → w.rests h.phase ≡ true → Runs (helper_machine w) h ts h' → EndsByRules h ts h'
