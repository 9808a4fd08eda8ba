-- Each step of a mutator's machine is an event of the epoch.
use Rattle.std.specs.Prelude.{◌≡◌, ℕ, ◌+◌, nat_eq, if◌then◌else◌, Bool, true, false, Some, IsSome, List, ◌∷◌, length, slice_get, slice_set}
use Rattle.lxr_layout.specs.declared.Name.{Name}
use Rattle.lxr_layout.specs.Spaces.{all_regions, region_begin}
use Rattle.lxr_graph.specs.History.{Item, Call}
use Rattle.lxr_graph.specs.State.{next_name}
use Rattle.lxr_graph.specs.Step.{step}
use Rattle.lxr_image.specs.ImageLaws.{placed}
use Rattle.lxr_image.specs.Tables.{tables_in}
use Rattle.lxr_actor.specs.Machine.{Fits}
use Rattle.lxr_actor.specs.Run.{stepped}
use Rattle.lxr_barrier.specs.Storing.{swaps_next}
use Rattle.lxr_mutator.specs.declared.phases.MutatorPhase.{MutatorPhase}
use Rattle.lxr_mutator.specs.declared.phases.MutatorPhase.TheVariants as phase
use Rattle.lxr_mutator.specs.Mutating.{Mutating, op_now}
use Rattle.lxr_mutator.specs.Steps.{action, mutator_machine}
use Rattle.lxr_core_invariant.specs.EpochStates.{Beginning, EpochState, limits_of, moment_of}
use Rattle.lxr_core_invariant.specs.Events.{Event}
use Rattle.lxr_core_invariant.specs.Happening.{May, happen}
use Rattle.lxr_core_invariant.specs.Epoch.{IsEpoch}
use Rattle.lxr_core_sim_mutator.specs.Showing.{IsMutatorOf, thread_state_of}

-- Whether the operation of a mutator, which has made a step, stands in the history at that step: a load at the step that
-- loads the reference, and a swap at its swap, though the reply comes a step later if it has a name to tell; any other at the step that
-- gives its reply.
abbrev pub stands_in : MutatorPhase → Mutating → Mutating → Bool
stands_in (phase.Reference base) m m' = true
stands_in (phase.Referent place) m m' = false
stands_in (phase.Storing store) m m' = if swaps_next store then true else nat_eq (length m'.replies.items) (length m.replies.items + 1)
stands_in p m m' = nat_eq (length m'.replies.items) (length m.replies.items + 1)

-- the history after a step of m that leads to m': where the operation stands there, its call, with the reply of the model
abbrev pub history_after : Beginning → EpochState → Mutating → Mutating → List Item
history_after b s m m' =
    if stands_in m.phase m m'
    then Call m.thread (op_now m) (step (moment_of b s).state m.thread (op_now m)).1 ∷ s.history
    else s.history

-- the map of places after a step: a new object is placed where its header is written
abbrev pub places_in : MutatorPhase → Beginning → EpochState → Mutating → Name → ℕ
places_in (phase.Heading place) b s m = placed s.at (next_name (moment_of b s).state.graph m.thread) place.0
places_in p b s m = s.at

-- the places of objects after the step of a mutator
abbrev pub places_after : Beginning → EpochState → Mutating → Name → ℕ
places_after b s m = places_in m.phase b s m

-- The words and mutator i, which tells names, are those of an epoch state of the epoch.
pub record ShowsAs (b : Beginning) (s : EpochState) (words : List ℕ) (i : ℕ) (m : Mutating) : Type 0 where
  pub epoch : IsEpoch b s
  pub size : length words ≡ region_begin (limits_of b) all_regions
  pub tables : s.tables ≡ tables_in (limits_of b) words
  pub thread_state : slice_get s.thread_states i ≡ Some (thread_state_of m)
  pub mutator : IsMutatorOf (limits_of b) m
  pub names : m.names ≡ true

-- A step is an event: it may happen, and leads to the words and to what the mutator shows then.
pub record StepIsEvent (b : Beginning) (s : EpochState) (words : List ℕ) (i : ℕ) (m : Mutating) : Type 0 where
  pub fits : Fits mutator_machine words m
  pub event : Event
  pub may : May b s (thread_state_of m) event
  pub size : length (stepped mutator_machine words m).0 ≡ length words
  pub tables : (happen b s i (thread_state_of m) event).tables ≡ tables_in (limits_of b) (stepped mutator_machine words m).0
  pub thread_states : (happen b s i (thread_state_of m) event).thread_states ≡ slice_set s.thread_states i (thread_state_of (stepped mutator_machine words m).1)
  pub mutator : IsMutatorOf (limits_of b) (stepped mutator_machine words m).1
  -- the operation stands in the history at the step that is marked so, with the reply of the model
  pub history : (happen b s i (thread_state_of m) event).history ≡ history_after b s m (stepped mutator_machine words m).1
  pub places : (happen b s i (thread_state_of m) event).at ≡ places_after b s m

-- so it is of each step of a mutator that tells names
abbrev pub StepsAreEvents : Type 0
StepsAreEvents = (b : Beginning) (s : EpochState) (words : List ℕ) (i : ℕ) (m : Mutating)
    → ShowsAs b s words i m → IsSome (action m) → StepIsEvent b s words i m
