-- What a watch sees of a history: the space right before and right after each pause.
use Rattle.std.specs.Prelude.{◌≡◌, ◌≢◌, ℕ, ◌+◌, Option, Some, None, List, [], ◌∷◌, ◌++◌, ◌⊎◌, IsTrue, length}
use Rattle.lxr_layout.specs.declared.Name.{Name}
use Rattle.lxr_graph.specs.declared.report.Kind.TheVariants as kind
use Rattle.lxr_graph.specs.Names.{IsSetOf, has}
use Rattle.lxr_graph.specs.History.{Item, Call, Pause, Renew, PauseReport}
use Rattle.lxr_image.specs.declared.space.Space.{Space}
use Rattle.lxr_image.specs.Image.{opening_at}
use Rattle.lxr_invariant.specs.AbstractState.{AbstractState}
use Rattle.lxr_invariant.specs.Quiescent.{IsAtSafepoint, IsQuiescent}
use Rattle.lxr_invariant.specs.Tracing.{IsInChosen}
use Rattle.lxr_sights.specs.Sights.{Sight, sight_of, sight_tables}
use Rattle.lxr_rounds_history.specs.Left.{StandsAfter}
use Rattle.lxr_rounds_history.specs.Tally.{Evacuated, evacuated_in, none_evacuated}

-- a sight is that of a space at a safepoint, whatever room its lists have
abbrev pub IsSightAtSafepoint : Sight → AbstractState → Type 0
IsSightAtSafepoint sight g = (space : Space) × (sight_of space ≡ sight) × IsAtSafepoint space g

-- a sight is that of a space between epochs, whatever room its lists have
abbrev pub IsSightQuiescent : Sight → AbstractState → Type 0
IsSightQuiescent sight g = (space : Space) × (sight_of space ≡ sight) × IsQuiescent space g

-- these names' objects are at the same places
abbrev pub SamePlaces : List Name → (Name → ℕ) → (Name → ℕ) → Type 0
SamePlaces ns before after = (n : Name) → IsTrue (has ns n) → after n ≡ before n

-- the object of a name stands in a Chosen block of the space that was seen
abbrev pub IsChosenIn : Sight → (Name → ℕ) → Name → Type 0
IsChosenIn sight at n = IsInChosen (sight_tables sight) at n

-- a pause may move an object: it ends a trace, and the object stood in a Chosen block at its safepoint
abbrev pub MayMove : PauseReport → Sight → (Name → ℕ) → Name → Type 0
MayMove report safepoint at n = ((j : ℕ) × (report.kind ≡ kind.End j)) × IsChosenIn safepoint at n

-- What a pause moves out of Chosen blocks and what it keeps there, of the objects that it leaves: those that it may move and that stand elsewhere
-- afterwards, and those that stand where they did. The tally counts them; so only the end of a trace raises its `moved` and `kept`.
pub record CountsEvacuated (report : PauseReport) (safepoint after : Sight) (left : List Name) (at at' : Name → ℕ) : Type 0 where
  pub moved : List Name
  pub kept : List Name
  pub moved_are : IsSetOf moved (λ n. IsTrue (has left n) × MayMove report safepoint at n × (at' n ≢ at n))
  pub kept_are : IsSetOf kept (λ n. IsTrue (has left n) × MayMove report safepoint at n × (at' n ≡ at n))
  pub moved_counted : after.tally.moved ≡ safepoint.tally.moved + length moved
  pub kept_counted : after.tally.kept ≡ safepoint.tally.kept + length kept

-- The sights of one pause after h: the space at its safepoint, with the unreclaimed objects where they were, and the space after it,
-- in which objects that stay stand where they did, but for those of Chosen blocks at the end of a trace, which are counted. `places` and
-- `places'` are the maps before the safepoint and after the pause.
pub record SeesPause (threads : ℕ) (h : List Item) (report : PauseReport) (safepoint after : Sight) (places places' : Name → ℕ) : Type 0 where
  pub abstract_state : AbstractState
  pub stands : StandsAfter threads h abstract_state
  pub at_safepoint : IsSightAtSafepoint safepoint abstract_state
  pub kept : SamePlaces abstract_state.moment.unreclaimed places abstract_state.at
  pub abstract_state' : AbstractState
  pub stands' : StandsAfter threads (Pause report ∷ h) abstract_state'
  pub between : IsSightQuiescent after abstract_state'
  -- no counts are listed yet
  pub untold : after.told ≡ []
  pub places_are : places' ≡ abstract_state'.at
  pub unmoved : (n : Name) → IsTrue (has abstract_state.moment.unreclaimed n) → IsTrue (has abstract_state'.moment.unreclaimed n)
      → (abstract_state'.at n ≡ abstract_state.at n) ⊎ MayMove report safepoint abstract_state.at n
  pub evacuated : CountsEvacuated report safepoint after abstract_state'.moment.unreclaimed abstract_state.at abstract_state'.at

-- The sights of a history of so many threads, two for each pause since names were last renewed, in order. At the opening the world alone has a
-- place, and after a renewal all that is left stands where it stood. What pauses have moved and kept is what the last sight counts, and
-- between two pauses it stays.
abbrev pub SeesPauses : ℕ → List Item → List Sight → (Name → ℕ) → Evacuated → Type 0
SeesPauses threads [] sights places evacuated = (sights ≡ []) × (places ≡ opening_at) × (evacuated ≡ none_evacuated)
SeesPauses threads (Renew ns ∷ h) sights places evacuated = (sights ≡ []) × (evacuated ≡ none_evacuated)
SeesPauses threads (Call t o r ∷ h) sights places evacuated = SeesPauses threads h sights places evacuated
SeesPauses threads (Pause report ∷ h) sights places evacuated =
    (before : List Sight) × (safepoint after : Sight) × (old : Name → ℕ)
    × (sights ≡ before ++ safepoint ∷ after ∷ []) × SeesPauses threads h before old (evacuated_in safepoint.tally) × SeesPause threads h report safepoint after old places
    × (evacuated ≡ evacuated_in after.tally)

-- A watch that tells what it saw afterwards told what it had seen before, and has seen these sights since. One that doesn't tell says nothing.
abbrev pub HasSeen : Option (List Sight) → Option (List Sight) → List Sight → Type 0
HasSeen before None sights = Unit {0}
HasSeen None (Some after) sights = ⊥
HasSeen (Some before) (Some after) sights = after ≡ before ++ sights

-- The pauses of a history had these sights, whether or not a watch tells them; these are the places at the last of them, and so many objects
-- were moved and kept by all of them together.
pub record SeesTo (threads : ℕ) (h : List Item) (before after : Option (List Sight)) (places : Name → ℕ) (evacuated : Evacuated) : Type 0 where
  pub sights : List Sight
  pub pauses : SeesPauses threads h sights places evacuated
  pub told : HasSeen before after sights

-- so it is with some places at the last of them
abbrev pub Sees : ℕ → List Item → Option (List Sight) → Option (List Sight) → Evacuated → Type 0
Sees threads h before after evacuated = (places : Name → ℕ) × SeesTo threads h before after places evacuated
