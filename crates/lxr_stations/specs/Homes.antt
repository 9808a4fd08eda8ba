-- Homes of passes: which are there, and what is known of one that is away or was brought home.
use Rattle.std.specs.Prelude.{◌≡◌, ℕ, suc, true, ⊤, ◌<◌, Option, Some, None, List, [], ◌∷◌, ◌++◌, length, slice_index}
use mathlib.Core.Option.{Option as Slot, some}
use lib.ListN.{get_elem?}
use Rattle.atomic_table.specs.Seated.{TableId}
use Rattle.atomic_table.specs.Table.{Me, State}
use Rattle.lxr_core.specs.declared.actors.AnyActor.{AnyActor}
use Rattle.lxr_core.specs.Actors.{any_machine}
use Rattle.lxr_actor.specs.declared.Event.{Event}
use Rattle.lxr_shared_passes.specs.Passing.{IsAt, IsSamePass, Opened, Passing}
use Rattle.lxr_stations.specs.declared.homes.Absence.{Absence}
use Rattle.lxr_stations.specs.declared.homes.Note.{Note}
use Rattle.lxr_stations.specs.declared.homes.Note.TheVariants as note

-- A pass of this epoch, with this number, that is in no unit: its actor is where the events that it has seen have led it from what the epoch was opened
-- with.
pub record IsPassAt (epoch : Opened AnyActor) (number : ℕ) (p : Passing AnyActor) : Type 0 where
  pub epoch_is : p.epoch ≡ epoch.id
  pub opening : p.opening ≡ epoch.opening
  pub number_is : p.number ≡ number
  pub at : IsAt any_machine epoch.opening p.seen number p.actor
  pub rests : any_machine.rests p.actor ≡ true

-- what was such a pass still is one
abbrev pub StaysPass : Passing AnyActor → Passing AnyActor → Type 0
StaysPass p q = (epoch : Opened AnyActor) (number : ℕ) → IsPassAt epoch number p → IsPassAt epoch number q

-- passes of this epoch, with the numbers from this one on
abbrev pub ArePassesFrom : Opened AnyActor → ℕ → List (Passing AnyActor) → Type 0
ArePassesFrom epoch from [] = ⊤
ArePassesFrom epoch from (p ∷ ps) = IsPassAt epoch from p × ArePassesFrom epoch (suc from) ps

-- The second pass goes on from the first: it has the same place in the same epoch, and has seen what that one saw, and maybe more.
pub record GoesOnFrom (p q : Passing AnyActor) : Type 0 where
  pub same : IsSamePass p q
  pub more : List Event
  pub seen : q.seen ≡ p.seen ++ more

-- A home has its pass, of its number, which goes on from each that some seat has brought there; and no seat tells that it has it.
pub record IsAtHome (epoch : Opened AnyActor) (homes : List (Slot (Option (Passing AnyActor)))) (views : List Note) (number : ℕ) : Type 0 where
  pub pass : Passing AnyActor
  pub there : get_elem? homes number ≡ some (some (Some pass))
  pub is : IsPassAt epoch number pass
  pub goes_on : (i : ℕ) (p : Passing AnyActor) → get_elem? views i ≡ some (note.Brought p) → p.number ≡ number → GoesOnFrom p pass
  pub none_has : (i : ℕ) (p : Passing AnyActor) → get_elem? views i ≡ some (note.Took p) → ¬ (p.number ≡ number)

-- some seat took the pass of this number, and has not brought it back
abbrev pub IsTaken : List Note → ℕ → Type 0
IsTaken views number = (i : ℕ) × (p : Passing AnyActor) × (get_elem? views i ≡ some (note.Took p)) × (p.number ≡ number)

-- The rule, of the words, of what is at home, and of what seats tell: each home whose word is 1 has its pass. A home that doesn't say that its pass is there
-- is that of a pass which some seat has taken and not brought back. What a seat took goes on from each pass of the same number that some seat has brought
-- home, and no other seat has one of that number.
pub record AreHomes (epoch : Opened AnyActor) (words : List ℕ) (homes : List (Slot (Option (Passing AnyActor)))) (views : List Note) : Type 0 where
  pub at_home : (k : ℕ) → slice_index words k ≡ 1 → IsAtHome epoch homes views k
  pub away : (k : ℕ) → k < length words → ¬ (slice_index words k ≡ 1) → IsTaken views k
  pub goes_on : (i j : ℕ) (p q : Passing AnyActor) → get_elem? views i ≡ some (note.Brought p) → get_elem? views j ≡ some (note.Took q) → p.number ≡ q.number → GoesOnFrom p q
  pub alone : (i j : ℕ) (p q : Passing AnyActor) → get_elem? views i ≡ some (note.Took p) → get_elem? views j ≡ some (note.Took q) → p.number ≡ q.number → i ≡ j

abbrev pub HaveHomes : Opened AnyActor → State (Option (Passing AnyActor)) Note → Type 0
HaveHomes epoch s = AreHomes epoch s.words s.homes s.views

-- the epoch of a seat that tells this
abbrev pub epoch_in : Note → Opened AnyActor
epoch_in (note.Idle epoch) = epoch
epoch_in (note.Took p) = record { id = p.epoch; opening = p.opening }
epoch_in (note.Brought p) = record { id = p.epoch; opening = p.opening }

-- the pass goes on from the one that this tells was brought home, where it tells of one
abbrev pub GoesOnFromTold : Note → Passing AnyActor → Type 0
GoesOnFromTold (note.Idle epoch) q = ⊤
GoesOnFromTold (note.Took p) q = ⊤
GoesOnFromTold (note.Brought p) q = GoesOnFrom p q

-- a seat that told this has taken the pass of this number, and nothing else
pub record TakesOut (before : Note) (number : ℕ) (m : Me (Option (Passing AnyActor)) Note) : Type 0 where
  pub pass : Passing AnyActor
  pub place : m.1 ≡ (number, Some pass) ∷ []
  pub tells : m.0 ≡ note.Took pass
  pub is : IsPassAt (epoch_in before) number pass
  pub goes_on : GoesOnFromTold before pass

-- a seat that held this place alone has brought its pass home
abbrev pub PutsBack : Me (Option (Passing AnyActor)) Note → Me (Option (Passing AnyActor)) Note → Type 0
PutsBack before now = (number : ℕ) (p : Passing AnyActor) → before.1 ≡ (number, Some p) ∷ [] → now ≡ (note.Brought p, [])

-- It is the absence of the pass of this number from these homes, and this pass may come back: it goes on from the one that was taken.
pub record IsAbsent (homes : TableId) (number : ℕ) (p : Passing AnyActor) (a : Absence) : Type 0 where
  pub own : a.number ≡ number
  pub within : number < homes.slots
  pub table : a.seat.table_id ≡ homes
  pub place : a.seat.me.1 ≡ (number, None) ∷ []
  pub taken : Passing AnyActor
  pub tells : a.seat.me.0 ≡ note.Took taken
  pub goes_on : GoesOnFrom taken p

-- the pass that was brought home, where this tells of one
abbrev pub brought_in : Note → Option (Passing AnyActor)
brought_in (note.Idle epoch) = None
brought_in (note.Took p) = None
brought_in (note.Brought p) = Some p
