-- Stations: passes that are out with threads, and what has come of the operations that they order.
use Rattle.std.specs.Prelude.{◌≡◌, ◌↔◌, ℕ, zero, suc, ◌+◌, ⊤, ◌<◌, ◌≤◌, ◌⊎◌, Bool, true, false, Option, None, Some, List, [], ◌∷◌, ◌++◌, IsTrue, length, option_map}
use Rattle.atomic_table.specs.Seated.{TableId}
use Rattle.lxr_layout.specs.declared.TheConstants.{REGISTERS}
use Rattle.lxr_graph.specs.declared.Op.{Op}
use Rattle.lxr_graph.specs.declared.Reply.{Reply}
use Rattle.lxr_actor.specs.declared.Core.{Core}
use Rattle.lxr_actor.specs.declared.Event.TheVariants.{Order}
use Rattle.lxr_mutator.specs.Mutating as mutating
use Rattle.lxr_mutator.specs.Mutating.{Mutating}
use Rattle.lxr_mutator.specs.Mutators.{IsOperation, MayTakeOrder}
use Rattle.lxr_core.specs.declared.actors.AnyActor.{AnyActor}
use Rattle.lxr_core.specs.declared.actors.AnyActor.TheVariants as any
use Rattle.lxr_core.specs.Actors.{any_machine}
use Rattle.lxr_shared_passes.specs.Passing.{IsSamePass, Opened, Passing, Told, Turned}
use Rattle.lxr_decrement.specs.declared.phases.DecEnd.TheVariants as worked
use Rattle.lxr_trace.specs.declared.phases.TraceEnd.TheVariants as traced
use Rattle.lxr_shared.specs.declared.turns.Turn.{Turn}
use Rattle.lxr_shared.specs.declared.turns.Turn.TheVariants as turn
use Rattle.lxr_shared.specs.Ends.{end_of}
use Rattle.lxr_shared.specs.Sharing.{Sharing}
use Rattle.lxr_stations.specs.declared.homes.Absence.{Absence}
use Rattle.lxr_stations.specs.declared.station.Answer.{Answer}
use Rattle.lxr_stations.specs.declared.station.Answer.TheVariants as answer
use Rattle.lxr_stations.specs.declared.station.NotOut.{NotOut}
use Rattle.lxr_stations.specs.declared.station.NotOut.TheVariants as kept
use Rattle.lxr_stations.specs.declared.homes.Note.{Note}
use Rattle.lxr_stations.specs.Homes.{IsAbsent, IsPassAt, brought_in}
use Rattle.lxr_stations.specs.Wanting.{HasEnded, IsHeldUp}

-- what threads share of an epoch: its name, the words and actors that it was opened with, and the name of its homes
pub record Housed : Type 0 where
  pub id : TableId
  pub opening : Core AnyActor
  pub homes : TableId

-- the table of the epoch
abbrev pub table_of : Housed → Opened AnyActor
table_of epoch = record { id = epoch.id; opening = epoch.opening }

-- an epoch as its owner has it, and the name of the homes of its passes
pub record Lived : Type 0 where
  pub epoch : Sharing
  pub homes : TableId

-- what threads share of it
abbrev pub housed_in : Lived → Housed
housed_in live = record { id = live.epoch.id; opening = live.epoch.opening; homes = live.homes }

-- a pass that a thread has, and the name of the homes that it is away from
pub record Stationed : Type 0 where
  pub pass : Passing AnyActor
  pub homes : TableId

-- a station with the pass of this number of this epoch
pub record IsStationOf (epoch : Housed) (number : ℕ) (s : Stationed) : Type 0 where
  pub pass : IsPassAt (table_of epoch) number s.pass
  pub homes : s.homes ≡ epoch.homes

-- what was such a station still is one
abbrev pub StaysPassOf : Stationed → Stationed → Type 0
StaysPassOf s t = (epoch : Housed) (number : ℕ) → IsStationOf epoch number s → IsStationOf epoch number t

-- the same place among the passes of the same epoch, away from the same homes
pub record IsSameStation (s t : Stationed) : Type 0 where
  pub pass : IsSamePass s.pass t.pass
  pub homes : t.homes ≡ s.homes

-- a pass of this epoch that is away from its home
pub record IsOut (epoch : Housed) (a : Absence) (p : Passing AnyActor) : Type 0 where
  pub pass : IsPassAt (table_of epoch) a.number p
  pub absent : IsAbsent epoch.homes a.number p a

-- the station whose pass was brought home to these homes, where a seat tells of one
abbrev pub homed_in : TableId → Note → Option Stationed
homed_in homes told = option_map (λ p. record { pass = p; homes = homes }) (brought_in told)

-- why a pass of this number is not let out, where there are so many; for want of a share only by a refusal of one
abbrev pub IsNotOut : ℕ → ℕ → NotOut → Type 0
IsNotOut count number kept.NotRunning = ⊥
IsNotOut count number kept.Ended = ⊥
IsNotOut count number kept.Lost = ⊥
IsNotOut count number kept.NoSuch = count ≤ number
IsNotOut count number kept.Away = number < count
IsNotOut count number (kept.Memory refused) = number < count

-- ---- what an actor was asked for

-- the operations of a mutator, in order; a helper has none
abbrev pub asked : AnyActor → List Op
asked (any.Mutator m) = m.operations
asked a = []

-- its replies so far, the k-th of them to its k-th operation
abbrev pub replied : AnyActor → List Reply
replied (any.Mutator m) = m.replies.items
replied a = []

-- some operation has no reply yet
abbrev pub IsOpen : AnyActor → Type 0
IsOpen a = length (replied a) < length (asked a)

-- it has at most as many replies as operations, unless it has done its end and does nothing more
abbrev pub HasNoMore : AnyActor → Type 0
HasNoMore a = (any_machine.action a ≡ None) ⊎ (length (replied a) ≤ length (asked a))

-- its newest reply, if it shows one: where names were renewed since, it does only if its last unit ended with that reply
abbrev pub newest_of : AnyActor → Option Reply
newest_of (any.Mutator m) = mutating.newest_of m
newest_of a = None

-- it is a mutator; or a helper
abbrev pub is_mutator : AnyActor → Bool
is_mutator (any.Mutator m) = true
is_mutator a = false

-- it takes up this operation: a mutator that may take it as an order
abbrev pub TakesUp : AnyActor → Op → Type 0
TakesUp (any.Mutator m) o = MayTakeOrder m o
TakesUp a o = ⊥

-- how many registers a mutator may name; a helper has none, and refuses whatever is named, so all that there are
abbrev pub registers_of : AnyActor → ℕ
registers_of (any.Mutator m) = m.width
registers_of a = REGISTERS

-- A mutator has no room for a further operation with its reply, beside that of the thread's end.
abbrev pub HasNoRoom : Mutating → Type 0
HasNoRoom m = m.replies.room ≤ length m.operations + 2

-- why an actor that isn't held up and has not ended takes no order of an operation: it is a helper; or one is open, or it may be asked for none such, or
-- there is no room for it
abbrev pub Refuses : AnyActor → Op → Type 0
Refuses (any.Mutator m) o = IsOpen (any.Mutator m) ⊎ ((¬ IsOperation m.width o) ⊎ HasNoRoom m)
Refuses a o = ⊤

-- what is answered of an actor that takes no order
abbrev pub IsNoOrder : AnyActor → Answer → Type 0
IsNoOrder a (answer.Done r) = ⊥
IsNoOrder a answer.Waits = ⊥
IsNoOrder a answer.Pause = IsHeldUp a
IsNoOrder a answer.Ended = HasEnded a
IsNoOrder a answer.Refused = (¬ IsHeldUp a) × ¬ HasEnded a

-- ---- what comes of an operation

-- one unit was done, or none by an actor that is through
abbrev pub HasTurned : Passing AnyActor → Passing AnyActor → Type 0
HasTurned p q = (olds : List ℕ) × Turned any_machine p olds q

-- it was ordered, as an event of the epoch, and then a unit was done
abbrev pub WasOrdered : Passing AnyActor → Op → Passing AnyActor → Type 0
WasOrdered p o q = (r : Passing AnyActor) × Told any_machine p (Order p.number o) r × HasTurned r q

-- what has come of ordering an operation
abbrev pub HasAnswered : Passing AnyActor → Op → Answer → Passing AnyActor → Type 0
HasAnswered p o (answer.Done r) q = WasOrdered p o q × (length (replied p.actor) ≡ length (asked p.actor)) × (asked q.actor ≡ asked p.actor ++ o ∷ []) × (replied q.actor ≡ replied p.actor ++ r ∷ [])
HasAnswered p o answer.Waits q = WasOrdered p o q × (length (replied p.actor) ≡ length (asked p.actor)) × (asked q.actor ≡ asked p.actor ++ o ∷ []) × (replied q.actor ≡ replied p.actor)
HasAnswered p o answer.Pause q = (q.actor ≡ p.actor) × (¬ TakesUp p.actor o) × IsHeldUp p.actor
HasAnswered p o answer.Ended q = (q.actor ≡ p.actor) × (¬ TakesUp p.actor o) × HasEnded p.actor
HasAnswered p o answer.Refused q = (q.actor ≡ p.actor) × (¬ TakesUp p.actor o) × (¬ IsHeldUp p.actor) × (¬ HasEnded p.actor) × Refuses p.actor o

-- What has come of going on with what was ordered before: the reply, if one has come. Where an operation is open, a unit was done; else nothing has changed.
abbrev pub HasGoneOn : Passing AnyActor → Option Reply → Passing AnyActor → Type 0
HasGoneOn p (Some r) q = HasTurned p q × IsOpen p.actor × (asked q.actor ≡ asked p.actor) × (replied q.actor ≡ replied p.actor ++ r ∷ [])
HasGoneOn p None q = (IsOpen p.actor → HasTurned p q) × ((¬ IsOpen p.actor) → q ≡ p) × (asked q.actor ≡ asked p.actor) × (replied q.actor ≡ replied p.actor)

-- What has come of the wish to end the thread of a mutator: it has ended, or not. A mutator with no open operation does a unit for it, and nobody is asked
-- for anything.
pub record Ends (p : Passing AnyActor) (ended : Bool) (q : Passing AnyActor) : Type 0 where
  pub answer : IsTrue ended ↔ HasEnded q.actor
  pub unit : (is_mutator p.actor ≡ true) → ¬ IsOpen p.actor → HasTurned p q
  pub else_none : (is_mutator p.actor ≡ false) ⊎ IsOpen p.actor → q ≡ p
  pub asked : asked q.actor ≡ asked p.actor

-- a unit that ended so found work
abbrev pub found_work : Option Turn → Bool
found_work (Some (turn.Decrementer worked.Worked)) = true
found_work (Some (turn.Tracer traced.Worked)) = true
found_work (Some (turn.Tracer traced.RememberFull)) = true
found_work other = false

-- so many units were done one after another, and each found work
abbrev pub HaveWorked : ℕ → Passing AnyActor → Passing AnyActor → Type 0
HaveWorked zero p q = q ≡ p
HaveWorked (suc n) p q = (r : Passing AnyActor) × HaveWorked n p r × HasTurned r q × (found_work (end_of q.actor) ≡ true)

-- fewer than so many did, and a further unit found none
abbrev pub HasStopped : ℕ → Passing AnyActor → Passing AnyActor → Type 0
HasStopped units p q = (n : ℕ) × (r : Passing AnyActor) × (n < units) × HaveWorked n p r × HasTurned r q × (found_work (end_of q.actor) ≡ false)

-- What has come of so many units for a helper: it did all, and each found work, or it stopped behind the first that found none. A mutator does none.
pub record Helps (units : ℕ) (p : Passing AnyActor) (all : Bool) (q : Passing AnyActor) : Type 0 where
  pub busy : is_mutator p.actor ≡ false → IsTrue all → HaveWorked units p q
  pub stopped : is_mutator p.actor ≡ false → all ≡ false → HasStopped units p q
  pub mutator : is_mutator p.actor ≡ true → (all ≡ false) × (q ≡ p)
