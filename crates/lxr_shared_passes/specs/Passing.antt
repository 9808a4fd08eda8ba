-- What is known of a pass, what its calls do, and what stands at closing.
use Rattle.std.specs.Prelude.{◌≡◌, ℕ, suc, List, [], ◌∷◌, ◌++◌, Some, None, false, IsTrue, slice_get, slice_index}
use Rattle.atomic_table.specs.Seated.{TableId}
use Rattle.lxr_actor.specs.declared.Action.{Action}
use Rattle.lxr_actor.specs.declared.Event.{Event}
use Rattle.lxr_actor.specs.declared.Event.TheVariants.{Step}
use Rattle.lxr_actor.specs.declared.Core.{Core}
use Rattle.lxr_actor.specs.Machine.{Machine}
use Rattle.lxr_actor.specs.Run.{change, run, times}

-- an epoch: its name, and the words and actors that it was opened with
pub record Opened (A : Type 0) : Type 0 where
  pub id : TableId
  pub opening : Core A

-- a pass: its epoch, what the epoch was opened with, its place among the passes, its actor, and the events up to the last one of its own
pub record Passing (A : Type 0) : Type 0 where
  pub epoch : TableId
  pub opening : Core A
  pub number : ℕ
  pub actor : A
  pub seen : List Event

-- P holds of each element
abbrev pub Every : {X : Type 0} → (X → Type 0) → List X → Type 0
Every P [] = Unit {0}
Every P (x ∷ xs) = P x × Every P xs

module _ {A : Type 0} where
  abbrev pub passing : TableId → Core A → ℕ → A → List Event → Passing A
  passing epoch opening number actor seen = record { epoch = epoch; opening = opening; number = number; actor = actor; seen = seen }

  -- the passes at opening, numbered from here on, none of which has seen an event
  abbrev pub dealt : TableId → Core A → ℕ → List A → List (Passing A)
  dealt epoch opening from [] = []
  dealt epoch opening from (a ∷ rest) = passing epoch opening from a [] ∷ dealt epoch opening (suc from) rest

  -- the same place among the passes of the same epoch
  pub record IsSamePass (p q : Passing A) : Type 0 where
    pub epoch : q.epoch ≡ p.epoch
    pub opening : q.opening ≡ p.opening
    pub number : q.number ≡ p.number

-- the schedule is what was seen, and then no event of this number
abbrev pub IsSeen : List Event → ℕ → List Event → Type 0
IsSeen schedule number seen = (rest : List Event) × (schedule ≡ seen ++ rest) × (times number rest ≡ 0)

module _ {A : Type 0} (m : Machine A) where
  -- the actor of this number is in this state after this schedule
  abbrev pub IsAt : Core A → List Event → ℕ → A → Type 0
  IsAt opening schedule number a = slice_get (run m opening schedule).actors number ≡ Some a

  -- After these events of others, during which the actor stood still, came this one of the pass itself, and its actor is as the event leaves it
  abbrev pub Came : Passing A → List Event → Event → Passing A → Type 0
  Came p others e q = (times p.number others ≡ 0)
      × IsAt p.opening (p.seen ++ others) p.number p.actor
      × (let there = run m p.opening (p.seen ++ others) in q ≡ passing p.epoch p.opening p.number (change m e there.words p.actor).1 ((p.seen ++ others) ++ e ∷ []))

  -- this event came, after events of others
  abbrev pub Told : Passing A → Event → Passing A → Type 0
  Told p e q = (others : List Event) × Came p others e q

  -- the actor did its next step, whose word was `old` after what others had done
  abbrev pub DoesStep : Passing A → ℕ → Passing A → Type 0
  DoesStep p old q = (act : Action) × (others : List Event) × (m.action p.actor ≡ Some act)
      × (old ≡ slice_index (run m p.opening (p.seen ++ others)).words act.word)
      × Came p others (Step p.number) q

  -- from within a unit it went on step by step, and did not rest before the last one
  abbrev pub GoesOn : Passing A → List ℕ → Passing A → Type 0
  GoesOn p [] q = q ≡ p
  GoesOn p (old ∷ olds) q = (m.rests p.actor ≡ false) × ((r : Passing A) × DoesStep p old r × GoesOn r olds q)

  -- No step of a finished actor, and else one unit: its steps one by one, until it rests. The numbers are what the words were
  abbrev pub Turned : Passing A → List ℕ → Passing A → Type 0
  Turned p [] q = (m.action p.actor ≡ None) × (q ≡ p)
  Turned p (old ∷ olds) q = (r : Passing A) × DoesStep p old r × GoesOn r olds q × IsTrue (m.rests q.actor)

  -- these are the words and actors of one schedule, of which each pass has seen a beginning with all events of its own
  abbrev pub IsEnd : Core A → List ℕ → List A → List (Passing A) → Type 0
  IsEnd opening words actors passes = (schedule : List Event)
      × (words ≡ (run m opening schedule).words) × (actors ≡ (run m opening schedule).actors)
      × Every (λ (p : Passing A). IsSeen schedule p.number p.seen) passes
