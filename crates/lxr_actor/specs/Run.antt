-- What actors do together: one fold over a list of events.
use Rattle.std.specs.Prelude.{◌≡◌, ℕ, ◌+◌, ◌<◌, ◌==◌, List, [], ◌∷◌, length, map, take, Option, Some, None, Bool, true, false, slice_get, slice_index, slice_set}
use Rattle.lxr_actor.specs.declared.Action.{Action}
use Rattle.lxr_actor.specs.declared.Event.{Event}
use Rattle.lxr_actor.specs.declared.Event.TheVariants.{Step, Give, Out, Order}
use Rattle.lxr_actor.specs.declared.Core.{Core}
use Rattle.lxr_actor.specs.Change.{changed}
use Rattle.lxr_actor.specs.Machine.{Machine, Fits}

-- shared words and the actors at work on them
abbrev pub core_of : {A : Type 0} → List ℕ → List A → Core A
core_of words actors = record { words = words; actors = actors }

-- the number of the actor to whom it happens
abbrev pub of_event : Event → ℕ
of_event (Step number) = number
of_event (Give number place) = number
of_event (Out number) = number
of_event (Order number op) = number

module _ {A : Type 0} (m : Machine A) where
  -- the words and the actor after this action, which is done on its word, and the actor is told what the word was
  abbrev pub acted : List ℕ → A → Option Action → List ℕ × A
  acted words a None = (words, a)
  acted words a (Some act) = let old = slice_index words act.word in (slice_set words act.word (changed act.kind old act.operand), m.after a old)

  -- after its next step; nothing changes where there is none
  abbrev pub stepped : List ℕ → A → List ℕ × A
  stepped words a = acted words a (m.action a)

  -- what an event does to the words and to the actor to whom it happens
  abbrev pub change : Event → List ℕ → A → List ℕ × A
  change (Step number) words a = stepped words a
  change (Give number place) words a = (words, (m.offered a place).0)
  change (Out number) words a = (words, (m.spared a).0)
  change (Order number op) words a = (words, (m.ordered a op).0)

  -- the core after an event of this actor; nothing changes where there is no such actor
  abbrev pub happened : Core A → Event → Option A → Core A
  happened core e None = core
  happened core e (Some a) = let to = change e core.words a in core_of to.0 (slice_set core.actors (of_event e) to.1)

  abbrev pub event : Core A → Event → Core A
  event core e = happened core e (slice_get core.actors (of_event e))

  -- the core after a schedule, one event after another
  abbrev pub run : Core A → List Event → Core A
  run core [] = core
  run core (e ∷ es) = run (event core e) es

  -- the next step of the actor of this number fits the words, if there are such an actor and such a step
  abbrev pub FitsAt : Core A → ℕ → Type 0
  FitsAt core number = (a : A) → slice_get core.actors number ≡ Some a → Fits m core.words a

  -- each next step fits in each core that a schedule leads to
  unfoldable pub AlwaysFits : Core A → Type 0
  AlwaysFits core = (schedule : List Event) (number : ℕ) → FitsAt (run core schedule) number

  -- the steps of these numbers fit, one after another
  abbrev pub ReplayFits : Core A → List ℕ → Type 0
  ReplayFits core numbers = (k : ℕ) → k < length numbers → FitsAt (run core (map Step (take k numbers))) (slice_index numbers k)

-- how many of the events are of this actor
abbrev pub one_if : Bool → ℕ
one_if true = 1
one_if false = 0

abbrev pub times : ℕ → List Event → ℕ
times number [] = 0
times number (e ∷ es) = one_if (of_event e == number) + times number es
