-- The rule of the table: the words, and the actors that seats hold, are those of one run of the opening core.
use Rattle.std.specs.Prelude.{◌≡◌, ℕ, suc, ◌+◌, ◌<◌, ◌==◌, List, [], ◌∷◌, ◌++◌, length, map, slice_index}
use lib.ListN.{get_elem?}
use mathlib.Core.Option.{some}
use Rattle.atomic_table.specs.Table.{State}
use Rattle.atomic_table.specs.declared.shared.Seat.{Seat}
use Rattle.lxr_layout.specs.declared.Place.{Place}
use Rattle.lxr_graph.specs.declared.Op.{Op}
use Rattle.lxr_actor.specs.declared.Event.{Event}
use Rattle.lxr_actor.specs.declared.Event.TheVariants.{Step, Give, Out, Order}
use Rattle.lxr_actor.specs.declared.Core.{Core}
use Rattle.lxr_actor.specs.Machine.{Machine}
use Rattle.lxr_actor.specs.Run.{core_of, run, one_if, times, AlwaysFits}
use Rattle.lxr_shared_passes.specs.declared.rule.Held.{Held}
use Rattle.lxr_shared_passes.specs.declared.rule.View.{View}
use Rattle.lxr_shared_passes.specs.Passing.{Passing, Every, IsSeen, IsAt}

-- how often the number stands in the list
abbrev pub count : ℕ → List ℕ → ℕ
count x [] = 0
count x (n ∷ ns) = one_if (n == x) + count x ns

module _ {A : Type 0} where
  abbrev pub held : ℕ → A → List Event → Held A
  held number actor seen = record { number = number; actor = actor; seen = seen }

  abbrev pub held_of : Passing A → Held A
  held_of p = held p.number p.actor p.seen

  abbrev pub view : Core A → List (Held A) → View A
  view core hs = record { core = core; held = hs }

  -- the view of a pass
  abbrev pub one : Core A → ℕ → A → List Event → View A
  one core number actor seen = view core (held number actor seen ∷ [])

  -- the actors at opening, numbered from here on
  abbrev pub entries : ℕ → List A → List (Held A)
  entries from [] = []
  entries from (a ∷ rest) = held from a [] ∷ entries (suc from) rest

  -- the view of the first seat
  abbrev pub whole : Core A → View A
  whole core = view core (entries 0 core.actors)

  abbrev pub rest_of : List (Held A) → List (Held A)
  rest_of [] = []
  rest_of (h ∷ hs) = hs

  abbrev pub first_of : List (Held A) → List (Held A)
  first_of [] = []
  first_of (h ∷ hs) = h ∷ []

  abbrev pub without_first : View A → View A
  without_first v = view v.core (rest_of v.held)

  abbrev pub only_first : View A → View A
  only_first v = view v.core (first_of v.held)

  abbrev pub merged : View A → View A → View A
  merged v w = view v.core (v.held ++ w.held)

  -- the view of a seat that was joined to another
  abbrev pub nobody : View A
  nobody = view (core_of [] []) []

  -- the events that the first actor of the view has seen
  abbrev pub seen_of : List (Held A) → List Event
  seen_of [] = []
  seen_of (h ∷ hs) = h.seen

  abbrev pub seen_in : View A → List Event
  seen_in v = seen_of v.held

  abbrev pub numbers : List (Held A) → List ℕ
  numbers hs = map (λ (h : Held A). h.number) hs

  -- in how many views the actor of this number is
  abbrev pub places : ℕ → List (View A) → ℕ
  places number [] = 0
  places number (v ∷ vs) = count number (numbers v.held) + places number vs

  -- P holds of the actor, where the view has just one
  abbrev pub OfOnly : Core A → List (Held A) → (Core A → Held A → Type 0) → Type 0
  OfOnly core (h ∷ []) P = P core h
  OfOnly core _ P = Unit {0}

  abbrev pub OfOne : View A → (Core A → Held A → Type 0) → Type 0
  OfOne v P = OfOnly v.core v.held P

module _ {A : Type 0} (m : Machine A) where
  -- the schedule has all that the actor has seen and then no event of it, and leads to the actor's state
  abbrev pub IsHeld : Core A → List Event → Held A → Type 0
  IsHeld core schedule h = IsSeen schedule h.number h.seen × IsAt m core schedule h.number h.actor

  -- this is so of each actor of the view, if it has any
  abbrev pub Knows : Core A → List Event → View A → Type 0
  Knows core schedule v = Every (λ (h : Held A). (v.core ≡ core) × IsHeld core schedule h) v.held

  -- the rule
  pub record Runs (core : Core A) (s : State (Unit {0}) (View A)) : Type 0 where
    pub schedule : List Event
    pub words : s.words ≡ (run m core schedule).words
    pub each : (id : ℕ) (v : View A) → get_elem? s.views id ≡ some v → Knows core schedule v
    pub once : (number : ℕ) → number < length core.actors → places number s.views ≡ 1

  -- after these events of others came this one of the actor, which is in the state b now
  abbrev pub Follows : Core A → Held A → List Event → Event → A → View A → Type 0
  Follows core h others e b w = (times h.number others ≡ 0)
      × IsAt m core (h.seen ++ others) h.number h.actor
      × IsAt m core ((h.seen ++ others) ++ e ∷ []) h.number b
      × (w ≡ one core h.number b ((h.seen ++ others) ++ e ∷ []))

  -- the actor did its step on the word i, which was `old`
  abbrev pub Advanced : ℕ → View A → ℕ → View A → Type 0
  Advanced i v old w = OfOne v (λ core h. (others : List Event)
      × (old ≡ slice_index (run m core (h.seen ++ others)).words i)
      × Follows core h others (Step h.number) (m.after h.actor old) w)

  -- the actor was offered the place
  abbrev pub TakesOffer : Place → View A → View A → Type 0
  TakesOffer place v w = OfOne v (λ core h. (others : List Event) × Follows core h others (Give h.number place) (m.offered h.actor place).0 w)

  -- the actor gave up a place
  abbrev pub GivesUp : View A → View A → Type 0
  GivesUp v w = OfOne v (λ core h. (others : List Event) × Follows core h others (Out h.number) (m.spared h.actor).0 w)

  -- the actor was ordered an operation
  abbrev pub TakesOrder : Op → View A → View A → Type 0
  TakesOrder op v w = OfOne v (λ core h. (others : List Event) × Follows core h others (Order h.number op) (m.ordered h.actor op).0 w)

  -- a pass: its seat holds its actor alone, which a run of the opening core leads to, and each next step fits
  pub record IsSeated (number : ℕ) (actor : A) (s : Seat (Unit {0}) (View A)) : Type 0 where
    pub holds : s.me ≡ (one s.me.0.core number actor (seen_in s.me.0), [])
    pub words : s.table_id.words ≡ length s.me.0.core.words
    pub some_words : 0 < s.table_id.words
    pub fits : ∥ AlwaysFits m s.me.0.core ∥₁
    pub reached : ∥ IsAt m s.me.0.core (seen_in s.me.0) number actor ∥₁
