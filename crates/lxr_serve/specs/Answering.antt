-- How the `new`s that wait are answered after a pause, in order of threads, until one of them asks for a collecting pause.
use Rattle.std.specs.Prelude.{◌≡◌, ℕ, ◌+◌, ◌⊎◌, Bool, true, false, Some, List, ◌∷◌, length, slice_get, slice_set}
use Rattle.lxr_layout.specs.declared.Place.{Place}
use Rattle.lxr_layout.specs.declared.Shape.{Shape}
use Rattle.lxr_graph.specs.declared.Reply.TheVariants as reply
use Rattle.lxr_graph.specs.History.{Item, Call}
use Rattle.lxr_image.specs.declared.space.Space.{Space}
use Rattle.lxr_blocks.specs.Placing.{IsFull}
use Rattle.lxr_placing.specs.Placing.{IsServed}
use Rattle.lxr_mutator.specs.declared.phases.Waiting.{Waiting}
use Rattle.lxr_mutator.specs.Mutating.{IsWaiting, Mutating, next_name, op_now, waiting_by}
use Rattle.lxr_mutator.specs.Mutators.{answered, served as given}
use Rattle.lxr_serve.specs.declared.Served.{Served}
use Rattle.lxr_serve.specs.declared.Served.TheVariants as outcome

-- ---- one `new`

-- the space with one more object counted
abbrev pub with_new_counted : Space → Space
with_new_counted s = record s { tally = record s.tally { news = s.tally.news + 1 } }

-- the object was made, its thread has it, and one more is counted
pub record ServesNew (before after : Space) (m m' : Mutating) (w : Waiting) : Type 0 where
  pub place : Place
  pub middle : Space
  pub served : IsServed before middle (next_name m) w.dest w.shape place
  pub counted : after ≡ with_new_counted middle
  pub mutator : m' ≡ given m place

-- there was no room, and nothing has changed
pub record FindsNoRoom (before after : Space) (m m' : Mutating) (shape : Shape) : Type 0 where
  pub full : IsFull before shape
  pub space : after ≡ before
  pub mutator : m' ≡ m

-- it was served exactly where there was room
abbrev pub ServesIfRoom : Space → Space → Mutating → Mutating → Waiting → Bool → Type 0
ServesIfRoom before after m m' w true = ServesNew before after m m' w
ServesIfRoom before after m m' w false = FindsNoRoom before after m m' w.shape

-- there was no room, and the `new` was refused
pub record RefusesNew (before after : Space) (m m' : Mutating) (shape : Shape) : Type 0 where
  pub full : IsFull before shape
  pub space : after ≡ before
  pub mutator : m' ≡ answered m reply.Full

-- ---- the threads, one after another

-- How thread t comes out of its turn. Before and after it stand its mutator, the space, whether some `new` was served in this call, and the
-- history. A thread of which no `new` waits stays as it is. Where there is room for a waiting `new`, it is served. Where there is none, it
-- is refused if a collecting pause stands before and no `new` was served since.
pub data TakesTurn (collected : Bool) (t : ℕ) : Mutating → Mutating → Space → Space → Bool → Bool → List Item → List Item → Type 0 where
  passes : (m : Mutating) (space : Space) (served : Bool) (h : List Item) → ¬ IsWaiting m → TakesTurn collected t m m space space served served h h
  serves : (m m' : Mutating) (w : Waiting) (before after : Space) (served : Bool) (h : List Item) → waiting_by m m.end ≡ Some w → ServesNew before after m m' w
      → TakesTurn collected t m m' before after served true h (Call t (op_now m) (reply.New (next_name m)) ∷ h)
  refuses : (m m' : Mutating) (w : Waiting) (before after : Space) (h : List Item) → waiting_by m m.end ≡ Some w → collected ≡ true → RefusesNew before after m m' w.shape
      → TakesTurn collected t m m' before after false false h (Call t (op_now m) reply.Full ∷ h)

-- From these mutators, this space and this history, so many threads have taken their turn, in order. So the mutators, the space and
-- the history have become these, and this tells whether some `new` was served.
pub data TakeTurns (collected : Bool) (mutators : List Mutating) (space : Space) (h : List Item) : ℕ → List Mutating → Space → Bool → List Item → Type 0 where
  begins : TakeTurns collected mutators space h 0 mutators space false h
  next : (n : ℕ) (now : List Mutating) (before after : Space) (served served' : Bool) (k k' : List Item) (m m' : Mutating) → TakeTurns collected mutators space h n now before served k
      → slice_get now n ≡ Some m → TakesTurn collected (n + 1) m m' before after served served' k k' → TakeTurns collected mutators space h (n + 1) (slice_set now n m') after served' k'

-- ---- how a call ends

-- all threads have taken their turn, so no `new` waits any more
pub record AnswersAll (collected : Bool) (mutators mutators' : List Mutating) (space space' : Space) (h h' : List Item) : Type 0 where
  pub served : Bool
  pub turns : TakeTurns collected mutators space h (length mutators) mutators' space' served h'

-- The turn has come to a `new` for which there is no room, and which may not be refused: no collecting pause stands before, or another `new`
-- was served since. It and the later ones still wait.
pub record WantsCollection (collected : Bool) (mutators mutators' : List Mutating) (space space' : Space) (h h' : List Item) : Type 0 where
  pub number : ℕ
  pub served : Bool
  pub turns : TakeTurns collected mutators space h number mutators' space' served h'
  pub mutator : Mutating
  pub waiting : Waiting
  pub turn : slice_get mutators' number ≡ Some mutator
  pub waits : waiting_by mutator mutator.end ≡ Some waiting
  pub full : IsFull space' waiting.shape
  pub not_yet : (collected ≡ false) ⊎ (served ≡ true)

-- how the `new`s that wait are answered in one call, behind each history
abbrev pub Answers : Served → Bool → List Mutating → List Mutating → Space → Space → List Item → List Item → Type 0
Answers outcome.All collected mutators mutators' space space' h h' = AnswersAll collected mutators mutators' space space' h h'
Answers outcome.Collect collected mutators mutators' space space' h h' = WantsCollection collected mutators mutators' space space' h h'
