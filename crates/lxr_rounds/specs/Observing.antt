-- What an observer is told of rounds.
use Rattle.std.specs.Prelude.{◌≡◌, ℕ, ◌+◌, ◌^◌, ◌<◌, ◌≤◌, Bool, List, ◌∷◌, length}
use Rattle.lxr_layout.specs.declared.TheConstants.{MOST_GRANULES}
use Rattle.lxr_graph.specs.History.{Item, Pause, PauseReport}
use Rattle.lxr_image.specs.declared.space.Space.{Space}
use Rattle.lxr_invariant.specs.AbstractState.{AbstractState}
use Rattle.lxr_core.specs.declared.actors.AnyActor.{AnyActor}
use Rattle.lxr_core.specs.Actors.{mutators_in}
use Rattle.lxr_serve.specs.declared.Served.{Served}
use Rattle.lxr_serve.specs.Answering.{Answers}
use Rattle.lxr_serve.specs.Serving.{CanServe, KeepsHelpers}

-- A report that comes next where so many pauses were made: it has the next number, and no list of it has more names than the largest heap has granules.
pub record IsNextReport (pauses : ℕ) (report : PauseReport) : Type 0 where
  pub number : report.number ≡ pauses + 1
  pub fits : pauses + 1 < 2 ^ 32
  pub promoted : length report.promoted ≤ MOST_GRANULES
  pub dead : length report.dead ≤ MOST_GRANULES
  pub swept : length report.swept ≤ MOST_GRANULES
  pub stuck : length report.stuck ≤ MOST_GRANULES

-- Waiting `new`s were answered once: before and after stand the actors, the space and the history.
pub record WereAnswered (actors actors' : List AnyActor) (space space' : Space) (h h' : List Item) : Type 0 where
  pub result : Served
  pub collected : Bool
  pub abstract_state : AbstractState
  pub can : CanServe space abstract_state actors collected
  pub answers : Answers result collected (mutators_in actors) (mutators_in actors') space space' h h'
  pub helpers : KeepsHelpers actors actors'

-- What an observer was told while a history went on from h, where it and its output stood at o and w: each pause, by its report, and, each time that
-- waiting `new`s were answered, the actors before and after that, of which so many are mutators. It and its output stand at the first two behind
-- that, and the history is the last. What it does of each of these it says itself.
pub data Tells {O S : Type 0} (began : O → List AnyActor → O → Type 0) (served : O → ℕ → List AnyActor → O → Type 0) (told : O → S → PauseReport → O → S → Type 0) (o : O) (w : S) (h : List Item) : O → S → List Item → Type 0 where
  nothing : Tells began served told o w h o w h
  pause : (o1 o2 : O) (w1 w2 : S) (k : List Item) (report : PauseReport) → Tells began served told o w h o1 w1 k → told o1 w1 report o2 w2 → Tells began served told o w h o2 w2 (Pause report ∷ k)
  answers : (o1 o2 o3 : O) (w1 : S) (k l : List Item) (actors actors' : List AnyActor) (space space' : Space) → Tells began served told o w h o1 w1 k → began o1 actors o2 → WereAnswered actors actors' space space' k l
      → served o2 space.limits.threads actors' o3 → Tells began served told o w h o3 w1 l

-- It was told all this, and failed for this cause as it was told of the pause with this report behind this history. Its output stands at the last.
pub record Fails {O S E : Type 0} (began : O → List AnyActor → O → Type 0) (served : O → ℕ → List AnyActor → O → Type 0) (told : O → S → PauseReport → O → S → Type 0) (failed : O → S → PauseReport → E → S → Type 0)
    (o : O) (w : S) (h : List Item) (why : E) (w' : S) (k : List Item) (report : PauseReport) : Type 0 where
  pub observer : O
  pub output : S
  pub tells : Tells began served told o w h observer output k
  pub fails : failed observer output report why w'
