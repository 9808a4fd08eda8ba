-- What an actor means: a machine that acts on shared words, one atomic step at a time.
use Rattle.std.specs.Prelude.{◌≡◌, ℕ, ◌<◌, List, length, Bool, Option, Some, if◌then◌else◌}
use Rattle.lxr_layout.specs.declared.Place.{Place}
use Rattle.lxr_graph.specs.declared.Op.{Op}
use Rattle.lxr_actor.specs.declared.Action.{Action}

-- What an actor does, one access to a word a step.
pub record Machine (A : Type 0) : Type 0 where
  -- its next step, if it is not finished
  pub action : A → Option Action
  -- its state once it is told what the word was, whatever that is
  pub after : A → ℕ → A
  -- no unit is in progress
  pub rests : A → Bool
  -- a bound on the steps of the unit that is in progress or, at rest, of the next one
  pub left : A → ℕ
  -- its state once a place is offered to it, and whether it took the place
  pub offered : A → Place → A × Bool
  -- its state once it gave up a place, and the place, if it had one
  pub spared : A → A × Option Place
  -- its state once it is ordered an operation, and whether it took the operation
  pub ordered : A → Op → A × Bool

module _ {A : Type 0} (m : Machine A) where
  -- a bound on the steps before it next rests
  abbrev pub to_go : A → ℕ
  to_go a = if m.rests a then 0 else m.left a

  -- the word of its next step exists
  abbrev pub Fits : List ℕ → A → Type 0
  Fits words a = (act : Action) → m.action a ≡ Some act → act.word < length words
