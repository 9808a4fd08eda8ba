-- Which bodies are held in a history.
use Rattle.std.specs.Prelude.{◌≡◌, ℕ, ◌||◌, Bool, List, filter, map}
use Rattle.lxr_layout.specs.declared.Name.{Name}
use Rattle.lxr_graph.specs.Names.{has}
use Rattle.lxr_model.specs.Moments.{Moment}
use Rattle.lxr_large_model.specs.State.{Large}
use Rattle.lxr_large_bodies.specs.Bodies.{Body, Held}

-- a body as that of a large name, and whether it was made since the last pause
pub record Kept : Type 0 where
  pub name : Name
  pub words : List ℕ
  pub young : Bool

-- a body that is held
abbrev pub kept_of : Body → Kept
kept_of b = record { name = b.name; words = b.words; young = b.young }

-- a large name as a body that is to be held: young where it was made since the last pause
abbrev pub to_keep : Moment → Large → Kept
to_keep m l = record { name = l.name; words = l.words; young = has m.made l.name }

-- a large name was unreclaimed after the last pause, or was made since
abbrev pub is_kept : Moment → Large → Bool
is_kept m l = has m.unreclaimed l.name || has m.made l.name

-- The bodies that are held are exactly those of the large names that were unreclaimed after the last pause, and those made since, with the
-- words that they have.
abbrev pub HoldsBodies : Held → Moment → List Large → Type 0
HoldsBodies held m large = map kept_of held.bodies ≡ map (to_keep m) (filter (is_kept m) large)
