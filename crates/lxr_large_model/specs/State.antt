-- The state of a heap with large objects: the object graph, and the bodies of its large names.
use Rattle.std.specs.Prelude.{ℕ, ◌*◌, Option, Some, None, List, [], ◌∷◌, if◌then◌else◌, map, replicate}
use Rattle.lxr_layout.specs.declared.Name.{Name}
use Rattle.lxr_layout.specs.declared.Shape.{Shape}
use Rattle.lxr_layout.specs.declared.TheConstants.{WORDS_IN_BLOCK}
use Rattle.lxr_graph.specs.Names.{same_name}
use Rattle.lxr_graph.specs.State.{State, opening}

-- a large name with the words of its body
pub record Large : Type 0 where
  pub name : Name
  pub words : List ℕ

-- A state: that of the object graph, and a finite map from large names to lists of words. Nothing leaves it.
pub record LargeState : Type 0 where
  pub small : State
  pub large : List Large

-- the words of the body of a name, where it is a large one
abbrev pub body_of : List Large → Name → Option (List ℕ)
body_of [] n = None
body_of (l ∷ ls) n = if same_name n l.name then Some l.words else body_of ls n

-- the opening state: the world alone, and no large object
abbrev pub large_opening : LargeState
large_opening = record { small = opening 1; large = [] }

-- the shape of the handle of a large object
abbrev pub handle : Shape
handle = record { refs = 0; values = 0 }

-- a new body of so many blocks: zeros
abbrev pub fresh_body : ℕ → List ℕ
fresh_body blocks = replicate (WORDS_IN_BLOCK * blocks) 0

-- a body that is changed where it is that of a name
abbrev pub changed_at : Name → (List ℕ → List ℕ) → Large → Large
changed_at n change l = if same_name n l.name then (record l { words = change l.words }) else l

-- the map with the body of a name changed
abbrev pub with_body : List Large → Name → (List ℕ → List ℕ) → List Large
with_body ls n change = map (changed_at n change) ls
