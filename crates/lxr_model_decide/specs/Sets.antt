-- The least sets of the model, computed: what is reachable, dead or promoted.
use Rattle.std.specs.Prelude.{Bool, not, ◌&&◌, ◌||◌, Option, Some, None, List, [], ◌∷◌, ◌++◌}
use Rattle.std.specs.List.{list_any}
use Rattle.lxr_layout.specs.declared.Name.{Name}
use Rattle.lxr_graph.specs.Names.{same_name, same_held, has, without}
use Rattle.lxr_graph.specs.State.{Object, Graph, State, object_at, refs_of, world_name}
use Rattle.lxr_model_decide.specs.Growing.{names_grown}

-- ---- tests

-- a register of the state holds n
abbrev pub holds : State → Name → Bool
holds s n = list_any (same_held (Some n)) s.registers

-- a reference of m's object is n
abbrev pub refers : Graph → Name → Name → Bool
refers g n m = list_any (same_held (Some n)) (refs_of (object_at g m))

-- one of these names' objects refers to n
abbrev pub any_refers : Graph → List Name → Name → Bool
any_refers g ms n = list_any (refers g n) ms

-- ---- all names that a state has anywhere

-- the names that registers or references hold
abbrev pub names_in : List (Option Name) → List Name
names_in [] = []
names_in (None ∷ rs) = names_in rs
names_in (Some n ∷ rs) = n ∷ names_in rs

-- the names that the objects of a row refer to
abbrev pub names_in_row : List Object → List Name
names_in_row [] = []
names_in_row (o ∷ row) = names_in o.refs ++ names_in_row row

-- the names that the objects of a graph refer to
abbrev pub names_in_graph : Graph → List Name
names_in_graph [] = []
names_in_graph (row ∷ g) = names_in_row row ++ names_in_graph g

-- the world, and the names that registers and references hold
abbrev pub all_names : State → List Name
all_names s = world_name ∷ names_in s.registers ++ names_in_graph s.graph

-- ---- the sets

-- the world, what a register holds, and what one of those taken refers to
abbrev pub is_reached : State → List Name → Name → Bool
is_reached s taken n = same_name n world_name || (holds s n || any_refers s.graph taken n)

-- the reachable names
abbrev pub reachable_names : State → List Name
reachable_names s = names_grown (is_reached s) (all_names s)

-- unstuck, in no register, and what refers to it from U is taken
abbrev pub dies : State → List Name → List Name → List Name → Name → Bool
dies s us stuck taken o = not (has stuck o) && (not (holds s o) && not (any_refers s.graph (without us taken) o))

-- the dead of U
abbrev pub dead_names : State → List Name → List Name → List Name
dead_names s us stuck = names_grown (dies s us stuck) us

-- in a register, or a reference of a kept name or of one of those taken
abbrev pub is_raised : State → List Name → List Name → Name → Bool
is_raised s kept taken n = holds s n || (any_refers s.graph kept n || any_refers s.graph taken n)

-- the promoted of the names made
abbrev pub promoted_names : State → List Name → List Name → List Name
promoted_names s kept made = names_grown (is_raised s kept) made
