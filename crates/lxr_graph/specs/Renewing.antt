-- Names that are renewed: each object that is left gets a new serial of thread 1, 1, 2, 3, .., in order of the old names, and all that holds it
-- goes by the new name.
use Rattle.std.specs.Prelude.{ℕ, suc, ◌-◌, Option, Some, None, List, [], ◌∷◌, if◌then◌else◌, map, replicate}
use Rattle.lxr_layout.specs.declared.Name.{Name}
use Rattle.lxr_graph.specs.Names.{same_name}
use Rattle.lxr_graph.specs.State.{Graph, Object, State, object_at, refs_of, values_of, world_name}

-- the serial of the first of these names is 1, that of the second 2, and so on; what is none of them has the next one
abbrev pub serial_in : List Name → Name → ℕ
serial_in [] n = 1
serial_in (m ∷ ms) n = if same_name n m then 1 else suc (serial_in ms n)

-- a name once these are renewed: the k-th of them becomes 1.k, and the world keeps its own
abbrev pub renewed_name : List Name → Name → Name
renewed_name ns n = if same_name n world_name then n else record { thread = 1; serial = serial_in ns n }

-- what a reference or a register holds, renamed
abbrev pub renewed_held : List Name → Option Name → Option Name
renewed_held ns None = None
renewed_held ns (Some n) = Some (renewed_name ns n)

-- an object with its references renamed
abbrev pub renewed_object : List Name → Option Object → Object
renewed_object ns o = record { refs = map (renewed_held ns) (refs_of o); values = values_of o }

-- The graph, for so many threads, of the world and of these names' objects alone, under their new names: thread 1 has all of them.
abbrev pub renewed_graph : ℕ → List Name → Graph → Graph
renewed_graph threads ns g =
    (renewed_object ns (object_at g world_name) ∷ []) ∷ map (λ n. renewed_object ns (object_at g n)) ns ∷ replicate (threads - 1) []

-- the state with that graph, and with what registers hold renamed
abbrev pub renewed_state : ℕ → List Name → State → State
renewed_state threads ns s = record { graph = renewed_graph threads ns s.graph; registers = map (renewed_held ns) s.registers }
