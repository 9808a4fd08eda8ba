-- What a state holds and refers to, and what is reachable in it.
use Rattle.std.specs.Prelude.{◌≡◌, ℕ, Bool, Some, IsTrue, slice_get}
use Rattle.lxr_layout.specs.declared.Name.{Name}
use Rattle.lxr_graph.specs.State.{Graph, State, object_at, refs_of, world_name}

-- a register of the state holds n
abbrev pub Holds : State → Name → Type 0
Holds s n = (i : ℕ) × (slice_get s.registers i ≡ Some (Some n))

-- a reference of m's object is n
abbrev pub Refers : Graph → Name → Name → Type 0
Refers g m n = (i : ℕ) × (slice_get (refs_of (object_at g m)) i ≡ Some (Some n))

-- the least set with the world, the names that registers hold and the references of its members
pub data Reachable (s : State) : Name → Type 0 where
  the_world : Reachable s world_name
  held : {n : Name} → Holds s n → Reachable s n
  referred : {m n : Name} → Reachable s m → Refers s.graph m n → Reachable s n

-- a set of names has the world and what registers hold, and with a name all its references
pub record IsClosed (s : State) (p : Name → Bool) : Type 0 where
  pub world : IsTrue (p world_name)
  pub registers : (n : Name) → Holds s n → IsTrue (p n)
  pub references : (m n : Name) → IsTrue (p m) → Refers s.graph m n → IsTrue (p n)
