-- When the names of all that is left may be renewed, and what holds of the moment that a history then begins with anew.
use Rattle.std.specs.Prelude.{◌≡◌, ℕ, ◌+◌, ◌*◌, true, Some, None, List, [], ◌∷◌, IsTrue, length}
use Rattle.lxr_layout.specs.declared.TheConstants.{REGISTERS}
use Rattle.lxr_layout.specs.declared.Name.{Name}
use Rattle.lxr_graph.specs.Names.{AreInOrder, has}
use Rattle.lxr_graph.specs.State.{Graph, HasObject, Object, object_at, shape_of, world, world_name}
use Rattle.lxr_graph.specs.History.{Item, Call, Pause, Renew}
use Rattle.lxr_model.specs.Reachable.{IsClosed}
use Rattle.lxr_model.specs.Terms.{Terms}
use Rattle.lxr_model.specs.Moments.{Moment, moment}
use Rattle.lxr_model.specs.Reports.{is_draining}

-- the world has the shape of the opening
abbrev pub WorldHasShape : Graph → Type 0
WorldHasShape g = (o : Object) × (object_at g world_name ≡ Some o) × (shape_of o ≡ shape_of world)

-- A moment of so many threads at which a history may begin, as at the opening.
pub record IsStart (threads : ℕ) (m : Moment) : Type 0 where
  -- nothing was done since the last pause
  pub rests : m.last ≡ m.state
  -- there are a row of the graph and 256 registers for each thread, and the world
  pub rows : length m.state.graph ≡ threads + 1
  pub registers : length m.state.registers ≡ REGISTERS * threads
  pub world : WorldHasShape m.state.graph
  -- the unreclaimed names are the world's, what registers hold and what these refer to, and maybe more; each has its object
  pub closed : IsClosed m.state (has m.unreclaimed)
  pub objects : (n : Name) → IsTrue (has m.unreclaimed n) → HasObject m.state.graph n
  -- the world is stuck, and what is stuck is unreclaimed
  pub world_stuck : IsTrue (has m.stuck world_name)
  pub stuck : (n : Name) → IsTrue (has m.stuck n) → IsTrue (has m.unreclaimed n)
  -- names stand in order
  pub unreclaimed_in_order : AreInOrder m.unreclaimed
  pub stuck_in_order : AreInOrder m.stuck

-- the newest item is a draining pause
abbrev pub IsBehindDraining : List Item → Type 0
IsBehindDraining [] = ⊥
IsBehindDraining (Call t o r ∷ h) = ⊥
IsBehindDraining (Pause report ∷ h) = IsTrue (is_draining report.kind)
IsBehindDraining (Renew ns ∷ h) = ⊥

-- These names may be renewed after h: right behind a draining pause while no trace runs, where they and the world's are all that are left. A
-- history can begin with what they become.
pub record IsRenewal (terms : Terms) (h : List Item) (ns : List Name) : Type 0 where
  pub allowed : terms.renews ≡ true
  pub behind : IsBehindDraining h
  pub untraced : (moment terms.threads h).trace ≡ None
  pub left : (moment terms.threads h).unreclaimed ≡ world_name ∷ ns
  pub sound : IsStart terms.threads (moment terms.threads (Renew ns ∷ h))
