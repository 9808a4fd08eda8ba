-- How the hinters of a set lead to each other.
use Rattle.std.specs.Prelude.{◌≡◌, ℕ, ◌+◌, List, ◌++◌, map, take, drop, Some, slice_get}
use Rattle.std.specs.declared.alloc.Global.{Global}
use Rattle.atomic_blocks.specs.Lent.{RowsId}
use Rattle.crossbeam_deque.specs.Handles.{worker_deque}
use Rattle.lxr_hints.specs.declared.shared.Shared.{Shared}
use Rattle.lxr_hints.specs.Sharing.{way_deque}
use Rattle.lxr_hints.specs.Taking.{Hinting}

-- how many pushes on it were answered true
abbrev pub pushes_of : {D : Type 0} → Hinting D → ℕ
pushes_of h = h.pushes

-- which deque is its own
abbrev pub own_deque : {H : Type 0} → Hinting (Shared H) → RowsId × Global
own_deque h = worker_deque h.deques.own

-- of some in order, each but the one of this number, once: those behind it, and then those before it
abbrev pub others_of : {X : Type 0} → ℕ → List X → List X
others_of number xs = drop (number + 1) xs ++ take number xs

-- the ways of each hinter lead to the deque of each other one, once
abbrev pub AreJoined : {H : Type 0} → List (Hinting (Shared H)) → Type 0
AreJoined {H} set = (number : ℕ) (h : Hinting (Shared H)) → slice_get set number ≡ Some h → map way_deque h.deques.ways.items ≡ others_of number (map own_deque set)
