-- Promoting names one after another, and counts that stay at their largest value.
use Rattle.std.specs.Prelude.{◌⊎◌, List, [], ◌∷◌, IsTrue}
use Rattle.lxr_layout.specs.declared.Name.{Name}
use Rattle.lxr_graph.specs.Names.{has}
use Rattle.lxr_graph.specs.State.{State}
use Rattle.lxr_model.specs.Reachable.{Holds, Refers}

-- what holds a name up: a register, a reference of a kept name or one of the list
abbrev pub IsHeldUp : State → List Name → List Name → Name → Type 0
IsHeldUp s kept promoted n = Holds s n ⊎ ((u : Name) × IsTrue (has kept u) × Refers s.graph u n) ⊎ ((u : Name) × IsTrue (has promoted u) × Refers s.graph u n)

-- one after another, newest first, each promoted name was made since the pause and held up by what came before it
abbrev pub IsGrowth : State → List Name → List Name → List Name → Type 0
IsGrowth s kept made [] = Unit {0}
IsGrowth s kept made (n ∷ promoted) = IsGrowth s kept made promoted × IsTrue (has made n) × IsHeldUp s kept promoted n

-- no more is held up
abbrev pub IsGrown : State → List Name → List Name → List Name → Type 0
IsGrown s kept made promoted = (n : Name) → IsTrue (has made n) → IsHeldUp s kept promoted n → IsTrue (has promoted n)
