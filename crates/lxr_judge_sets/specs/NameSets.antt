-- Lists in which each name stands once, and tables that tell whether a list has a name.
use Rattle.std.specs.Prelude.{◌≡◌, Bool, List, [], ◌∷◌, ◌++◌, if◌then◌else◌}
use Rattle.lxr_layout.specs.declared.Name.{Name}
use Rattle.lxr_graph.specs.Names.{has}
use Rattle.lxr_graph.specs.Distinct.{IsDistinct}
use Rattle.lxr_judge_sets.specs.ByName.{Cells, value_at}

-- a table has true for exactly the names of a list, in which none stands twice
pub record IsMarked (marks : Cells Bool) (ns : List Name) : Type 0 where
  pub members : (n : Name) → value_at marks n ≡ has ns n
  pub once : IsDistinct ns

-- a list with a name at its end, where it isn't in it yet
abbrev pub joined : List Name → Name → List Name
joined ns n = if has ns n then ns else ns ++ n ∷ []

-- a list with the names of another one after another, each where it isn't in it yet
abbrev pub all_joined : List Name → List Name → List Name
all_joined ns [] = ns
all_joined ns (m ∷ ms) = all_joined (joined ns m) ms
