-- Lists in which no name stands twice.
use Rattle.std.specs.Prelude.{◌≡◌, false, List, [], ◌∷◌}
use Rattle.lxr_layout.specs.declared.Name.{Name}
use Rattle.lxr_graph.specs.Names.{has}

-- no name stands twice in the list
abbrev pub IsDistinct : List Name → Type 0
IsDistinct [] = Unit {0}
IsDistinct (n ∷ ns) = (has ns n ≡ false) × IsDistinct ns
