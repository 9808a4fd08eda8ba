-- References counted afresh from the whole graph.
use Rattle.std.specs.Prelude.{ℕ, ◌+◌, Option, Some, List, [], ◌∷◌, length, sum_by, if◌then◌else◌}
use Rattle.lxr_layout.specs.declared.Name.{Name}
use Rattle.lxr_graph.specs.Names.{same_held}
use Rattle.lxr_graph.specs.State.{Graph, State, object_at, refs_of}

-- how many of these hold o
abbrev pub occurrences : List (Option Name) → Name → ℕ
occurrences [] o = 0
occurrences (r ∷ rs) o = (if same_held (Some o) r then 1 else 0) + occurrences rs o

-- the references to o in the objects of these names
abbrev pub references_from : Graph → List Name → Name → ℕ
references_from g [] o = 0
references_from g (u ∷ us) o = occurrences (refs_of (object_at g u)) o + references_from g us o

-- the pairs of a member of U and an index whose reference is o, and the registers that hold o
abbrev pub references : State → List Name → Name → ℕ
references s us o = references_from s.graph us o + occurrences s.registers o

-- how many references the objects of these names have, nil or not
abbrev pub reference_slots : Graph → List Name → ℕ
reference_slots g us = sum_by (λ u. length (refs_of (object_at g u))) us
