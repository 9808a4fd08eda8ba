-- Names that are renewed where there are large objects: their bodies go by the new names, by the counts of all that is left.
use Rattle.std.specs.Prelude.{◌≡◌, ◌^◌, ◌<◌, List, ◌∷◌, filter, length, map}
use Rattle.lxr_layout.specs.declared.Name.{Name}
use Rattle.lxr_graph.specs.declared.report.Count.{Count}
use Rattle.lxr_graph.specs.Names.{AreInOrder, has}
use Rattle.lxr_graph.specs.Renewing.{renewed_name, renewed_state}
use Rattle.lxr_graph.specs.State.{world_name}
use Rattle.lxr_large_model.specs.State.{Large, LargeState}

-- a body under the new name of its object
abbrev pub renewed_body : List Name → Large → Large
renewed_body ns l = record l { name = renewed_name ns l.name }

-- the state with the bodies of these names, under their new names
abbrev pub renewed_large : List Name → LargeState → LargeState
renewed_large ns s = record {
  small = renewed_state 1 ns s.small;
  large = map (renewed_body ns) (filter (λ (l : Large). has ns l.name) s.large);
}

-- whose count it is
abbrev pub counted_name : Count → Name
counted_name c = c.name

-- counts are those of the world and of these names, in order
pub record AreCounted (counts : List Count) (ns : List Name) : Type 0 where
  pub names : map counted_name counts ≡ world_name ∷ ns
  pub order : AreInOrder (world_name ∷ ns)
  pub few : length ns < 2 ^ 32
