-- Lists of names that stand in one order for contracts, and may stand in another one in memory until somebody reads them.
use Rattle.std.specs.Prelude.{◌≡◌, ℕ, Bool, true, false, List, [], ◌∷◌, ◌++◌, IsTrue}
use Rattle.std.specs.List.Sorted.{IsPermutation}
use Rattle.lxr_layout.specs.declared.Name.{Name}
use Rattle.lxr_graph.specs.Names.{union}

-- what contracts see of a list of names: its items, how many it can hold without taking memory, and whether memory has the items in the
-- order in which they stand here
pub record NameList : Type 0 where
  pub items : List Name
  pub room : ℕ
  pub listed : Bool

-- the list with one name more at its end
abbrev pub with_name : NameList → Name → NameList
with_name l n = record l { items = l.items ++ n ∷ [] }

-- the list with these names more at its end
abbrev pub with_names : NameList → List Name → NameList
with_names l ns = record l { items = l.items ++ ns }

-- the list without its names
abbrev pub without_names : NameList → NameList
without_names l = record l { items = [] }

-- the same names in order; memory has them as it had them
abbrev pub in_order : NameList → NameList
in_order l = record l { items = union l.items []; listed = false }

-- memory has each name as often as the items do, and in their order where the list is listed
pub record KeepsNames (items found : List Name) (listed : Bool) : Type 0 where
  pub permutation : IsPermutation items found
  pub same : IsTrue listed → found ≡ items

-- the same list, which memory has in order
abbrev pub listed : NameList → NameList
listed l = record l { listed = true }
