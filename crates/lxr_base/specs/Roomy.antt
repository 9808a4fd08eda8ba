-- Lists with the room that was taken for them.
use Rattle.std.specs.Prelude.{ℕ, List, [], ◌∷◌, ◌++◌, drop, reverse, take}
use Rattle.std.specs.List.{between}

-- what contracts see of a list: its items, and how many it can hold without taking memory
pub record Roomy (T : Type 0) : Type 0 where
  pub items : List T
  pub room : ℕ

-- the list with one item more at its end, in the same room
abbrev pub pushed : {T : Type 0} → Roomy T → T → Roomy T
pushed l x = record l { items = l.items ++ x ∷ [] }

-- the list with these items more at its end, in the same room
abbrev pub extended : {T : Type 0} → Roomy T → List T → Roomy T
extended l xs = record l { items = l.items ++ xs }

-- no items, in the same room
abbrev pub emptied : {T : Type 0} → Roomy T → Roomy T
emptied l = record l { items = [] }

-- the items from one index to below another in the reverse of their order, in the same room
abbrev pub turned : {T : Type 0} → Roomy T → ℕ → ℕ → Roomy T
turned l from end = record l { items = take from l.items ++ (reverse (between from end l.items) ++ drop end l.items) }
