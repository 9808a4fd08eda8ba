-- The order of a history: whose call each of its items is, and where its pauses stand. What was called and replied isn't told.
use Rattle.std.specs.Prelude.{List, [], ◌∷◌, ◌++◌}
use Rattle.lxr_graph.specs.History.{Item, Call, Pause, Renew}
use Rattle.lxr_graph.specs.declared.Item as order
use Rattle.lxr_graph.specs.declared.Item.TheVariants as item

-- the order of a history since names were last renewed, oldest first. The items of a history stand newest first.
abbrev pub order_of : List Item → List order.Item
order_of [] = []
order_of (Renew ns ∷ h) = []
order_of (Pause report ∷ h) = order_of h ++ item.Pause ∷ []
order_of (Call t o r ∷ h) = order_of h ++ item.Call t ∷ []
