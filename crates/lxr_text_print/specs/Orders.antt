-- The text of an order of calls and pauses: a heading, and a line for each item.
use Rattle.std.specs.Prelude.{ℕ, List, [], ◌∷◌, ◌++◌, codes, decimal, flat_map}
use Rattle.lxr_graph.specs.declared.Item.{Item}
use Rattle.lxr_graph.specs.declared.Item.TheVariants as item
use Rattle.lxr_text_print.specs.Lines.{line}

-- the word of an item: the number of the thread that calls, or `pause`
abbrev pub item_word : Item → List ℕ
item_word (item.Call t) = decimal t
item_word item.Pause = codes "pause"

-- the line of an item
abbrev pub item_text : Item → List ℕ
item_text x = line (item_word x ∷ [])

-- the line in front of an order
unfoldable pub order_heading : List ℕ
order_heading = codes "== order\n"

-- the text of an order
abbrev pub order_text : List Item → List ℕ
order_text items = order_heading ++ flat_map item_text items
