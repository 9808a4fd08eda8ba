-- Lists of fields in which nothing stands twice; lists of names have the word in `lxr_graph`.
use Rattle.std.specs.Prelude.{◌≡◌, Bool, false, List, [], ◌∷◌}
use Rattle.std.specs.List.{list_any}
pub use Rattle.lxr_graph.specs.Distinct.{IsDistinct}
use Rattle.lxr_model.specs.Moments.{Field, same_field}

-- a list of fields has one
abbrev pub has_field : List Field → Field → Bool
has_field ws w = list_any (same_field w) ws

-- no field twice
abbrev pub AreDistinctFields : List Field → Type 0
AreDistinctFields [] = Unit {0}
AreDistinctFields (w ∷ ws) = (has_field ws w ≡ false) × AreDistinctFields ws
