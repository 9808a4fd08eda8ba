-- What a judge keeps of what is to come of an order.
use Rattle.std.specs.Prelude.{◌≡◌, ℕ, ◌-◌, ◌≤◌, ◌&&◌, nat_le, nat_lt, Bool, List, length, drop, slice_index, slice_set, if◌then◌else◌}
use Rattle.std.specs.List.{list_any}
use Rattle.lxr_graph.specs.declared.Item as ordered
use Rattle.lxr_graph.specs.declared.Item.TheVariants as ordered_as
use Rattle.lxr_judge.specs.declared.ahead.Ahead.{Ahead}
use Rattle.lxr_judge.specs.Passing.{is_call_of, is_pause}

-- items that pass a test stand among those behind the first n exactly where n is below this number
abbrev pub ReachTo : (ordered.Item → Bool) → List ordered.Item → ℕ → Type 0
ReachTo passes order last = (n : ℕ) → list_any passes (drop n order) ≡ nat_lt n last

-- what is kept is of this order: up to where it has calls of each thread, and pauses
pub record IsAhead (a : Ahead) (order : List ordered.Item) : Type 0 where
  pub sizes : length a.calls ≡ 16
  pub calls : (t : ℕ) → 1 ≤ t → t ≤ 16 → ReachTo (is_call_of t) order (slice_index a.calls (t - 1))
  pub pauses : ReachTo is_pause order a.pauses

-- an item stands at this place, counted from 1
abbrev pub noted : Ahead → ordered.Item → ℕ → Ahead
noted a (ordered_as.Call t) place = if nat_le 1 t && nat_le t 16 then record a { calls = slice_set a.calls (t - 1) place } else a
noted a ordered_as.Pause place = record a { pauses = place }
