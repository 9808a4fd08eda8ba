-- Where pauses look for what decrementers have handled: at the drawn entries of the list of decrements, and at references.
use Rattle.std.specs.Prelude.{◌≡◌, ◌≢◌, ℕ, ◌<◌, false, Some, List, slice_get}
use Rattle.lxr_layout.specs.declared.Name.{Name}
use Rattle.lxr_layout.specs.declared.Place.{Place}
use Rattle.lxr_layout.specs.declared.Shape.{Shape}
use Rattle.lxr_layout.specs.Places.{field_word}
use Rattle.lxr_image.specs.Tables.{Tables}
use Rattle.lxr_image.specs.Reads.{granule_of}
use Rattle.lxr_pause_decrements.specs.Cascade.{IsHeader, drawn_count}

-- no object at the place of one of the first entries of the list of decrements is done
abbrev pub FirstAreUndone : Tables → ℕ → Type 0
FirstAreUndone t n = (k : ℕ) → k < n → t.dones (granule_of (t.decs k)) ≡ false

-- so it is of those at its drawn entries
abbrev pub DrawnAreUndone : Tables → Type 0
DrawnAreUndone t = FirstAreUndone t (drawn_count t)

-- what one reference of the object at a place holds isn't done, unless it is nil
abbrev pub HoldsUndone : Tables → ℕ → ℕ → Type 0
HoldsUndone t place i = t.heap (field_word place i) ≢ 0 → t.dones (granule_of (t.heap (field_word place i))) ≡ false

-- so it is with its first references, and with all of them
abbrev pub FirstHoldUndone : Tables → ℕ → ℕ → Type 0
FirstHoldUndone t place n = (i : ℕ) → i < n → HoldsUndone t place i

abbrev pub AllHoldUndone : Tables → ℕ → Type 0
AllHoldUndone t place = (n : Name) (shape : Shape) → IsHeader t place n shape → FirstHoldUndone t place shape.refs

-- and with all references of the objects at the first of some places, and at all of them
abbrev pub AreThrough : Tables → List Place → ℕ → Type 0
AreThrough t places n = (j : ℕ) (p : Place) → j < n → slice_get places j ≡ Some p → AllHoldUndone t p.0

abbrev pub AllAreThrough : Tables → List Place → Type 0
AllAreThrough t places = (j : ℕ) (p : Place) → slice_get places j ≡ Some p → AllHoldUndone t p.0
