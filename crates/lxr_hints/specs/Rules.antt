-- What a rule of hints has to bear, so that a place may join a deque, and one may leave it.
use Rattle.std.specs.Prelude.{List, [], ◌∷◌, ◌++◌}
use Rattle.lxr_layout.specs.declared.Place.{Place}

-- whatever places a deque has, this one may join them behind the last
abbrev pub MayJoin : (List Place → Type 0) → Place → Type 0
MayJoin holds place = (places : List Place) → holds places → holds (places ++ place ∷ [])

-- whatever places a deque has, the first may leave it, and so much is known of it then
abbrev pub MayLeave : (List Place → Type 0) → (Place → Type 0) → Type 0
MayLeave holds taken = (place : Place) (places : List Place) → holds (place ∷ places) → holds places × taken place
