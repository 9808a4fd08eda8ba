-- Pockets: a few places that may need work. What was put in last is taken out first.
use Rattle.std.specs.Prelude.{◌≡◌, ◌-◌, ◌≤◌, Bool, nat_lt, if◌then◌else◌, List, [], length, take, Option, slice_get}
use Rattle.lxr_layout.specs.declared.Place.{Place}
use Rattle.lxr_base.specs.Roomy.{Roomy, pushed}

-- the last of some places, if there is one
abbrev pub last_of : List Place → Option Place
last_of places = slice_get places (length places - 1)

-- the places but the last
abbrev pub without_last : List Place → List Place
without_last places = take (length places - 1) places

-- a pocket has room for 64 places
abbrev pub no_places : Roomy Place
no_places = record { items = []; room = 64 }

-- there is room for a further place
abbrev pub has_room : Roomy Place → Bool
has_room pocket = nat_lt (length pocket.items) 64

-- with a further place, which is dropped where there is no room for it
abbrev pub kept : Roomy Place → Place → Roomy Place
kept pocket place = if has_room pocket then pushed pocket place else pocket

-- with the last place taken out
abbrev pub taken_from : Roomy Place → Roomy Place
taken_from pocket = record pocket { items = without_last pocket.items }

-- what holds of each pocket
pub record IsPocket (pocket : Roomy Place) : Type 0 where
  pub room : pocket.room ≡ 64
  pub few : length pocket.items ≤ 64
