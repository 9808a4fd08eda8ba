-- What is handed in to a pause: stations, and the homecomings of such, each in the place of its number.
use Rattle.std.specs.Prelude.{◌≡◌, ℕ, ◌⊎◌, Option, Some, List, slice_get}
use Rattle.lxr_stations.specs.declared.station.Arrival.{Arrival}
use Rattle.lxr_stations.specs.declared.station.Arrival.TheVariants as arrival
use Rattle.lxr_stations.specs.Stations.{Housed, IsStationOf, Stationed}

-- a station is handed in for this number
abbrev pub IsHandedIn : List (Option Arrival) → ℕ → Stationed → Type 0
IsHandedIn handed number s = slice_get handed number ≡ Some (Some (arrival.Out s))

-- the homecoming of a station is handed in for this number
abbrev pub HasComeHome : List (Option Arrival) → ℕ → Stationed → Type 0
HasComeHome handed number s = slice_get handed number ≡ Some (Some (arrival.Home (Some s)))

-- what is handed in for this number tells of this station: it is the station, or its homecoming
abbrev pub Tells : List (Option Arrival) → ℕ → Stationed → Type 0
Tells handed number s = IsHandedIn handed number s ⊎ HasComeHome handed number s

-- the stations that are told of are of this epoch, each for its number
abbrev pub AreArrivalsOf : Housed → List (Option Arrival) → Type 0
AreArrivalsOf epoch handed = (number : ℕ) (s : Stationed) → Tells handed number s → IsStationOf epoch number s
