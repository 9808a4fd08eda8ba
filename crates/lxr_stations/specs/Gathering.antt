-- The gathering of passes, of stations that are handed in and else from their homes.
use Rattle.std.specs.Prelude.{◌≡◌, ℕ, ◌+◌, ◌<◌, ◌≤◌, ⊤, Option, Some, List, ◌++◌, length, map, slice_get}
use Rattle.lxr_core.specs.declared.actors.AnyActor.{AnyActor}
use Rattle.lxr_core.specs.Collecting.{actor_given_up}
use Rattle.lxr_shared_passes.specs.Passing.{Passing}
use Rattle.lxr_stations.specs.declared.live.NotClosed.{NotClosed}
use Rattle.lxr_stations.specs.declared.live.NotClosed.TheVariants as why
use Rattle.lxr_stations.specs.declared.station.Arrival.{Arrival}
use Rattle.lxr_stations.specs.Arriving.{HasComeHome, IsHandedIn}
use Rattle.lxr_stations.specs.Homes.{ArePassesFrom, GoesOnFrom}
use Rattle.lxr_stations.specs.Stations.{Housed, Stationed, table_of}
use Rattle.lxr_stations.specs.Wanting.{AllHaveEnded, IsPauseWanted, IsUnended, SomeWants, Wants}

-- the actors of passes
abbrev pub actors_in : List (Passing AnyActor) → List AnyActor
actors_in passes = map (λ (p : Passing AnyActor). p.actor) passes

-- the passes that are handed in, from this number on, are each the one of its number
abbrev pub HoldHandedIn : List (Option Arrival) → ℕ → List (Passing AnyActor) → Type 0
HoldHandedIn handed from passes = (number : ℕ) (s : Stationed) → from ≤ number → IsHandedIn handed number s → slice_get passes number ≡ Some s.pass

-- each homecoming that is handed in, from this number on, is of a pass from which the one of its number goes on
abbrev pub HoldComeHome : List (Option Arrival) → ℕ → List (Passing AnyActor) → Type 0
HoldComeHome handed from passes = (number : ℕ) (s : Stationed) → from ≤ number → HasComeHome handed number s → (p : Passing AnyActor) × (slice_get passes number ≡ Some p) × GoesOnFrom s.pass p

-- Behind the passes that were there stand all others of the epoch, from this number on, those that were handed in among them, and by the actors of all a
-- pause is wanted.
pub record AreGathered (epoch : Housed) (from : ℕ) (handed : List (Option Arrival)) (before after : List (Passing AnyActor)) : Type 0 where
  pub passes : List (Passing AnyActor)
  pub behind : after ≡ before ++ passes
  pub each : ArePassesFrom (table_of epoch) from passes
  pub all : from + length passes ≡ length epoch.opening.actors
  pub handed_in : HoldHandedIn handed from after
  pub come_home : HoldComeHome handed from after
  pub wanted : IsPauseWanted (actors_in after)

-- By all passes of the epoch a pause is wanted: by those that were there and all others from this number on, those that are handed in among them.
abbrev pub IsWantedByAll : Housed → ℕ → List (Option Arrival) → List (Passing AnyActor) → Type 0
IsWantedByAll epoch from handed before = (after : List (Passing AnyActor)) × AreGathered epoch from handed before after

-- these are all passes of the epoch, in order, and by their actors a pause is wanted
pub record AreAll (epoch : Housed) (passes : List (Passing AnyActor)) : Type 0 where
  pub each : ArePassesFrom (table_of epoch) 0 passes
  pub many : length passes ≡ length epoch.opening.actors
  pub wanted : IsPauseWanted (actors_in passes)

-- Why an epoch of so many actors is not closed, by what is known from this number on: a pass that is away is none that is handed in, and where no pause is
-- wanted none that is handed in wants one.
abbrev pub IsUnclosed : ℕ → ℕ → List (Option Arrival) → NotClosed → Type 0
IsUnclosed count from handed (why.Away number) = (from ≤ number) × (number < count) × ((s : Stationed) → ¬ IsHandedIn handed number s)
IsUnclosed count from handed why.NotWanted = (number : ℕ) (s : Stationed) → from ≤ number → IsHandedIn handed number s → ¬ Wants s.pass.actor
IsUnclosed count from handed why.Shared = ⊤

-- of so many actors each from this number on is handed in, and no mutator among them is unended
abbrev pub HaveEndedFrom : ℕ → ℕ → List (Option Arrival) → Type 0
HaveEndedFrom count from handed = (number : ℕ) → from ≤ number → number < count → (s : Stationed) × IsHandedIn handed number s × ¬ IsUnended s.pass.actor

-- By these passes no pause is wanted, nor by them and those that are handed in from this number on, where these are all the others.
pub record IsUnwanted (count from : ℕ) (handed : List (Option Arrival)) (passes : List (Passing AnyActor)) : Type 0 where
  pub none_wants : ¬ SomeWants (actors_in passes)
  pub some_is_unended : AllHaveEnded (actors_in passes) → ¬ HaveEndedFrom count from handed

-- the actors of stations that are handed in stand among these once they are closed, each in its place
abbrev pub HoldGivenUp : List (Option Arrival) → List AnyActor → Type 0
HoldGivenUp handed actors = (number : ℕ) (s : Stationed) → IsHandedIn handed number s → slice_get actors number ≡ Some (actor_given_up s.pass.actor)
