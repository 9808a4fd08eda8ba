-- What lies in a watch that keeps copies: those that it has made, and opened spaces for the next.
use Rattle.std.specs.Prelude.{◌+◌, ◌≤◌, length, map}
use Rattle.lxr_layout.specs.Spaces.{AreLimits}
use Rattle.lxr_sights.specs.declared.seen.Seen.TheInside.{Inside}
use Rattle.lxr_sights.specs.Copies.{Copies, Every, IsSpare}
use Rattle.lxr_sights.specs.Sights.{sight_of}

-- the copies are its sights, and it has room for as many more as it has spare spaces
abbrev pub copies_of : Inside → Copies
copies_of w = record { limits = w.limits; sights = map sight_of w.kept.items; left = length w.spare.items; told = w.told }

-- each spare space has the room of its limits, and the list of copies has room for all of them
pub record HasSpares (w : Inside) : Type 0 where
  pub limits : AreLimits w.limits
  pub spare : Every (IsSpare w.limits) w.spare.items
  pub room : length w.kept.items + length w.spare.items ≤ w.kept.room
