-- What a station leaves as it ends.
use Rattle.std.specs.Prelude.{Option, None, Some}
use Rattle.lxr_stations.specs.Stations.{Stationed}
use Rattle.lxr_c_shared.specs.declared.owned.Owned.{Owned}
use Rattle.lxr_c_shared.specs.declared.owned.Owned.TheVariants as owned
use Rattle.lxr_c_shared.specs.Holding.{MayHold}

-- the homecoming that is left: that of the pass that is away, as it was, and else that of the one that was away last
abbrev pub homecoming_of : Owned → Option (Option Stationed)
homecoming_of (owned.Shared x) = None
homecoming_of (owned.Home h) = h
homecoming_of (owned.Away s) = Some (Some s)

-- the same where there may be nothing
abbrev pub homecoming_in : MayHold → Option (Option Stationed)
homecoming_in None = None
homecoming_in (Some o) = homecoming_of o
