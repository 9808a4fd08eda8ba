-- What holds in each phase of a tracer.
use Rattle.std.specs.Prelude.{◌^◌, ◌<◌}
use Rattle.lxr_layout.specs.declared.limits.Regions.{Regions}
use Rattle.lxr_helper.specs.Words.{InHeap, IsObject}
use Rattle.lxr_trace.specs.declared.phases.Scan.{Scan}
use Rattle.lxr_trace.specs.declared.phases.TracerPhase.{TracerPhase}
use Rattle.lxr_trace.specs.declared.phases.TracerPhase.TheVariants as phase
use Rattle.lxr_trace.specs.Words.{remember_room}

-- a scan is at one of the references of an object of the heap
pub record IsScan (r : Regions) (scan : Scan) : Type 0 where
  pub object : IsObject r scan.place scan.refs
  pub index : scan.index < scan.refs

-- what holds in a phase
abbrev pub IsIn : Regions → TracerPhase → Type 0
IsIn r phase.Resting = Unit {0}
IsIn r (phase.AsksGray place) = InHeap r place
IsIn r (phase.AsksObject place gray) = InHeap r place
IsIn r (phase.Marks place) = InHeap r place
IsIn r (phase.ReadsShape place) = InHeap r place
IsIn r (phase.Scans scan) = IsScan r scan
IsIn r (phase.AsksReferent scan referent) = IsScan r scan × InHeap r referent
IsIn r (phase.GraysReferent scan referent) = IsScan r scan × InHeap r referent
IsIn r (phase.AsksBlock scan referent) = IsScan r scan × InHeap r referent
IsIn r (phase.ReadsReuse scan) = IsScan r scan
IsIn r (phase.DrawsNumber scan counter) = IsScan r scan × (counter < 2 ^ 32)
IsIn r (phase.Enters scan counter number) = IsScan r scan × ((counter < 2 ^ 32) × (number < remember_room r))
IsIn r phase.FindsNothing = Unit {0}
