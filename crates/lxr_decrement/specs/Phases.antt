-- What holds in each phase of a decrementer.
use Rattle.std.specs.Prelude.{◌+◌, ◌<◌, ◌≤◌}
use Rattle.lxr_layout.specs.declared.limits.Regions.{Regions}
use Rattle.lxr_helper.specs.Words.{InHeap, IsObject}
use Rattle.lxr_decrement.specs.declared.phases.Handling.{Handling}
use Rattle.lxr_decrement.specs.declared.phases.Handling.TheVariants.{Entry, References}
use Rattle.lxr_decrement.specs.declared.phases.DecrementerPhase.{DecrementerPhase}
use Rattle.lxr_decrement.specs.declared.phases.DecrementerPhase.TheVariants as phase

-- what holds of those whose references are handled: the next is at most behind the last
abbrev pub IsHandled : Regions → Handling → Type 0
IsHandled r Entry = Unit {0}
IsHandled r (References place refs next traced) = IsObject r place refs × (next ≤ refs)

-- what holds in a phase
abbrev pub IsIn : Regions → DecrementerPhase → Type 0
IsIn r phase.Resting = Unit {0}
IsIn r (phase.AsksCount place) = InHeap r place
IsIn r (phase.AsksStart place uncounted) = InHeap r place
IsIn r (phase.Claims place) = InHeap r place
IsIn r (phase.ReadsHeader place) = InHeap r place
IsIn r (phase.AsksTracing place refs) = IsObject r place refs
IsIn r (phase.ReadsReference place refs index traced) = IsObject r place refs × (index < refs)
IsIn r (phase.MakesGray place refs index referent) = IsObject r place refs × ((index < refs) × InHeap r referent)
IsIn r (phase.AsksLowered referent handling) = InHeap r referent × IsHandled r handling
IsIn r (phase.Lowers referent handling) = InHeap r referent × IsHandled r handling
IsIn r phase.AsksCursor = Unit {0}
IsIn r (phase.AsksNumber cursor) = Unit {0}
IsIn r (phase.Draws count) = r.decs + count ≤ r.remembered
IsIn r (phase.ReadsEntry number) = r.decs + number < r.remembered
