-- Which kind a pause is.
use Rattle.std.specs.Prelude.{◌≡◌, ℕ, ◌+◌, ◌*◌, ◌%◌, ◌<◌, ◌≤◌, ◌||◌, ◌&&◌, ◌↔◌, ⊤, not, nat_eq, nat_le, if◌then◌else◌, Bool, Option, Some, None, List, IsTrue}
use Rattle.lxr_layout.specs.declared.Name.{Name}
use Rattle.lxr_layout.specs.declared.LogEntry.{LogEntry}
use Rattle.lxr_layout.specs.declared.TheConstants.{GRANULES_IN_BLOCK}
use Rattle.lxr_graph.specs.declared.report.Kind.{Kind}
use Rattle.lxr_graph.specs.declared.report.Kind.TheVariants as kind
use Rattle.lxr_graph.specs.Names.{has}
use Rattle.lxr_image.specs.declared.space.Space.{Space}
use Rattle.lxr_image.specs.Tables.{Tables}
use Rattle.lxr_image.specs.Spaces.{tables_of}
use Rattle.lxr_model.specs.Dead.{Dead}
use Rattle.lxr_model.specs.Moments.{Moment, Trace}
use Rattle.lxr_pause_trace_laws.specs.Laws.{AllGrayAreMarked, NothingIsLeft}
use Rattle.lxr_one_pause.specs.declared.Ask.{Ask}
use Rattle.lxr_one_pause.specs.declared.Ask.TheVariants as ask
use Rattle.lxr_one_pause.specs.declared.Pace.{Pace}

-- the numbers of a pace are from 1 to 1,000,000; traces may also begin by asks alone, which 0 says
pub record IsPace (pace : Pace) : Type 0 where
  pub trace : pace.trace ≤ 1000000
  pub within : (1 ≤ pace.within) × (pace.within ≤ 1000000)

-- where no trace runs, one begins at each pause whose number is a multiple of the pace; at none by a pace of 0
abbrev pub kind_apart : Pace → ℕ → Kind
kind_apart pace k = if not (nat_eq pace.trace 0) && nat_eq (k % pace.trace) 0 then kind.Begin else kind.Plain

-- where one runs, it ends where nothing is left to trace, and at the latest so many pauses after it began
abbrev pub kind_along : Pace → ℕ → Trace → Bool → Kind
kind_along pace k trace traced = if traced || nat_le (trace.began + pace.within) k then kind.End trace.began else kind.Plain

-- the kind of pause k: it collects where that is asked for, and where a trace is asked for one begins, if none runs
abbrev pub kind_of : Ask → Pace → ℕ → Option Trace → Bool → Kind
kind_of ask.Collect pace k trace traced = kind.Collect
kind_of ask.Trace pace k None traced = kind.Begin
kind_of ask.Ordinary pace k None traced = kind_apart pace k
kind_of _ pace k (Some trace) traced = kind_along pace k trace traced

-- A pause is of a kind: `traced` tells whether nothing was left to trace at the safepoint, once the dead of the last pause are gone.
pub record HasKind (t : Tables) (m : Moment) (at : Name → ℕ) (entries : List LogEntry) (asked : Ask) (pace : Pace) (k : Kind) : Type 0 where
  pub traced : Bool
  pub first_dead : List Name
  pub dead : (n : Name) → IsTrue (has first_dead n) ↔ Dead m.last m.unreclaimed m.stuck n
  pub told : IsTrue traced ↔ NothingIsLeft t m at entries first_dead
  pub kind : k ≡ kind_of asked pace (m.number + 1) m.trace traced

-- gray bits stand at granules of the heap
abbrev pub GraysLieInHeap : Space → Type 0
GraysLieInHeap s = (k : ℕ) → IsTrue ((tables_of s).grays k) → k < GRANULES_IN_BLOCK * s.limits.blocks

-- where a trace runs, `traced` tells whether all that is gray is marked; nothing is asked where none runs
abbrev pub TellsOfMarks : Tables → Option Trace → Bool → Type 0
TellsOfMarks t None traced = ⊤
TellsOfMarks t (Some trace) traced = IsTrue traced ↔ AllGrayAreMarked t
