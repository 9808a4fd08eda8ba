-- What a pause reports: promoted, stuck, dead and swept names, and counts.
use Rattle.std.specs.Prelude.{◌≡◌, ℕ, ◌+◌, ◌≤◌, ◌⊎◌, Bool, true, false, not, ◌&&◌, Option, Some, None, List, [], IsTrue, count_by, map, slice_index_or, if◌then◌else◌}
use Rattle.std.specs.List.{zip}
use Rattle.lxr_layout.specs.declared.Name.{Name}
use Rattle.lxr_layout.specs.declared.TheConstants.{STUCK}
use Rattle.lxr_graph.specs.declared.report.Count.{Count}
use Rattle.lxr_graph.specs.declared.report.Kind.{Kind}
use Rattle.lxr_graph.specs.declared.report.Kind.TheVariants as kind
use Rattle.lxr_graph.specs.Names.{same_held, has, without, union, IsSetOf}
use Rattle.lxr_graph.specs.State.{Graph, State, object_at, refs_of}
use Rattle.lxr_graph.specs.History.{PauseReport}
use Rattle.lxr_model.specs.Reachable.{Reachable}
use Rattle.lxr_model.specs.References.{references_from, references}
use Rattle.lxr_model.specs.Dead.{Dead, Promoted}
use Rattle.lxr_model.specs.Moments.{Field, Trace, Moment, unreclaimed_after}

-- ---- raised and stuck

-- a field of the graph holds o
abbrev pub field_holds : Graph → Name → Field → Bool
field_holds g o w = same_held (Some o) (slice_index_or (refs_of (object_at g w.0)) w.1 None)

-- the registers that hold o now and didn't before
abbrev pub newly_held : List (Option Name) → List (Option Name) → Name → ℕ
newly_held before now o = count_by (λ p. same_held (Some o) p.1 && not (same_held (Some o) p.0)) (zip before now)

-- how often o is raised: written fields that hold it now, references in promoted objects, registers that hold it newly
abbrev pub raised : Moment → List Name → Name → ℕ
raised m promoted o =
    count_by (field_holds m.state.graph o) m.written
    + references_from m.state.graph promoted o
    + newly_held m.last.registers m.state.registers o

-- the count of o before it is raised: its references at the last pause without those of the dead; 0 where it is promoted
abbrev pub count_before : Moment → List Name → List Name → Name → ℕ
count_before m first_dead promoted o = if has promoted o then 0 else references m.last (without m.unreclaimed first_dead) o

-- ---- the parts of a pause

-- The dead of a pause, in the order in which they die: of the state at the last pause; in a draining pause also of this
-- state, and of what is left after the sweep.
pub record PauseParts : Type 0 where
  pub first_dead : List Name
  pub second_dead : List Name
  pub third_dead : List Name

-- unreclaimed before, without the first dead, and the promoted
abbrev pub kept_names : Moment → PauseParts → PauseReport → List Name
kept_names m parts report = union report.promoted (without m.unreclaimed parts.first_dead)

-- what is left of these without the second dead and the swept
abbrev pub remaining_names : Moment → PauseParts → PauseReport → List Name
remaining_names m parts report = without (without (kept_names m parts report) parts.second_dead) report.swept

-- a pause that begins a trace, ends one or collects also finishes the decrements that it queued
abbrev pub is_draining : Kind → Bool
is_draining kind.Plain = false
is_draining kind.Begin = true
is_draining (kind.End j) = true
is_draining kind.Collect = true

-- the second and third dead: none in a plain pause
abbrev pub AreDrained : Moment → PauseParts → PauseReport → Bool → Type 0
AreDrained m parts report false = (parts.second_dead ≡ []) × (parts.third_dead ≡ [])
AreDrained m parts report true =
    let stuck = union report.stuck m.stuck in
    IsSetOf parts.second_dead (Dead m.state (kept_names m parts report) stuck)
    × IsSetOf parts.third_dead (Dead m.state (remaining_names m parts report) stuck)

-- what a trace sweeps: what was unreclaimed and unreachable when it began
abbrev pub IsSweptAtEnd : List Name → Option Trace → Type 0
IsSweptAtEnd swept None = ⊥
IsSweptAtEnd swept (Some trace) = IsSetOf swept (λ o. IsTrue (has trace.unreclaimed o) × ¬ Reachable trace.state o)

-- what a pause sweeps, by its kind; `left` are the kept names without the second dead
abbrev pub IsSwept : Moment → List Name → List Name → Kind → Type 0
IsSwept m left swept kind.Plain = swept ≡ []
IsSwept m left swept kind.Begin = swept ≡ []
IsSwept m left swept (kind.End j) = IsSweptAtEnd swept m.trace
IsSwept m left swept kind.Collect = IsSetOf swept (λ o. IsTrue (has left o) × ¬ Reachable m.state o)

-- a name with its references counted afresh, or none where it is stuck
abbrev pub count_entry : State → List Name → List Name → Name → Count
count_entry s us stuck o = record { name = o; count = if has stuck o then None else Some (references s us o) }

-- the counts of a draining pause: one for each unreclaimed name, in their order; a plain pause has none
abbrev pub AreCounts : Moment → PauseReport → Bool → Type 0
AreCounts m report false = report.counts ≡ []
AreCounts m report true = report.counts ≡ map (count_entry m.state (unreclaimed_after m report) (union report.stuck m.stuck)) (unreclaimed_after m report)

-- ---- the report

-- the report of a pause at moment m, whose dead fall into these parts
pub record IsReportWith (m : Moment) (parts : PauseParts) (report : PauseReport) : Type 0 where
  pub number : report.number ≡ m.number + 1
  pub first_dead : IsSetOf parts.first_dead (Dead m.last m.unreclaimed m.stuck)
  pub promoted : IsSetOf report.promoted (Promoted m.state (without m.unreclaimed parts.first_dead) m.made)
  pub stuck : IsSetOf report.stuck (λ o. IsTrue (has (kept_names m parts report) o) × (has m.stuck o ≡ false)
      × (STUCK ≤ count_before m parts.first_dead report.promoted o + raised m report.promoted o))
  pub drained : AreDrained m parts report (is_draining report.kind)
  pub swept : IsSwept m (without (kept_names m parts report) parts.second_dead) report.swept report.kind
  pub dead : IsSetOf report.dead (λ o. IsTrue (has parts.first_dead o) ⊎ IsTrue (has parts.second_dead o) ⊎ IsTrue (has parts.third_dead o))
  pub counts : AreCounts m report (is_draining report.kind)

-- a report that a pause at moment m may give, but for where its kind may stand
abbrev pub IsReport : Moment → PauseReport → Type 0
IsReport m report = (parts : PauseParts) × IsReportWith m parts report
