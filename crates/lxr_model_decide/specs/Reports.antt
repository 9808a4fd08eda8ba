-- The report of a pause, computed from the moment and the kind. Each part is handed on to those that need it.
use Rattle.std.specs.Prelude.{◌≢◌, ◌+◌, Bool, true, false, not, ◌&&◌, nat_le, Option, Some, None, List, [], map, filter}
use Rattle.lxr_layout.specs.declared.Name.{Name}
use Rattle.lxr_layout.specs.declared.TheConstants.{STUCK}
use Rattle.lxr_graph.specs.declared.report.Count.{Count}
use Rattle.lxr_graph.specs.declared.report.Kind.{Kind}
use Rattle.lxr_graph.specs.declared.report.Kind.TheVariants as kind
use Rattle.lxr_graph.specs.Names.{has, without, union}
use Rattle.lxr_graph.specs.History.{PauseReport}
use Rattle.lxr_model.specs.Moments.{Trace, Moment, unreclaimed_after}
use Rattle.lxr_model.specs.Reports.{raised, count_before, is_draining, count_entry}
use Rattle.lxr_model_decide.specs.Sets.{reachable_names, dead_names, promoted_names}

-- ---- parts

-- names in order, each once
abbrev pub in_order : List Name → List Name
in_order ns = union ns []

-- the kept names that become stuck
abbrev pub stuck_names : Moment → List Name → List Name → List Name → List Name
stuck_names m first promoted kept =
    in_order (filter (λ o. not (has m.stuck o) && nat_le STUCK (count_before m first promoted o + raised m promoted o)) kept)

-- the dead of these names in the state of now, where the pause drains
abbrev pub drained_names : Moment → List Name → List Name → Bool → List Name
drained_names m us stuck false = []
drained_names m us stuck true = dead_names m.state us stuck

-- what a trace sweeps, where one runs
abbrev pub swept_at_end : Option Trace → List Name
swept_at_end None = []
swept_at_end (Some trace) = in_order (without trace.unreclaimed (reachable_names trace.state))

-- what a pause of this kind sweeps of the names left
abbrev pub swept_names : Moment → List Name → Kind → List Name
swept_names m left kind.Plain = []
swept_names m left kind.Begin = []
swept_names m left (kind.End j) = swept_at_end m.trace
swept_names m left kind.Collect = in_order (without left (reachable_names m.state))

-- the counts of these unreclaimed names, where the pause drains
abbrev pub counts_of : Moment → List Name → List Name → Bool → List Count
counts_of m us stuck false = []
counts_of m us stuck true = map (count_entry m.state us stuck) us

-- ---- the report, part by part

-- a report with its counts
abbrev pub with_counts : Moment → List Name → PauseReport → PauseReport
with_counts m stuck report = record report { counts = counts_of m (unreclaimed_after m report) stuck (is_draining report.kind) }

-- from the dead, and what is left without the second dead and the swept
abbrev pub report_of_swept : Moment → Kind → List Name → List Name → List Name → List Name → List Name → List Name → PauseReport
report_of_swept m k first promoted kept stuck second swept =
    with_counts m (union stuck m.stuck) (record {
      number = m.number + 1;
      kind = k;
      promoted = promoted;
      dead = union first (union second (drained_names m (without (without kept second) swept) (union stuck m.stuck) (is_draining k)));
      stuck = stuck;
      swept = swept;
      counts = [];
    })

-- from the first and the second dead, the promoted, the kept and the stuck names
abbrev pub report_of_second : Moment → Kind → List Name → List Name → List Name → List Name → List Name → PauseReport
report_of_second m k first promoted kept stuck second =
    report_of_swept m k first promoted kept stuck second (swept_names m (without kept second) k)

-- from the first dead, the promoted, the kept and the stuck names
abbrev pub report_of_stuck : Moment → Kind → List Name → List Name → List Name → List Name → PauseReport
report_of_stuck m k first promoted kept stuck =
    report_of_second m k first promoted kept stuck (drained_names m kept (union stuck m.stuck) (is_draining k))

-- from the first dead, the promoted and the kept names
abbrev pub report_of_kept : Moment → Kind → List Name → List Name → List Name → PauseReport
report_of_kept m k first promoted kept = report_of_stuck m k first promoted kept (stuck_names m first promoted kept)

-- from the first dead and the promoted
abbrev pub report_of_promoted : Moment → Kind → List Name → List Name → PauseReport
report_of_promoted m k first promoted = report_of_kept m k first promoted (union promoted (without m.unreclaimed first))

-- from the first dead
abbrev pub report_of_first : Moment → Kind → List Name → PauseReport
report_of_first m k first = report_of_promoted m k first (promoted_names m.state (without m.unreclaimed first) m.made)

-- the report of a pause of this kind
abbrev pub report_at : Moment → Kind → PauseReport
report_at m k = report_of_first m k (dead_names m.last m.unreclaimed m.stuck)

-- a pause of this kind can be at this moment: it ends a trace only where one runs
abbrev pub CanBe : Moment → Kind → Type 0
CanBe m kind.Plain = Unit {0}
CanBe m kind.Begin = Unit {0}
CanBe m (kind.End j) = m.trace ≢ None
CanBe m kind.Collect = Unit {0}
