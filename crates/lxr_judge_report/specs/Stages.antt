-- A pause's report, stage by stage: what it promotes and what becomes stuck, and then what it loses.
use Rattle.std.specs.Prelude.{◌≡◌, ℕ, ◌+◌, Bool, true, false, not, ◌&&◌, nat_le, if◌then◌else◌, Option, Some, None}
use Rattle.std.specs.Prelude.{List, [], count_by, min}
use Rattle.lxr_layout.specs.declared.Name.{Name}
use Rattle.lxr_layout.specs.declared.TheConstants.{STUCK}
use Rattle.lxr_graph.specs.declared.report.Count.{Count}
use Rattle.lxr_graph.specs.declared.report.Kind.{Kind}
use Rattle.lxr_graph.specs.declared.report.Kind.TheVariants as kind
use Rattle.lxr_graph.specs.Names.{AreInOrder, has, without, union}
use Rattle.lxr_graph.specs.State.{State}
use Rattle.lxr_graph.specs.History.{PauseReport}
use Rattle.lxr_model.specs.References.{references_from}
use Rattle.lxr_model.specs.Moments.{Moment, left_by}
use Rattle.lxr_model.specs.Reports.{field_holds, newly_held, is_draining}
use Rattle.lxr_model_decide.specs.Sets.{reachable_names, dead_names, promoted_names}
use Rattle.lxr_model_decide.specs.Reports.{stuck_names, drained_names, swept_names, report_at}
use Rattle.lxr_judge_sets.specs.ByName.{value_at}
use Rattle.lxr_judge_report.specs.LastPauses.{Running, Past, TellsState}
use Rattle.lxr_judge_report.specs.Positions.{Present, IsAt}

-- the dead of the state at the last pause, and what is left of the unreclaimed names without them
abbrev pub first_at : Moment → List Name
first_at m = dead_names m.last m.unreclaimed m.stuck

abbrev pub old_at : Moment → List Name
old_at m = without m.unreclaimed (first_at m)

-- what is promoted, and what is kept with it
abbrev pub promoted_at : Moment → List Name
promoted_at m = promoted_names m.state (old_at m) m.made

abbrev pub kept_at : Moment → List Name
kept_at m = union (promoted_at m) (old_at m)

-- what becomes stuck, and all that is stuck then
abbrev pub newly_stuck_at : Moment → List Name
newly_stuck_at m = stuck_names m (first_at m) (promoted_at m) (kept_at m)

abbrev pub stuck_at : Moment → List Name
stuck_at m = union (newly_stuck_at m) m.stuck

-- the second dead, what they leave, what is swept of it, and the third dead
abbrev pub second_at : Moment → Kind → List Name
second_at m k = drained_names m (kept_at m) (stuck_at m) (is_draining k)

abbrev pub left_at : Moment → Kind → List Name
left_at m k = without (kept_at m) (second_at m k)

abbrev pub swept_at : Moment → Kind → List Name
swept_at m k = swept_names m (left_at m k) k

abbrev pub third_at : Moment → Kind → List Name
third_at m k = drained_names m (without (left_at m k) (swept_at m k)) (stuck_at m) (is_draining k)

-- all dead
abbrev pub dead_at : Moment → Kind → List Name
dead_at m k = union (first_at m) (union (second_at m k) (third_at m k))

-- these names are what a pause at moment m promotes, what it keeps with that, what becomes stuck, and all that is stuck then
pub record AreGains (promoted kept newly_stuck stuck : List Name) (m : Moment) : Type 0 where
  pub promoted_are : promoted ≡ promoted_at m
  pub kept_are : kept ≡ kept_at m
  pub newly_stuck_are : newly_stuck ≡ newly_stuck_at m
  pub stuck_are : stuck ≡ stuck_at m

-- these names are what a pause at moment m promotes, and what it keeps with that
pub record AreKept (promoted kept : List Name) (m : Moment) : Type 0 where
  pub promoted_are : promoted ≡ promoted_at m
  pub kept_are : kept ≡ kept_at m

-- these names are what a pause of this kind at moment m reclaims, dead or swept
pub record AreLosses (dead swept : List Name) (m : Moment) (k : Kind) : Type 0 where
  pub dead_are : dead ≡ dead_at m k
  pub swept_are : swept ≡ swept_at m k

-- so it is at whatever moment a position is
abbrev pub GainsAt : Present → List Name → List Name → List Name → List Name → Type 0
GainsAt p promoted kept newly_stuck stuck = (m : Moment) → IsAt p m → AreGains promoted kept newly_stuck stuck m

-- what is promoted and kept at whatever moment a position is
abbrev pub KeptAt : Present → List Name → List Name → Type 0
KeptAt p promoted kept = (m : Moment) → IsAt p m → AreKept promoted kept m

-- so it is where the names kept and stuck are those of the moment
abbrev pub LossesAfter : Present → List Name → List Name → Kind → List Name → List Name → Type 0
LossesAfter p kept stuck k dead swept =
    (m : Moment) → IsAt p m → kept ≡ kept_at m → stuck ≡ stuck_at m → AreLosses dead swept m k

-- counts are those of the report, where the names promoted, stuck, dead and swept are those of the moment
abbrev pub CountsAfter : Present → List Name → List Name → List Name → List Name → Kind → List Count → Type 0
CountsAfter p promoted stuck dead swept k counts =
    (m : Moment) → IsAt p m → promoted ≡ promoted_at m → stuck ≡ stuck_at m → AreLosses dead swept m k
    → counts ≡ (report_at m k).counts

-- ---- what is computed of a position

-- how often o is raised, where these are promoted
abbrev pub raised_now : Present → List Name → Name → ℕ
raised_now p promoted o =
    count_by (field_holds p.state.graph o) p.written
    + references_from p.state.graph promoted o
    + newly_held p.last.registers p.state.registers o

-- the count of o before it is raised
abbrev pub count_before_now : Present → List Name → Name → ℕ
count_before_now p promoted o = if has promoted o then 0 else value_at p.last.counts o

-- o becomes stuck, where these are promoted and each name is raised so often
abbrev pub becomes_stuck_by : Present → List Name → (Name → ℕ) → Name → Bool
becomes_stuck_by p promoted raised o = not (has p.last.stuck o) && nat_le STUCK (count_before_now p promoted o + raised o)

-- o becomes stuck, where these are promoted
abbrev pub becomes_stuck : Present → List Name → Name → Bool
becomes_stuck p promoted o = becomes_stuck_by p promoted (raised_now p promoted) o

-- the dead of these names in a state, where a pause drains
abbrev pub drained_of : State → Bool → List Name → List Name → List Name
drained_of s false us stuck = []
drained_of s true us stuck = dead_names s us stuck

-- what a trace that runs will sweep
abbrev pub swept_of : Option Running → List Name
swept_of None = []
swept_of (Some trace) = trace.swept

-- what a pause of this kind sweeps of the names left
abbrev pub swept_now : Present → List Name → Kind → List Name
swept_now p left kind.Plain = []
swept_now p left kind.Begin = []
swept_now p left (kind.End j) = swept_of p.last.trace
swept_now p left kind.Collect = without left (reachable_names p.state)

-- the count of a name as a report has it, by a table of references: at most 255, and none where the name is stuck
abbrev pub counted : List Name → (Name → ℕ) → Name → Count
counted stuck count o = record { name = o; count = if has stuck o then None else Some (min (count o) 255) }

-- the trace that begins at a pause of this number, in this state, which leaves these names unreclaimed
abbrev pub begun_with : State → ℕ → List Name → Running
begun_with s number us = record { began = number; swept = without us (reachable_names s) }

-- the trace that runs behind a pause of this kind and number, in this state, which leaves these names unreclaimed
abbrev pub trace_with : Option Running → State → Kind → ℕ → List Name → Option Running
trace_with trace s kind.Plain number us = trace
trace_with trace s kind.Begin number us = Some (begun_with s number us)
trace_with trace s (kind.End j) number us = None
trace_with trace s kind.Collect number us = None

-- this is what is to be kept of a pause with a report, at a position
pub record IsLastAfter (p : Present) (report : PauseReport) (past : Past) : Type 0 where
  pub number : past.number ≡ report.number
  pub unreclaimed : AreInOrder p.last.unreclaimed → past.unreclaimed ≡ left_by report (union report.promoted p.last.unreclaimed)
  pub stuck : AreInOrder p.last.stuck → past.stuck ≡ left_by report (union report.stuck p.last.stuck)
  pub trace : past.trace ≡ trace_with p.last.trace p.state report.kind report.number past.unreclaimed
  pub tells : TellsState past p.state
