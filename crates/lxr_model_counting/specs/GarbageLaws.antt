-- Laws of a trace's garbage, each the contract of a function with an empty body.
use Rattle.std.specs.Prelude.{ℕ, IsTrue}
use Rattle.lxr_layout.specs.declared.Name.{Name}
use Rattle.lxr_graph.specs.declared.Op.{Op}
use Rattle.lxr_graph.specs.declared.Reply.{Reply}
use Rattle.lxr_graph.specs.Names.{has, without}
use Rattle.lxr_graph.specs.History.{PauseReport}
use Rattle.lxr_model.specs.Moments.{Trace, Moment, after_call, after_pause}
use Rattle.lxr_model.specs.Reports.{PauseParts, IsReportWith, IsReport, kept_names, remaining_names}
use Rattle.lxr_model_counting.specs.Following.{FollowsPause, IsStepReply}
use Rattle.lxr_model_counting.specs.Garbage.{IsGarbageOf, FollowsTrace, FollowsRunning}
use Rattle.lxr_model_counting.specs.Draining.{MayBeSwept}

-- a call keeps it so
abbrev pub CallKeepsGarbage : Type 0
CallKeepsGarbage =
    (m : Moment) (t : ℕ) (o : Op) (r : Reply) (trace : Trace) → FollowsPause m → FollowsTrace m trace → IsStepReply m.state t o r
    → FollowsTrace (after_call m t o r) trace

-- so does a pause, of the trace that runs after it: the same one, or one that it begins
abbrev pub PauseKeepsGarbage : Type 0
PauseKeepsGarbage =
    (m : Moment) (report : PauseReport) → FollowsPause m → FollowsRunning m m.trace → IsReport m report
    → FollowsRunning (after_pause m report) (after_pause m report).trace

-- garbage doesn't die: it is kept by a pause, and not among the second dead
abbrev pub GarbageIsNotDead : Type 0
GarbageIsNotDead =
    (m : Moment) (parts : PauseParts) (report : PauseReport) (trace : Trace) → FollowsPause m → FollowsTrace m trace
    → IsReportWith m parts report → (n : Name) → IsGarbageOf trace n
    → IsTrue (has (without (kept_names m parts report) parts.second_dead) n)

-- a pause of any kind sweeps what may be swept
abbrev pub SweepsAreSound : Type 0
SweepsAreSound =
    (m : Moment) (parts : PauseParts) (report : PauseReport) → FollowsPause m → FollowsRunning m m.trace
    → IsReportWith m parts report → MayBeSwept m.state (remaining_names m parts report) report.swept
