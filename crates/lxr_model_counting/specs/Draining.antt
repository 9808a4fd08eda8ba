-- Laws of pauses that drain, each the contract of a function with an empty body: what may be dropped, what stays, and how the
-- state follows a pause of any kind.
use Rattle.std.specs.Prelude.{◌≡◌, ◌≢◌, ℕ, ◌↔◌, false, Some, List, IsTrue, map, slice_get}
use Rattle.lxr_layout.specs.declared.Name.{Name}
use Rattle.lxr_graph.specs.declared.report.Count.{Count}
use Rattle.lxr_graph.specs.declared.report.Kind.TheVariants as kind
use Rattle.lxr_graph.specs.Names.{has, union, without}
use Rattle.lxr_graph.specs.State.{State, world_name}
use Rattle.lxr_graph.specs.History.{PauseReport}
use Rattle.lxr_model.specs.Reachable.{Holds, Refers, Reachable, IsClosed}
use Rattle.lxr_model.specs.References.{references}
use Rattle.lxr_model.specs.Dead.{Dead, Promoted}
use Rattle.lxr_model.specs.Moments.{Moment, after_pause, unreclaimed_after, stuck_after}
use Rattle.lxr_model.specs.Reports.{PauseParts, IsReportWith, IsReport, is_draining, remaining_names}
use Rattle.lxr_model.specs.HistoryLaws.{IsExactCount}
use Rattle.lxr_model_counting.specs.Following.{FollowsPause}
use Rattle.lxr_model_counting.specs.Lowering.{IsLowered, IsOver}

-- ---- what joins, and what may be dropped

-- the unreclaimed names and the promoted have the world, what registers hold and the references of their members
abbrev pub PromotionJoinsTheReachable : Type 0
PromotionJoinsTheReachable =
    (m : Moment) (promoted : List Name) → FollowsPause m → ((n : Name) → IsTrue (has promoted n) ↔ Promoted m.state m.unreclaimed m.made n)
    → IsClosed m.state (has (union promoted m.unreclaimed))

-- where U has the world, what registers hold and the references of its members, it still has them without its dead
abbrev pub DeathLeavesTheReachable : Type 0
DeathLeavesTheReachable =
    (s : State) (us stuck gone : List Name) → IsClosed s (has us) → IsTrue (has stuck world_name)
    → ((n : Name) → IsTrue (has gone n) ↔ Dead s us stuck n) → IsClosed s (has (without us gone))

-- names may be swept: none of them is reachable, and none of those that are left refers to one
pub record MayBeSwept (s : State) (left swept : List Name) : Type 0 where
  pub unreachable : (n : Name) → IsTrue (has swept n) → ¬ Reachable s n
  pub unreferred : (u n : Name) → IsTrue (has left u) → Refers s.graph u n → has swept n ≡ false

-- and it still has them without names that may be swept, and without the dead of what is left then
abbrev pub SweepLeavesTheReachable : Type 0
SweepLeavesTheReachable =
    (s : State) (us stuck swept gone : List Name) → IsClosed s (has us) → IsTrue (has stuck world_name)
    → MayBeSwept s (without us swept) swept → ((n : Name) → IsTrue (has gone n) ↔ Dead s (without us swept) stuck n)
    → IsClosed s (has (without (without us swept) gone))

-- ---- what has a reference

-- Where nothing of U is dead, some member of U refers to each that is neither stuck nor in a register; and to what isn't
-- reachable, one that isn't reachable either.
abbrev pub GarbageKeepsItsReferences : Type 0
GarbageKeepsItsReferences =
    (s : State) (us stuck : List Name) → ((n : Name) → ¬ Dead s us stuck n) → (o : Name) → IsTrue (has us o)
    → has stuck o ≡ false → ¬ Holds s o
    → (u : Name) × IsTrue (has us u) × Refers s.graph u o × (¬ Reachable s o → ¬ Reachable s u)

-- where nothing waits to be lowered and what has no count is gone, the count of what is left and not stuck is that of the
-- references from what is left, and isn't 0
abbrev pub LoweredCountsAreReferences : Type 0
LoweredCountsAreReferences =
    (s : State) (us stuck gone : List Name) (count pending : Name → ℕ) → IsLowered s us stuck gone count pending
    → ((o : Name) → pending o ≡ 0) → IsOver us stuck gone count
    → (o : Name) → IsTrue (has (without us gone) o) → has stuck o ≡ false
    → (count o ≡ references s (without us gone) o) × (count o ≢ 0)

-- ---- what a pause leaves

-- what is unreclaimed after a pause remains after its sweep, without the third dead; and what was stuck or becomes so stays
-- stuck unless it is swept
pub record LeavesTheRemaining (m : Moment) (parts : PauseParts) (report : PauseReport) : Type 0 where
  pub unreclaimed : unreclaimed_after m report ≡ without (remaining_names m parts report) parts.third_dead
  pub stuck : (n : Name) → IsTrue (has (stuck_after m report) n) ↔ (IsTrue (has (union report.stuck m.stuck) n) × (has report.swept n ≡ false))

abbrev pub PauseLeavesTheRemaining : Type 0
PauseLeavesTheRemaining = (m : Moment) (parts : PauseParts) (report : PauseReport) → FollowsPause m → IsReportWith m parts report → LeavesTheRemaining m parts report

-- the state follows a pause of any kind, where what it sweeps may be swept
abbrev pub PauseRestartsFollowing : Type 0
PauseRestartsFollowing =
    (m : Moment) (parts : PauseParts) (report : PauseReport) → FollowsPause m → IsReportWith m parts report
    → MayBeSwept m.state (remaining_names m parts report) report.swept → FollowsPause (after_pause m report)

-- a pause that ends no trace sweeps what may be swept
abbrev pub SweepsWithoutTraceAreSound : Type 0
SweepsWithoutTraceAreSound =
    (m : Moment) (parts : PauseParts) (report : PauseReport) → FollowsPause m → IsReportWith m parts report
    → ((j : ℕ) → report.kind ≢ kind.End j) → MayBeSwept m.state (remaining_names m parts report) report.swept

-- after a collecting pause exactly the reachable is unreclaimed
abbrev pub CollectIsComplete : Type 0
CollectIsComplete =
    (m : Moment) (report : PauseReport) → FollowsPause m → IsReport m report → report.kind ≡ kind.Collect
    → (n : Name) → IsTrue (has (unreclaimed_after m report) n) ↔ Reachable m.state n

-- The counts of a draining pause are those of the unreclaimed names, in their order, each none where its name is stuck, and
-- else its references counted afresh. None is 0: nothing of what it leaves is dead.
pub record CountsAfresh (m : Moment) (report : PauseReport) : Type 0 where
  pub names : map (λ (c : Count). c.name) report.counts ≡ unreclaimed_after m report
  pub exact : (i : ℕ) (c : Count) → slice_get report.counts i ≡ Some c → IsExactCount m.state (unreclaimed_after m report) (stuck_after m report) c
  pub none_dead : (o : Name) → ¬ Dead m.state (unreclaimed_after m report) (stuck_after m report) o
  pub none_zero : (o : Name) → IsTrue (has (unreclaimed_after m report) o) → has (stuck_after m report) o ≡ false
      → references m.state (unreclaimed_after m report) o ≢ 0

abbrev pub CountsAreReferences : Type 0
CountsAreReferences = (m : Moment) (report : PauseReport) → FollowsPause m → IsReport m report → IsTrue (is_draining report.kind) → CountsAfresh m report
