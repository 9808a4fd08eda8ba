-- Laws of counting, each the contract of a function with an empty body.
use Rattle.std.specs.Prelude.{◌≡◌, ℕ, ◌+◌, ◌↔◌, false, List, IsTrue, min}
use Rattle.lxr_layout.specs.declared.Name.{Name}
use Rattle.lxr_layout.specs.declared.TheConstants.{STUCK}
use Rattle.lxr_graph.specs.declared.Op.{Op}
use Rattle.lxr_graph.specs.declared.Reply.{Reply}
use Rattle.lxr_graph.specs.declared.report.Kind.TheVariants as kind
use Rattle.lxr_graph.specs.Names.{IsSetOf, has, union, without}
use Rattle.lxr_graph.specs.State.{State}
use Rattle.lxr_graph.specs.Step.{IsWellFormed}
use Rattle.lxr_graph.specs.History.{PauseReport}
use Rattle.lxr_model.specs.Reachable.{Refers}
use Rattle.lxr_model.specs.References.{references}
use Rattle.lxr_model.specs.Dead.{Dead, Promoted}
use Rattle.lxr_model.specs.Moments.{Moment, after_call, after_pause, opening_moment}
use Rattle.lxr_model.specs.Reports.{IsReport, raised}
use Rattle.lxr_model_counting.specs.Following.{FollowsPause, IsLive, IsStepReply}
use Rattle.lxr_model_counting.specs.Lowering.{IsLowered, IsOver}
use Rattle.lxr_model_counting.specs.Raising.{IsGrowth, IsGrown}
use Rattle.lxr_model_counting.specs.Balance.{lowered}

-- ---- the state follows the last pause

-- so it is at the opening, which counts as a pause
abbrev pub OpeningFollows : Type 0
OpeningFollows = (threads : ℕ) → FollowsPause (opening_moment threads)

-- a call keeps it
abbrev pub CallKeepsFollowing : Type 0
CallKeepsFollowing = (m : Moment) (t : ℕ) (o : Op) (r : Reply) → FollowsPause m → IsWellFormed o → IsStepReply m.state t o r → FollowsPause (after_call m t o r)

-- after a plain pause it holds anew
abbrev pub PlainPauseRestartsFollowing : Type 0
PlainPauseRestartsFollowing = (m : Moment) (report : PauseReport) → FollowsPause m → IsReport m report → report.kind ≡ kind.Plain → FollowsPause (after_pause m report)

-- ---- the dead at the last pause

-- what is live is not dead, and what is kept of the unreclaimed names without the dead referred to such names alone
pub record LeavesTheLiving (m : Moment) (gone : List Name) : Type 0 where
  pub live : (n : Name) → IsLive m n → has gone n ≡ false
  pub closed : (u n : Name) → IsTrue (has (without m.unreclaimed gone) u) → Refers m.last.graph u n → IsTrue (has (without m.unreclaimed gone) n)
  pub follows : FollowsPause (record m { unreclaimed = without m.unreclaimed gone })

abbrev pub DeathLeavesTheLiving : Type 0
DeathLeavesTheLiving = (m : Moment) (gone : List Name) → FollowsPause m → ((n : Name) → IsTrue (has gone n) ↔ Dead m.last m.unreclaimed m.stuck n) → LeavesTheLiving m gone

-- ---- lowering

-- where nothing waits and what has no count is gone, exactly the dead are gone
abbrev pub LoweringKills : Type 0
LoweringKills = (s : State) (us stuck gone : List Name) (count pending : Name → ℕ) → IsLowered s us stuck gone count pending → ((o : Name) → pending o ≡ 0)
    → IsOver us stuck gone count → (o : Name) → IsTrue (has gone o) ↔ Dead s us stuck o

-- ---- raising

-- promoting what is held up, one after another until no more is, promotes exactly the least set
abbrev pub GrowthIsPromoted : Type 0
GrowthIsPromoted = (s : State) (kept made promoted : List Name) → IsGrowth s kept made promoted → IsGrown s kept made promoted
    → (n : Name) → IsTrue (has promoted n) ↔ Promoted s kept made n

-- a count that was raised so often from b and stays at its largest value: once more
abbrev pub RaisesSaturate : Type 0
RaisesSaturate = (b raised : ℕ) → min (min (b + raised) STUCK + 1) STUCK ≡ min (b + (raised + 1)) STUCK

-- ---- the balance

-- The references to o at the last pause and what increments add are the references to o now and what decrements are to
-- take away.
abbrev pub RaisedAndLoweredBalance : Type 0
RaisedAndLoweredBalance = (m : Moment) (promoted : List Name) (o : Name) → FollowsPause m
    → IsSetOf promoted (Promoted m.state m.unreclaimed m.made)
    → references m.last m.unreclaimed o + raised m promoted o ≡ references m.state (union promoted m.unreclaimed) o + lowered m o

-- what was made since the last pause had no reference there
abbrev pub MadeHadNoReferences : Type 0
MadeHadNoReferences = (m : Moment) (n : Name) → FollowsPause m → IsTrue (has m.made n) → references m.last m.unreclaimed n ≡ 0
