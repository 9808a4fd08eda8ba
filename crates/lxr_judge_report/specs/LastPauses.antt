-- What is kept of the last pause: its names as it left them, and what the next report asks of the state there, computed once, so
-- that no older state is kept.
use Rattle.std.specs.Prelude.{◌≡◌, ℕ, false, Option, Some, List, IsTrue}
use Rattle.std.specs.Option.{option_map}
use Rattle.lxr_layout.specs.declared.Name.{Name}
use Rattle.lxr_graph.specs.Names.{has, without}
use Rattle.lxr_graph.specs.State.{State}
use Rattle.lxr_model.specs.References.{references}
use Rattle.lxr_model.specs.Moments.{Trace, Moment}
use Rattle.lxr_model_decide.specs.Sets.{dead_names}
use Rattle.lxr_model_decide.specs.Reports.{swept_at_end}
use Rattle.lxr_judge_sets.specs.ByName.{Cells, value_at}

-- a trace that runs: the number of the pause at which it began, and the names that the pause at its end will sweep
pub record Running : Type 0 where
  pub began : ℕ
  pub swept : List Name

-- what is kept of a trace
abbrev pub running_of : Trace → Running
running_of trace = record { began = trace.began; swept = swept_at_end (Some trace) }

-- the number of the pause at which a trace began
abbrev pub began_of : Running → ℕ
began_of trace = trace.began

-- The number of a pause, the unreclaimed and the stuck names after it, and the trace that runs; what registers held there, which
-- unreclaimed names were dead there, and how many references each other one had.
pub record Past : Type 0 where
  pub number : ℕ
  pub unreclaimed : List Name
  pub stuck : List Name
  pub trace : Option Running
  pub registers : List (Option Name)
  pub dead : List Name
  pub counts : Cells ℕ

-- what is kept of the pause tells what the state there has: registers, the dead, and of unstuck names the references to them
-- from what isn't dead
pub record TellsState (past : Past) (s : State) : Type 0 where
  pub registers : past.registers ≡ s.registers
  pub dead : past.dead ≡ dead_names s past.unreclaimed past.stuck
  pub count : (o : Name) → IsTrue (has past.unreclaimed o) → has past.stuck o ≡ false
      → value_at past.counts o ≡ references s (without past.unreclaimed past.dead) o

-- it is what is kept of the last pause of moment m
pub record IsLastOf (past : Past) (m : Moment) : Type 0 where
  pub number : past.number ≡ m.number
  pub unreclaimed : past.unreclaimed ≡ m.unreclaimed
  pub stuck : past.stuck ≡ m.stuck
  pub trace : past.trace ≡ option_map running_of m.trace
  pub state : TellsState past m.last
