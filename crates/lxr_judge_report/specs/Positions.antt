-- A position in a history: what is kept of the moment that the history leads to, and what it is to move on.
use Rattle.std.specs.Prelude.{◌≡◌, ℕ, Bool, if◌then◌else◌, Option, Some, None, List, [], ◌∷◌, length, reverse}
use Rattle.lxr_layout.specs.declared.Name.{Name}
use Rattle.lxr_graph.specs.declared.Op.{Op}
use Rattle.lxr_graph.specs.declared.Op.TheVariants as op
use Rattle.lxr_graph.specs.declared.Reply.{Reply}
use Rattle.lxr_graph.specs.declared.report.Kind.{Kind}
use Rattle.lxr_graph.specs.Names.{AreInOrder, has, union, without}
use Rattle.lxr_graph.specs.State.{State, register_at, world_name}
use Rattle.lxr_graph.specs.History.{PauseReport}
use Rattle.lxr_model.specs.Moments.{Field, Moment, after_call, after_pause}
use Rattle.lxr_model_counting.specs.Following.{FollowsPause}
use Rattle.lxr_model_counting.specs.Garbage.{FollowsRunning}
use Rattle.lxr_model_decide.specs.Sets.{reachable_names}
use Rattle.lxr_model_decide.specs.Reports.{report_at, CanBe}
use Rattle.lxr_model_decide.specs.Legality.{leave_no_run}
use Rattle.lxr_judge_report.specs.LastPauses.{Past, IsLastOf}

-- the state now, what is kept of the last pause, and since it the names made and the fields written, oldest first
pub record Present : Type 0 where
  pub state : State
  pub last : Past
  pub made : List Name
  pub written : List Field

-- A position is at moment m: what it holds is of m, and m is one that calls and pauses lead to.
pub record IsAt (p : Present) (m : Moment) : Type 0 where
  pub lives : FollowsPause m
  pub traces : FollowsRunning m m.trace
  pub stuck : AreInOrder m.stuck
  pub state : p.state ≡ m.state
  pub last : IsLastOf p.last m
  -- each name made stands once
  pub made : (n : Name) → has p.made n ≡ has m.made n
  pub made_once : length p.made ≡ length m.made
  pub written : p.written ≡ reverse m.written

-- a call moves a position on, from whatever moment it was at to the one after the call
abbrev pub MovesByCall : Present → Present → ℕ → Op → Reply → Type 0
MovesByCall old new t o r = (m : Moment) → IsAt old m → IsAt new (after_call m t o r)

-- a pause moves a position on, where its report is the one of a pause of its kind
abbrev pub MovesByPause : Present → Present → PauseReport → Type 0
MovesByPause old new report =
    (m : Moment) → IsAt old m → CanBe m report.kind → report ≡ report_at m report.kind → IsAt new (after_pause m report)

-- it is the report of a pause of this kind at whatever moment the position is
abbrev pub IsReportAt : Present → Kind → PauseReport → Type 0
IsReportAt p k report = (m : Moment) → IsAt p m → report ≡ report_at m k

-- a test of a moment has this outcome at whatever moment the position is
abbrev pub Tells : Present → (Moment → Bool) → Bool → Type 0
Tells p test answer = (m : Moment) → IsAt p m → answer ≡ test m

-- the objects made or unreclaimed, but for the world, can leave no run of k lines in so many blocks
abbrev pub kept_leave_no_run : ℕ → ℕ → Moment → Bool
kept_leave_no_run blocks k m = leave_no_run m.state.graph (without (union m.made m.unreclaimed) (world_name ∷ [])) blocks k

-- the reachable objects, but for the world, can leave no run of k lines in so many blocks
abbrev pub reached_leave_no_run : ℕ → ℕ → Moment → Bool
reached_leave_no_run blocks k m = leave_no_run m.state.graph (without (reachable_names m.state) (world_name ∷ [])) blocks k

-- the field that a write at an index goes to, by what the base register holds, where that is one of these unreclaimed names
abbrev pub unreclaimed_field : List Name → Option Name → ℕ → Option Field
unreclaimed_field us None i = None
unreclaimed_field us (Some n) i = if has us n then Some (n, i) else None

-- the field that an operation of thread t would write in a state, where it is one of these unreclaimed names
abbrev pub target : State → List Name → ℕ → Op → Option Field
target s us t (op.Store base index source) = unreclaimed_field us (register_at s t base) index
target s us t (op.Swap dest base index source) = unreclaimed_field us (register_at s t base) index
target s us t _ = None
