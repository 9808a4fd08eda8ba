-- Which lines unreclaimed objects keep from being handed out: a law, the contract of a function with an empty body.
use Rattle.std.specs.Prelude.{◌≢◌, ℕ, ◌+◌, ◌<◌, ◌≤◌, List, IsTrue}
use Rattle.lxr_layout.specs.declared.Name.{Name}
use Rattle.lxr_layout.specs.declared.runs.Run.{Run}
use Rattle.lxr_graph.specs.Names.{has}
use Rattle.lxr_graph.specs.State.{Graph}
use Rattle.lxr_image.specs.declared.space.Space.{Space}
use Rattle.lxr_image.specs.Tables.{Tables}
use Rattle.lxr_image.specs.Spaces.{tables_of}
use Rattle.lxr_blocks.specs.Handing.{first_line}
use Rattle.lxr_blocks.specs.Lines.{IsFreeRun}
use Rattle.lxr_model.specs.Moments.{Moment}
use Rattle.lxr_invariant.specs.AbstractState.{AbstractState}
use Rattle.lxr_invariant.specs.Counting.{count_at}
use Rattle.lxr_invariant.specs.Lines.{IsTakenBy, KeepLines}
use Rattle.lxr_invariant.specs.Quiescent.{IsAtSafepoint}

-- no unreclaimed object has count 0
abbrev pub AllAreCounted : Tables → Moment → (Name → ℕ) → Type 0
AllAreCounted t m at = (n : Name) → IsTrue (has m.unreclaimed n) → count_at t at n ≢ 0

-- no run of free lines, and so none that may be handed out, has a line that one of these objects overlaps
abbrev pub FreeRunsAvoid : Tables → ℕ → Graph → (Name → ℕ) → List Name → Type 0
FreeRunsAvoid t blocks g at ns = (r : Run) (line : ℕ) → IsFreeRun t blocks r → first_line r ≤ line → line < first_line r + r.lines → ¬ IsTakenBy g at ns line

-- no line that an unreclaimed object overlaps is free, and none may be handed out
pub record UnreclaimedAreSafe (s : Space) (g : AbstractState) : Type 0 where
  pub lines : KeepLines (tables_of s) g.moment.state.graph g.at g.moment.unreclaimed
  pub runs : FreeRunsAvoid (tables_of s) s.limits.blocks g.moment.state.graph g.at g.moment.unreclaimed

-- So it is at a safepoint where no unreclaimed object has count 0.
abbrev pub CountedKeepLines : Type 0
CountedKeepLines = (s : Space) (g : AbstractState) → IsAtSafepoint s g → AllAreCounted (tables_of s) g.moment g.at → UnreclaimedAreSafe s g
