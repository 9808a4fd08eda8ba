-- What a trace found to be garbage when it began: as long as the trace runs, it stays as it was and apart from the rest.
use Rattle.std.specs.Prelude.{◌≡◌, false, Option, Some, None, IsTrue}
use Rattle.lxr_layout.specs.declared.Name.{Name}
use Rattle.lxr_graph.specs.Names.{has}
use Rattle.lxr_graph.specs.State.{object_at, refs_of}
use Rattle.lxr_model.specs.Reachable.{Refers, Reachable}
use Rattle.lxr_model.specs.Moments.{Trace, Moment}
use Rattle.lxr_model_counting.specs.Following.{IsLive}

-- garbage of a trace: it was unreclaimed and unreachable when the trace began
pub record IsGarbageOf (trace : Trace) (n : Name) : Type 0 where
  pub member : IsTrue (has trace.unreclaimed n)
  pub unreachable : ¬ Reachable trace.state n

-- it still is: unreclaimed, not live, with the references that it had; and where it isn't stuck, some garbage refers to it
pub record IsStillGarbage (m : Moment) (trace : Trace) (n : Name) : Type 0 where
  pub member : IsTrue (has m.unreclaimed n)
  pub dropped : ¬ IsLive m n
  pub references : refs_of (object_at m.state.graph n) ≡ refs_of (object_at trace.state.graph n)
  pub referred : has m.stuck n ≡ false → (u : Name) × IsGarbageOf trace u × Refers trace.state.graph u n

-- The state now follows the beginning of a trace: garbage still is, and no other unreclaimed object refers to it.
pub record FollowsTrace (m : Moment) (trace : Trace) : Type 0 where
  pub garbage : (n : Name) → IsGarbageOf trace n → IsStillGarbage m trace n
  pub apart : (u n : Name) → IsTrue (has m.unreclaimed u) → IsGarbageOf trace n → Refers m.state.graph u n → IsGarbageOf trace u

-- so it is with the trace that runs, if one does
abbrev pub FollowsRunning : Moment → Option Trace → Type 0
FollowsRunning m None = Unit {0}
FollowsRunning m (Some trace) = FollowsTrace m trace
