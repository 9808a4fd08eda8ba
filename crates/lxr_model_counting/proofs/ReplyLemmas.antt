-- The reply of a step, and the state after it.
use Rattle.std.proofs.Common.{◌≡◌, ℕ, ◌<◌, ◌≤◌, refl, length}
use Rattle.lxr_graph.specs.declared.Op.{Op}
use Rattle.lxr_graph.specs.declared.Op.TheVariants as op
use Rattle.lxr_graph.specs.State.{State}
use Rattle.lxr_graph.specs.Step.{state_after, step}
use Rattle.lxr_model_counting.specs.Following.{IsStepReply}

-- the state after a call with the reply of a step is that of the step
pub state_after_step : (s : State) (t : ℕ) (o : Op) → state_after s t o (step s t o).1 ≡ (step s t o).0
state_after_step s t (op.New dest shape) = refl
state_after_step s t o = refl

-- the reply of a step is that of a step, in a graph that has the thread
pub step_reply : (s : State) (t : ℕ) (o : Op) → t < length s.graph → 1 ≤ t → IsStepReply s t o (step s t o).1
step_reply s t (op.New dest shape) row thread = (refl, row, thread)
step_reply s t o row thread = (refl, row, thread)
