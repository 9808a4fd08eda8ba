use Rattle.std.proofs.Common.{ℕ}
use Rattle.lxr_layout.specs.declared.Name.{Name}
use Rattle.lxr_model.specs.Moments.{Moment}
use Rattle.lxr_pause_promote.specs.Shortages.{IsShortage}
use Rattle.lxr_pause_increments.specs.Accounted.{IsEven, Raisings, Reaches}
use Rattle.lxr_pause_increments.specs.Increments.{RaisingLeaves, IncrementStage, left}
use Rattle.lxr_pause_increments.proofs.order.empty_worklist.Given as goal

abbrev pub invariant-loop-place : goal.invariant-loop-place
invariant-loop-place l = record {
  reaches : (m : Moment) (at : Name → ℕ) (st : IncrementStage) (base : Raisings) → IsEven l.fn.space m at st base → Reaches l.fn.space l.space m at st base;
  leaves : RaisingLeaves l.fn.space l.space;
  short : IsShortage l.space l.shortage;
}

abbrev pub decreases-loop-place : goal.decreases-loop-place
decreases-loop-place l = left l.space
