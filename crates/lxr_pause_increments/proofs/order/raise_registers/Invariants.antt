use Rattle.std.proofs.Common.{◌≡◌, ℕ, ◌-◌, ◌≤◌, length}
use Rattle.lxr_layout.specs.declared.Name.{Name}
use Rattle.lxr_model.specs.Moments.{Moment}
use Rattle.lxr_pause_promote.specs.Shortages.{IsShortage}
use Rattle.lxr_pause_increments.specs.Accounted.{HasRaisedRoots}
use Rattle.lxr_pause_increments.specs.Increments.{RaisingLeaves, IncrementStage}
use Rattle.lxr_pause_increments.specs.Steps.{AtLater}
use Rattle.lxr_pause_increments.proofs.order.raise_registers.Given as goal

abbrev pub invariant-loop-register : goal.invariant-loop-register
invariant-loop-register l = record {
  settles : (m : Moment) (at : Name → ℕ) (st : IncrementStage) → HasRaisedRoots l.fn.space m at st 0 → AtLater st (λ later. HasRaisedRoots l.space m at later l.register);
  as_many : length l.space.registers.items ≡ length l.fn.space.registers.items;
  within : l.register ≤ length l.fn.space.registers.items;
  leaves : RaisingLeaves l.fn.space l.space;
  short : IsShortage l.space l.shortage;
}

abbrev pub decreases-loop-register : goal.decreases-loop-register
decreases-loop-register l = length l.fn.space.registers.items - l.register
