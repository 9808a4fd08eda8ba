use Rattle.std.proofs.Common.{◌≡◌, ◌-◌, ◌≤◌, length}
use Rattle.lxr_model.specs.Moments.{Moment}
use Rattle.lxr_evac_moving.specs.Stages.{EvacuationStage, IsEvacuating}
use Rattle.lxr_evac_moving.specs.Steps.{HoldNow, held_names, held_places, with_places}
use Rattle.lxr_evac_moving.proofs.registers.fix_registers.Given as goal

abbrev pub invariant-loop-register : goal.invariant-loop-register
invariant-loop-register l = record {
  fixes : (m : Moment) (st : EvacuationStage) → IsEvacuating l.fn.space m st → IsEvacuating l.space m st × HoldNow st (held_places l.registers l.space) (held_names l.registers m) l.register;
  as_many : length (held_places l.registers l.space) ≡ length (held_places l.registers l.fn.space);
  within : l.register ≤ length (held_places l.registers l.fn.space);
  rest : l.space ≡ with_places l.registers l.fn.space (held_places l.registers l.space);
}

abbrev pub decreases-loop-register : goal.decreases-loop-register
decreases-loop-register l = length (held_places l.registers l.fn.space) - l.register
