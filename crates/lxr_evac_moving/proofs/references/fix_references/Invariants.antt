use Rattle.lxr_model.specs.Moments.{Moment}
use Rattle.lxr_evac_moving.specs.Stages.{EvacuationStage}
use Rattle.lxr_evac_moving.specs.Steps.{CanFix, HasFixedEntries}
use Rattle.lxr_evac_moving.proofs.references.fix_references.Given as goal

abbrev pub invariant-loop-number : goal.invariant-loop-number
invariant-loop-number l = (m : Moment) (st : EvacuationStage) → CanFix l.fn.space m st → HasFixedEntries l.space m st l.number
