use Rattle.std.proofs.Common.{◌≡◌, ℕ}
use Rattle.lxr_layout.specs.declared.Name.{Name}
use Rattle.lxr_model.specs.Moments.{Moment}
use Rattle.lxr_pause_promote.specs.Shortages.{IsShortage}
use Rattle.lxr_pause_increments.specs.Accounted.{GoesOn, IsScanning, Raisings}
use Rattle.lxr_pause_increments.specs.Increments.{RaisingLeaves, IncrementStage, left}
use Rattle.lxr_pause_increments.proofs.order.scan.Given as goal

abbrev pub invariant-loop-index : goal.invariant-loop-index
invariant-loop-index l = record {
  scanning : (m : Moment) (at : Name → ℕ) (st : IncrementStage) (u : Name) (base : Raisings) → IsScanning l.fn.space l.place.0 0 m at st u base
      → (later : IncrementStage) × IsScanning l.space l.place.0 l.index m at later u base × GoesOn l.fn.space l.space m st later;
  left : left l.space ≡ left l.fn.space;
  leaves : RaisingLeaves l.fn.space l.space;
  short : IsShortage l.space l.shortage;
}
