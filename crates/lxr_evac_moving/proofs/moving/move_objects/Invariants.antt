use Rattle.std.proofs.Common.{◌-◌, ◌+◌, ◌≤◌, ℕ}
use Rattle.lxr_layout.specs.declared.Name.{Name}
use Rattle.lxr_model.specs.Moments.{Moment}
use Rattle.lxr_pause_promote.specs.Shortages.{IsShortage}
use Rattle.lxr_evac_moving.specs.Stages.{granules}
use Rattle.lxr_evac_moving.specs.Steps.{CanMove}
use Rattle.lxr_evac_moving.proofs.AllLemmas.{HasMovedBelow}
use Rattle.lxr_evac_moving.proofs.moving.move_objects.Given as goal

abbrev pub invariant-loop-granule : goal.invariant-loop-granule
invariant-loop-granule l =
    record {
      moving : (m : Moment) (at : Name → ℕ) → CanMove l.fn.space m at → HasMovedBelow l.fn.space l.space m at l.from l.evacuated.moved l.evacuated.kept;
      short : IsShortage l.space l.shortage;
      few : l.evacuated.moved + l.evacuated.kept ≤ l.from;
      within : l.from ≤ granules l.fn.space;
    }

abbrev pub decreases-loop-granule : goal.decreases-loop-granule
decreases-loop-granule l = granules l.fn.space - l.from
