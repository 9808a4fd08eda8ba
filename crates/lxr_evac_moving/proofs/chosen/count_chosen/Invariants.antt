use Rattle.std.proofs.Common.{◌≡◌, ◌-◌, ◌≤◌, ℕ}
use Rattle.std.specs.Prelude.{length}
use Rattle.lxr_layout.specs.declared.Name.{Name}
use Rattle.lxr_model.specs.Moments.{Moment}
use Rattle.lxr_evac_moving.specs.Evacuation.{CanEvacuate}
use Rattle.lxr_evac_moving.specs.Stages.{granules, kept_names}
use Rattle.lxr_evac_moving.specs.Steps.{first_stage}
use Rattle.lxr_evac_moving.proofs.LookedLemmas.{looked_to}
use Rattle.lxr_evac_moving.proofs.chosen.count_chosen.Given as goal

abbrev pub invariant-loop-granule : goal.invariant-loop-granule
invariant-loop-granule l =
    record {
      count : (m : Moment) (at : Name → ℕ) → CanEvacuate l.space m at → l.count ≡ length (kept_names m (looked_to (first_stage l.space at) l.from at));
      few : l.count ≤ l.from;
      within : l.from ≤ granules l.space;
    }

abbrev pub decreases-loop-granule : goal.decreases-loop-granule
decreases-loop-granule l = granules l.space - l.from
