use Rattle.std.proofs.Common.{◌-◌, ◌≤◌}
use Rattle.lxr_image.specs.Spaces.{tables_of}
use Rattle.lxr_evac_moving.specs.Stages.{granules}
use Rattle.lxr_evac_moving.specs.Steps.{NoneBegins}
use Rattle.lxr_evac_moving.proofs.chosen.next_chosen.Given as goal

abbrev pub invariant-loop-at : goal.invariant-loop-at
invariant-loop-at l =
    record {
      past : l.from ≤ l.at;
      none : NoneBegins (tables_of l.space) l.from l.at;
    }

abbrev pub decreases-loop-at : goal.decreases-loop-at
decreases-loop-at l = granules l.space - l.at
