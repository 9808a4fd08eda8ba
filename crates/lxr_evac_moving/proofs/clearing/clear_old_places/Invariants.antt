use Rattle.std.proofs.Common.{◌≡◌, ◌≤◌, ◌-◌}
use Rattle.lxr_image.specs.Spaces.{tables_of}
use Rattle.lxr_model.specs.Moments.{Moment}
use Rattle.lxr_evac_moving.specs.Stages.{EvacuationStage, granules}
use Rattle.lxr_evac_moving.specs.Steps.{IsClearing}
use Rattle.lxr_evac_moving.proofs.clearing.clear_old_places.Given as goal

abbrev pub invariant-loop-granule : goal.invariant-loop-granule
invariant-loop-granule l = record {
  within : l.from ≤ granules l.fn.space;
  clears : (m : Moment) (st : EvacuationStage) → IsClearing l.fn.space m st 0 → IsClearing l.space m st l.from;
  tables : tables_of l.space ≡ record (tables_of l.fn.space) {
    starts = (tables_of l.space).starts;
    marks = (tables_of l.space).marks;
    grays = (tables_of l.space).grays;
    counts = (tables_of l.space).counts;
    unlogged = (tables_of l.space).unlogged;
  };
  rest : l.space ≡ record l.fn.space { words = l.space.words };
}

abbrev pub decreases-loop-granule : goal.decreases-loop-granule
decreases-loop-granule l = granules l.fn.space - l.from
