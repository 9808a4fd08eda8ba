use Rattle.std.proofs.Common.{◌≡◌, ◌-◌, ◌≤◌}
use Rattle.lxr_image.specs.declared.space.Space.{Space}
use Rattle.lxr_pause_trace.specs.Marking.{IsMarking, granules}
use Rattle.lxr_pause_trace.proofs.finish.find_grays.Given as goal

abbrev pub invariant-loop-granule : goal.invariant-loop-granule
invariant-loop-granule l =
    record {
      marking : (before : Space) → IsMarking before l.fn.space 0 → IsMarking before l.space l.from;
      limits : l.space.limits ≡ l.fn.space.limits;
      within : l.from ≤ granules l.fn.space;
    }

abbrev pub decreases-loop-granule : goal.decreases-loop-granule
decreases-loop-granule l = granules l.fn.space - l.from
