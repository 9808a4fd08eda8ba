use Rattle.lxr_image.specs.declared.space.Space.{Space}
use Rattle.lxr_pause_trace.specs.Marking.{IsMarking, granules, to_do}
use Rattle.lxr_pause_trace.proofs.finish.empty_worklist.Given as goal

abbrev pub invariant-loop-place : goal.invariant-loop-place
invariant-loop-place l = (before : Space) → IsMarking before l.fn.space (granules l.fn.space) → IsMarking before l.space (granules l.space)

abbrev pub decreases-loop-place : goal.decreases-loop-place
decreases-loop-place l = to_do l.space
