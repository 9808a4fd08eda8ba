use Rattle.std.proofs.Common.{◌≤◌}
use Rattle.lxr_image.specs.declared.space.Space.{Space}
use Rattle.lxr_pause_trace.specs.Marking.{IsScanning, to_do}
use Rattle.lxr_pause_trace.proofs.finish.scan.Given as goal

abbrev pub invariant-loop-index : goal.invariant-loop-index
invariant-loop-index l = record {
  scanning : (before : Space) → IsScanning before l.fn.space l.place.0 0 → IsScanning before l.space l.place.0 l.index;
  to_do : to_do l.space ≤ to_do l.fn.space;
}
