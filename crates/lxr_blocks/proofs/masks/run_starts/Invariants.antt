use Rattle.std.proofs.Common.{◌≤◌, ◌-◌}
use Rattle.lxr_blocks.proofs.MaskLemmas.{AreStarts}
use Rattle.lxr_blocks.proofs.masks.run_starts.Given as goal

abbrev pub invariant-loop-known : goal.invariant-loop-known
invariant-loop-known l = record {
  some : 1 ≤ l.known;
  within : l.known ≤ l.lines;
  starts : AreStarts l.mask l.starts l.known;
}

abbrev pub decreases-loop-known : goal.decreases-loop-known
decreases-loop-known l = l.lines - l.known
