use Rattle.std.proofs.Common.{◌-◌, ◌≤◌}
use Rattle.lxr_layout.specs.declared.TheConstants.{LINES_IN_BLOCK}
use Rattle.lxr_blocks.specs.Masks.{AreEdges}
use Rattle.lxr_blocks.proofs.LineLemmas.{HasFree, NoneLonger}
use Rattle.lxr_image.specs.Runs.{bits_of}
use Rattle.lxr_blocks.proofs.states.longest_of.Given as goal

abbrev pub invariant-loop-run : goal.invariant-loop-run
invariant-loop-run l = record {
  within : l.line ≤ LINES_IN_BLOCK;
  edges : AreEdges l.edges (bits_of l.free) l.line;
  bound : NoneLonger (bits_of l.free) l.line l.best;
  reached : HasFree (bits_of l.free) l.best;
}

abbrev pub decreases-loop-run : goal.decreases-loop-run
decreases-loop-run l = LINES_IN_BLOCK - l.line
