use Rattle.std.proofs.Common.{◌-◌, ◌<◌, ◌≤◌}
use Rattle.lxr_layout.specs.declared.runs.Run.{Run}
use Rattle.lxr_image.specs.Spaces.{tables_of}
use Rattle.lxr_blocks.specs.States.{IsOpenRun}
use Rattle.lxr_blocks.proofs.placing.fit_among.Given as goal

abbrev pub invariant-loop-block : goal.invariant-loop-block
invariant-loop-block l = record {
  reached : l.from ≤ l.block;
  within : l.block ≤ l.space.limits.blocks;
  none : (q : Run) → IsOpenRun (tables_of l.space) l.space.limits.blocks q → l.from ≤ q.block → q.block < l.block → q.lines < l.lines;
}

abbrev pub decreases-loop-block : goal.decreases-loop-block
decreases-loop-block l = l.space.limits.blocks - l.block
