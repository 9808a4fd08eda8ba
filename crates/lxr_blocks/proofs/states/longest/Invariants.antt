use Rattle.std.proofs.Common.{◌≡◌, ◌<◌, ◌≤◌}
use Rattle.lxr_layout.specs.declared.runs.Run.{Run}
use Rattle.lxr_image.specs.Spaces.{tables_of}
use Rattle.lxr_blocks.specs.States.{IsOpenRun}
use Rattle.lxr_blocks.proofs.states.longest.Given as goal

abbrev pub invariant-loop-block : goal.invariant-loop-block
invariant-loop-block l = record {
  bound : (q : Run) → IsOpenRun (tables_of l.space) l.space.limits.blocks q → q.block < l.block → q.lines ≤ l.best;
  reached : 0 < l.best → (q : Run) × IsOpenRun (tables_of l.space) l.space.limits.blocks q × (q.lines ≡ l.best);
}
