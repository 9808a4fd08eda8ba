use Rattle.std.proofs.Common.{◌≤◌, ◌-◌}
use Rattle.lxr_layout.specs.declared.TheConstants.{LINES_IN_BLOCK}
use Rattle.lxr_image.specs.Spaces.{tables_of}
use Rattle.lxr_blocks.proofs.SkippingLemmas.{BeginsBehind}
use Rattle.lxr_blocks.proofs.skipping.may_have.Given as goal

abbrev pub invariant-loop-first : goal.invariant-loop-first
invariant-loop-first l = record {
  within : l.first ≤ LINES_IN_BLOCK;
  behind : BeginsBehind (tables_of l.space) l.space.limits.blocks l.block l.lines l.first;
}

abbrev pub decreases-loop-first : goal.decreases-loop-first
decreases-loop-first l = LINES_IN_BLOCK - l.first
