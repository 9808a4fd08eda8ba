use Rattle.std.proofs.Common.{◌-◌, ◌≤◌}
use Rattle.lxr_image.specs.Spaces.{IsSpace, Turns, tables_of}
use Rattle.lxr_blocks.specs.Swept.{with_states_by_lines}
use Rattle.lxr_blocks.proofs.sweeping.sweep_lines.Given as goal

abbrev pub invariant-loop-block : goal.invariant-loop-block
invariant-loop-block l = record {
  space : IsSpace l.space;
  turns : Turns l.initial.space l.space (with_states_by_lines (tables_of l.initial.space) l.block);
  within : l.block ≤ l.initial.space.limits.blocks;
}

abbrev pub decreases-loop-block : goal.decreases-loop-block
decreases-loop-block l = l.initial.space.limits.blocks - l.block
