use Rattle.std.proofs.Common.{◌-◌, ◌≤◌}
use Rattle.lxr_image.specs.Spaces.{Turns, tables_of}
use Rattle.lxr_blocks.specs.Clearing.{clear_between}
use Rattle.lxr_blocks.proofs.clearing.clear_logs.Given as goal

abbrev pub invariant-loop-from : goal.invariant-loop-from
invariant-loop-from l = record {
  turns : Turns l.fn.space l.space (record (tables_of l.fn.space) { unlogged = clear_between (tables_of l.fn.space).unlogged l.at l.from });
  reached : l.at ≤ l.from;
  within : l.from ≤ l.behind;
}

abbrev pub decreases-loop-from : goal.decreases-loop-from
decreases-loop-from l = l.behind - l.from
