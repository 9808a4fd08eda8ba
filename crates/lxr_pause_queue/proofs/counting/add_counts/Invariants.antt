use Rattle.std.proofs.Common.{◌≡◌, ◌-◌, ◌*◌, ◌≤◌}
use Rattle.lxr_layout.specs.declared.TheConstants.{GRANULES_IN_BLOCK}
use Rattle.lxr_image.specs.Spaces.{tables_of}
use Rattle.lxr_pause_queue.specs.Entries.{entries_below, with_told}
use Rattle.lxr_pause_queue.proofs.counting.add_counts.Given as goal

abbrev pub invariant-loop-block : goal.invariant-loop-block
invariant-loop-block l = record {
  told : l.space ≡ with_told l.fn.space (entries_below (tables_of l.fn.space) (GRANULES_IN_BLOCK * l.from));
  within : l.from ≤ l.fn.space.limits.blocks;
}

abbrev pub decreases-loop-block : goal.decreases-loop-block
decreases-loop-block l = l.fn.space.limits.blocks - l.from
