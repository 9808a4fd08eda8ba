use Rattle.std.proofs.Common.{◌≡◌, ◌+◌, ◌-◌, ◌<◌, ◌≤◌}
use Rattle.lxr_image.specs.Settled.{IsKnown, free_below, known_free_below}
use Rattle.lxr_image.specs.Tables.{tables_in}
use Rattle.lxr_image.proofs.settled.Settled.free_blocks.Given as goal

-- how many Free ones are counted: those before the block, and those after it that are known
abbrev pub invariant-loop-block : goal.invariant-loop-block
invariant-loop-block l = record {
  within : l.block ≤ l.limits.blocks;
  unknown : l.block < l.limits.blocks → ¬ IsKnown l.self l.limits.blocks l.block;
  counted : l.free + known_free_below l.self l.limits.blocks l.block ≡ free_below (tables_in l.limits l.words) l.block + known_free_below l.self l.limits.blocks l.limits.blocks;
}

abbrev pub decreases-loop-block : goal.decreases-loop-block
decreases-loop-block l = l.limits.blocks - l.block
