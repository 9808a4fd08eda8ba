use Rattle.std.proofs.Common.{◌-◌, ◌*◌, ◌≤◌}
use Rattle.lxr_layout.specs.declared.TheConstants.{GRANULES_IN_BLOCK}
use Rattle.lxr_image.specs.Spaces.{tables_of}
use Rattle.lxr_image_search.specs.Search.{NoneWanted}
use Rattle.lxr_image_search.proofs.next_block.Given as goal

abbrev pub invariant-loop-block : goal.invariant-loop-block
invariant-loop-block l =
    record {
      past : l.from ≤ l.at;
      none : NoneWanted (tables_of l.space) l.wanted (GRANULES_IN_BLOCK * l.from) (GRANULES_IN_BLOCK * l.at);
    }

abbrev pub decreases-loop-block : goal.decreases-loop-block
decreases-loop-block l = l.space.limits.blocks - l.at
