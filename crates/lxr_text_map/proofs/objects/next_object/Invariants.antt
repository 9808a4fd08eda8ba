use Rattle.std.proofs.Common.{◌-◌, ◌*◌, ◌≤◌}
use Rattle.lxr_layout.specs.declared.TheConstants.{GRANULES_IN_BLOCK}
use Rattle.lxr_image.specs.Spaces.{tables_of}
use Rattle.lxr_image_search.specs.declared.Wanted.TheVariants.{Object}
use Rattle.lxr_image_search.specs.Search.{NoneWanted}
use Rattle.lxr_text_map.proofs.objects.next_object.Given as goal

abbrev pub invariant-loop-at : goal.invariant-loop-at
invariant-loop-at l =
    record {
      past : l.from ≤ l.at;
      none : NoneWanted (tables_of l.space) Object l.from l.at;
    }

abbrev pub decreases-loop-at : goal.decreases-loop-at
decreases-loop-at l = GRANULES_IN_BLOCK * l.space.limits.blocks - l.at
