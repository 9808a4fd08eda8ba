use Rattle.std.proofs.Common.{◌-◌, ◌*◌}
use Rattle.lxr_layout.specs.declared.TheConstants.{GRANULES_IN_BLOCK}
use Rattle.lxr_image.specs.Spaces.{tables_of}
use Rattle.lxr_pause_decrements.specs.Cascade.{Keeps}
use Rattle.lxr_pause_decrements.specs.Handled.{AreThrough}
use Rattle.lxr_pause_decrements.specs.Steps.{ReclaimsSomeHandled}
use Rattle.lxr_pause_decrements.proofs.handled.reclaim_handled_referred.Given as goal

abbrev pub invariant-loop-from : goal.invariant-loop-from
invariant-loop-from l =
    record {
      some : ReclaimsSomeHandled l.fn.space l.space;
      through : AreThrough (tables_of l.space) l.space.work.items l.from;
      keeps : Keeps l.fn.space l.space;
    }

abbrev pub decreases-loop-from : goal.decreases-loop-from
decreases-loop-from l = GRANULES_IN_BLOCK * l.fn.space.limits.blocks - l.from
