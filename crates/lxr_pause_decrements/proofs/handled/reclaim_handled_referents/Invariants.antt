use Rattle.lxr_image.specs.Spaces.{tables_of}
use Rattle.lxr_pause_decrements.specs.Cascade.{Keeps}
use Rattle.lxr_pause_decrements.specs.Handled.{FirstHoldUndone}
use Rattle.lxr_pause_decrements.specs.Steps.{ReclaimsSomeHandled}
use Rattle.lxr_pause_decrements.proofs.handled.reclaim_handled_referents.Given as goal

abbrev pub invariant-loop-i : goal.invariant-loop-i
invariant-loop-i l =
    record {
      some : ReclaimsSomeHandled l.fn.space l.space;
      undone : FirstHoldUndone (tables_of l.space) l.place.0 l.i;
      keeps : Keeps l.fn.space l.space;
    }
