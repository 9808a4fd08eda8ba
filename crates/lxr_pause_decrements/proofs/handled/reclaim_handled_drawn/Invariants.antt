use Rattle.lxr_image.specs.Spaces.{tables_of}
use Rattle.lxr_pause_decrements.specs.Cascade.{Keeps}
use Rattle.lxr_pause_decrements.specs.Handled.{FirstAreUndone}
use Rattle.lxr_pause_decrements.specs.Steps.{ReclaimsSomeHandled}
use Rattle.lxr_pause_decrements.proofs.handled.reclaim_handled_drawn.Given as goal

abbrev pub invariant-loop-k : goal.invariant-loop-k
invariant-loop-k l =
    record {
      some : ReclaimsSomeHandled l.fn.space l.space;
      undone : FirstAreUndone (tables_of l.space) l.k;
      keeps : Keeps l.fn.space l.space;
    }
