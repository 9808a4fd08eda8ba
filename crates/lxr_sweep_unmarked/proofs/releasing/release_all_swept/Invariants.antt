use Rattle.lxr_pause_decrements.specs.Cascade.{Keeps}
use Rattle.lxr_sweep_unmarked.specs.Releasing.{AllAreLeft, ReachesSwept, ReleaseStage, left_from}
use Rattle.lxr_sweep_unmarked.proofs.releasing.release_all_swept.Given as goal

abbrev pub invariant-loop-number : goal.invariant-loop-number
invariant-loop-number l =
    record {
      reaches : (st : ReleaseStage) → AllAreLeft l.fn.space st → ReachesSwept l.space st (left_from st l.number);
      keeps : Keeps l.fn.space l.space;
    }
