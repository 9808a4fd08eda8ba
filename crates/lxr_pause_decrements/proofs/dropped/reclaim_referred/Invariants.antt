use Rattle.std.proofs.Common.{List, [], length}
use Rattle.lxr_layout.specs.declared.Name.{Name}
use Rattle.lxr_pause_decrements.specs.Cascade.{CascadeStage, IsSeeking, Keeps, later}
use Rattle.lxr_pause_decrements.proofs.dropped.reclaim_referred.Given as goal

abbrev pub invariant-loop-place : goal.invariant-loop-place
invariant-loop-place l =
    record {
      stage : (st : CascadeStage) (handled : List Name) → IsSeeking l.fn.space st handled (λ o. 0)
          → (gone : List Name) × (left : List Name) × IsSeeking l.space (later st gone [] (λ o. 0)) left (λ o. 0);
      keeps : Keeps l.fn.space l.space;
    }

abbrev pub decreases-loop-place : goal.decreases-loop-place
decreases-loop-place l = length l.space.work.items
