use Rattle.std.proofs.Common.{ℕ}
use Rattle.lxr_layout.specs.declared.Name.{Name}
use Rattle.lxr_image.specs.Spaces.{tables_of}
use Rattle.lxr_pause_decrements.specs.Cascade.{CascadeStage}
use Rattle.lxr_pause_decrements.specs.SliceSteps.{Appends, LeavesBesideList, QueuesFrom}
use Rattle.lxr_pause_decrements.proofs.slices.queue_references.Given as goal

abbrev pub invariant-loop-i : goal.invariant-loop-i
invariant-loop-i l =
    record {
      queues : (st : CascadeStage) (r : Name) (all : ℕ) → QueuesFrom l.fn.space l.place.0 0 st r all → QueuesFrom l.space l.place.0 l.i st r all;
      appends : Appends (tables_of l.fn.space) (tables_of l.space);
      leaves : LeavesBesideList l.fn.space l.space;
    }
