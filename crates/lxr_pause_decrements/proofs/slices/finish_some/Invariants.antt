use Rattle.std.proofs.Common.{List}
use Rattle.lxr_layout.specs.declared.Name.{Name}
use Rattle.lxr_pause_decrements.specs.Cascade.{CascadeStage}
use Rattle.lxr_pause_decrements.specs.SliceSteps.{IsSliced, LeavesBesideList, SlicedBy}
use Rattle.lxr_pause_decrements.proofs.slices.finish_some.Given as goal

abbrev pub invariant-loop : goal.invariant-loop
invariant-loop l =
    record {
      sliced : (st : CascadeStage) → IsSliced l.fn.space st → (gone : List Name) × SlicedBy l.fn.space l.space st gone l.counter;
      leaves : LeavesBesideList l.fn.space l.space;
    }
