use Rattle.std.proofs.Common.{List, []}
use Rattle.lxr_layout.specs.declared.TheConstants.{DECREMENT_COUNT}
use Rattle.lxr_layout.specs.declared.Name.{Name}
use Rattle.lxr_image.specs.Spaces.{tables_of}
use Rattle.lxr_pause_decrements.specs.Cascade.{CascadeStage, IsAt, IsOpening, Leaves, later}
use Rattle.lxr_pause_decrements.proofs.finish.lower_all.Given as goal

abbrev pub invariant-loop-space : goal.invariant-loop-space
invariant-loop-space l =
    record {
      stage : (st : CascadeStage) → IsOpening l.fn.space st → (gone : List Name) × IsAt l.space (later st gone [] (λ o. 0));
      leaves : Leaves l.fn.space l.space;
    }

abbrev pub decreases-loop-space : goal.decreases-loop-space
decreases-loop-space l = (tables_of l.space).cursors DECREMENT_COUNT
