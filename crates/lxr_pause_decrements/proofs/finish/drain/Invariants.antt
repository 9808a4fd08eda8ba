use Rattle.lxr_pause_decrements.specs.Cascade.{CascadeStage, Draining, Reaches, Keeps, to_do}
use Rattle.lxr_pause_decrements.proofs.finish.drain.Given as goal

abbrev pub invariant-loop-place : goal.invariant-loop-place
invariant-loop-place l =
    record {
      reaches : (st : CascadeStage) → Draining l.fn.space l.floor st → Reaches l.space st st.extra;
      keeps : Keeps l.fn.space l.space;
    }

abbrev pub decreases-loop-place : goal.decreases-loop-place
decreases-loop-place l = to_do l.space
