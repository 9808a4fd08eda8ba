use Rattle.std.proofs.Common.{List, []}
use Rattle.lxr_layout.specs.declared.Name.{Name}
use Rattle.lxr_image.specs.Spaces.{tables_of}
use Rattle.lxr_pause_decrements.specs.Cascade.{CascadeStage, IsAt, IsSeeking, Keeps, drawn_from, later}
use Rattle.lxr_pause_decrements.proofs.DropLemmas.{from_entry}
use Rattle.lxr_pause_decrements.proofs.dropped.reclaim_drawn.Given as goal

abbrev pub invariant-loop-k : goal.invariant-loop-k
invariant-loop-k l =
    record {
      stage : (st : CascadeStage) (handled : List Name) → IsSeeking l.fn.space st handled (λ o. drawn_from (tables_of l.fn.space) 0 (st.at o))
          → (gone : List Name) × IsAt l.space (from_entry (tables_of l.fn.space) (later st gone [] (λ o. 0)) handled l.k);
      keeps : Keeps l.fn.space l.space;
    }
