use Rattle.std.proofs.Common.{ℕ, ◌+◌}
use Rattle.lxr_layout.specs.declared.Name.{Name}
use Rattle.lxr_invariant.specs.Counting.{occurrences_from}
use Rattle.lxr_pause_decrements.specs.Cascade.{Keeps}
use Rattle.lxr_sweep_unmarked.specs.Releasing.{ObjectIsLeft, ReachesSwept, ReleaseStage, references_of}
use Rattle.lxr_sweep_unmarked.proofs.releasing.release_swept.Given as goal

abbrev pub invariant-loop-i : goal.invariant-loop-i
invariant-loop-i l =
    record {
      reaches : (st : ReleaseStage) (r : Name) (rest : Name → ℕ) → ObjectIsLeft l.fn.space l.place.0 st r rest → ReachesSwept l.space st (λ o. rest o + occurrences_from (references_of st r) l.i o);
      keeps : Keeps l.fn.space l.space;
    }
