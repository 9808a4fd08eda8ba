use Rattle.std.proofs.Common.{◌≡◌, ℕ, ◌+◌}
use Rattle.lxr_layout.specs.declared.Name.{Name}
use Rattle.lxr_invariant.specs.Counting.{occurrences_from}
use Rattle.lxr_pause_decrements.specs.Cascade.{CascadeStage, Releasing, Reaches, Keeps, graying, held_by, to_do}
use Rattle.lxr_pause_decrements.proofs.finish.release.Given as goal

abbrev pub invariant-loop-i : goal.invariant-loop-i
invariant-loop-i l =
    record {
      reaches : (st : CascadeStage) (r : Name) (rest : Name → ℕ) → Releasing l.fn.space l.place.0 st r rest → Reaches l.space (graying st (λ o. occurrences_from (held_by st r) l.i o)) (λ o. rest o + occurrences_from (held_by st r) l.i o);
      same : to_do l.space ≡ to_do l.fn.space;
      keeps : Keeps l.fn.space l.space;
    }
