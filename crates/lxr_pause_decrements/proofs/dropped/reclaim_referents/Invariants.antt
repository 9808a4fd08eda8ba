use Rattle.std.proofs.Common.{ℕ, ◌+◌, length}
use Rattle.lxr_layout.specs.declared.Name.{Name}
use Rattle.lxr_invariant.specs.Counting.{occurrences_from}
use Rattle.lxr_pause_decrements.specs.Cascade.{CascadeStage, Drains, Keeps, LooksThrough, held_by, looking}
use Rattle.lxr_pause_decrements.proofs.dropped.reclaim_referents.Given as goal

abbrev pub invariant-loop-i : goal.invariant-loop-i
invariant-loop-i l =
    record {
      drains : (st : CascadeStage) (r : Name) (rest : Name → ℕ) → LooksThrough l.fn.space l.place.0 (length l.fn.space.work.items) st r rest
          → Drains l.space (looking st (λ o. rest o + occurrences_from (held_by st r) l.i o));
      keeps : Keeps l.fn.space l.space;
    }
