use Rattle.std.proofs.Common.{◌≡◌, ◌+◌, drop}
use Rattle.lxr_layout.specs.declared.Name.{Name}
use Rattle.lxr_model.specs.References.{occurrences}
use Rattle.lxr_judge_sets.specs.ByName.{value_at}
use Rattle.lxr_judge_sets.proofs.tally.Tally.raise_held.Given as goal

abbrev pub invariant-loop-reference : goal.invariant-loop-reference
invariant-loop-reference l =
    (o : Name) → value_at l.self o + occurrences (drop l.reference-index l.references) o ≡ value_at l.fn.self o + occurrences l.references o
