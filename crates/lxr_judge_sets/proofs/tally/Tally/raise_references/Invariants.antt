use Rattle.std.proofs.Common.{◌≡◌, ◌+◌, drop}
use Rattle.lxr_layout.specs.declared.Name.{Name}
use Rattle.lxr_model.specs.References.{references_from}
use Rattle.lxr_judge_sets.specs.ByName.{value_at}
use Rattle.lxr_judge_sets.proofs.tally.Tally.raise_references.Given as goal

abbrev pub invariant-loop-name : goal.invariant-loop-name
invariant-loop-name l =
    (o : Name)
    → value_at l.self o + references_from l.graph.graph (drop l.name-index l.us) o ≡ value_at l.fn.self o + references_from l.graph.graph l.us o
