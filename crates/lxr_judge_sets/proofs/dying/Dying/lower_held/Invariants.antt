use Rattle.std.proofs.Common.{ℕ, List, drop}
use Rattle.lxr_layout.specs.declared.Name.{Name}
use Rattle.lxr_graph.specs.State.{State}
use Rattle.lxr_judge_sets.specs.Dying.{IsDying}
use Rattle.lxr_judge_sets.proofs.dying.Dying.lower_held.Given as goal

abbrev pub invariant-loop-reference : goal.invariant-loop-reference
invariant-loop-reference l =
    (s : State) (us stuck : List Name) (k : ℕ)
    → IsDying s us stuck us k l.references l.fn.self → IsDying s us stuck us k (drop l.reference-index l.references) l.self
