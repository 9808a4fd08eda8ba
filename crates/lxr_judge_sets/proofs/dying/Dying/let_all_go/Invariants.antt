use Rattle.std.proofs.Common.{List, [], take}
use Rattle.lxr_layout.specs.declared.Name.{Name}
use Rattle.lxr_graph.specs.State.{State}
use Rattle.lxr_judge_sets.specs.Dying.{IsDying}
use Rattle.lxr_judge_sets.proofs.dying.Dying.let_all_go.Given as goal

abbrev pub invariant-loop-name : goal.invariant-loop-name
invariant-loop-name l =
    (s : State) (us stuck : List Name) → IsDying s us stuck [] 0 [] l.fn.self → IsDying s us stuck (take l.name-index l.names) 0 [] l.self
