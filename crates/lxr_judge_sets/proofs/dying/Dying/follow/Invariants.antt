use Rattle.std.proofs.Common.{◌-◌, ◌^◌, List, []}
use Rattle.lxr_layout.specs.declared.Name.{Name}
use Rattle.lxr_judge_sets.specs.Dying.{IsDying}
use Rattle.lxr_judge_sets.proofs.dying.Dying.follow.Given as goal

abbrev pub invariant-loop-name : goal.invariant-loop-name
invariant-loop-name l = (us stuck : List Name) → IsDying l.graph us stuck us 0 [] l.fn.self → IsDying l.graph us stuck us l.next [] l.self

-- no list is as long as that
abbrev pub decreases-loop-name : goal.decreases-loop-name
decreases-loop-name l = 2 ^ 64 - l.next
