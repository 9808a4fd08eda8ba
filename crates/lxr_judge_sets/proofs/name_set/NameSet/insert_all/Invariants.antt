use Rattle.std.proofs.Common.{◌≡◌, take}
use Rattle.lxr_judge_sets.specs.NameSets.{all_joined}
use Rattle.lxr_judge_sets.proofs.name_set.NameSet.insert_all.Given as goal

abbrev pub invariant-loop-name : goal.invariant-loop-name
invariant-loop-name l = l.self ≡ all_joined l.fn.self (take l.name-index l.names)
