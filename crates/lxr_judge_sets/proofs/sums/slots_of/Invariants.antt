use Rattle.std.proofs.Common.{◌≡◌, ◌-◌, ◌^◌, take}
use Rattle.std.specs.Prelude.{min}
use Rattle.lxr_model.specs.Full.{slots_taken}
use Rattle.lxr_judge_sets.proofs.sums.slots_of.Given as goal

abbrev pub invariant-loop-name : goal.invariant-loop-name
invariant-loop-name l = l.slots ≡ min (slots_taken l.graph.graph l.lines (take l.name-index l.names)) (2 ^ 64 - 1)
