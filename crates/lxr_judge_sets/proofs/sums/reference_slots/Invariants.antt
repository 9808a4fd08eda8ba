use Rattle.std.proofs.Common.{◌≡◌, ◌-◌, ◌^◌, take}
use Rattle.std.specs.Prelude.{min}
use Rattle.lxr_model.specs.References.{reference_slots}
use Rattle.lxr_judge_sets.proofs.sums.reference_slots.Given as goal

abbrev pub invariant-loop-name : goal.invariant-loop-name
invariant-loop-name l = l.slots ≡ min (reference_slots l.graph.graph (take l.name-index l.us)) (2 ^ 64 - 1)
