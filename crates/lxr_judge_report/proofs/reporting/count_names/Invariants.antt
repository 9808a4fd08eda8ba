use Rattle.std.proofs.Common.{◌≡◌, take, map}
use Rattle.lxr_judge_sets.specs.ByName.{value_at}
use Rattle.lxr_judge_report.specs.Stages.{counted}
use Rattle.lxr_judge_report.proofs.reporting.count_names.Given as goal

abbrev pub invariant-loop-name : goal.invariant-loop-name
invariant-loop-name l = l.counts.items ≡ map (counted l.stuck (value_at l.references)) (take l.name-index l.names)
