use Rattle.std.proofs.Common.{◌≡◌, ◌+◌, drop}
use Rattle.lxr_layout.specs.declared.Name.{Name}
use Rattle.lxr_model.specs.Reports.{newly_held}
use Rattle.lxr_judge_sets.specs.ByName.{value_at}
use Rattle.lxr_judge_report.proofs.reporting.raise_newly_held.Given as goal

abbrev pub invariant-loop-at : goal.invariant-loop-at
invariant-loop-at l = (o : Name) → value_at l.raised o + newly_held (drop l.at l.before) (drop l.at l.now) o ≡ value_at l.fn.raised o + newly_held l.before l.now o
