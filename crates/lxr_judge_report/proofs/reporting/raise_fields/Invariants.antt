use Rattle.std.proofs.Common.{◌≡◌, ◌+◌, drop, count_by}
use Rattle.lxr_layout.specs.declared.Name.{Name}
use Rattle.lxr_model.specs.Reports.{field_holds}
use Rattle.lxr_judge_sets.specs.ByName.{value_at}
use Rattle.lxr_judge_report.specs.Fields.{field_of}
use Rattle.lxr_judge_report.proofs.reporting.raise_fields.Given as goal

abbrev pub invariant-loop-field : goal.invariant-loop-field
invariant-loop-field l = (o : Name) → value_at l.raised o + count_by (λ w. field_holds l.graph.graph o (field_of w)) (drop l.field-index l.fields)
    ≡ value_at l.fn.raised o + count_by (λ w. field_holds l.graph.graph o (field_of w)) l.fields
