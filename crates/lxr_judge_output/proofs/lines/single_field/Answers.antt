use Rattle.std.proofs.Common.{sym}
use Rattle.lxr_judge_output.proofs.FieldLemmas.{split_is_not_single}
use Rattle.lxr_judge_output.proofs.lines.single_field.Goals as goal

pub returns-in_default-Some : goal.returns-in_default-Some
returns-in_default-Some c = sym (split_is_not_single c.args.line.now c.split_field.result.0.now c.split_field.result.1 c.in_default-Some.field-0-1 c.in_default-Some.is-1 c.split_field.ensures)
