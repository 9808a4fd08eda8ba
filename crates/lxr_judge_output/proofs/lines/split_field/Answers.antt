use Rattle.std.proofs.Common.{sym, ◌∙◌}
use Rattle.lxr_judge_output.proofs.FieldLemmas.{only_field, first_field, behind_is_shorter}
use Rattle.lxr_judge_output.proofs.lines.split_field.Goals as goal

pub returns-in-None : goal.returns-in-None
returns-in-None c = only_field c.args.line.now (sym c.space_at.ensures ∙ c.in-None.is)

pub returns-in-Some : goal.returns-in-Some
returns-in-Some c = (first_field c.args.line.now c.in-Some.end (sym c.space_at.ensures ∙ c.in-Some.is), behind_is_shorter c.args.line.now c.in-Some.end (sym c.space_at.ensures ∙ c.in-Some.is))
