use Rattle.std.proofs.Common.{sym, ◌∙◌}
use Rattle.lxr_judge_output.proofs.FieldLemmas.{one_name, no_name, last_name, no_last_name}
use Rattle.lxr_judge_output.proofs.lines.count_names.Goals as goal

pub returns-then-not-is_name : goal.returns-then-not-is_name
returns-then-not-is_name c = no_name c.args.line.now c.loop-end.left.now c.loop-end.count c.in-Some.end (sym c.space_at.ensures ∙ c.in-Some.is) (sym c.is_name.ensures ∙ c.if-not-is_name.true) c.loop-end.invariant

pub loop-end-preserved : goal.loop-end-preserved
loop-end-preserved c = one_name c.args.line.now c.loop-end.left.now c.loop-end.count c.in-Some.end (sym c.space_at.ensures ∙ c.in-Some.is) (sym c.is_name.ensures ∙ c.if-not-is_name.false) c.loop-end.invariant

pub returns-then-is_name : goal.returns-then-is_name
returns-then-is_name c = last_name c.args.line.now c.loop-end.left.now c.loop-end.count (sym c.space_at.ensures ∙ c.in_default.is) (sym c.is_name-2.ensures ∙ c.if-is_name.true) c.loop-end.invariant

pub returns-else-is_name : goal.returns-else-is_name
returns-else-is_name c = no_last_name c.args.line.now c.loop-end.left.now c.loop-end.count (sym c.space_at.ensures ∙ c.in_default.is) (sym c.is_name-2.ensures ∙ c.if-is_name.false) c.loop-end.invariant
