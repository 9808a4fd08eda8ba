use Rattle.std.proofs.Common.{sym, ◌∙◌}
use Rattle.lxr_text_script.proofs.Cutting.{last_line, first_line}
use Rattle.lxr_text_script.proofs.lines.split_line.Goals as goal

pub returns-in-None-clause-lines : goal.returns-in-None-clause-lines
returns-in-None-clause-lines c = last_line c.args.text.now c.requires (sym c.line_end.ensures ∙ c.in-None.is)

pub returns-in-Some-clause-lines : goal.returns-in-Some-clause-lines
returns-in-Some-clause-lines c = rw c.without_carriage_return.ensures (first_line c.args.text.now c.in-Some.end (sym c.line_end.ensures ∙ c.in-Some.is))
