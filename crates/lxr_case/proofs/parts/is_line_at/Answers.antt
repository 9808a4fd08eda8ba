use Rattle.lxr_case.proofs.PartLemmas.{line_at}
use Rattle.lxr_case.proofs.parts.is_line_at.Goals as goal

pub returns-then-begins_line : goal.returns-then-begins_line
returns-then-begins_line c = line_at c.args.line.now c.args.text.now c.args.at c.starts_with.result c.requires (c.begins_line.ensures.0 c.if-begins_line.true) c.starts_with.ensures.value
