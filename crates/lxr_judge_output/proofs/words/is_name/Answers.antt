use Rattle.std.proofs.Common.{sym, ◌∙◌}
use Rattle.lxr_judge_output.proofs.FieldLemmas.{no_dot}
use Rattle.lxr_judge_output.proofs.words.is_name.Goals as goal

pub returns-in-None : goal.returns-in-None
returns-in-None c = sym (no_dot c.args.word.now (sym c.dot_at.ensures ∙ c.in-None.is))
