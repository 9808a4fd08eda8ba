use Rattle.lxr_mutator.proofs.RuleLemmas.{draw_by_rule}
use Rattle.lxr_mutator.proofs.laws.mutators_draw_by_rule.Goals as goal

pub returns : goal.returns
returns c = draw_by_rule
