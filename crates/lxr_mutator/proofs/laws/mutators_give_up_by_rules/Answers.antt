use Rattle.lxr_mutator.proofs.RuleLemmas.{give_up_by_rules}
use Rattle.lxr_mutator.proofs.laws.mutators_give_up_by_rules.Goals as goal

pub returns : goal.returns
returns c = give_up_by_rules
