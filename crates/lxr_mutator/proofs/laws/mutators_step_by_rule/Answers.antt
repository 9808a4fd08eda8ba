use Rattle.lxr_mutator.proofs.StepLemmas.{step_by_rule}
use Rattle.lxr_mutator.proofs.laws.mutators_step_by_rule.Goals as goal

pub returns : goal.returns
returns c = step_by_rule
