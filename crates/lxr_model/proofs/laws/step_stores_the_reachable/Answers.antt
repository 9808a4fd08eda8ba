use Rattle.lxr_model.proofs.StepLemmas.{step_refers}
use Rattle.lxr_model.proofs.laws.step_stores_the_reachable.Goals as goal

pub returns : goal.returns
returns c = step_refers
