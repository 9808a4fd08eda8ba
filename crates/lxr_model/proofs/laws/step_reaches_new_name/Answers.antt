use Rattle.lxr_model.proofs.StepLemmas.{step_reaches}
use Rattle.lxr_model.proofs.laws.step_reaches_new_name.Goals as goal

pub returns : goal.returns
returns c = step_reaches
