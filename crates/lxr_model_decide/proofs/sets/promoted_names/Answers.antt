use Rattle.lxr_model_decide.proofs.SetLemmas.{promoted_right}
use Rattle.lxr_model_decide.proofs.sets.promoted_names.Goals as goal

pub returns : goal.returns
returns c = promoted_right
