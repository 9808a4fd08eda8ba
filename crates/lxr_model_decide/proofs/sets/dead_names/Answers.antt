use Rattle.lxr_model_decide.proofs.SetLemmas.{dead_right}
use Rattle.lxr_model_decide.proofs.sets.dead_names.Goals as goal

pub returns : goal.returns
returns c = dead_right
