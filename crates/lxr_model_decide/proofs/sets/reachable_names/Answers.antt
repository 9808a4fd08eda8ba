use Rattle.lxr_model_decide.proofs.SetLemmas.{reachable_right}
use Rattle.lxr_model_decide.proofs.sets.reachable_names.Goals as goal

pub returns : goal.returns
returns c = reachable_right
