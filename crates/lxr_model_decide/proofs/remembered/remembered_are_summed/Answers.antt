use Rattle.lxr_model_decide.proofs.RememberedLemmas.{remembered_are_summed}
use Rattle.lxr_model_decide.proofs.remembered.remembered_are_summed.Goals as goal

pub returns : goal.returns
returns c = remembered_are_summed
