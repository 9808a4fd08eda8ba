use Rattle.lxr_model_decide.proofs.BelongingLemmas.{belonging_right}
use Rattle.lxr_model_decide.proofs.histories.belonging.Goals as goal

pub returns : goal.returns
returns c = belonging_right
