use Rattle.lxr_model_decide.proofs.TestLemmas.{legality_right}
use Rattle.lxr_model_decide.proofs.histories.legality.Goals as goal

pub returns : goal.returns
returns c = legality_right
