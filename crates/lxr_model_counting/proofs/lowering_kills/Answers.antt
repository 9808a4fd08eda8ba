use Rattle.lxr_model_counting.proofs.LoweringLemmas.{over}
use Rattle.lxr_model_counting.proofs.lowering_kills.Goals as goal

pub returns : goal.returns
returns c = over
