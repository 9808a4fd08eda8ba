use Rattle.lxr_model_counting.proofs.RaisingLemmas.{raises_saturate}
use Rattle.lxr_model_counting.proofs.raises_saturate.Goals as goal

pub returns : goal.returns
returns c = raises_saturate
