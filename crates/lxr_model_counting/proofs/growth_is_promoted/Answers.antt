use Rattle.lxr_model_counting.proofs.RaisingLemmas.{growth_is_promoted}
use Rattle.lxr_model_counting.proofs.growth_is_promoted.Goals as goal

pub returns : goal.returns
returns c = growth_is_promoted
