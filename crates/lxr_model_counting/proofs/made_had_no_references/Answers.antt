use Rattle.lxr_model_counting.proofs.BalanceLemmas.{made_unreferenced}
use Rattle.lxr_model_counting.proofs.made_had_no_references.Goals as goal

pub returns : goal.returns
returns c = made_unreferenced
