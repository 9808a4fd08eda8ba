use Rattle.lxr_model_decide.proofs.SwapLemmas.{swap_does_not_find_its_own}
use Rattle.lxr_model_decide.proofs.swaps.swap_does_not_find_its_own.Goals as goal

pub returns : goal.returns
returns c = swap_does_not_find_its_own
