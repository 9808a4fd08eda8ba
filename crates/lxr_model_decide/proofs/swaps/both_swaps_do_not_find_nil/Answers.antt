use Rattle.lxr_model_decide.proofs.SwapLemmas.{both_swaps_do_not_find_nil}
use Rattle.lxr_model_decide.proofs.swaps.both_swaps_do_not_find_nil.Goals as goal

pub returns : goal.returns
returns c = both_swaps_do_not_find_nil
