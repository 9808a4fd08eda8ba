use Rattle.lxr_model_decide.proofs.SwapLemmas.{add_does_not_stop_at_the_largest}
use Rattle.lxr_model_decide.proofs.swaps.add_does_not_stop_at_the_largest.Goals as goal

pub returns : goal.returns
returns c = add_does_not_stop_at_the_largest
