use Rattle.lxr_model_decide.proofs.SwapLemmas.{add_does_not_tell_the_sum}
use Rattle.lxr_model_decide.proofs.swaps.add_does_not_tell_the_sum.Goals as goal

pub returns : goal.returns
returns c = add_does_not_tell_the_sum
