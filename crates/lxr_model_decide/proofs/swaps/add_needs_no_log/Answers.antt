use Rattle.lxr_model_decide.proofs.SwapLemmas.{add_needs_no_log}
use Rattle.lxr_model_decide.proofs.swaps.add_needs_no_log.Goals as goal

pub returns : goal.returns
returns c = add_needs_no_log
