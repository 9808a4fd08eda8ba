use Rattle.lxr_model_decide.proofs.SwapLemmas.{add_fills_no_log}
use Rattle.lxr_model_decide.proofs.swaps.add_fills_no_log.Goals as goal

pub returns : goal.returns
returns c = add_fills_no_log
