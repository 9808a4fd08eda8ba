use Rattle.lxr_model_counting.proofs.BalanceLemmas.{balance}
use Rattle.lxr_model_counting.proofs.raised_and_lowered_balance.Goals as goal

pub returns : goal.returns
returns c = balance
